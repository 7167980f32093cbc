-- Pairs of which none is broken, and the lake that is filled with what they spell.
use Rattle.std.proofs.Common.{◌≡◌, ℕ, Bool, List, [], ◌∷◌, Option, Some, None, Result, Ok, Err, IfOk, refl, sym, ap, subst, ◌∙◌}
use Rattle.std.specs.Prelude.{IsPermutation}
use Rattle.std.specs.List.{AllByRecursion, Contains}
use Rattle.std.proofs.lemmas.List.Sorted.{Contains-permutation, IsPermutation-sym}
use Rattle.lake_base.specs.Maps.{ByteMap}
use Rattle.lake_base.specs.declared.digest.Digest.{Digest}
use Rattle.lake_values.proofs.OrderLemmas.{Contains-first, Contains-later}
use Rattle.lake_values.specs.Commit.{CommitRecordValue}
use Rattle.lake_format.specs.declared.cut.Cut.{Cut}
use Rattle.meta_range.specs.Ranges.{TreeValue}
use Rattle.pair_format.specs.declared.pair.Pair.{Pair}
use Rattle.pair_format.specs.declared.stored.Stored.{Stored}
use Rattle.pair_format.specs.declared.stored.Stored.TheVariants as stored
use Rattle.pair_trees.specs.Found.{AreCounts}
use Rattle.pair_trees.specs.PairTrees.{AreTreesRead, tree_named}
use Rattle.pair_trees.specs.Spelled.{AreSpelled}
use Rattle.pair_trees.specs.Things.{IsThere, Things, things_of}
use Rattle.pair_trees.proofs.SpelledLemmas.{things_apart}
use Rattle.pair_trees.proofs.ThingsLemmas.{there_spells}
use Rattle.pair_ties.specs.PairTies.{AreTied}
use Rattle.core_state.specs.FilePlaces.{FilePlaceValue}
use Rattle.core_state.specs.LakeStates.{LakeStateValue, lake_value}
use Rattle.core_state.specs.Index.{HasIndex}
use Rattle.core_state.specs.declared.lake.LakeState.{LakeState}
use Rattle.core_filling.specs.Filling.{CommitRead}
use Rattle.core_filling.specs.NewPlaces.{IsPlaceAmong}
use Rattle.core_pairs.specs.KeptPlaces.{HasPlaces}
use Rattle.core_pairs.specs.LakePairs.{AreTokensApart}
use Rattle.opening_laws.specs.ReadLakes.{IsReadFrom}
use Rattle.opening_parts.specs.Filled.{ArePlacesAmong, CanJoin, IsFilledWith}
use Rattle.opening_parts.specs.Fillings.{read_with, reads_of}
use Rattle.core_opening.specs.Opening.{AreWhole, IsWholeLake}
use Rattle.core_opening.proofs.IndexLemmas.{has_index, has_places}
use Rattle.core_opening.proofs.OpenedLemmas.{read_from, tokens_apart}
use Rattle.core_opening.proofs.ReadsLemmas.{AreReads, read_commit, reads_there}
use Rattle.core_opening.proofs.TiesLemmas.{AreReadable, tie_of}

-- ---- things that can join

each_of : {X : Type 0} (P : X → Type 0) (xs : List X) → ((x : X) → Contains xs x → P x) → AllByRecursion P xs
each_of P [] each = tt
each_of P (x ∷ xs) each = (each x (Contains-first x xs), each_of P xs (λ y has. each y (Contains-later x y xs has)))

joins : (cut : Cut) (things : Things) → AreTied cut things → (thing : Option Stored) → Contains things thing → CanJoin thing
joins cut things tied None has = tt
joins cut things tied (Some (stored.Branch repo branch version head staging sealed)) has =
    (tie_of cut things tied (stored.Branch repo branch version head staging sealed) has).tie.distinct
joins cut things tied (Some (stored.Commit repo id expired commit)) has = (tie_of cut things tied (stored.Commit repo id expired commit) has).tie.named
joins cut things tied (Some (stored.Note repo name text)) has = (tie_of cut things tied (stored.Note repo name text) has).tie.kept
joins cut things tied (Some s) has = tt

pub all_join : (cut : Cut) (things : Things) → AreTied cut things → AllByRecursion CanJoin things
all_join cut things tied = each_of CanJoin things (joins cut things tied)

-- ---- the lake

module _ (cut : Cut) (pairs : List Pair) (things : Things) (spelled : AreSpelled pairs things) (whole : AreWhole cut pairs) where
  tied_things : AreTied cut things
  tied_things = subst (AreTied cut) (sym spelled.same) whole.tied

  pub they_join : AllByRecursion CanJoin things
  they_join = all_join cut things tied_things

  readable : AreReadable cut things
  readable = record {
    tied = tied_things;
    read = subst (AreTreesRead cut) (sym spelled.same) whole.trees;
    limits = λ s there. let place = there_spells things s there in (spelled.each place.0 s place.1).limits;
    one = things_apart pairs things spelled;
  }

  module _ (counts : ℕ × ℕ × ℕ) (told : AreCounts things counts) where
    reads : (commits : List CommitRead) → IsPermutation (reads_of cut things) commits → AreReads cut things commits
    reads commits order = record {
      each = λ c has. read_commit cut things c
          (Contains-permutation commits (reads_of cut things) c (IsPermutation-sym (reads_of cut things) commits order) has);
      all = λ repo id expired commit tree there read.
          let c : CommitRead = record { repo = repo; content = commit; tree = tree; expired = expired } in
          Contains-permutation (reads_of cut things) commits c order
          (reads_there cut things things (Some (stored.Commit repo id expired commit)) c there (ap (read_with repo expired commit) read));
    }

    places : (commits : List CommitRead) → IsPermutation (reads_of cut things) commits → (kept : ByteMap (Option FilePlaceValue))
        → ArePlacesAmong (reads_of cut things) kept → ArePlacesAmong commits kept
    places commits order kept among name place at =
        let p = among name place at in
        record {
          commit = p.commit;
          among = Contains-permutation (reads_of cut things) commits p.commit order p.among;
          of = p.of;
        }

    pub whole_lake : (lake : LakeState) → IsFilledWith cut counts things (lake_value lake) → ArePlacesAmong (reads_of cut things) lake.names.files
        → IsWholeLake cut pairs lake
    whole_lake lake filled among =
        let are = reads filled.commits filled.order in
        record {
          whole = whole;
          read = subst (IsReadFrom cut pairs) (sym filled.is) (read_from cut pairs things spelled readable counts told.there filled.commits are);
          index = subst HasIndex (sym filled.is) (has_index cut pairs things spelled readable counts told.there filled.commits are);
          places =
              subst (HasPlaces lake.names.files) (sym filled.is)
              (has_places cut pairs things spelled readable counts told.there filled.commits are lake.names.files
              (places filled.commits filled.order lake.names.files among));
          tokens = subst AreTokensApart (sym filled.is) (tokens_apart cut pairs things spelled readable counts told.there filled.commits are);
        }

    -- so it is with what came of filling
    pub filled_lake : {E : Type 0} (items : Things) → items ≡ things → (result : Result LakeState E)
        → IfOk result (λ lake. IsFilledWith cut counts items (lake_value lake)) → IfOk result (λ lake. ArePlacesAmong (reads_of cut items) lake.names.files)
        → IfOk result (IsWholeLake cut pairs)
    filled_lake items same (Ok lake) filled among =
        whole_lake lake (subst (λ (all : Things). IsFilledWith cut counts all (lake_value lake)) same filled)
        (subst (λ (all : Things). ArePlacesAmong (reads_of cut all) lake.names.files) same among)
    filled_lake items same (Err fault) filled among = tt
