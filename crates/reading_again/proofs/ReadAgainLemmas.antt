-- The pairs of a lake in order are tied, so that none of them is broken, and each tree is read.
use Rattle.std.proofs.Common.{◌⊎◌, inl, inr, ℕ, ◌<◌, List, [], ◌∷◌, length, IsOk, IsSomeAnd, refl, sym}
use Rattle.std.proofs.Common.{subst, ◌∙◌, arith}
use Rattle.std.specs.FinMap.{get-from_sorted}
use Rattle.std.proofs.lemmas.List.{length-map}
use Rattle.lake_base.specs.Maps.{HasAscendingKeys, byte_order}
use Rattle.lake_format.specs.declared.cut.Cut.{Cut}
use Rattle.pair_format.specs.declared.pair.Pair.{Pair}
use Rattle.pair_format.specs.declared.stored.Stored.{Stored}
use Rattle.pair_format.specs.declared.stored.Stored.TheVariants as stored
use Rattle.pair_format.specs.PairSpelling.{value_spelling}
use Rattle.keeper.specs.Keepers.{entries_of}
use Rattle.pair_trees.specs.Things.{HasCountsPair, Spells, Things, kept_of, thing_of, things_of}
use Rattle.pair_trees.specs.Unread.{AreReadBefore}
use Rattle.pair_trees.proofs.ThingsLemmas.{spells_there}
use Rattle.pair_ties.specs.BrokenPairs.{IsBlameless, IsBlamelessAt, IsFirstBroken}
use Rattle.pair_ties.specs.PairTies.{AreTied, IsTied, IsTiedAt}
use Rattle.pair_ties.proofs.BlameLemmas.{not_to_blame}
use Rattle.core_state.specs.LakeStates.{LakeStateValue}
use Rattle.core_pairs.specs.LakePairs.{IsFile, StandFor, StandsIn}
use Rattle.opening_laws.proofs.PairLemmas.{pair_of_found, stands_there}
use Rattle.reading_again.specs.ReadableLakes.{CanBeRead, IsInOrder}
use Rattle.reading_again.proofs.FileTieLemmas.{has_tree, metarange_tied, range_tied}
use Rattle.reading_again.proofs.KindLemmas.{branch_tied, commit_tied, counts_tied, gone_tied, note_tied, repository_tied, tag_tied}
use Rattle.reading_again.proofs.PlaceLemmas.{are_spelled, spelled_here}
use Rattle.reading_again.proofs.StagedTieLemmas.{staged_tied}

module _ (cut : Cut) (pairs : List Pair) (l : LakeStateValue) (ascend : HasAscendingKeys (entries_of pairs)) (stand : StandFor (kept_of pairs) l)
    (order : IsInOrder l) (can : CanBeRead cut l) where
  abbrev things : Things
  things = things_of pairs

  -- what is spelled at a place, and stands in the lake or is a file, is tied there
  tied_here : (n : ℕ) (s : Stored) → Spells things n s → StandsIn l s ⊎ IsFile s → IsTied cut things n s
  tied_here n (stored.MetaRange name bytes) here known = metarange_tied cut pairs l ascend stand order can name bytes
  tied_here n (stored.Range name bytes) here known = range_tied cut pairs l ascend stand order can name bytes
  tied_here n (stored.Repository repo created default_branch settings) here (inl h) =
      repository_tied cut pairs l ascend stand order can repo created default_branch settings h
  tied_here n (stored.Branch repo branch version head staging sealed) here (inl h) =
      branch_tied cut pairs l ascend stand order can n repo branch version head staging sealed h here
  tied_here n (stored.Tag repo tag commit) here (inl h) = tag_tied cut pairs l ascend stand order can repo tag commit h
  tied_here n (stored.Commit repo id expired commit) here (inl h) = commit_tied cut pairs l ascend stand order can n repo id expired commit h
  tied_here n (stored.Staged token path change) here (inl h) = staged_tied cut pairs l ascend stand order can token path change h
  tied_here n (stored.Note repo name text) here (inl h) = note_tied cut pairs l ascend stand order can repo name text h
  tied_here n (stored.Gone number) here (inl h) = gone_tied cut pairs l ascend stand order can number h
  tied_here n (stored.Counts number version token) here (inl h) = counts_tied cut pairs l ascend stand order can number version token h
  tied_here n s here (inr file) = absurd file

  tied_at : (n : ℕ) → n < length pairs → IsTiedAt cut things n
  tied_at n lt =
      let here = spelled_here pairs l ascend stand n lt in
      subst (λ o. IsSomeAnd o (IsTied cut things n)) (sym here.spelled) (tied_here n here.thing here.spelled here.known)

  abbrev counts : Stored
  counts = stored.Counts l.next_number l.next_version l.next_token

  pub are_tied : AreTied cut things
  are_tied = record {
    counts = record { thing = counts; there = stands_there pairs l ascend stand counts (refl, (refl, refl)); under = refl };
    each = λ n lt. tied_at n (omega (arith, lt, length-map pairs thing_of));
  }

  has_counts : HasCountsPair pairs
  has_counts = (
    value_spelling counts,
    pair_of_found pairs (90 ∷ []) (value_spelling counts)
        (sym (get-from_sorted byte_order (entries_of pairs) (90 ∷ []) ascend) ∙ stand.each counts (refl, (refl, refl))),
  )

  blameless_at : (n : ℕ) → n < length pairs → IsBlamelessAt cut pairs things n
  blameless_at n lt =
      let here = spelled_here pairs l ascend stand n lt in
      subst (λ o. IsSomeAnd o (IsBlameless cut pairs things n)) (sym here.spelled)
      (not_to_blame cut pairs things (are_spelled pairs l ascend stand) n here.thing here.spelled (tied_here n here.thing here.spelled here.known))

  pub none_broken : (n : ℕ) → IsFirstBroken cut pairs n → ⊥
  none_broken n (inl none) = none.0 has_counts
  none_broken n (inr first) = first.broken (blameless_at n first.within)

  pub all_read : AreReadBefore cut things (length things)
  all_read k home id expired commit lt spelled =
      let has = has_tree cut pairs l ascend stand order can home id expired commit (spells_there things k (stored.Commit home id expired commit) spelled) in
      subst IsOk (sym has.read) refl
