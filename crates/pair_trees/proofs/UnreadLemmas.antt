-- The first tree that isn't read.
use Rattle.std.proofs.Common.{◌≡◌, ℕ, ◌+◌, ◌<◌, Bool, ltb, List, length, get_or, Option, Some, None, Result, Ok, Err, IsOk, refl, sym, ap, subst, ◌∙◌, inl, inr}
use Rattle.std.proofs.Common.{arith}
use Rattle.std.specs.Option.{option_and_then}
use Rattle.std.proofs.lemmas.Bool.{cases_Bool, ltb-true, ltb-false}
use Rattle.std.proofs.lemmas.Option.{slice_get_read, slice_get_within}
use Rattle.lake_base.specs.declared.digest.Digest.{Digest}
use Rattle.lake_values.specs.Commit.{CommitRecordValue}
use Rattle.lake_format.specs.declared.cut.Cut.{Cut}
use Rattle.meta_range.specs.Ranges.{TreeValue}
use Rattle.meta_range.specs.declared.fault.TreeFault.{TreeFault}
use Rattle.pair_format.specs.declared.stored.Stored.{Stored}
use Rattle.pair_format.specs.declared.stored.Stored.TheVariants as stored
use Rattle.pair_trees.specs.PairTrees.{AreTreesRead, IsFirstUnread, tree_in, tree_named}
use Rattle.pair_trees.specs.Things.{Things, thing_at}
use Rattle.pair_trees.specs.Unread.{AreReadBefore, unread_in}
use Rattle.pair_trees.proofs.ThingsLemmas.{there_spells, thing_here}

abbrev Tree : Type 0
Tree = Result TreeValue TreeFault

-- a tree of which no fault is told is read
told_read : (repo : List ℕ) (id : Digest) (expired : Bool) (commit : CommitRecordValue) (tree : Tree)
    → unread_in (Some (stored.Commit repo id expired commit)) (Some tree) ≡ None → IsOk tree
told_read repo id expired commit (Ok tree) e = refl
told_read repo id expired commit (Err fault) e = absurd cc

told_fault : (repo : List ℕ) (id : Digest) (expired : Bool) (commit : CommitRecordValue) (tree : Tree) (u : Digest × TreeFault)
    → unread_in (Some (stored.Commit repo id expired commit)) (Some tree) ≡ Some u → (id ≡ u.0) × (tree ≡ Err u.1)
told_fault repo id expired commit (Ok tree) u e = absurd cc
told_fault repo id expired commit (Err fault) u e = (ap (λ (v : Digest × TreeFault). v.0) (inside e), ap (λ (v : Digest × TreeFault). Err v.1) (inside e))
  where
    inside : {x y : Digest × TreeFault} → Some x ≡ Some y → x ≡ y
    inside h = cc

module _ (cut : Cut) (things : Things) where
  pub none_read : AreReadBefore cut things 0
  none_read k home other old earlier lt spells = absurd (omega (arith, lt))

  pub all_read : AreReadBefore cut things (length things) → AreTreesRead cut things
  all_read all repo id expired commit there =
      let place = there_spells things (stored.Commit repo id expired commit) there in
      all place.0 repo id expired commit
      (slice_get_within things place.0 (Some (stored.Commit repo id expired commit))
      (thing_here things place.0 (stored.Commit repo id expired commit) place.1)) place.1

  module _ (at : ℕ) (thing : Option Stored) (lt : at < length things) (is : thing ≡ get_or things at thing) (before : AreReadBefore cut things at) where
    here : thing_at things at ≡ thing
    here = ap (option_and_then (λ thing. thing)) (slice_get_read things (length things) at thing refl lt is)

    pub more_read : unread_in thing (tree_in cut things thing) ≡ None → AreReadBefore cut things (at + 1)
    more_read none k home other old earlier less spells =
        elim (cases_Bool (ltb k at)) [
          | inl earlier_one ↦ before k home other old earlier (ltb-true k at earlier_one) spells
          | inr no_earlier ↦
              let same : at ≡ k = omega (arith, less, ltb-false k at no_earlier) in
              let commit : thing ≡ Some (stored.Commit home other old earlier) = sym here ∙ ap (thing_at things) same ∙ spells in
              told_read home other old earlier (tree_named cut things earlier) (subst (λ t. unread_in t (tree_in cut things t) ≡ None) commit none)
        ]

    pub first_unread : (u : Digest × TreeFault) → unread_in thing (tree_in cut things thing) ≡ Some u → IsFirstUnread cut things u.0 u.1
    first_unread u e = by thing here e
      where
        by : (t : Option Stored) → thing_at things at ≡ t → unread_in t (tree_in cut things t) ≡ Some u → IsFirstUnread cut things u.0 u.1
        by (Some (stored.Commit repo id expired commit)) stands e =
            let told = told_fault repo id expired commit (tree_named cut things commit) u e in
            record {
              place = at;
              repo = repo;
              expired = expired;
              commit = commit;
              stands = stands ∙ ap (λ i. Some (stored.Commit repo i expired commit)) told.0;
              unread = told.1;
              before = before;
            }
        by None stands e = absurd cc
        by (Some (stored.Repository home created branch settings)) stands e = absurd cc
        by (Some (stored.Branch home branch version head staging sealed)) stands e = absurd cc
        by (Some (stored.Tag home tag id)) stands e = absurd cc
        by (Some (stored.MetaRange name bytes)) stands e = absurd cc
        by (Some (stored.Range name bytes)) stands e = absurd cc
        by (Some (stored.Staged token path change)) stands e = absurd cc
        by (Some (stored.Note home name text)) stands e = absurd cc
        by (Some (stored.Gone number)) stands e = absurd cc
        by (Some (stored.Counts number version token)) stands e = absurd cc
