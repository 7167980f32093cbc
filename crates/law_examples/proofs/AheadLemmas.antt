-- The merge of `dev` into a `main` that is still at the first commit.
use Rattle.std.proofs.Common.{◌≡◌, ◌∷◌, [], refl, sym, ap, ◌∙◌, arith}
use Rattle.std.specs.Prelude.{Some, is_some}
use Rattle.std.specs.FinMap.{get-empty}
use Rattle.lake_base.specs.Maps.{ByteMap, byte_order}
use Rattle.lake_base.specs.declared.digest.Digest.{Digest}
use Rattle.lake_values.specs.Ancestry.{base, parents}
use Rattle.lake_values.specs.Commit.{AboutValue}
use Rattle.lake_values.specs.declared.commit.Strategy.TheVariants.{Refuse}
use Rattle.lake_model.specs.State.{Branch, HasBranch, Repository, State, map_of}
use Rattle.lake_model.specs.Branches.{clean_branch}
use Rattle.lake_model.specs.History.{Allows, after}
use Rattle.law_examples.specs.HistoryWords.{quickstart, main, first, outside, b}
use Rattle.law_examples.specs.Merges.{Fork, IsMergeAdmissible, ahead_lake, dev_head, merge_entry}
use Rattle.law_examples.proofs.EntriesLemmas.{apply_nothing}
use Rattle.law_examples.proofs.BranchesLemmas.{spread}
use Rattle.law_examples.proofs.DivergedLemmas as forks
use Rattle.law_examples.proofs.ForksLemmas.{base_ahead}
use Rattle.law_examples.proofs.MergesLemmas as merges
use Rattle.law_examples.proofs.MergesLemmas.{moved}
use Rattle.law_examples.proofs.SidesLemmas.{settled_at_base}
use Rattle.law_examples.proofs.AllowedLemmas.{one_apart}

module _ (fork : Fork) (about : AboutValue) where
  abbrev pub root : Digest
  root = first fork.cut

  abbrev pub one : Digest
  one = forks.one b outside refl fork

  abbrev pub r1 : Repository
  r1 = forks.r1 b outside refl fork

  abbrev pub s2 : State
  s2 = forks.s2 b outside refl fork

  abbrev pub bs2 : ByteMap Branch
  bs2 = forks.bs2 b outside refl fork

  pub ahead_is : ahead_lake fork ≡ spread s2 r1 bs2
  unfolding ahead_lake
  ahead_is = forks.ahead b outside refl fork

  dev_ahead_is : dev_head (ahead_lake fork) ≡ one
  unfolding ahead_lake
  dev_ahead_is = forks.dev_ahead_is b outside refl fork

  module _ (apart : first fork.cut ≡ dev_head (ahead_lake fork) → ⊥) where
    pub early : root ≡ one → ⊥
    early is = apart (is ∙ sym dev_ahead_is)

    based : base r1.commits root one ≡ Some root
    based = base_ahead r1.commits root (forks.fork_ahead b outside refl fork early) one (forks.child_ahead b outside refl fork early)

    pub ahead_allowed : IsMergeAdmissible (ahead_lake fork) (dev_head (ahead_lake fork)) Refuse about
        → Allows (ahead_lake fork) (merge_entry (dev_head (ahead_lake fork)) Refuse about)
    ahead_allowed admissible = moved (λ (l : State) (id : Digest). Allows l (merge_entry id Refuse about)) ahead_is dev_ahead_is
        (merges.may_merge s2 r1 bs2 (clean_branch root)
        (forks.main_ahead b outside refl fork) one root based Refuse about refl (omega arith) refl (apply_nothing (map_of r1 root))
        ((forks.child_ahead b outside refl fork early).there, ap is_some (get-empty {X = Unit {0}} byte_order one.0))
        (one_apart (map_of r1 one) (map_of r1 root) b outside (forks.source_ahead b outside refl fork early) (forks.base_ahead b outside refl fork early))
        (settled_at_base (map_of r1 root) (map_of r1 one))
        (moved (λ (l : State) (id : Digest). IsMergeAdmissible l id Refuse about) (sym ahead_is) (sym dev_ahead_is) admissible))

    pub ahead_parents : HasBranch (after (ahead_lake fork) (merge_entry (dev_head (ahead_lake fork)) Refuse about)) quickstart main
        (λ r x. parents r.commits x.head ≡ first fork.cut ∷ dev_head (ahead_lake fork) ∷ [])
    ahead_parents = moved (λ (l : State) (id : Digest).
        HasBranch (after l (merge_entry id Refuse about)) quickstart main (λ r x. parents r.commits x.head ≡ first fork.cut ∷ id ∷ [])) ahead_is dev_ahead_is
        (merges.merged_parents s2 r1 bs2 (clean_branch root) (forks.main_ahead b outside refl fork) one root based Refuse about)
