-- Graphs of a first commit and of its children, and the merge bases in them.
use Rattle.std.proofs.Common.{◌≡◌, ℕ, zero, suc, false, List, [], ◌∷◌, refl, sym, ap, subst, ◌∙◌, ◌⊎◌, inl, inr, arith}
use Rattle.std.specs.Prelude.{Option, Some, None, IsSome, is_some, option_map}
use Rattle.std.specs.Option.{unwrap_or}
use Rattle.std.specs.List.{Contains}
use Rattle.std.specs.FinMap.{insert}
use Rattle.lake_base.specs.declared.digest.Digest.{Digest}
use Rattle.lake_values.specs.Ancestry.{Graph, IsGraph, IsDue, IsAncestor, Reaches, base, comes_first, commit_of, due_generation, generation, parents}
use Rattle.lake_values.specs.Ancestry.{parents_in}
use Rattle.lake_values.specs.Commit.{CommitRecordValue}
use Rattle.lake_values.proofs.AncestryLemmas.{one_id}
use Rattle.lake_values.proofs.AncestryOrderLemmas.{base_some, not_before_itself}
use Rattle.lake_values.proofs.OrderLemmas.{Contains-first, Contains-nothing, first_or_later}
use Rattle.law_examples.proofs.InsertsLemmas.{get_other, stood}
use Rattle.law_examples.proofs.MapsLemmas.{get_put}

-- a commit with these parents and this generation
pub record Stands (g : Graph) (id : Digest) (ids : List Digest) (count : ℕ) : Type 0 where
  pub there : IsSome (commit_of g id)
  pub from : parents g id ≡ ids
  pub counted : generation g id ≡ count

-- a commit whose one parent is the first one
abbrev pub IsChild : Graph → Digest → Digest → Type 0
IsChild g first id = Stands g id (first ∷ []) 2

-- a graph of a first commit and of children of it
pub record IsFork (g : Graph) (first : Digest) : Type 0 where
  pub root : Stands g first [] 1
  pub others : (id : Digest) → IsSome (commit_of g id) → (id ≡ first) ⊎ IsChild g first id

the_one : {X : Type 0} (x y : X) → Contains (x ∷ []) y → x ≡ y
the_one x y within = elim (first_or_later x y [] within) [ inl is ↦ is | inr none ↦ absurd (Contains-nothing y none) ]

-- what is said of a commit by its record
pub by_record : (g : Graph) (id : Digest) (c : CommitRecordValue) → commit_of g id ≡ Some c → Stands g id c.parents c.generation
unfolding parents generation
by_record g id c is = record {
  there = ap is_some is;
  from = ap parents_in is;
  counted = ap (λ (o : Option CommitRecordValue). unwrap_or (option_map (λ (x : CommitRecordValue). x.generation) o) 0) is;
}

-- it is said in another graph with the same commit there
in_other : (g h : Graph) (id : Digest) (ids : List Digest) (count : ℕ) → commit_of h id ≡ commit_of g id → Stands g id ids count → Stands h id ids count
unfolding parents generation
in_other g h id ids count same old = record {
  there = ap is_some same ∙ old.there;
  from = ap parents_in same ∙ old.from;
  counted = ap (λ (o : Option CommitRecordValue). unwrap_or (option_map (λ (x : CommitRecordValue). x.generation) o) 0) same ∙ old.counted;
}

module _ (g : Graph) (first : Digest) (fork : IsFork g first) where
  -- the generation that is due after the first commit
  pub due_two : due_generation g (first ∷ []) ≡ 2
  due_two = let one = fork.root.counted in omega (arith, one)

  -- one child more
  module _ (k : Digest) (c : CommitRecordValue) (absent : commit_of g k ≡ None) where
    pub kept : (id : Digest) (ids : List Digest) (count : ℕ) → Stands g id ids count → Stands (insert g k.0 c) id ids count
    kept id ids count old =
        in_other g (insert g k.0 c) id ids count (get_other g k.0 c id.0 (λ is. clash (ap is_some (ap (commit_of g) (one_id id k is) ∙ absent)))) old
      where
        clash : is_some (commit_of g id) ≡ is_some {T = CommitRecordValue} None → ⊥
        clash none = let there = old.there in absurd (cc (sym there ∙ none))

    module _ (from : c.parents ≡ first ∷ []) (counted : c.generation ≡ 2) where
      pub child_new : IsChild (insert g k.0 c) first k
      child_new = let stands = by_record (insert g k.0 c) k c (get_put g k.0 c) in
          record { there = stands.there; from = stands.from ∙ from; counted = stands.counted ∙ counted }

      pub fork_more : IsFork (insert g k.0 c) first
      fork_more = record {
        root = kept first [] 1 fork.root;
        others = λ id there. elim (stood g k.0 c id.0 there) [
          | inl is ↦ inr (subst (IsChild (insert g k.0 c) first) (sym (one_id id k is)) child_new)
          | inr old ↦ elim (fork.others id old) [ inl is ↦ inl is | inr child ↦ inr (kept id (first ∷ []) 2 child) ]
        ];
      }

  -- it is a graph, as the law has it
  graph : IsGraph g
  graph id there = elim (fork.others id there) [
    | inl is ↦ subst (IsDue g) (sym is) (record {
      whole = λ parent within. absurd (Contains-nothing parent (subst (λ (l : List Digest). Contains l parent) fork.root.from within));
      counted = fork.root.counted ∙ sym (ap (due_generation g) fork.root.from);
    })
    | inr child ↦ record {
      whole = λ parent within. subst (λ (d : Digest). IsSome (commit_of g d))
          (the_one first parent (subst (λ (l : List Digest). Contains l parent) child.from within)) fork.root.there;
      counted = child.counted ∙ sym due_two ∙ sym (ap (due_generation g) child.from);
    }
  ]

  -- the first commit reaches itself alone, and a child itself and the first commit
  from_root : (n : ℕ) (old : Digest) → Reaches g n first old → first ≡ old
  unfolding Reaches
  from_root zero old way = way
  from_root (suc n) old (parent, within, way) = absurd (Contains-nothing parent (subst (λ (l : List Digest). Contains l parent) fork.root.from within))

  from_child : (id : Digest) → IsChild g first id → (n : ℕ) (old : Digest) → Reaches g n id old → (id ≡ old) ⊎ (first ≡ old)
  unfolding Reaches
  from_child id child zero old way = inl way
  from_child id child (suc n) old (parent, within, way) =
      inr (from_root n old
      (subst (λ (d : Digest). Reaches g n d old) (sym (the_one first parent (subst (λ (l : List Digest). Contains l parent) child.from within))) way))

  of_itself : IsAncestor g first first
  unfolding Reaches
  of_itself = (fork.root.there, (0, refl))

  of_child : (id : Digest) → IsChild g first id → IsAncestor g first id
  unfolding Reaches
  of_child id child = (fork.root.there, (1, (first, subst (λ (l : List Digest). Contains l first) (sym child.from) (Contains-first first []), refl)))

  -- where no other commit is an ancestor of both, the first one is the base
  only_base : (x y : Digest) → IsAncestor g first x → IsAncestor g first y → ((old : Digest) → IsAncestor g old x → IsAncestor g old y → first ≡ old)
      → base g x y ≡ Some first
  only_base x y left right only = base_some g graph x y first (record {
    common = (left, right);
    first = λ other both. subst (λ (d : Digest). comes_first g d first ≡ false) (only other both.0 both.1) (not_before_itself g first);
  })

  -- the base of the first commit and a child, of a child and the first commit, and of two children
  pub base_ahead : (id : Digest) → IsChild g first id → base g first id ≡ Some first
  base_ahead id child = only_base first id of_itself (of_child id child) (λ old way other. from_root way.1.0 old way.1.1)

  pub base_behind : (id : Digest) → IsChild g first id → base g id first ≡ Some first
  base_behind id child = only_base id first (of_child id child) of_itself (λ old other way. from_root way.1.0 old way.1.1)

  pub base_between : (one other : Digest) → IsChild g first one → IsChild g first other → (one ≡ other → ⊥) → base g one other ≡ Some first
  base_between one other child sibling apart = only_base one other (of_child one child) (of_child other sibling) (λ old left right.
      elim (from_child one child left.1.0 old left.1.1) [
        | inr is ↦ is
        | inl here ↦ elim (from_child other sibling right.1.0 old right.1.1) [
          | inr is ↦ is
          | inl there ↦ absurd (apart (here ∙ sym there))
        ]
      ])
