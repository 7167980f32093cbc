-- The commits of a list, and what tests of their bytes tell.
use Rattle.std.proofs.Common.{◌≡◌, ℕ, zero, suc, ◌+◌, ◌<◌, ◌≤◌, ◌↔◌, Bool, true, false, List, [], ◌∷◌, length, get_or, refl, sym, ap, subst, ◌∙◌, arith}
use Rattle.std.proofs.Common.{MatchBool}
use Rattle.std.specs.Bool.{IsTrue}
use Rattle.std.specs.Option.{IsSome, is_some}
use Rattle.std.specs.Str.{bytes_eq}
use Rattle.std.specs.List.{Contains, AllWithin, HoldsAt}
use Rattle.std.proofs.lemmas.List.{get_or_default}
use Rattle.std.proofs.lemmas.List.Elements.{Contains-get_or, AllWithin-more, at_read}
use Rattle.std.proofs.lemmas.Slice.Eq.{bytes_eq-Decides}
use Rattle.lake_values.specs.Commit.{CommitRecordValue}
use Rattle.lake_values.specs.Ancestry.{Graph, graph_of, commit_of, IsDue, IsGraph}
use Rattle.lake_base.specs.declared.digest.Digest.{Digest}
use Rattle.lake_values.proofs.OrderLemmas.{Contains-first, Contains-later}
use Rattle.lake_values.proofs.AncestryLemmas.{differ, one_id}
use Rattle.plain_reference.proofs.AncestryGraphLemmas.{first_is, first_not, no_commit}

-- ---- the commits of a list

-- the first of two cases by a test of bytes
by_bytes : {P : Type 0} (a b : List ℕ) → (a ≡ b → P) → ((a ≡ b → ⊥) → P) → P
by_bytes {P} a b same other = cases (bytes_eq a b) refl
  where
    cases : (r : Bool) → bytes_eq a b ≡ r → P
    cases true e = same ((bytes_eq-Decides a b).0 e)
    cases false e = other (λ is. differ (sym ((bytes_eq-Decides a b).1 is) ∙ e))

-- each commit of the list is there
pub stands : (cs : List (Digest × CommitRecordValue)) (x : Digest × CommitRecordValue) → Contains cs x → IsSome (commit_of (graph_of cs) x.0)
stands [] x (k, lt, e) = absurd (omega arith)
stands (y ∷ cs) x (zero, lt, e) = ap is_some (first_is y cs x.0 (ap (λ z. z.0.0) e))
stands (y ∷ cs) x (suc k, lt, e) =
    by_bytes y.0.0 x.0.0
    (λ same. ap is_some (first_is y cs x.0 same))
    (λ other. ap is_some (first_not y cs x.0 other) ∙ stands cs x (k, omega arith, e))

-- what is there is a commit of the list
pub listed : (cs : List (Digest × CommitRecordValue)) (id : Digest) → IsSome (commit_of (graph_of cs) id)
    → (x : Digest × CommitRecordValue) × Contains cs x × (x.0 ≡ id)
listed [] id some = absurd (differ (sym some ∙ ap is_some (no_commit id)))
listed (y ∷ cs) id some =
    by_bytes y.0.0 id.0
    (λ same. (y, Contains-first y cs, one_id y.0 id same))
    (λ other. let w = listed cs id (ap is_some (sym (first_not y cs id other)) ∙ some) in (w.0, Contains-later y w.0 cs w.1, w.2))

pub graph_from_all : (cs : List (Digest × CommitRecordValue)) (g : Graph) → g ≡ graph_of cs → ((x : Digest × CommitRecordValue) → Contains cs x → IsDue g x.0)
    → IsGraph g
graph_from_all cs g is due id some =
    let w = listed cs id (subst (λ h. IsSome (commit_of h id)) is some) in
    subst (IsDue g) w.2 (due w.0 w.1)

-- `all` of the commits
pub graph_tested : (cs : List (Digest × CommitRecordValue)) (r : Bool) → MatchBool r (AllWithin (λ x. IsDue (graph_of cs) x.0) cs 0 (length cs))
    ((k : ℕ) × (k < length cs) × HoldsAt (λ x. IsDue (graph_of cs) x.0 → ⊥) cs k) → IsTrue r ↔ IsGraph (graph_of cs)
graph_tested cs true all = (
  λ _. graph_from_all cs (graph_of cs) refl (λ x has. subst (λ y. IsDue (graph_of cs) y.0) has.2 (all has.0 x (omega arith) has.1)),
  λ _. refl,
)
graph_tested [] false (k, lt, n) = absurd (omega arith)
graph_tested (c ∷ cs) false some = (
  λ e. absurd (differ (sym e)),
  λ graph. absurd (some.2 c (graph (get_or (c ∷ cs) some.0 c).0 (stands (c ∷ cs) (get_or (c ∷ cs) some.0 c) (Contains-get_or (c ∷ cs) some.0 c some.1)))),
)

-- ---- tests

pub true_for : {P : Type 0} → P → IsTrue true ↔ P
true_for p = (λ _. p, λ _. refl)

pub false_for : {P : Type 0} → (P → ⊥) → IsTrue false ↔ P
false_for never = (λ e. absurd (differ (sym e)), λ p. absurd (never p))

-- `==` on two lists of bytes
pub same_bytes : (a b x y : List ℕ) (r : Bool) → a ≡ x → b ≡ y → r ≡ bytes_eq a b → r ≡ true → x ≡ y
same_bytes a b x y r p q e t = (bytes_eq-Decides x y).0 (cc (sym e ∙ t))

pub other_bytes : (a b x y : List ℕ) (r : Bool) → a ≡ x → b ≡ y → r ≡ bytes_eq a b → r ≡ false → x ≡ y → ⊥
other_bytes a b x y r p q e f same = cc (sym ((bytes_eq-Decides x y).1 same) ∙ ap (λ l. bytes_eq l y) (sym p) ∙ ap (bytes_eq a) (sym q) ∙ sym e ∙ f)

-- one more element, read with some default
pub one_more : {X : Type 0} (P : X → Type 0) (xs : List X) (i : ℕ) (d : X) → i < length xs → AllWithin P xs 0 i → P (get_or xs i d) → AllWithin P xs 0 (i + 1)
one_more P xs i d lt all p = AllWithin-more P xs 0 i all (at_read xs P i (get_or xs i d) lt (get_or_default xs i d (get_or xs i d) lt) p)

pub within_contains : {X : Type 0} (P : X → Type 0) (xs : List X) (i : ℕ) (x : X) → length xs ≤ i → AllWithin P xs 0 i → Contains xs x → P x
within_contains P xs i x le all has = subst P has.2 (all has.0 x (omega arith) (omega (arith, has.1)))
