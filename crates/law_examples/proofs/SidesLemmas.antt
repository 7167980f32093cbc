-- Which sides of a merge conflict, and what is merged of them.
use Rattle.std.proofs.Common.{◌≡◌, ◌+◌, Bool, true, false, cond, ℕ, List, refl, sym, ap, ◌∙◌, inl, inr}
use Rattle.std.proofs.lemmas.Bool.{cases_Bool}
use Rattle.std.specs.Prelude.{Option, Some, None, is_some, if◌then◌else◌}
use Rattle.std.specs.FinMap.{get, insert, empty, get-empty, len, len-empty, len-insert}
use Rattle.std.specs.Cmp.Lexicographic.{nat_list_cmp_total}
use Rattle.std.specs.Ordering.{eq_by_cmp}
use Rattle.lake_base.specs.Maps.{byte_order}
use Rattle.lake_values.specs.Entry.{EntryValue}
use Rattle.lake_values.specs.KeyMap.{KeyMapValue, apply, change_between, change_to, differences, value_after}
use Rattle.lake_values.specs.Merging.{IsConflict, is_refused, merged_value, side_of}
use Rattle.lake_values.specs.Sameness.{same_entry, same_value}
use Rattle.lake_values.specs.declared.commit.Strategy.{Strategy}
use Rattle.lake_values.specs.declared.commit.Strategy.TheVariants.{Refuse}
use Rattle.lake_values.specs.declared.entry.Change.TheVariants.{Put}
use Rattle.lake_values.specs.declared.merge.Side.TheVariants.{Source, Destination, Neither}
use Rattle.lake_values.proofs.KeyMapLemmas.{get_apply, get_differences, same, same_as_itself}
use Rattle.lake_values.proofs.MergingLemmas.{refused_from, refused_to, same_path}
use Rattle.law_examples.specs.HistoryWords.{outside, a, b}
use Rattle.law_examples.specs.Picks.{larger_object}
use Rattle.law_examples.proofs.MapsLemmas.{no_entry}
use Rattle.law_examples.proofs.SceneLemmas.{get_one}

-- where no path conflicts a merge without a strategy isn't refused
settled_by : (base source dest : KeyMapValue) → ((path : List ℕ) → IsConflict base source dest path → ⊥) → is_refused Refuse base source dest ≡ false
settled_by base source dest none = elim (cases_Bool (is_refused Refuse base source dest)) [
  | inl refused ↦ let found = refused_from base source dest Refuse refused in absurd (none found.1.0 found.1.1)
  | inr free ↦ free
]

-- where the destination is as the base nothing conflicts
as_base : (is other third : Bool) → other ≡ true → cond is Destination (cond other Source (cond third Source Neither)) ≡ Neither → ⊥
as_base true other third e conflict = absurd cc
as_base false true third e conflict = absurd cc
as_base false false third e conflict = absurd cc

pub settled_at_base : (base source : KeyMapValue) → is_refused Refuse base source base ≡ false
settled_at_base base source = settled_by base source base (λ path conflict.
    as_base (same_value (get source path) (get base path)) (same_value (get base path) (get base path)) (same_value (get source path) (get base path))
    (same_as_itself (get base path)) conflict)

-- nor where nothing was, and only one side has something
only_source : (source : Option EntryValue) → side_of None source None ≡ Neither → ⊥
only_source None conflict = absurd cc
only_source (Some entry) conflict = absurd cc

only_dest : (dest : Option EntryValue) → side_of None None dest ≡ Neither → ⊥
only_dest dest conflict = absurd cc

pub settled_apart : is_refused Refuse empty (insert empty b outside) (insert empty a outside) ≡ false
settled_apart = settled_by empty (insert empty b outside) (insert empty a outside) (λ path conflict. by path (eq_by_cmp byte_order path b) refl conflict)
  where
    by : (path : List ℕ) (t : Bool) → eq_by_cmp byte_order path b ≡ t → IsConflict empty (insert empty b outside) (insert empty a outside) path → ⊥
    by path true tie conflict =
        let none : get (insert {R = byte_order} empty a outside) path ≡ None =
        ap (get (insert {R = byte_order} empty a outside)) (same_path path b tie) ∙ get_one a outside b in
        only_source (get (insert {R = byte_order} empty b outside) path)
        (sym (λ i. side_of (no_entry path i) (get (insert {R = byte_order} empty b outside) path) (none i)) ∙ conflict)
    by path false tie conflict =
        let none : get (insert {R = byte_order} empty b outside) path ≡ None = get_one b outside path ∙ ap (λ (t : Bool). cond t (Some outside) None) tie in
        only_dest (get (insert {R = byte_order} empty a outside) path)
        (sym (λ i. side_of (no_entry path i) (none i) (get (insert {R = byte_order} empty a outside) path)) ∙ conflict)

-- what is merged at a path, of two maps of one entry over the empty one
pub merged_of_one : (strategy : Strategy) (path : List ℕ) (entry : EntryValue) (q : List ℕ)
    → merged_value strategy (get {R = byte_order} empty q) (get (insert {R = byte_order} empty path entry) q) (get (insert {R = byte_order} empty a outside) q)
    ≡ merged_value strategy None (cond (eq_by_cmp byte_order q path) (Some entry) None) (cond (eq_by_cmp byte_order q a) (Some outside) None)
merged_of_one strategy path entry q = λ i. merged_value strategy (no_entry q i) (get_one path entry q i) (get_one a outside q i)

-- the merge of different paths changes that of the source
merged_change : (path : List ℕ) (t : Bool) → eq_by_cmp byte_order path b ≡ t
    → change_between (merged_value Refuse None (cond t (Some outside) None) (cond (eq_by_cmp byte_order path a) (Some outside) None))
    (cond (eq_by_cmp byte_order path a) (Some outside) None)
    ≡ cond t (Some (Put outside)) None
merged_change path true tie = ap (λ (q : List ℕ). change_between (merged_value Refuse None (Some outside) (cond (eq_by_cmp byte_order q a) (Some outside) None))
    (cond (eq_by_cmp byte_order q a) (Some outside) None)) (same_path path b tie)
merged_change path false tie = ap (λ (t : Bool). if t then None else Some (change_to (cond (eq_by_cmp byte_order path a) (Some outside) None)))
    (same_as_itself (cond (eq_by_cmp byte_order path a) (Some outside) None))

pub merged_changes : (merged dest : KeyMapValue) → ((q : List ℕ)
    → get merged q ≡ merged_value Refuse None (cond (eq_by_cmp byte_order q b) (Some outside) None) (cond (eq_by_cmp byte_order q a) (Some outside) None))
    → dest ≡ insert empty a outside → differences merged dest ≡ insert empty b (Put outside)
merged_changes merged dest has is = same _ _ (λ q.
    get_differences merged dest q
    ∙ (λ i. change_between (has q i) (get (is i) q))
    ∙ ap (change_between (merged_value Refuse None (cond (eq_by_cmp byte_order q b) (Some outside) None) (cond (eq_by_cmp byte_order q a) (Some outside) None)))
    (get_one a outside q)
    ∙ merged_change q (eq_by_cmp byte_order q b) refl
    ∙ sym (get_one b (Put outside) q))

-- a map of one thing has the length 1
pub len_one : {X : Type 0} (path : List ℕ) (x : X) → len (insert {R = byte_order} empty path x) ≡ 1
len_one {X = X} path x = len-insert nat_list_cmp_total empty path x
    ∙ (λ i. cond (is_some (get-empty {X = X} byte_order path i)) (len-empty byte_order X i) (len-empty byte_order X i + 1))

-- two objects at one path conflict
pub neither_side : side_of None (Some larger_object) (Some outside) ≡ Neither
unfolding same_entry
neither_side = refl

pub refused_at_a : is_refused Refuse empty (insert empty a larger_object) (insert empty a outside) ≡ true
refused_at_a = refused_to empty (insert empty a larger_object) (insert empty a outside) Refuse
    (refl, (a, (λ i. side_of (no_entry a i) (get_one a larger_object a i) (get_one a outside a i)) ∙ neither_side))

-- what stands at a path of a map can be put there again
put_same : (t : Bool) (entry : EntryValue) → value_after (cond t (Some (Put entry)) None) (cond t (Some entry) None) ≡ cond t (Some entry) None
put_same true entry = refl
put_same false entry = refl

pub put_twice : (path : List ℕ) (entry : EntryValue) → apply (insert empty path (Put entry)) (insert empty path entry) ≡ insert empty path entry
put_twice path entry = same _ _ (λ q.
    get_apply (insert empty path (Put entry)) (insert empty path entry) q
    ∙ (λ i. value_after (get_one path (Put entry) q i) (get_one path entry q i))
    ∙ put_same (eq_by_cmp byte_order q path) entry
    ∙ sym (get_one path entry q))
