-- What is found after changes, and the changes between two maps.
use Rattle.std.proofs.Common.{◌≡◌, ℕ, Bool, true, false, cond, ◌||◌, T, List, [], ◌∷◌, ◌++◌, Some, None, Option, is_some, sym, ap, subst, refl, ◌∙◌}
use Rattle.std.specs.List.{list_any}
use Rattle.std.specs.Ordering.{is_lt, eq_by_cmp}
use Rattle.std.specs.declared.cmp.Ordering.TheVariants.{Less}
use Rattle.std.proofs.lemmas.Cmp.{nat_list_cmp_total}
use Rattle.std.proofs.lemmas.List.Folds.{list_any-append}
use Rattle.std.specs.FinMap.{find, get, entries, keys, contains_key, contains_key-keys, from_sorted, get-entries, get-from_sorted, get-insert, get-remove}
use Rattle.std.specs.FinMap.{entries_sorted, same_map, slice_cmp-IsAntisymmetric, nat_cmp-IsAntisymmetric, insert as map_insert, empty, get-empty}
use Rattle.std.specs.Option.{option_or}
use Rattle.std.specs.FinMap.Entries.{below_all}
use Rattle.lake_values.specs.Entry.{EntryValue}
use Rattle.lake_base.specs.Maps.{byte_order, ByteMap, HasAscendingKeys}
use Rattle.lake_values.specs.KeyMap.{KeyMapValue, ChangesValue, map_after_change, map_after, apply, changes_after, over, value_after, change_to, change_between}
use Rattle.lake_values.specs.KeyMap.{changes_with, differences_at, differences}
use Rattle.lake_values.specs.Sameness.{same_value}
use Rattle.lake_values.specs.declared.entry.Change.{Change}
use Rattle.lake_values.specs.declared.entry.Change.TheVariants.{Put, Delete}
use Rattle.lake_base.proofs.MapsLemmas.{head_below, tail_ascends, same_key, both, less_more, find_none, tied}
use Rattle.lake_values.proofs.SamenessLemmas.{same_entry_decides}
pub use Rattle.lake_base.proofs.MapsLemmas.{less_more}

-- the word of a change at q, and of those after it
said_next : (q p : List ℕ) (c : Change) (cs : List (List ℕ × Change)) (had : Option EntryValue) → T (below_all byte_order p cs) → (b : Bool)
    → eq_by_cmp byte_order q p ≡ b
    → value_after (find byte_order q cs) (value_after (cond b (Some c) None) had) ≡ value_after (cond b (Some c) (find byte_order q cs)) had
said_next q p c cs had h true e =
    let none : find byte_order q cs ≡ None = find_none q cs (subst (λ k. T (below_all byte_order k cs)) (sym (same_key q p (tied _ e))) h) in
    ap (λ f. value_after f (value_after (Some c) had)) none
said_next q p c cs had h false e = refl

put_said : (b : Bool) (entry : EntryValue) (had : Option EntryValue) → cond b (Some entry) had ≡ value_after (cond b (Some (Put entry)) None) had
put_said true entry had = refl
put_said false entry had = refl

delete_said : (b : Bool) (had : Option EntryValue) → cond b None had ≡ value_after (cond b (Some Delete) None) had
delete_said true had = refl
delete_said false had = refl

get_changed : (p : List ℕ) (c : Change) (map : KeyMapValue) (q : List ℕ)
    → get (map_after_change p c map) q ≡ value_after (cond (eq_by_cmp byte_order q p) (Some c) None) (get map q)
get_changed p (Put entry) map q = get-insert nat_list_cmp_total map p entry q ∙ put_said _ entry (get map q)
get_changed p Delete map q = get-remove nat_list_cmp_total map p q ∙ delete_said _ (get map q)

get_changed_by : (cs : List (List ℕ × Change)) → HasAscendingKeys cs → (map : KeyMapValue) (q : List ℕ)
    → get (map_after cs map) q ≡ value_after (find byte_order q cs) (get map q)
get_changed_by [] h map q = refl
get_changed_by (c ∷ cs) h map q =
    get_changed_by cs (tail_ascends c cs h) (map_after_change c.0 c.1 map) q
    ∙ ap (value_after (find byte_order q cs)) (get_changed c.0 c.1 map q)
    ∙ said_next q c.0 c.1 cs (get map q) (head_below c cs h) _ refl

-- what changes say of a path, and the map elsewhere
pub get_apply : (changes : ChangesValue) (map : KeyMapValue) (q : List ℕ) → get (apply changes map) q ≡ value_after (get changes q) (get map q)
unfolding apply
get_apply changes map q = get_changed_by (entries changes) (entries_sorted changes) map q ∙ ap (λ f. value_after f (get map q)) (sym (get-entries changes q))

or_next : (q p : List ℕ) (c : Change) (cs : List (List ℕ × Change)) (had : Option Change) → T (below_all byte_order p cs) → (b : Bool)
    → eq_by_cmp byte_order q p ≡ b
    → option_or (find byte_order q cs) (cond b (Some c) had) ≡ option_or (cond b (Some c) (find byte_order q cs)) had
or_next q p c cs had h true e =
    let none : find byte_order q cs ≡ None = find_none q cs (subst (λ k. T (below_all byte_order k cs)) (sym (same_key q p (tied _ e))) h) in
    ap (λ f. option_or f (Some c)) none
or_next q p c cs had h false e = refl

get_put_over : (cs : List (List ℕ × Change)) → HasAscendingKeys cs → (old : ChangesValue) (q : List ℕ)
    → get (changes_after cs old) q ≡ option_or (find byte_order q cs) (get old q)
get_put_over [] h old q = refl
get_put_over (c ∷ cs) h old q =
    get_put_over cs (tail_ascends c cs h) (map_insert old c.0 c.1) q
    ∙ ap (option_or (find byte_order q cs)) (get-insert nat_list_cmp_total old c.0 c.1 q)
    ∙ or_next q c.0 c.1 cs (get old q) (head_below c cs h) _ refl

pub get_over : (new old : ChangesValue) (q : List ℕ) → get (over new old) q ≡ option_or (get new q) (get old q)
unfolding over
get_over new old q = get_put_over (entries new) (entries_sorted new) old q ∙ ap (λ f. option_or f (get old q)) (sym (get-entries new q))

said_or : (new old : Option Change) (had : Option EntryValue) → value_after (option_or new old) had ≡ value_after new (value_after old had)
said_or None old had = refl
said_or (Some (Put entry)) old had = refl
said_or (Some Delete) old had = refl

or_or : (a b c : Option Change) → option_or (option_or a b) c ≡ option_or a (option_or b c)
or_or None b c = refl
or_or (Some x) b c = refl

pub same : {X : Type 0} (m n : ByteMap X) → ((q : List ℕ) → get m q ≡ get n q) → m ≡ n
same m n = same_map nat_list_cmp_total (slice_cmp-IsAntisymmetric nat_cmp-IsAntisymmetric) m n

-- changes over changes are applied one after the other
pub apply_over : (new old : ChangesValue) (map : KeyMapValue) → apply (over new old) map ≡ apply new (apply old map)
apply_over new old map = same _ _ (λ q.
    get_apply (over new old) map q ∙ ap (λ f. value_after f (get map q)) (get_over new old q) ∙ said_or (get new q) (get old q) (get map q)
    ∙ sym (get_apply new (apply old map) q ∙ ap (value_after (get new q)) (get_apply old map q)))

pub over_over : (a b c : ChangesValue) → over (over a b) c ≡ over a (over b c)
over_over a b c = same _ _ (λ q.
    get_over (over a b) c q ∙ ap (λ f. option_or f (get c q)) (get_over a b q) ∙ or_or (get a q) (get b q) (get c q)
    ∙ sym (get_over a (over b c) q ∙ ap (option_or (get a q)) (get_over b c q)))

one_or : (b : Bool) (c : Change) (had : Option Change) → option_or (cond b (Some c) None) had ≡ cond b (Some c) had
one_or true c had = refl
one_or false c had = refl

-- one change over others is that change put into them
pub over_one : (path : List ℕ) (change : Change) (old : ChangesValue) → over (map_insert empty path change) old ≡ map_insert old path change
over_one path change old = same _ _ (λ q.
    let ties = eq_by_cmp byte_order q path in
    get_over (map_insert empty path change) old q
    ∙ ap (λ c. option_or c (get old q)) (get-insert nat_list_cmp_total empty path change q ∙ ap (cond ties (Some change)) (get-empty byte_order q))
    ∙ one_or ties change (get old q)
    ∙ sym (get-insert nat_list_cmp_total old path change q))

-- ---- what a join of two lists is
find_entries : {X : Type 0} (m : ByteMap X) (items : List (List ℕ × X)) (q : List ℕ) → items ≡ entries m → find byte_order q items ≡ get m q
find_entries m items q is = ap (find byte_order q) is ∙ sym (get-entries m q)

module _ {A B C : Type 0} (value : Option A → Option B → Option C) (left : ByteMap A) (right : ByteMap B) where
  -- the list of the values is the map that has them
  pub joined_map : (lefts : List (List ℕ × A)) (rights : List (List ℕ × B)) (items : List (List ℕ × C)) (m : ByteMap C) → lefts ≡ entries left
      → rights ≡ entries right → HasAscendingKeys items
      → ((q : List ℕ) → find byte_order q items ≡ value (find byte_order q lefts) (find byte_order q rights))
      → ((q : List ℕ) → get m q ≡ value (get left q) (get right q)) → from_sorted {R = byte_order} items ≡ m
  joined_map lefts rights items m is others sorted values has = same _ _ (λ q.
      get-from_sorted byte_order items q sorted ∙ values q
      ∙ ap (λ v. value v (find byte_order q rights)) (find_entries left lefts q is) ∙ ap (value (get left q)) (find_entries right rights q others)
      ∙ sym (has q))

-- ---- the changes from one map to another
abbrev ties : List ℕ → List ℕ → Bool
ties = eq_by_cmp byte_order

same_value_is : (v o : Option EntryValue) → same_value v o ≡ true → v ≡ o
same_value_is None None e = refl
same_value_is None (Some y) e = absurd cc
same_value_is (Some x) None e = absurd cc
same_value_is (Some x) (Some y) e = ap Some ((same_entry_decides x y).0 e)

pub same_as_itself : (v : Option EntryValue) → same_value v v ≡ true
same_as_itself None = refl
same_as_itself (Some x) = (same_entry_decides x x).1 refl

get_with : (p : List ℕ) (change : Option Change) (changes : ChangesValue) (q : List ℕ)
    → get (changes_with p change changes) q ≡ cond (ties q p) (option_or change (get changes q)) (get changes q)
get_with p (Some change) changes q = get-insert nat_list_cmp_total changes p change q
get_with p None changes q = sym (either (ties q p) (get changes q))
  where
    either : (b : Bool) (v : Option Change) → cond b v v ≡ v
    either true v = refl
    either false v = refl

-- a change that depends on the path, put at one of the paths that tie
change_at : (change : List ℕ → Option Change) (q p : List ℕ) (among : Bool) → (b : Bool) → ties q p ≡ b
    → cond b (option_or (change p) (cond among (change q) None)) (cond among (change q) None) ≡ cond (b || among) (change q) None
change_at change q p among false e = refl
change_at change q p among true e = ap (λ v. option_or v (cond among (change q) None)) (ap change (sym (same_key q p (tied _ e)))) ∙ again among (change q)
  where
    again : (among : Bool) (v : Option Change) → option_or v (cond among v None) ≡ v
    again true None = refl
    again true (Some c) = refl
    again false None = refl
    again false (Some c) = refl

module _ (new old : KeyMapValue) where
  abbrev change_of : List ℕ → Option Change
  change_of path = change_between (get new path) (get old path)

  get_differences_at : (paths : List (List ℕ)) (q : List ℕ) → get (differences_at new old paths) q ≡ cond (list_any (ties q) paths) (change_of q) None
  get_differences_at [] q = get-empty byte_order q
  get_differences_at (p ∷ paths) q =
      get_with p (change_of p) (differences_at new old paths) q
      ∙ ap (λ v. cond (ties q p) (option_or (change_of p) v) v) (get_differences_at paths q)
      ∙ change_at change_of q p (list_any (ties q) paths) (ties q p) refl

  paths_any : (q : List ℕ) → list_any (ties q) (keys new ++ keys old) ≡ (contains_key new q || contains_key old q)
  paths_any q =
      list_any-append (ties q) (keys new) (keys old)
      ∙ ap (λ b. b || list_any (ties q) (keys old)) (sym (contains_key-keys new q))
      ∙ ap (λ b. contains_key new q || b) (sym (contains_key-keys old q))

  somewhere : (n o : Option EntryValue) → cond (is_some n || is_some o) (change_between n o) None ≡ change_between n o
  somewhere None None = refl
  somewhere (Some x) o = refl
  somewhere None (Some y) = refl

  -- the change at each path
  pub get_differences : (q : List ℕ) → get (differences new old) q ≡ change_between (get new q) (get old q)
  unfolding differences
  get_differences q =
      get_differences_at (keys new ++ keys old) q ∙ ap (λ b. cond b (change_of q) None) (paths_any q) ∙ somewhere (get new q) (get old q)

put_new : (n o : Option EntryValue) → value_after (Some (change_to n)) o ≡ n
put_new None o = refl
put_new (Some x) o = refl

applied_between : (n o : Option EntryValue) (b : Bool) → same_value n o ≡ b → value_after (cond b None (Some (change_to n))) o ≡ n
applied_between n o true e = sym (same_value_is n o e)
applied_between n o false e = put_new n o

-- applied to the old map, the changes give the new one
pub apply_differences : (new old : KeyMapValue) → apply (differences new old) old ≡ new
apply_differences new old = same _ _ (λ q.
    get_apply (differences new old) old q ∙ ap (λ c. value_after c (get old q)) (get_differences new old q)
    ∙ applied_between (get new q) (get old q) _ refl)

no_change : (n o : Option EntryValue) (b : Bool) → same_value n o ≡ b → cond b None (Some (change_to n)) ≡ None → n ≡ o
no_change n o true e h = same_value_is n o e
no_change n o false e h = absurd cc

-- there is no change just where the two look-ups are equal
pub no_difference : (new old : KeyMapValue) (q : List ℕ)
    → (get (differences new old) q ≡ None → get new q ≡ get old q) × (get new q ≡ get old q → get (differences new old) q ≡ None)
no_difference new old q = (
  λ none. no_change (get new q) (get old q) _ refl (sym (get_differences new old q) ∙ none),
  λ e. get_differences new old q ∙ ap (λ v. change_between (get new q) v) (sym e)
      ∙ ap (λ b. cond b None (Some (change_to (get new q)))) (same_as_itself (get new q)),
)

-- below the first change the two look-ups are equal
pub least_difference : (new old : KeyMapValue) (first : List ℕ × Change) (rest : List (List ℕ × Change)) (q : List ℕ)
    → entries (differences new old) ≡ first ∷ rest → byte_order q first.0 ≡ Less → get new q ≡ get old q
least_difference new old front rest q is lt =
    let sorted : HasAscendingKeys (front ∷ rest) = subst HasAscendingKeys is (entries_sorted (differences new old)) in
    let low : T (below_all byte_order q (front ∷ rest)) =
    both _ _ (subst (λ r. T (is_lt r)) (sym lt) tt) (less_more q front.0 rest lt (head_below front rest sorted)) in
    (no_difference new old q).0 (get-entries (differences new old) q ∙ ap (find byte_order q) is ∙ find_none q (front ∷ rest) low)
