-- What the changes of tokens, the newer over the older, say of a path.
use Rattle.std.proofs.Common.{◌≡◌, ℕ, Bool, true, false, cond, List, [], ◌∷◌, ◌++◌, Some, None, Option, refl, sym, ap, ◌∙◌, suc, ◌+◌, ◌<◌, ◌≤◌, length, drop}
use Rattle.std.proofs.Common.{get_or, drop-cons, add-one, arith}
use Rattle.std.specs.Bool.{nat_eq}
use Rattle.std.specs.List.{AllByRecursion, IsDistinct}
use Rattle.std.specs.Option.{option_or}
use Rattle.std.specs.Str.{bytes_eq}
use Rattle.std.specs.Cmp.Lexicographic.{texts_ties}
use Rattle.std.specs.FinMap.{get, insert, empty, contains_key, get-empty, get-insert}
use Rattle.std.proofs.lemmas.Cmp.{nat_list_cmp_total}
use Rattle.std.proofs.lemmas.List.{drop_all}
use Rattle.lake_base.specs.Maps.{byte_order}
use Rattle.lake_values.specs.KeyMap.{ChangesValue, over}
use Rattle.lake_values.specs.declared.entry.Change.{Change}
use Rattle.lake_values.proofs.KeyMapLemmas.{same, get_over, over_over}
use Rattle.branch_record.specs.Tokens.{TokenMap, changes_under, with_change}
use Rattle.branch_record.specs.Record.{BranchRecordValue, AreDistinct, record_after_seal}
use Rattle.branch_record.specs.Looking.{first_change, branch_change}
use Rattle.branch_record.specs.Overlay.{layers_of, staged_changes, sealed_changes}
use Rattle.branch_record.proofs.TokensLemmas.{turned, under_here, under_other, under_none}

-- changes over none are those changes
pub over_none : (c : ChangesValue) → over c empty ≡ c
over_none c = same _ _ (λ q. get_over c empty q ∙ ap (option_or (get c q)) (get-empty byte_order q) ∙ or_none (get c q))
  where
    or_none : (o : Option Change) → option_or o None ≡ o
    or_none None = refl
    or_none (Some x) = refl

-- none over changes leave these
pub none_over : (c : ChangesValue) → over empty c ≡ c
none_over c = same _ _ (λ q. get_over empty c q ∙ ap (λ o. option_or o (get c q)) (get-empty byte_order q))

module _ (t : TokenMap) where
  pub layers_one : (token : ℕ) → layers_of t (token ∷ []) ≡ changes_under t token
  unfolding layers_of
  layers_one token = over_none (changes_under t token)

  pub layers_single : (these : List ℕ) → length these ≡ 1 → layers_of t these ≡ changes_under t (get_or these 0 0)
  layers_single [] e = absurd (omega arith)
  layers_single (token ∷ []) e = layers_one token
  layers_single (token ∷ other ∷ these) e = absurd (omega arith)

  pub layers_none : layers_of t [] ≡ empty
  unfolding layers_of
  layers_none = refl

  pub layers_next : (token : ℕ) (older : List ℕ) → layers_of t (token ∷ older) ≡ over (changes_under t token) (layers_of t older)
  unfolding layers_of
  layers_next token older = refl

  -- the changes of newer tokens over those of older ones
  pub layers_joined : (newer older : List ℕ) → layers_of t (newer ++ older) ≡ over (layers_of t newer) (layers_of t older)
  unfolding layers_of
  layers_joined [] older = sym (none_over (layers_of t older))
  layers_joined (token ∷ newer) older =
      ap (over (changes_under t token)) (layers_joined newer older) ∙ sym (over_over (changes_under t token) (layers_of t newer) (layers_of t older))

  -- what the first token says is what the layers say
  pub get_layered : (these : List ℕ) (path : List ℕ) → get (layers_of t these) path ≡ first_change t these path
  unfolding layers_of first_change
  get_layered [] path = get-empty byte_order path
  get_layered (token ∷ older) path =
      get_over (changes_under t token) (layers_of t older) path ∙ ap (option_or (get (changes_under t token) path)) (get_layered older path)

  pub get_overlay : (r : BranchRecordValue) (path : List ℕ) → get (over (staged_changes r t) (sealed_changes r t)) path ≡ branch_change r t path
  unfolding first_change
  get_overlay r path =
      get_over (staged_changes r t) (sealed_changes r t) path ∙ ap (option_or (get (staged_changes r t) path)) (get_layered r.sealed path)

  pub said_next : (token : ℕ) (older : List ℕ) (path : List ℕ)
      → first_change t (token ∷ older) path ≡ option_or (get (changes_under t token) path) (first_change t older path)
  unfolding first_change
  said_next token older path = refl

  pub said_none : (path : List ℕ) → first_change t [] path ≡ None
  unfolding first_change
  said_none path = refl

  -- the word of the first token from a place on
  pub said_from : (these : List ℕ) (i : ℕ) (path : List ℕ) → i < length these
      → first_change t (drop i these) path ≡ option_or (get (changes_under t (get_or these i 0)) path) (first_change t (drop (i + 1) these) path)
  said_from these i path lt =
      ap (λ l. first_change t l path) (drop-cons these i 0 lt) ∙ said_next (get_or these i 0) (drop (suc i) these) path
      ∙ ap (λ n. option_or (get (changes_under t (get_or these i 0)) path) (first_change t (drop n these) path)) (sym (add-one i))

  pub said_past : (these : List ℕ) (i : ℕ) (path : List ℕ) → length these ≤ i → first_change t (drop i these) path ≡ None
  said_past these i path le = ap (λ l. first_change t l path) (drop_all i these le) ∙ said_none path

-- ---- a seal
module _ (r : BranchRecordValue) (t : TokenMap) (fresh : ℕ) where
  pub sealed_some : contains_key t r.staging ≡ true → record_after_seal r t fresh ≡ record r { staging = fresh; sealed = r.staging ∷ r.sealed }
  unfolding record_after_seal
  sealed_some e = ap (λ b. cond b (record r { staging = fresh; sealed = r.staging ∷ r.sealed }) r) e

  pub sealed_other : contains_key t r.staging ≡ false → record_after_seal r t fresh ≡ r
  unfolding record_after_seal
  sealed_other e = ap (λ b. cond b (record r { staging = fresh; sealed = r.staging ∷ r.sealed }) r) e

  sealed_by : (b : Bool) → contains_key t r.staging ≡ b
      → sealed_changes (cond b (record r { staging = fresh; sealed = r.staging ∷ r.sealed }) r) t ≡ over (staged_changes r t) (sealed_changes r t)
  sealed_by true e = layers_next t r.staging r.sealed
  sealed_by false e = sym (ap (λ c. over c (sealed_changes r t)) (under_none t r.staging e) ∙ none_over (sealed_changes r t))

  -- the sealed changes are then the staged ones over the sealed ones
  pub sealed_then : sealed_changes (record_after_seal r t fresh) t ≡ over (staged_changes r t) (sealed_changes r t)
  unfolding record_after_seal
  sealed_then = sealed_by (contains_key t r.staging) refl

  staged_by : (b : Bool) → contains_key t r.staging ≡ b → changes_under t fresh ≡ empty
      → staged_changes (cond b (record r { staging = fresh; sealed = r.staging ∷ r.sealed }) r) t ≡ empty
  staged_by true e none = none
  staged_by false e none = under_none t r.staging e

  -- and none are staged
  pub staged_then : changes_under t fresh ≡ empty → staged_changes (record_after_seal r t fresh) t ≡ empty
  unfolding record_after_seal
  staged_then none = staged_by (contains_key t r.staging) refl none

  -- a look tells what it told before
  pub looked_then : (path : List ℕ) → changes_under t fresh ≡ empty → branch_change (record_after_seal r t fresh) t path ≡ branch_change r t path
  looked_then path none =
      sym (get_overlay t (record_after_seal r t fresh) path)
      ∙ ap (λ c. get (over c (sealed_changes (record_after_seal r t fresh) t)) path) (staged_then none)
      ∙ ap (λ c. get c path) (none_over (sealed_changes (record_after_seal r t fresh) t) ∙ sealed_then)
      ∙ get_overlay t r path

-- ---- a change that is staged
module _ (t : TokenMap) (token : ℕ) (path : List ℕ) (change : Change) where
  other_token : (k : ℕ) → nat_eq token k ≡ false → changes_under (with_change t token path change) k ≡ changes_under t k
  unfolding with_change
  other_token k ne = under_other t token _ k (turned k token ∙ ne)

  -- other tokens say what they said
  others_say : (these : List ℕ) (q : List ℕ) → AllByRecursion (λ y. nat_eq token y ≡ false) these
      → first_change (with_change t token path change) these q ≡ first_change t these q
  unfolding first_change
  others_say [] q h = refl
  others_say (k ∷ these) q h = λ i. option_or (get (other_token k h.0 i) q) (others_say these q h.1 i)

  this_token : (q : List ℕ)
      → get (changes_under (with_change t token path change) token) q ≡ cond (bytes_eq q path) (Some change) (get (changes_under t token) q)
  unfolding with_change
  this_token q =
      ap (λ c. get c q) (under_here t token _) ∙ get-insert nat_list_cmp_total (changes_under t token) path change q
      ∙ ap (λ b. cond b (Some change) (get (changes_under t token) q)) (sym (texts_ties q path))

  or_changed : (b : Bool) (o p : Option Change) → option_or (cond b (Some change) o) p ≡ cond b (Some change) (option_or o p)
  or_changed true o p = refl
  or_changed false o p = refl

  -- the first of the tokens says the change of its path
  pub said_changed : (these : List ℕ) (q : List ℕ) → AreDistinct (token ∷ these)
      → first_change (with_change t token path change) (token ∷ these) q ≡ cond (bytes_eq q path) (Some change) (first_change t (token ∷ these) q)
  unfolding first_change IsDistinct
  said_changed these q h =
      (λ i. option_or (this_token q i) (others_say these q h.0 i)) ∙ or_changed (bytes_eq q path) (get (changes_under t token) q) (first_change t these q)

  -- under the token the change stands over what stood there
  pub staged_changed : changes_under (with_change t token path change) token ≡ insert (changes_under t token) path change
  unfolding with_change
  staged_changed = under_here t token _

  -- the changes of other tokens stay
  pub layers_kept : (these : List ℕ) → AreDistinct (token ∷ these) → layers_of (with_change t token path change) these ≡ layers_of t these
  unfolding IsDistinct
  layers_kept these h = same _ _ (λ q. get_layered (with_change t token path change) these q ∙ others_say these q h.0 ∙ sym (get_layered t these q))
