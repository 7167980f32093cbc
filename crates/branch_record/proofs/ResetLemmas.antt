-- What a reset, and a drop of the sealed changes, leave of the changes of a branch.
use Rattle.std.proofs.Common.{◌≡◌, ℕ, Bool, true, false, cond, ◌||◌, List, [], ◌∷◌, None, Option, refl, sym, ap, ◌∙◌}
use Rattle.std.specs.Bool.{nat_eq}
use Rattle.std.specs.Option.{option_or}
use Rattle.std.specs.Cmp.{nat_eq_equiv}
use Rattle.std.specs.FinMap.{get, empty}
use Rattle.lake_values.specs.Reset.{drops_path, changes_after_reset}
use Rattle.lake_values.specs.declared.commit.ResetWhat.{ResetWhat}
use Rattle.lake_values.specs.declared.entry.Change.{Change}
use Rattle.lake_values.proofs.KeyMapLemmas.{same}
use Rattle.lake_values.proofs.ResetLemmas.{get_reset}
use Rattle.branch_record.specs.Tokens.{TokenMap, changes_under, with_each}
use Rattle.branch_record.specs.Record.{BranchRecordValue, AreDistinct, named_tokens, is_among}
use Rattle.branch_record.specs.Looking.{first_change, branch_change}
use Rattle.branch_record.specs.Overlay.{layers_of, staged_changes, sealed_changes}
use Rattle.branch_record.proofs.TokensLemmas.{under_changed, first_apart}
use Rattle.branch_record.proofs.LayersLemmas.{get_layered}

-- ---- tokens are among these
among_first : (k : ℕ) (these : List ℕ) → is_among (k ∷ these) k ≡ true
among_first k these = ap (λ b. b || is_among these k) (nat_eq_equiv.refl k)

among_more : (k : ℕ) (these : List ℕ) (q : ℕ) → is_among these q ≡ true → is_among (k ∷ these) q ≡ true
among_more k these q e = ap (λ b. nat_eq k q || b) e ∙ or_true (nat_eq k q)
  where
    or_true : (b : Bool) → (b || true) ≡ true
    or_true true = refl
    or_true false = refl

-- ---- a reset
either : (b : Bool) (o : Option Change) → o ≡ cond b o o
either true o = refl
either false o = refl

left_or : (b : Bool) (x y : Option Change) → option_or (cond b None x) (cond b None y) ≡ cond b None (option_or x y)
left_or true x y = refl
left_or false x y = refl

module _ (what : ResetWhat) (t : TokenMap) (these : List ℕ) where
  abbrev tokens_left : TokenMap
  tokens_left = with_each these (changes_after_reset what) t

  -- under each of the tokens stands what the reset leaves
  under_left : (k : ℕ) → is_among these k ≡ true → changes_under tokens_left k ≡ changes_after_reset what (changes_under t k)
  under_left k among =
      under_changed (changes_after_reset what) t these k ∙ ap (λ b. cond b (changes_after_reset what (changes_under t k)) (changes_under t k)) among

  -- some of the tokens say nothing of a path that the reset drops, and of others what they said
  said_left : (some : List ℕ) → ((k : ℕ) → is_among some k ≡ true → is_among these k ≡ true) → (q : List ℕ)
      → first_change tokens_left some q ≡ cond (drops_path what q) None (first_change t some q)
  unfolding first_change
  said_left [] among q = either (drops_path what q) None
  said_left (k ∷ older) among q =
      let here : get (changes_under tokens_left k) q ≡ cond (drops_path what q) None (get (changes_under t k) q) =
      ap (λ c. get c q) (under_left k (among k (among_first k older))) ∙ get_reset what (changes_under t k) q in
      (λ i. option_or (here i) (said_left older (λ j e. among j (among_more k older j e)) q i))
      ∙ left_or (drops_path what q) (get (changes_under t k) q) (first_change t older q)

  -- the changes of some of the tokens are what the reset leaves of them
  layers_left : (some : List ℕ) → ((k : ℕ) → is_among some k ≡ true → is_among these k ≡ true)
      → layers_of tokens_left some ≡ changes_after_reset what (layers_of t some)
  layers_left some among = same _ _ (λ q.
      get_layered tokens_left some q ∙ said_left some among q
      ∙ ap (cond (drops_path what q) None) (sym (get_layered t some q))
      ∙ sym (get_reset what (layers_of t some) q))

module _ (r : BranchRecordValue) (t : TokenMap) (what : ResetWhat) where
  pub staged_left : staged_changes r (with_each (named_tokens r) (changes_after_reset what) t) ≡ changes_after_reset what (staged_changes r t)
  staged_left = under_left what t (named_tokens r) r.staging (among_first r.staging r.sealed)

  pub sealed_left : sealed_changes r (with_each (named_tokens r) (changes_after_reset what) t) ≡ changes_after_reset what (sealed_changes r t)
  sealed_left = layers_left what t (named_tokens r) r.sealed (among_more r.staging r.sealed)

  pub looked_left : (path : List ℕ)
      → branch_change r (with_each (named_tokens r) (changes_after_reset what) t) path ≡ cond (drops_path what path) None (branch_change r t path)
  looked_left path = said_left what t (named_tokens r) (named_tokens r) (λ k among. among) path

-- ---- the sealed changes are dropped: the staged ones stay
pub staged_kept : (r : BranchRecordValue) (t : TokenMap) → AreDistinct (named_tokens r)
    → changes_under (with_each r.sealed (λ _. empty) t) r.staging ≡ staged_changes r t
staged_kept r t distinct =
    under_changed (λ _. empty) t r.sealed r.staging ∙ ap (λ b. cond b empty (staged_changes r t)) (first_apart r.staging r.sealed distinct)
