-- Texts cut at a mark.
use Rattle.std.proofs.Common.{◌≡◌, ◌≢◌, ℕ, List, [], ◌∷◌, Option, Some, None, refl, sym, ap, ◌∙◌, Bor, arith}
use Rattle.std.specs.Option.{MatchOption, option_map}
use Rattle.std.proofs.lemmas.Bool.Decides.{nat_tests}
use Rattle.lakectl_verbs.specs.Cuts.{strip}

strip_at : (mark : ℕ) (text : List ℕ) → strip mark (mark ∷ text) ≡ Some text
strip_at mark text = grind (arith, nat_tests)

strip_apart : (mark : ℕ) (text : List ℕ) → ((rest : List ℕ) → text ≢ mark ∷ rest) → strip mark text ≡ None
strip_apart mark [] none = refl
strip_apart mark (b ∷ text) none =
    let other : b ≢ mark = λ is. none text (ap (λ (x : ℕ). x ∷ text) is) in
    grind (arith, nat_tests, other)

-- the mark at the front is taken off
pub stripped : (mark : ℕ) (text : List ℕ) (r : Option (Bor (List ℕ)))
    → MatchOption r ((rest : List ℕ) → text ≢ mark ∷ rest) (λ x. text ≡ mark ∷ x.now) → option_map (λ x. x.now) r ≡ strip mark text
stripped mark text None none = sym (strip_apart mark text none)
stripped mark text (Some x) is = sym (ap (strip mark) is ∙ strip_at mark x.now)
