-- Lines that were served, and one more.
use Rattle.std.proofs.Common.{◌≡◌, ◌&&◌, ◌||◌, ℕ, List, [], ◌∷◌, ◌++◌, refl, sym, subst}
use Rattle.std.proofs.lemmas.List.{flat_map_more}
use Rattle.std.proofs.lemmas.List.Recursion.{and_push, or_push}
use Rattle.batch_lines.specs.ServedLines.{LineReply, LineEffect, IsLineServed, AreServed, text_of, all_done, any_starved, any_failed}

module _ {L : Type 0} (serves : List ℕ → L → L → LineReply → Type 0) where
  pub served_more : (lines : List (List ℕ)) (server : L) (effects : List LineEffect) (now : L) (line : List ℕ)
      (effect : LineEffect) (next : L) → AreServed serves lines server effects now
      → IsLineServed serves line now effect next → AreServed serves (lines ++ line ∷ []) server (effects ++ effect ∷ []) next
  served_more [] server [] now line effect next each served =
      (next, subst (λ (s : L). IsLineServed serves line s effect next) each served, refl)
  served_more [] server (first ∷ effects) now line effect next each served = absurd each
  served_more (first ∷ lines) server [] now line effect next each served = absurd each
  served_more (first ∷ lines) server (one ∷ effects) now line effect next each served =
      (each.0, each.1, served_more lines each.0 effects now line effect next each.2 served)

pub text_of-more : (effects : List LineEffect) (effect : LineEffect)
    → text_of (effects ++ effect ∷ []) ≡ text_of effects ++ effect.text
text_of-more effects effect = sym (flat_map_more (λ (e : LineEffect). e.text) [] effects effect)

pub all_done-more : (effects : List LineEffect) (effect : LineEffect)
    → all_done (effects ++ effect ∷ []) ≡ (all_done effects && effect.done)
all_done-more effects effect = and_push all_done (λ e. e.done) refl (λ _ _. refl) effects effect

pub any_starved-more : (effects : List LineEffect) (effect : LineEffect)
    → any_starved (effects ++ effect ∷ []) ≡ (any_starved effects || effect.starved)
any_starved-more effects effect = or_push any_starved (λ e. e.starved) refl (λ _ _. refl) effects effect

pub any_failed-more : (effects : List LineEffect) (effect : LineEffect)
    → any_failed (effects ++ effect ∷ []) ≡ (any_failed effects || effect.failed)
any_failed-more effects effect = or_push any_failed (λ e. e.failed) refl (λ _ _. refl) effects effect
