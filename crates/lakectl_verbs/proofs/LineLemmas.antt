-- The words of a line, step by step.
use Rattle.std.proofs.Common.{◌≡◌, ◌<◌, ◌≤◌, ◌+◌, ◌-◌, ◌==◌, ℕ, zero, suc, Bool, true, false, List, []}
use Rattle.std.proofs.Common.{◌∷◌, ◌++◌, length, drop, Option, Some, None, refl, sym, ap, ◌∙◌, append_assoc, if◌then◌else◌, arith}
use Rattle.std.specs.List.{position_or_len}
use Rattle.std.proofs.lemmas.List.{length-drop}
use Rattle.lakectl_verbs.specs.Cuts.{front, behind}
use Rattle.lakectl_verbs.specs.LineForms.{word_step, onto, words_from, words_within, words_of}

behind_shorter : (mark : ℕ) (text : List ℕ) → length (behind mark text) ≤ length text - 1
behind_shorter mark text = omega (arith, length-drop (position_or_len (λ b. b == mark) text + 1) text)

abbrev Shorter : ℕ → Option (Option (List ℕ) × List ℕ) → Type 0
Shorter n o = (s : Option (List ℕ) × List ℕ) → o ≡ Some s → length s.1 < n

some_shorter : (n : ℕ) (word : Option (List ℕ)) (rest : List ℕ) → length rest < n → Shorter n (Some (word, rest))
some_shorter n word rest lt s is = let e : rest ≡ s.1 = cc in omega (arith, lt, ap length e)

-- a step takes a byte
pub step_shorter : (text : List ℕ) → Shorter (length text) (word_step text)
step_shorter [] s is = cc
step_shorter (b ∷ text) s is = space (b == 32) (b == 34) s is
  where
    space : (x y : Bool) → Shorter (suc (length text))
        (if x then Some (None, text) else if y then Some (Some (front 34 text), behind 34 text) else Some (Some (front 32 (b ∷ text)), behind 32 (b ∷ text)))
    space true y = some_shorter (suc (length text)) None text (omega arith)
    space false true = some_shorter (suc (length text)) (Some (front 34 text)) (behind 34 text) (omega (arith, behind_shorter 34 text))
    space false false = some_shorter (suc (length text)) (Some (front 32 (b ∷ text))) (behind 32 (b ∷ text)) (omega (arith, behind_shorter 32 (b ∷ text)))

same_from : (n m : ℕ) (o : Option (Option (List ℕ) × List ℕ))
    → ((s : Option (List ℕ) × List ℕ) → o ≡ Some s → words_within n s.1 ≡ words_within m s.1)
    → words_from (words_within n) o ≡ words_from (words_within m) o
same_from n m None same = refl
same_from n m (Some s) same = ap (onto s.0) (same s refl)

-- so many steps are enough
pub enough : (n m : ℕ) (text : List ℕ) → length text ≤ n → length text ≤ m → words_within n text ≡ words_within m text
unfolding words_within
enough zero zero text h k = refl
enough zero (suc m) [] h k = refl
enough zero (suc m) (b ∷ text) h k = absurd (omega (arith, h))
enough (suc n) zero [] h k = refl
enough (suc n) zero (b ∷ text) h k = absurd (omega (arith, k))
enough (suc n) (suc m) text h k =
    same_from n m (word_step text) (λ s is.
    let less : length s.1 < length text = step_shorter text s is in
    enough n m s.1 (omega (arith, less, h)) (omega (arith, less, k)))

of_step : (n : ℕ) (text : List ℕ) (o : Option (Option (List ℕ) × List ℕ)) → length text ≡ suc n → word_step text ≡ o
    → words_of text ≡ words_from (words_within n) o
unfolding words_within
of_step n text o len is = ap (λ (k : ℕ). words_within k text) len ∙ ap (words_from (words_within n)) is

-- the words of a text are those of its first step and of what follows
pub words_step : (text : List ℕ) (s : Option (List ℕ) × List ℕ) → word_step text ≡ Some s → words_of text ≡ onto s.0 (words_of s.1)
words_step [] s is = cc
words_step (b ∷ text) s is =
    let less : length s.1 < suc (length text) = step_shorter (b ∷ text) s is in
    of_step (length text) (b ∷ text) (Some s) refl is ∙ ap (onto s.0) (enough (length text) (length s.1) s.1 (omega (arith, less)) (omega arith))

-- where there is no step, there are no words
pub words_none : (text : List ℕ) → word_step text ≡ None → words_of text ≡ []
unfolding words_within
words_none [] is = refl
words_none (b ∷ text) is = ap (words_from (words_within (length text))) is
