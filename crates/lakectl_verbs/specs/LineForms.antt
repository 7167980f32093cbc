-- The words of a line of a batch (this project's profile).
use Rattle.std.specs.Prelude.{ℕ, zero, suc, ◌==◌, nat_lt, Bool, true, if◌then◌else◌, List, [], ◌∷◌, length, Option, Some, None, option_map}
use Rattle.std.specs.Borrow.{Bor}
use Rattle.std.specs.Str.{is_utf8}
use Rattle.lakectl_verbs.specs.declared.line.LineWords.{LineWords}
use Rattle.lakectl_verbs.specs.declared.line.LineWords.TheVariants.{Skipped, Bad, Words}
use Rattle.lakectl_verbs.specs.Cuts.{front, behind}

-- What stands at the front of a text, and what follows: a space; a word that begins with `"`, which goes to the next `"`; or a word
-- that goes to the next space. Nothing stands at the front of an empty text.
abbrev pub word_step : List ℕ → Option (Option (List ℕ) × List ℕ)
word_step [] = None
word_step (b ∷ text) =
    if b == 32 then Some (None, text)
    else if b == 34 then Some (Some (front 34 text), behind 34 text)
    else Some (Some (front 32 (b ∷ text)), behind 32 (b ∷ text))

-- a word more, where one stands there
abbrev pub onto : Option (List ℕ) → List (List ℕ) → List (List ℕ)
onto None words = words
onto (Some word) words = word ∷ words

-- the words of a step, and of what follows
abbrev pub words_from : (List ℕ → List (List ℕ)) → Option (Option (List ℕ) × List ℕ) → List (List ℕ)
words_from next None = []
words_from next (Some step) = onto step.0 (next step.1)

-- the words of so many steps
unfoldable pub words_within : (steps : ℕ) → List ℕ → List (List ℕ)
words_within zero text = []
words_within (suc steps) text = words_from (words_within steps) (word_step text)

-- the words of a text: each step takes at least one byte
abbrev pub words_of : List ℕ → List (List ℕ)
words_of text = words_within (length text) text

-- a line that is passed over: an empty one, and one that begins with `#`
abbrev pub is_skipped : List ℕ → Bool
is_skipped [] = true
is_skipped (b ∷ line) = b == 35

-- a line of words: at most 65,536 bytes of UTF-8
abbrev pub line_in : List ℕ → LineWords
line_in line =
    if nat_lt 65536 (length line) then Bad
    else if is_utf8 line then Words (words_of line)
    else Bad

-- WHAT A LINE IS
abbrev pub line_of : List ℕ → LineWords
line_of line = if is_skipped line then Skipped else line_in line

-- a step as contracts see it
abbrev pub step_seen : Option (Bor (List ℕ)) × Bor (List ℕ) → Option (List ℕ) × List ℕ
step_seen step = (option_map (λ word. word.now) step.0, step.1.now)
