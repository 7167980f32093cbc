-- Texts cut at a mark.
use Rattle.std.specs.Prelude.{ℕ, ◌==◌, nat_lt, if◌then◌else◌, List, [], ◌∷◌, length, Option, Some, None}
use Rattle.std.specs.List.{position_or_len, before_first, after_first}
use Rattle.std.specs.Borrow.{Bor}

-- what stands before the first mark, or all where there is none
abbrev pub front : (mark : ℕ) → List ℕ → List ℕ
front mark text = before_first (λ b. b == mark) text

-- what stands behind it, or nothing
abbrev pub behind : (mark : ℕ) → List ℕ → List ℕ
behind mark text = after_first (λ b. b == mark) text

-- both, where there is a mark
abbrev pub cut : (mark : ℕ) → List ℕ → Option (List ℕ × List ℕ)
cut mark text = if nat_lt (position_or_len (λ b. b == mark) text) (length text) then Some (front mark text, behind mark text) else None

abbrev pub cut_seen : Bor (List ℕ) × Bor (List ℕ) → List ℕ × List ℕ
cut_seen parts = (parts.0.now, parts.1.now)

-- what stands behind the mark at the front, where it stands there
abbrev pub strip : (mark : ℕ) → List ℕ → Option (List ℕ)
strip mark [] = None
strip mark (b ∷ text) = if b == mark then Some text else None
