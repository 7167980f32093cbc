-- The lines of a batch.
use Rattle.std.specs.Prelude.{ℕ, ◌-◌, ◌==◌, nat_le, if◌then◌else◌, List, [], ◌∷◌, ◌++◌, length, map, take, codes, slice_index_or}
use Rattle.std.specs.List.{slice_split}
use Rattle.std.specs.Str.Lines.{lines, strip_carriage_return}

-- what stands before, between and behind the line feeds
abbrev pub parts : List ℕ → List (List ℕ)
parts bytes = slice_split (λ byte. byte == 10) bytes

-- the lines that ended: what stands before a line feed, without one carriage return at its end
abbrev pub ended_lines : List ℕ → List (List ℕ)
ended_lines bytes = map strip_carriage_return (take (length (parts bytes) - 1) (parts bytes))

-- the line under way: what stands behind the last line feed
abbrev pub last_part : List ℕ → List ℕ
last_part bytes = slice_index_or (parts bytes) (length (parts bytes) - 1) []

-- The lines of a batch: all lines of its source, or, where that gives more than the limit, those that ended within it.
abbrev pub batch_lines : ℕ → List ℕ → List (List ℕ)
batch_lines limit input = if nat_le (length input) limit then lines input else ended_lines (take limit input)

-- the batch has more bytes than it may have
abbrev pub too_long_text : List ℕ
too_long_text = codes "Error: batch too long" ++ 10 ∷ []

-- what is shown once these lines are left to serve: behind the last line, that the batch is too long, where it is
abbrev pub end_text : ℕ → List ℕ → List (List ℕ) → List ℕ
end_text limit input [] = if nat_le (length input) limit then [] else too_long_text
end_text limit input (line ∷ lines) = []
