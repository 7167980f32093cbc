-- How a key map is cut into ranges and segments, and the files of a tree.
use Rattle.std.specs.Prelude.{◌-◌, ◌*◌, ◌%◌, ◌^◌, ◌==◌, ◌&&◌, ◌||◌, not, true, false, ℕ, zero, suc, Bool, List, [], ◌∷◌, length, map, take, drop, bit_xor}
use Rattle.std.specs.Prelude.{nat_le, Option, Some, None, if◌then◌else◌}
use Rattle.std.specs.List.{filter, list_all, list_any, sum_by}
use Rattle.std.specs.Cmp.Lexicographic.{pointwise}
use Rattle.std.specs.FinMap.{entries}
use Rattle.std.specs.Str.{bytes_eq}
use Rattle.lake_values.specs.Entry.{EntryValue}
use Rattle.lake_values.specs.KeyMap.{KeyMapValue}
use Rattle.lake_values.specs.Sameness.{same_row}
use Rattle.lake_format.specs.Spelling.{row_spelling, range_spelling, metarange_spelling, line_of, file_name}
use Rattle.lake_format.specs.declared.cut.Cut.{Cut}
use Rattle.lake_base.specs.declared.digest.Digest.{Digest}

-- FNV-1a from a sum on: each byte is taken in by XOR, and then the sum multiplied by the prime, modulo 2^64.
abbrev pub fnv_from : ℕ → List ℕ → ℕ
fnv_from sum [] = sum
fnv_from sum (byte ∷ bytes) = fnv_from ((bit_xor sum byte * 1099511628211) % 2 ^ 64) bytes

-- FNV-1a of 64 bits, from its offset
unfoldable pub fnv1a : List ℕ → ℕ
fnv1a bytes = fnv_from 14695981039346656037 bytes

-- a key after which a range ends: its FNV-1a is 0 modulo the modulus
abbrev pub is_break : Cut → List ℕ → Bool
is_break cut path = (fnv1a path % cut.modulus) == 0

-- the bytes of rows
abbrev pub row_bytes : List (List ℕ × EntryValue) → ℕ
row_bytes rows = sum_by (λ row. length (row_spelling row)) rows

-- rows that can be one range: no break key before the last, and at most one row, or not above `max_bytes`
abbrev pub is_range : Cut → List (List ℕ × EntryValue) → Bool
is_range cut rows =
    list_all (λ row. not (is_break cut row.0)) (take (length rows - 1) rows)
    && (nat_le (length rows) 1 || nat_le (row_bytes rows) cut.max_bytes)

-- the length of the longest front of at most so many rows that can be one range
abbrev pub longest_front : Cut → List (List ℕ × EntryValue) → ℕ → ℕ
longest_front cut rows zero = 0
longest_front cut rows (suc n) = if is_range cut (take (suc n) rows) then suc n else longest_front cut rows n

-- the length of the longest front that can be one range
unfoldable pub first_len : Cut → List (List ℕ × EntryValue) → ℕ
first_len cut rows = longest_front cut rows (length rows)

-- at most so many ranges
abbrev pub ranges_within : ℕ → Cut → List (List ℕ × EntryValue) → List (List (List ℕ × EntryValue))
ranges_within zero cut rows = []
ranges_within (suc n) cut [] = []
ranges_within (suc n) cut (row ∷ rows) =
    take (first_len cut (row ∷ rows)) (row ∷ rows) ∷ ranges_within n cut (drop (first_len cut (row ∷ rows)) (row ∷ rows))

-- the cut: the first range is the longest front that can be one, and the rest is cut likewise
unfoldable pub ranges : Cut → List (List ℕ × EntryValue) → List (List (List ℕ × EntryValue))
ranges cut rows = ranges_within (length rows) cut rows

-- the metarange of a tree: what is said of its ranges, in order
abbrev pub metarange_of : Cut → KeyMapValue → List ℕ
metarange_of cut objects = metarange_spelling (map line_of (ranges cut (entries objects)))

-- the files of a tree: the metarange, and then the ranges in order
unfoldable pub files : Cut → KeyMapValue → List (List ℕ)
files cut objects = metarange_of cut objects ∷ map range_spelling (ranges cut (entries objects))

-- a tree is known by the SHA-256 of its metarange
unfoldable pub tree_id : Cut → KeyMapValue → Digest
tree_id cut objects = file_name (metarange_of cut objects)

-- a row before the segments of the rows after it
abbrev pub segments_with : Cut → List ℕ × EntryValue → List (List (List ℕ × EntryValue)) → List (List (List ℕ × EntryValue))
segments_with cut row [] = (row ∷ []) ∷ []
segments_with cut row (segment ∷ segments) =
    if is_break cut row.0 then (row ∷ []) ∷ segment ∷ segments else (row ∷ segment) ∷ segments

-- the segments: runs of rows that end with a break key or at the end, with no break key before
abbrev pub segments : Cut → List (List ℕ × EntryValue) → List (List (List ℕ × EntryValue))
segments cut [] = []
segments cut (row ∷ rows) = segments_with cut row (segments cut rows)

-- the path of the last row; the one before where there is no row
abbrev pub last_path : Option (List ℕ) → List (List ℕ × EntryValue) → Option (List ℕ)
last_path before [] = before
last_path before (row ∷ rows) = last_path (Some row.0) rows

-- each segment with the path that it follows, `before` at the front
abbrev pub with_paths_before : Option (List ℕ) → List (List (List ℕ × EntryValue)) → List (Option (List ℕ) × List (List ℕ × EntryValue))
with_paths_before before [] = []
with_paths_before before (segment ∷ segments) = (before, segment) ∷ with_paths_before (last_path before segment) segments

-- each segment of rows with the path that it follows, none at the front
abbrev pub placed_segments : Cut → List (List ℕ × EntryValue) → List (Option (List ℕ) × List (List ℕ × EntryValue))
placed_segments cut rows = with_paths_before None (segments cut rows)

-- both come first, or follow the same path
abbrev pub same_before : Option (List ℕ) → Option (List ℕ) → Bool
same_before None None = true
same_before None (Some path) = false
same_before (Some path) None = false
same_before (Some path) (Some other) = bytes_eq path other

-- equal rows that follow the same
abbrev pub same_segment : Option (List ℕ) × List (List ℕ × EntryValue) → Option (List ℕ) × List (List ℕ × EntryValue) → Bool
same_segment segment other = same_before segment.0 other.0 && pointwise same_row segment.1 other.1

-- a segment of the new rows is carried over where the old ones have it, following the same; else it is changed
abbrev pub changed_segments : Cut → List (List ℕ × EntryValue) → List (List ℕ × EntryValue) → List (Option (List ℕ) × List (List ℕ × EntryValue))
changed_segments cut old new = filter (λ segment. not (list_any (same_segment segment) (placed_segments cut old))) (placed_segments cut new)

-- how many ranges stand in changed segments
abbrev pub changed_ranges : Cut → List (List ℕ × EntryValue) → List (List ℕ × EntryValue) → ℕ
changed_ranges cut old new = sum_by (λ segment. length (ranges cut segment.1)) (changed_segments cut old new)
