-- What the lines of the generator came to.
use Rattle.std.specs.Prelude.{ℕ, ◌+◌, ◌&&◌, ◌||◌, not, Bool, if◌then◌else◌, List, [], ◌∷◌, ◌++◌, length, take, codes}
use Rattle.std.specs.List.{list_any}
use Rattle.std.specs.Str.{bytes_eq}
use Rattle.batch_lines.specs.ServedLines.{LineEffect}
use Rattle.batch_lines.specs.declared.status.ExitStatus.{ExitStatus}
use Rattle.batch_lines.specs.declared.status.ExitStatus.TheVariants.{OutOfMemory, Refused}

-- a commit or a merge found no changes
abbrev pub no_changes_text : List ℕ
no_changes_text = codes "Error: no changes [400]" ++ 10 ∷ []

-- a line that wasn't done, for another reason than that
abbrev pub is_failure : LineEffect → Bool
is_failure effect = not (effect.done || bytes_eq effect.text no_changes_text)

abbrev pub any_failure : List LineEffect → Bool
any_failure effects = list_any is_failure effects

-- the status of a run that ends at such a line
abbrev pub failure_status : LineEffect → ExitStatus
failure_status effect = if effect.starved then OutOfMemory else Refused

-- whether a line begins with these words
abbrev pub begins : (words line : List ℕ) → Bool
begins words line = bytes_eq (take (length words) line) words

-- an upload, and a commit or a merge
abbrev pub is_upload : List ℕ → Bool
is_upload line = begins (codes "fs upload ") line

abbrev pub is_head : List ℕ → Bool
is_head line = begins (codes "commit ") line || begins (codes "merge ") line

-- how many of the lines that pass a test were done
abbrev pub done_of : (List ℕ → Bool) → (lines : List (List ℕ)) → List LineEffect → ℕ
done_of test (line ∷ lines) (effect ∷ effects) = (if test line && effect.done then 1 else 0) + done_of test lines effects
done_of test lines effects = 0

-- the uploads that were done, and the commits and merges
abbrev pub uploads_done : (lines : List (List ℕ)) → List LineEffect → ℕ
uploads_done lines effects = done_of is_upload lines effects

abbrev pub heads_done : (lines : List (List ℕ)) → List LineEffect → ℕ
heads_done lines effects = done_of is_head lines effects
