-- What is shown of lines that send nothing (this project's profile).
use Rattle.std.specs.Prelude.{ℕ, List, [], ◌++◌, codes}
use Rattle.lakectl_shown.specs.declared.showing.Shown.{Shown}
use Rattle.lakectl_verbs.specs.declared.fault.UsageFault.{UsageFault}
use Rattle.lakectl_verbs.specs.declared.fault.UsageFault.TheVariants as usage

-- nothing is shown, and all is well
abbrev pub nothing_shown : Shown
nothing_shown = record { out = []; err = []; status = 0 }

-- a text on the errors' side, with a status
abbrev pub error_shown : (words : List ℕ) → (status : ℕ) → Shown
error_shown words status = record { out = []; err = codes "Error: " ++ words ++ codes "\n"; status = status }

-- the words for a fault of words
abbrev pub usage_words : UsageFault → List ℕ
usage_words usage.NoCommand = codes "no command"
usage_words usage.Unknown = codes "unknown command"
usage_words usage.Words = codes "bad words"
usage_words usage.Uri = codes "bad URI"
usage_words (usage.Value name) = codes "bad value for " ++ name
usage_words usage.NoMemory = codes "out of memory"

-- a fault of words
abbrev pub usage_shown : UsageFault → Shown
usage_shown fault = error_shown (usage_words fault) 2

-- a file that isn't there
abbrev pub no_file_shown : (name : List ℕ) → Shown
no_file_shown name = error_shown (codes "no such file: " ++ name) 1

-- a line that is too long or isn't UTF-8
abbrev pub bad_line_shown : Shown
bad_line_shown = error_shown (codes "bad line") 1
