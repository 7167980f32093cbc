-- Files in memory, of which some can't be written.
use Rattle.std.specs.Prelude.{ℕ, Bool, List, refl}
use Rattle.std.specs.Coded.{Coded, code_by, coded×, coded_ℕ, coded_list}
use Rattle.std.specs.List.{list_any}
use Rattle.std.specs.Str.{bytes_eq}
use Rattle.std.specs.FinMap as map
use Rattle.lakectl_commands.specs.HeldFiles.{HeldFiles}

-- the files that are there, the names of those that can't be written, and how often one of these was to be written
pub record MemoryFilesValue : Type 0 where
  pub files : HeldFiles
  pub refused : List (List ℕ)
  pub faults : ℕ

-- it is stored as its fields
abbrev pub memory_files_code : Coded MemoryFilesValue
memory_files_code =
    code_by (HeldFiles × (List (List ℕ) × ℕ)) (coded× (map.code (coded_list coded_ℕ) (coded_list coded_ℕ)) (coded× (coded_list (coded_list coded_ℕ)) coded_ℕ))
    (λ f. (f.files, (f.refused, f.faults))) (λ p. record { files = p.0; refused = p.1.0; faults = p.1.1 }) (λ _. refl)

-- whether the file of this name can't be written
abbrev pub is_refused : List ℕ → List (List ℕ) → Bool
is_refused name refused = list_any (λ other. bytes_eq other name) refused
