-- The version of `main` after an entry that gives it one.
use Rattle.std.proofs.Common.{◌≡◌, ℕ, ap, ◌∙◌}
use Rattle.std.specs.Prelude.{Option, option_and_then}
use Rattle.std.specs.Option.{unwrap_or}
use Rattle.std.specs.FinMap.{get, insert, empty, get-insert, get-empty}
use Rattle.std.specs.Cmp.Lexicographic.{nat_list_cmp_total}
use Rattle.lake_base.specs.Maps.{ByteMap, byte_order}
use Rattle.lake_model.specs.Versions.{VersionsGiven, branch_version, settings_version, fresh_versions, with_branch_version}
use Rattle.law_examples.specs.HistoryWords.{quickstart, main}

-- `main` is given the next version
pub version_given : (given : VersionsGiven) → branch_version (with_branch_version quickstart main given) quickstart main ≡ given.next
version_given given =
    let names = unwrap_or (get given.branches quickstart) empty in
    ap (λ (o : Option (ByteMap ℕ)). unwrap_or (option_and_then (λ (m : ByteMap ℕ). get m main) o) 0)
    (get-insert nat_list_cmp_total given.branches quickstart (insert names main given.next) quickstart)
    ∙ ap (λ (o : Option ℕ). unwrap_or o 0) (get-insert nat_list_cmp_total names main given.next main)

-- the first version of `main`
pub first_version : branch_version fresh_versions quickstart main ≡ 1
first_version =
    ap (λ (o : Option (ByteMap ℕ)). unwrap_or (option_and_then (λ (m : ByteMap ℕ). get m main) o) 0)
    (get-insert nat_list_cmp_total empty quickstart (insert empty main 1) quickstart)
    ∙ ap (λ (o : Option ℕ). unwrap_or o 0) (get-insert nat_list_cmp_total empty main 1 main)

pub no_settings : (given : VersionsGiven) → given.settings ≡ empty → settings_version given quickstart ≡ 0
no_settings given none = ap (λ (m : ByteMap ℕ). unwrap_or (get m quickstart) 0) none ∙ ap (λ (o : Option ℕ). unwrap_or o 0) (get-empty byte_order quickstart)
