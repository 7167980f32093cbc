-- How values of a lake's state are told apart: the code of each from those of its parts.
use Rattle.std.specs.Prelude.{ℕ, Bool, List, Option, refl}
use Rattle.std.specs.Coded.{Coded, code_by, coded×, coded_bool, coded_list, coded_option, coded_ℕ}
use Rattle.std.specs.FinMap.{FinMap, code}
use Rattle.std.specs.Ordering.{nat_cmp}
use base.Stored.{coded_unit}
use Rattle.lake_base.specs.Maps.{ByteMap}
use Rattle.lake_base.specs.declared.digest.Digest.{Digest}
use Rattle.lake_base.specs.contracts.digest.Digest.{the_row as digest_row}
use Rattle.lake_values.specs.Ancestry.{Graph}
use Rattle.lake_values.specs.KeyMap.{ChangesValue, KeyMapValue}
use Rattle.lake_values.specs.Settings.{RulesValue}
use Rattle.lake_values.specs.declared.settings.HookRule.{HookRule}
use Rattle.lake_values.specs.contracts.commit.CommitRecord.{the_row as commit_row}
use Rattle.lake_values.specs.contracts.entry.Change.{the_row as change_row}
use Rattle.lake_values.specs.contracts.entry.Entry.{the_row as entry_row}
use Rattle.lake_values.specs.contracts.settings.HookRule.{the_row as hook_row}
use Rattle.lake_values.specs.contracts.settings.Rules.{the_row as rules_row}
use Rattle.lake_format.specs.declared.cut.Cut.{Cut}
use Rattle.lake_format.specs.contracts.cut.Cut.{the_row as cut_row}
use Rattle.lake_model.specs.State.{Branch, Notes, Repository, State}

-- of a map from byte strings
abbrev pub bytes_map_code : {X : Type 0} → Coded X → Coded (ByteMap X)
bytes_map_code x = code (coded_list coded_ℕ) x

abbrev pub branch_code : Coded Branch
branch_code =
    code_by (Digest × (ChangesValue × ChangesValue))
    (coded× digest_row.coded (coded× (bytes_map_code change_row.coded) (bytes_map_code change_row.coded)))
    (λ b. (b.head, (b.sealed, b.staged))) (λ p. record { head = p.0; sealed = p.1.0; staged = p.1.1 }) (λ _. refl)

abbrev pub notes_code : Coded Notes
notes_code =
    code_by (Option RulesValue × (Option (List (List ℕ)) × Option (List HookRule)))
    (coded× (coded_option rules_row.coded) (coded× (coded_option (coded_list (coded_list coded_ℕ))) (coded_option (coded_list hook_row.coded))))
    (λ n. (n.retention, (n.protection, n.hooks))) (λ p. record { retention = p.0; protection = p.1.0; hooks = p.1.1 }) (λ _. refl)

-- what names the commits of a repository, and what is kept of them
abbrev pub Named : Type 0
Named = (ℕ × List ℕ) × (ByteMap Branch × ByteMap Digest)

abbrev pub Kept : Type 0
Kept = (Graph × ByteMap KeyMapValue) × (ByteMap (Unit {0}) × Notes)

abbrev pub named_code : Coded Named
named_code = coded× (coded× coded_ℕ (coded_list coded_ℕ)) (coded× (bytes_map_code branch_code) (bytes_map_code digest_row.coded))

abbrev pub kept_code : Coded Kept
kept_code =
    coded× (coded× (bytes_map_code commit_row.coded) (bytes_map_code (bytes_map_code entry_row.coded)))
    (coded× (bytes_map_code coded_unit) notes_code)

abbrev pub repository_code : Coded Repository
repository_code =
    code_by (Named × Kept) (coded× named_code kept_code)
    (λ r. (((r.created, r.default_branch), (r.branches, r.tags)), ((r.commits, r.maps), (r.expired, r.notes))))
    (λ p. record {
      created = p.0.0.0;
      default_branch = p.0.0.1;
      branches = p.0.1.0;
      tags = p.0.1.1;
      commits = p.1.0.0;
      maps = p.1.0.1;
      expired = p.1.1.0;
      notes = p.1.1.1;
    }) (λ _. refl)

-- the numbers of a lake, and whether it is stopped
abbrev pub Counted : Type 0
Counted = (ℕ × (FinMap nat_cmp ℕ × FinMap nat_cmp (Unit {0}))) × (Bool × ℕ)

abbrev pub counted_code : Coded Counted
counted_code = coded× (coded× coded_ℕ (coded× (code coded_ℕ coded_ℕ) (code coded_ℕ coded_unit))) (coded× coded_bool coded_ℕ)

abbrev pub state_code : Coded State
state_code =
    code_by ((Cut × ByteMap Repository) × Counted) (coded× (coded× cut_row.coded (bytes_map_code repository_code)) counted_code)
    (λ s. ((s.cut, s.repositories), ((s.next_number, (s.tickets, s.gone)), (s.stopped, s.entries))))
    (λ p. record {
      cut = p.0.0;
      repositories = p.0.1;
      next_number = p.1.0.0;
      tickets = p.1.0.1.0;
      gone = p.1.0.1.1;
      stopped = p.1.1.0;
      entries = p.1.1.1;
    }) (λ _. refl)
