use Rattle.std.proofs.Common.{◌∙◌, sym, ap}
use Rattle.std.specs.FinMap.{get}
use Rattle.byte_map.proofs.ByteMapLemmas.{get_empty}
use Rattle.meta_range.specs.Ranges.{TreeValue}
use Rattle.lake_values.specs.KeyMap.{KeyMapValue}
use Rattle.core_state.specs.RepositoryStates.{repository_value}
use Rattle.core_readings.proofs.EntryLemmas.{map_there, map_missing}
use Rattle.core_readings.proofs.entries.map_entry.Goals as goal

pub returns-in-Some : goal.returns-in-Some
returns-in-Some c =
    c.get.ensures ∙ ap (λ (tree : TreeValue). get tree.map c.args.path.now) c.deref.ensures
    ∙ ap (λ (map : KeyMapValue). get map c.args.path.now)
    (map_there (repository_value c.args.repository.now) c.args.id.now c.in-Some.tree.now.value c.in-Some.ensures)

pub returns-in-None : goal.returns-in-None
returns-in-None c =
    sym (get_empty c.args.path.now)
    ∙ ap (λ (map : KeyMapValue). get map c.args.path.now) (map_missing (repository_value c.args.repository.now) c.args.id.now c.in-None.ensures)
