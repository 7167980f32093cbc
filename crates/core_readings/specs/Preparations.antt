-- What is handed out for a new head of a branch, and what is asked of the commits of a merge or a pick.
use Rattle.std.specs.Prelude.{◌≡◌, List, ℕ, Some, option_map, Result, Ok, Err}
use Rattle.std.specs.FinMap.{get}
use Rattle.lake_format.specs.Cutting.{files}
use Rattle.lake_format.specs.declared.cut.Cut.{Cut}
use Rattle.meta_range.specs.Trio.{TrioValue}
use Rattle.lake_model.specs.declared.fault.StepFault.{StepFault}
use Rattle.lake_model.specs.declared.reply.Sides.{Sides}
use Rattle.lake_model.specs.declared.reply.Sides.TheVariants.{Merge, Pick}
use Rattle.lake_model.specs.Preparing.{PreparedValue}
use Rattle.lake_model.specs.State.{HasCommit, Repository, State}
use Rattle.core_readings.specs.declared.prepared.Prepared.{Prepared}

-- the commits of a merge or a pick are commits of a repository
abbrev pub AreCommits : Repository → Sides → Type 0
AreCommits r (Merge source) = HasCommit r source
AreCommits r (Pick base source) = HasCommit r base × HasCommit r source

-- they are commits of the repository of a name, where it is there
abbrev pub HasSides : State → List ℕ → Sides → Type 0
HasSides state repo sides = (r : Repository) → get state.repositories repo ≡ Some r → AreCommits r sides

-- the trees of the base and the source have the files that a cut gives of their maps
abbrev pub HasCutSides : Cut → TrioValue → Type 0
HasCutSides cut trio = (trio.base.files ≡ files cut trio.base.map) × (trio.source.files ≡ files cut trio.source.map)

-- what was handed out, as the one-thread lake's reply has it: trees by their maps
abbrev pub prepared_value : Prepared → PreparedValue
prepared_value p = record {
  at = p.at;
  version = p.version;
  settings = p.settings;
  head = p.head;
  sealed = p.sealed;
  objects = p.tree.value.map;
  rules = p.rules.value;
  sides = option_map (λ trio. (trio.base.map, trio.source.map)) p.trio;
  cut = p.cut;
}

abbrev pub prepared_answer : Result Prepared StepFault → Result PreparedValue StepFault
prepared_answer (Ok p) = Ok (prepared_value p)
prepared_answer (Err fault) = Err fault
