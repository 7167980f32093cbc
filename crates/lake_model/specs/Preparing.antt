-- What is handed out of a lake for work beside it: for a new head of a branch, and for the collector.
use Rattle.std.specs.Prelude.{ℕ, not, List, [], ◌∷◌, map, Option, Some, None, option_map, Result, Err, if◌then◌else◌}
use Rattle.std.specs.FinMap.{entries, get, keys}
use Rattle.std.specs.List.{filter, flat_map}
use Rattle.std.specs.Option.{option_map_or, unwrap_or}
use Rattle.lake_base.specs.declared.digest.Digest.{Digest}
use Rattle.lake_values.specs.Ancestry.{Graph, base, id_of, ids}
use Rattle.lake_values.specs.KeyMap.{KeyMapValue, ChangesValue}
use Rattle.lake_values.specs.Merging.{base_map}
use Rattle.lake_values.specs.Settings.{RulesValue}
use Rattle.lake_values.specs.declared.settings.HookRule.{HookRule}
use Rattle.lake_format.specs.declared.cut.Cut.{Cut}
use Rattle.lake_model.specs.declared.fault.StepFault.{StepFault}
use Rattle.lake_model.specs.declared.fault.StepFault.TheVariants.{NoRef, Expired}
use Rattle.lake_model.specs.declared.fault.Reference.TheVariants.{Named}
use Rattle.lake_model.specs.declared.reply.Sides.{Sides}
use Rattle.lake_model.specs.declared.reply.Sides.TheVariants.{Merge, Pick}
use Rattle.lake_model.specs.State.{Branch, Repository, State, head_map, is_expired, map_of}
use Rattle.lake_model.specs.Refusals.{unless_refused}
use Rattle.lake_model.specs.Removal.{heads_of, tagged_of}
use Rattle.lake_model.specs.Resolving.{in_repository_of}
use Rattle.lake_model.specs.Versions.{VersionsGiven, branch_version, settings_version}

-- what a new head of a branch is made from: the versions by which it is guarded, the head, the sealed changes, the head's
-- map, the hooks, the maps of a merge's base and source, and the cut
pub record PreparedValue : Type 0 where
  pub at : ℕ
  pub version : ℕ
  pub settings : ℕ
  pub head : Digest
  pub sealed : ChangesValue
  pub objects : KeyMapValue
  pub rules : List HookRule
  pub sides : Option (KeyMapValue × KeyMapValue)
  pub cut : Cut

-- the maps of the base and the source; the base of a merge is the merge base of the head and the source
abbrev pub side_maps : Repository → Branch → Sides → KeyMapValue × KeyMapValue
side_maps r b (Merge source) = (base_map (option_map (map_of r) (base r.commits b.head source)), map_of r source)
side_maps r b (Pick base source) = (map_of r base, map_of r source)

-- the commit whose changes are taken
abbrev pub source_of : Sides → Digest
source_of (Merge source) = source
source_of (Pick base source) = source

abbrev pub preparation : State → VersionsGiven → List ℕ → List ℕ → Option Sides → Repository → Branch → PreparedValue
preparation state given repo branch sides r b = record {
  at = state.entries;
  version = branch_version given repo branch;
  settings = settings_version given repo;
  head = b.head;
  sealed = b.sealed;
  objects = head_map r b;
  rules = unwrap_or r.notes.hooks [];
  sides = option_map (side_maps r b) sides;
  cut = state.cut;
}

-- the fault of a source that is expired
abbrev pub expired_source : Repository → Sides → Option StepFault
expired_source r sides = if is_expired r (source_of sides) then Some (Expired (source_of sides)) else None

abbrev pub prepare_reply : State → VersionsGiven → List ℕ → List ℕ → Option Sides → Result PreparedValue StepFault
prepare_reply state given repo branch sides = in_repository_of state repo (λ r. option_map_or
    (λ b. unless_refused (option_map_or (expired_source r) sides None) (preparation state given repo branch sides r b))
    (get r.branches branch) (Err (NoRef Named)))

-- what the rules of retention are asked of a repository
pub record RepoRefsValue : Type 0 where
  pub name : List ℕ
  pub heads : List (List ℕ × Digest)
  pub tags : List Digest
  pub graph : Graph
  pub rules : Option RulesValue
  pub expired : List Digest

abbrev pub refs_of : List ℕ × Repository → RepoRefsValue
refs_of one = record {
  name = one.0;
  heads = heads_of one.1;
  tags = tagged_of one.1;
  graph = one.1.commits;
  rules = one.1.notes.retention;
  expired = map id_of (keys one.1.expired);
}

-- the repositories by name, with the version of the references
pub record RefsValue : Type 0 where
  pub at : ℕ
  pub version : ℕ
  pub repos : List RepoRefsValue

abbrev pub refs_reply : State → VersionsGiven → RefsValue
refs_reply state given =
    record { at = state.entries; version = given.references; repos = map refs_of (entries state.repositories) }

-- what tells which numbers are named: tickets, the changes of branches, and the maps of commits that aren't expired
pub record MarkedValue : Type 0 where
  pub at : ℕ
  pub next : ℕ
  pub gone : List ℕ
  pub tickets : List ℕ
  pub uncommitted : List ChangesValue
  pub maps : List KeyMapValue

-- the changes of the branches of a repository
abbrev pub uncommitted_in : Repository → List ChangesValue
uncommitted_in r = flat_map (λ b. b.1.sealed ∷ b.1.staged ∷ []) (entries r.branches)

-- the maps of its commits that aren't expired
abbrev pub live_maps : Repository → List KeyMapValue
live_maps r = map (map_of r) (filter (λ id. not (is_expired r id)) (ids r.commits))

abbrev pub mark_reply : State → MarkedValue
mark_reply state = record {
  at = state.entries;
  next = state.next_number;
  gone = keys state.gone;
  tickets = keys state.tickets;
  uncommitted = flat_map (λ one. uncommitted_in one.1) (entries state.repositories);
  maps = flat_map (λ one. live_maps one.1) (entries state.repositories);
}
