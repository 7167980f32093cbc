-- A draft stays ready while both versions stay, whatever legal entries follow.
use Rattle.std.proofs.Common.{◌≡◌, ◌++◌, ◌∷◌, ◌==◌, ℕ, true, List, [], Some, None, Option, option_map, refl, sym, ap, ◌∙◌, subst}
use Rattle.std.specs.Prelude.{Ok}
use Rattle.std.specs.FinMap.{get}
use Rattle.std.specs.Option.{is_some, option_and_then}
use Rattle.std.proofs.lemmas.Bool.{and_parts, eqb-true}
use Rattle.lake_base.specs.declared.digest.Digest.{Digest}
use Rattle.lake_values.specs.Ancestry.{base, commit_of}
use Rattle.lake_values.specs.Commit.{AboutValue, CommitRecordValue}
use Rattle.lake_values.specs.KeyMap.{apply}
use Rattle.lake_values.specs.Merging.{base_map, is_refused, merged_map}
use Rattle.lake_values.specs.declared.commit.Strategy.{Strategy}
use Rattle.lake_values.proofs.AncestryOrderLemmas.{base_is}
use Rattle.lake_format.specs.Cutting.{files}
use Rattle.meta_range.specs.Ranges.{TreeValue}
use Rattle.lake_model.specs.declared.history.HistoryEntry.{HistoryEntry}
use Rattle.lake_model.specs.declared.reply.Sides.{Sides}
use Rattle.lake_model.specs.declared.reply.SwapKind.{SwapKind}
use Rattle.lake_model.specs.declared.reply.SwapKind.TheVariants as kind
use Rattle.lake_model.specs.State.{Branch, HasCommit, Repository, State, branch_of, head_map, map_of, sealed_map}
use Rattle.lake_model.specs.Commits.{Draft, IsMergeable, MergeSides, denied_by, merge_sides, pick_sides}
use Rattle.lake_model.specs.History.{IsLegal, replay}
use Rattle.lake_model.specs.Preparing.{PreparedValue, prepare_reply}
use Rattle.lake_model.specs.Soundness.{IsSound}
use Rattle.lake_model.specs.Steps.{is_current, swap_rule}
use Rattle.lake_model.specs.Versions.{AreBelowNext, VersionsGiven, branch_version, count_versions, settings_version, versions_after}
use Rattle.lake_laws.proofs.BasesLemmas.{bases_in, keeps_commits}
use Rattle.lake_laws.proofs.BranchLemmas.{branch_same}
use Rattle.lake_laws.proofs.HistoryLemmas.{IsLegal-later, kept-replay, replay-append}
use Rattle.lake_laws.proofs.RepositoryLemmas.{cut_after}
use Rattle.lake_laws.proofs.SettingsLemmas.{notes_same}
use Rattle.lake_laws.proofs.VersionLemmas.{AreBelowNext-after}
use Rattle.lake_laws.specs.Prepared.{IsWorthMaking}
use Rattle.core_readings.specs.Preparations.{HasSides}
use Rattle.core_state.specs.Counts.{versions_of}
use Rattle.core_state.specs.declared.lake.LakeState.{LakeState}
use Rattle.core_state.specs.LakeStates.{lake_value, state_of}
use Rattle.core_standing.specs.Standing.{versions_since}
use Rattle.lake_core.specs.HeadConditions.{IsReadyFor, IsReadyOn}
use Rattle.lake_core.specs.Lakes.{LakeValue, state, versions}
use Rattle.head_drafts.specs.Drafts.{IsDraft, drafted_map}
use Rattle.head_drafts.specs.declared.heads.HeadDraft.{HeadDraft}
use Rattle.head_drafts.specs.HeadDrafts.{Waits, sides_of, strategy_of}
use Rattle.head_drafts.proofs.ReadyLemmas.{handed_there, ready_there}

-- ---- a branch of the same head and the same sealed changes, in a repository that has the commits and the settings of before

module _ (early late : State) (repo : List ℕ) (r s : Repository) (b c : Branch)
    (cut : late.cut ≡ early.cut) (head : c.head ≡ b.head) (sealed : c.sealed ≡ b.sealed) (notes : s.notes ≡ r.notes)
    (there : HasCommit r b.head) (maps : (id : Digest) → HasCommit r id → HasCommit s id × (map_of s id ≡ map_of r id))
    (bases : (x y : Digest) → HasCommit r x → HasCommit r y → base s.commits x y ≡ base r.commits x y)
    (in_graph : (x y id : Digest) → base r.commits x y ≡ Some id → HasCommit r id) where
  same_head_map : head_map s c ≡ head_map r b
  same_head_map = ap (map_of s) head ∙ (maps b.head there).1

  same_sealed_map : sealed_map s c ≡ sealed_map r b
  same_sealed_map = λ i. apply (sealed i) (same_head_map i)

  -- sides that are the same make the same map, which is mergeable where it was
  module _ (new old : MergeSides) (same : new ≡ old) where
    same_merged : merged_map new.strategy new.base new.source (head_map s c) ≡ merged_map old.strategy old.base old.source (head_map r b)
    same_merged = λ i. merged_map (same i).strategy (same i).base (same i).source (same_head_map i)

    still_mergeable : IsMergeable r b old → IsMergeable s c new
    still_mergeable is = record {
      clean = same_sealed_map ∙ is.clean ∙ sym same_head_map;
      changed = λ unchanged. is.changed (ap (λ (m : MergeSides). m.source) (sym same) ∙ unchanged ∙ ap (λ (m : MergeSides). m.base) same);
      settled = (λ i. is_refused (same i).strategy (same i).base (same i).source (same_head_map i)) ∙ is.settled;
    }

  same_maps_of : (o : Option Digest) → ((id : Digest) → o ≡ Some id → HasCommit r id) → option_map (map_of s) o ≡ option_map (map_of r) o
  same_maps_of None each = refl
  same_maps_of (Some id) each = ap Some (maps id (each id refl)).1

  same_merge_sides : (source : Digest) (strategy : Strategy) → HasCommit r source → merge_sides s c source strategy ≡ merge_sides r b source strategy
  same_merge_sides source strategy has =
      let found : base s.commits c.head source ≡ base r.commits b.head source = ap (λ x. base s.commits x source) head ∙ bases b.head source there has in
      let old : option_map (map_of s) (base s.commits c.head source) ≡ option_map (map_of r) (base r.commits b.head source) =
      ap (option_map (map_of s)) found ∙ same_maps_of (base r.commits b.head source) (in_graph b.head source) in
      (λ i. record { base = base_map (old i); source = (maps source has).1 i; strategy = strategy })

  same_pick_sides : (from source : Digest) (strategy : Strategy) → HasCommit r from → HasCommit r source
      → pick_sides s from source strategy ≡ pick_sides r from source strategy
  same_pick_sides from source strategy at has = λ i. record { base = (maps from at).1 i; source = (maps source has).1 i; strategy = strategy }

  -- the same is drafted, and it is as worth making
  module _ (branch : List ℕ) (about : AboutValue) (tree : TreeValue) where
    ready_as_before : (swap : SwapKind) → (swap_rule swap about).draft s c ≡ (swap_rule swap about).draft r b → IsWorthMaking swap s c
        → IsReadyOn early branch swap about tree r b → IsReadyOn late branch swap about tree s c
    ready_as_before swap same worth is = record {
      worth = worth;
      allowed = (λ i. denied_by (notes i).hooks branch (same_head_map i) (same i)) ∙ is.allowed;
      drafted = record {
        map = is.drafted.map ∙ ap (λ (d : Draft). d.objects) (sym same);
        files = is.drafted.files ∙ (λ i. files (sym cut i) (sym same i).objects);
      };
    }

    pub still_ready : (swap : SwapKind) → IsReadyOn early branch swap about tree r b → IsReadyOn late branch swap about tree s c
    still_ready kind.Commit is =
        ready_as_before kind.Commit (λ i. record { parents = head i ∷ []; objects = same_sealed_map i; about = about })
        (λ same. is.worth (sym same_sealed_map ∙ same ∙ same_head_map)) is
    still_ready (kind.Merge source strategy) is =
        let sides = same_merge_sides source strategy is.worth.0 in
        ready_as_before (kind.Merge source strategy)
        (λ i. record {
          parents = head i ∷ source ∷ [];
          objects = same_merged (merge_sides s c source strategy) (merge_sides r b source strategy) sides i;
          about = about;
        })
        ((maps source is.worth.0).0, still_mergeable (merge_sides s c source strategy) (merge_sides r b source strategy) sides is.worth.1) is
    still_ready (kind.Pick from source strategy) is =
        let sides = same_pick_sides from source strategy is.worth.0 is.worth.1 in
        ready_as_before (kind.Pick from source strategy)
        (λ i. record {
          parents = head i ∷ [];
          objects = same_merged (pick_sides s from source strategy) (pick_sides r from source strategy) sides i;
          about = about;
        }) (
          (maps from is.worth.0).0,
          (maps source is.worth.1).0,
          still_mergeable (pick_sides s from source strategy) (pick_sides r from source strategy) sides is.worth.2,
        ) is

-- ---- after legal entries

commit_there : (r : Repository) (id : Digest) → HasCommit r id → (c : CommitRecordValue) × (commit_of r.commits id ≡ Some c)
commit_there r id = by (commit_of r.commits id) refl
  where
    by : (o : Option CommitRecordValue) → commit_of r.commits id ≡ o → HasCommit r id → (c : CommitRecordValue) × (commit_of r.commits id ≡ Some c)
    by (Some c) is there = (c, is)
    by None is there = let none = ap is_some is in absurd cc

module _ (state : State) (given : VersionsGiven) (later : List HistoryEntry) (repo branch : List ℕ)
    (sound : IsSound state) (below : AreBelowNext given) (legal : IsLegal state later) (r s : Repository) (b c : Branch)
    (at : get state.repositories repo ≡ Some r) (on : get r.branches branch ≡ Some b)
    (after : get (replay state later).repositories repo ≡ Some s) (on_later : get s.branches branch ≡ Some c)
    (version : branch_version given repo branch ≡ branch_version (count_versions given later) repo branch)
    (settings : settings_version given repo ≡ settings_version (count_versions given later) repo) where
  abbrev late : State
  late = replay state later

  same_cut : late.cut ≡ state.cut
  same_cut = kept-replay (λ x. x.cut ≡ state.cut) later state (λ x entry may is. cut_after x entry ∙ is) legal refl

  branch_at : (x : State) (q : Repository) (d : Branch) → get x.repositories repo ≡ Some q → get q.branches branch ≡ Some d → branch_of x repo branch ≡ Some d
  branch_at x q d is has = ap (option_and_then (λ p. get p.branches branch)) is ∙ has

  same_branch : (c.head ≡ b.head) × (c.sealed ≡ b.sealed)
  same_branch = branch_same state given [] later repo branch b c below legal (branch_at state r b at on) (branch_at late s c after on_later) version

  same_notes : s.notes ≡ r.notes
  same_notes = notes_same state given [] later repo r s below legal at after settings

  kept_maps : (id : Digest) → HasCommit r id → HasCommit s id × (map_of s id ≡ map_of r id)
  kept_maps id has =
      let one = commit_there r id has in
      let kept = keeps_commits state later repo r sound legal at s after id one.0 one.1 in
      (ap is_some kept.0, kept.1)

  pub ready_later : (swap : SwapKind) (about : AboutValue) (tree : TreeValue) → IsReadyOn state branch swap about tree r b
      → IsReadyOn late branch swap about tree s c
  ready_later swap about tree =
      still_ready state late repo r s b c same_cut same_branch.0 same_branch.1 same_notes
      ((sound.repositories repo r at).heads branch b on).0 kept_maps
      (λ x y has also. bases_in state later repo r sound legal at x y has also s after)
      (λ x y id is. (base_is r.commits (sound.repositories repo r at).graph x y id is).common.0.0)
      branch about tree swap

-- ---- the condition of a new head

-- both versions are those now
both_are : (given : VersionsGiven) (repo branch : List ℕ) (version settings : ℕ) → is_current given repo branch version settings ≡ true
    → (version ≡ branch_version given repo branch) × (settings ≡ settings_version given repo)
both_are given repo branch version settings is =
    let both = and_parts (version == branch_version given repo branch) (settings == settings_version given repo) is in
    (eqb-true version (branch_version given repo branch) both.0, eqb-true settings (settings_version given repo) both.1)

-- a draft that was ready by the versions of then is ready by them whatever legal entries follow
pub ready_by_then : (state : State) (given : VersionsGiven) (later : List HistoryEntry) (repo branch : List ℕ) (version settings : ℕ) (swap : SwapKind)
    (about : AboutValue) (tree : TreeValue) (r : Repository) (b : Branch) → IsSound state → AreBelowNext given → IsLegal state later
    → get state.repositories repo ≡ Some r → get r.branches branch ≡ Some b
    → branch_version given repo branch ≡ version → settings_version given repo ≡ settings → IsReadyOn state branch swap about tree r b
    → IsReadyFor (replay state later) (count_versions given later) repo branch version settings swap about tree
ready_by_then state given later repo branch version settings swap about tree r b sound below legal at on is also ready current s c after on_later =
    let both = both_are (count_versions given later) repo branch version settings current in
    ready_later state given later repo branch sound below legal r s b c at on after on_later (is ∙ both.0) (also ∙ both.1) swap about tree ready

-- so is what was drafted of what a lake handed out
module _ (state : State) (given : VersionsGiven) (repo branch : List ℕ) (swap : SwapKind) (about : AboutValue) (p : PreparedValue) (tree : TreeValue)
    (is : prepare_reply state given repo branch (sides_of swap) ≡ Ok p)
    (have : (sides : Sides) → sides_of swap ≡ Some sides → HasSides state repo sides) where
  pub waits : IsSound state → AreBelowNext given → IsDraft p.cut (drafted_map (strategy_of swap) p branch about.metadata) (Ok tree)
      → Waits state given repo branch swap about (record { version = p.version; settings = p.settings; tree = tree })
  waits sound below made later legal =
      let found = handed_there state given repo branch (sides_of swap) p is in
      ready_by_then state given later repo branch p.version p.settings swap about tree found.r found.b sound below legal found.at found.on
      (ap (λ (x : PreparedValue). x.version) found.same) (ap (λ (x : PreparedValue). x.settings) found.same)
      (ready_there state given repo branch about swap p tree have found.r found.b found.at found.same made)

-- ---- a lake that goes on

-- versions stay below the next one
pub below_after : (given : VersionsGiven) (entries : List HistoryEntry) → AreBelowNext given → AreBelowNext (count_versions given entries)
below_after given [] below = below
below_after given (entry ∷ entries) below = below_after (versions_after given entry) entries (AreBelowNext-after given entry below)

-- and are counted on
count-append : (given : VersionsGiven) (first later : List HistoryEntry)
    → count_versions given (first ++ later) ≡ count_versions (count_versions given first) later
count-append given [] later = refl
count-append given (entry ∷ first) later = count-append (versions_after given entry) first later

-- a lake that goes on from another one has its entries and more
module _ {K : Type 0} (before now : LakeValue K) (later : List HistoryEntry) (repo branch : List ℕ) (swap : SwapKind) (about : AboutValue)
    (head : HeadDraft) where
  abbrev ready_of : State → VersionsGiven → Type 0
  ready_of state given = IsReadyFor state given repo branch head.version head.settings swap about head.tree

  abbrev ready_in : LakeState → List HistoryEntry → Type 0
  ready_in opened history = ready_of (replay (state_of (lake_value opened)) history) (versions_since (lake_value opened) history)

  pub later_swap : Waits (state before) (versions before) repo branch swap about head → now.opened ≡ before.opened
      → now.history ≡ before.history ++ later
      → IsLegal (state_of (lake_value now.opened)) now.history
      → IsReadyFor (state now) (versions now) repo branch head.version head.settings swap about head.tree
  later_swap waits same goes_on legal =
      let start = state_of (lake_value before.opened) in
      let whole = subst (λ opened. IsLegal (state_of (lake_value opened)) (before.history ++ later)) same
      (subst (IsLegal (state_of (lake_value now.opened))) goes_on legal) in
      subst (λ opened. ready_in opened now.history) (sym same)
      (subst (ready_in before.opened) (sym goes_on)
      (subst (λ x. ready_of x (versions_since (lake_value before.opened) (before.history ++ later))) (sym (replay-append start before.history later))
      (subst (ready_of (replay (replay start before.history) later))
      (sym (count-append (versions_of (lake_value before.opened)) before.history later))
      (waits later (IsLegal-later start before.history later whole)))))
