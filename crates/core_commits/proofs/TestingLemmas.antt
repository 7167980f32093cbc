-- What the test of a new head answers.
use Rattle.std.proofs.Common.{◌≡◌, ◌<◌, ℕ, Bool, true, false, List, [], ◌∷◌, inl, inr, refl, sym, ap, subst, ◌∙◌}
use Rattle.std.specs.Prelude.{◌==◌, ◌&&◌, Option, Some, None, Result, Ok, Err, IsErrAnd, not, nat_lt, option_and_then, option_map}
use Rattle.std.specs.Option.{option_or}
use Rattle.std.specs.FinMap.{get}
use Rattle.std.proofs.lemmas.Bool.{eqb-true, ltb-true}
use Rattle.lake_base.specs.declared.digest.Digest.{Digest}
use Rattle.lake_values.specs.Commit.{AboutValue, CommitRecordValue}
use Rattle.lake_format.specs.Cutting.{files}
use Rattle.lake_format.specs.Spelling.{commit_spelling}
use Rattle.meta_range.specs.Files.{file_of}
use Rattle.meta_range.specs.Ranges.{TreeValue}
use Rattle.meta_range.specs.declared.file.File.{File}
use Rattle.lake_model.specs.declared.fault.StepFault.{StepFault}
use Rattle.lake_model.specs.declared.fault.StepFault.TheVariants.{Changed, HistoryFull, NoMemory}
use Rattle.lake_model.specs.declared.reply.SwapKind.{SwapKind}
use Rattle.lake_model.specs.State.{HasCommit, Repository}
use Rattle.lake_model.specs.Commits.{Draft, bytes_of}
use Rattle.lake_model.specs.Refusals.{Causes, Clash, IsClashOrNone, cause_if, clash_fault, first_cause, first_of}
use Rattle.lake_model.specs.Soundness.{IsSound}
use Rattle.lake_model.specs.Steps.{IsSwapClash, SwapRule, expired_fault, is_current, swap_causes, swap_expired, swap_rule}
use Rattle.lake_model.specs.Versions.{VersionsGiven, branch_version, settings_version}
use Rattle.core_state.specs.BranchStates.{BranchStateValue, branch_of}
use Rattle.core_state.specs.Counts.{HasVersions, versions_of}
use Rattle.core_state.specs.Index.{HasIndex}
use Rattle.core_state.specs.LakeStates.{LakeStateValue, state_of}
use Rattle.core_state.specs.NewCommits.{NewCommit, commit_of_draft}
use Rattle.core_state.specs.RepositoryStates.{RepositoryStateValue, repository_of}
use Rattle.meta_range.specs.Provenance.{IsMadeFrom}
use Rattle.meta_range.specs.declared.provenance.Provenance.{Provenance}
use Rattle.core_causes.specs.Clashing.{AreFound, AsksForBytes, first_clash, first_twins}
use Rattle.core_causes.specs.Guarding.{guard_causes}
use Rattle.core_causes.proofs.ClashLemmas.{any_answer}
use Rattle.core_causes.proofs.TwinLemmas.{twins_answer}
use Rattle.core_commits.specs.KeptHeads.{MayHave}
use Rattle.core_readings.specs.Trees.{IsCutTree}
use Rattle.core_commits.specs.HeadOperations.{IsDrafted, draft_for, new_commit}
use Rattle.core_commits.specs.HeadProvenance.{HasTreesOf}
use Rattle.core_commits.specs.Testing.{AsksForHead, HasTreeFor, IsNewHead, drafted_in}
use Rattle.core_commits.specs.declared.commits.NewHead.{NewHead}
use Rattle.core_commits.proofs.CauseLemmas.{expired_there, first_tells, guard_passes, guard_refuses, second_tells}
use Rattle.core_commits.proofs.ProvenanceLemmas.{all_found, head_there}
use Rattle.core_commits.proofs.PlaceLemmas.{in_state, no_branch, no_repository, on_state, same_some, where_there}

-- ---- a clash of what is drafted, or none

record AnyClash (l : LakeStateValue) (repo branch : List ℕ) (rule : SwapRule) : Type 0 where
  clash : Option Clash
  there : IsSwapClash (state_of l) repo branch rule clash

module _ (l : LakeStateValue) (sound : IsSound (state_of l)) (index : HasIndex l) (repo branch : List ℕ) (swap : SwapKind) (about : AboutValue) where
  abbrev rule : SwapRule
  rule = swap_rule swap about

  clash_on : (r : RepositoryStateValue) → get l.repositories repo ≡ Some r → (o : Option BranchStateValue) → get r.branches branch ≡ o
      → AnyClash l repo branch rule
  clash_on r at None on = record { clash = None; there = no_branch l repo branch (λ q c. IsClashOrNone (state_of l) q (rule.draft q c) None) r at on }
  clash_on r at (Some b) on =
      let draft = draft_for swap about r b in
      let clash = option_or (first_clash l (bytes_of l.cut r.commits draft)) (first_twins [] (files l.cut draft.objects)) in
      record {
        clash = clash;
        there = where_there l repo branch r b at on (λ q c. IsClashOrNone (state_of l) q (rule.draft q c) clash)
            (any_answer l sound index (repository_of r) draft (bytes_of l.cut r.commits draft) refl (first_twins [] (files l.cut draft.objects))
            (twins_answer (files l.cut draft.objects)));
      }

  clash_in : (o : Option RepositoryStateValue) → get l.repositories repo ≡ o → AnyClash l repo branch rule
  clash_in None at = record { clash = None; there = no_repository l repo branch (λ q c. IsClashOrNone (state_of l) q (rule.draft q c) None) at }
  clash_in (Some r) at = clash_on r at (get r.branches branch) refl

  any_clash : AnyClash l repo branch rule
  any_clash = clash_in (get l.repositories repo) refl

  module _ (given : VersionsGiven) (version settings : ℕ) where
    abbrev Asks : {X : Type 0} → Result X StepFault → Type 0
    Asks answer = AsksForHead l given repo branch version settings swap about answer

    -- the guard refused it
    pub guard_refused : {X : Type 0} (fault : StepFault)
        → first_cause (guard_causes rule.protects (state_of l) given repo branch version settings) ≡ Some fault
        → (answer : Result X StepFault) → IsErrAnd answer (λ e. e ≡ fault) → Asks answer
    guard_refused fault is (Err e) same = record {
      clash = any_clash.clash;
      there = any_clash.there;
      tells = inr (guard_refuses (state_of l) given repo branch version settings rule any_clash.clash fault is ∙ ap Some (sym same));
    }
    guard_refused fault is (Ok x) same = absurd same

    -- memory ran out
    pub starved : {X : Type 0} (answer : Result X StepFault) → IsErrAnd answer (λ e. e ≡ NoMemory) → Asks answer
    starved (Err e) same = record { clash = any_clash.clash; there = any_clash.there; tells = inl same }
    starved (Ok x) same = absurd same

    module _ (passed : first_cause (guard_causes rule.protects (state_of l) given repo branch version settings) ≡ None) where
      abbrev causes : Option Clash → Causes
      causes clash = swap_causes (state_of l) given repo branch version settings rule clash

      rest : (clash : Option Clash) → first_cause (causes clash) ≡ first_of (swap_expired (state_of l) repo branch rule ∷ clash_fault clash ∷ [])
      rest clash = guard_passes (state_of l) given repo branch version settings rule clash passed

      -- it is expired, or its source is
      pub expired_refused : {X : Type 0} (fault : StepFault) → swap_expired (state_of l) repo branch rule ≡ Some fault
          → (answer : Result X StepFault) → IsErrAnd answer (λ e. e ≡ fault) → Asks answer
      expired_refused fault is (Err e) same = record {
        clash = any_clash.clash;
        there = any_clash.there;
        tells =
            inr (rest any_clash.clash ∙ first_tells (swap_expired (state_of l) repo branch rule) (clash_fault any_clash.clash) fault is ∙ ap Some (sym same));
      }
      expired_refused fault is (Ok x) same = absurd same

      module _ (live : swap_expired (state_of l) repo branch rule ≡ None) (r : RepositoryStateValue) (b : BranchStateValue)
          (at : get l.repositories repo ≡ Some r) (on : get r.branches branch ≡ Some b) where
        abbrev Bytes : {X : Type 0} → Result X StepFault → Type 0
        Bytes answer = AsksForBytes (state_of l) (repository_of r) (draft_for swap about r b) answer

        everywhere : (clash : Option Clash) → IsClashOrNone (state_of l) (repository_of r) (draft_for swap about r b) clash
            → IsSwapClash (state_of l) repo branch rule clash
        everywhere clash there = where_there l repo branch r b at on (λ q c. IsClashOrNone (state_of l) q (rule.draft q c) clash) there

        told : (clash : Option Clash) → first_cause (causes clash) ≡ clash_fault clash
        told clash = rest clash ∙ second_tells (swap_expired (state_of l) repo branch rule) (clash_fault clash) live

        -- its bytes were refused
        pub bytes_refused : {X Y : Type 0} (fault : StepFault) → Bytes {X = Y} (Err fault)
            → (answer : Result X StepFault) → IsErrAnd answer (λ e. e ≡ fault) → Asks answer
        bytes_refused fault asks (Err e) same = record {
          clash = asks.clash;
          there = everywhere asks.clash asks.there;
          tells = elim asks.tells [ inl memory ↦ inl (same ∙ memory) | inr is ↦ inr (told asks.clash ∙ is ∙ ap Some (sym same)) ];
        }
        bytes_refused fault asks (Ok x) same = absurd same

        -- nothing refuses it
        pub bytes_passed : {X Y : Type 0} (y : Y) → Bytes {X = Y} (Ok y) → (x : X) → Asks (Ok x)
        bytes_passed y asks x = record {
          clash = asks.clash;
          there = everywhere asks.clash asks.there;
          tells = told asks.clash ∙ asks.tells;
        }

-- ---- what is drafted

gone : (clash : Option Clash) → clash_fault clash ≡ None → clash ≡ None
gone None none = refl
gone (Some clash) none = absurd cc

pub no_clash_of : {Y : Type 0} (l : LakeStateValue) (r : RepositoryStateValue) (draft : Draft) (y : Y)
    → AsksForBytes {X = Y} (state_of l) (repository_of r) draft (Ok y) → IsClashOrNone (state_of l) (repository_of r) draft None
no_clash_of l r draft y asks = subst (IsClashOrNone (state_of l) (repository_of r) draft) (gone asks.clash asks.tells) asks.there

both_are : (p q : Bool) → (p && q) ≡ true → (p ≡ true) × (q ≡ true)
both_are true q is = (refl, is)
both_are false q is = absurd cc

is_so : (test : Bool) (fault : StepFault) → cause_if (not test) fault ≡ None → test ≡ true
is_so true fault none = refl
is_so false fault none = absurd cc

first_passes : (o : Option StepFault) (later : List (Option StepFault)) → first_of (o ∷ later) ≡ None → (o ≡ None) × (first_of later ≡ None)
first_passes None later none = (refl, none)
first_passes (Some fault) later none = absurd cc

module _ (l : LakeStateValue) (given : VersionsGiven) (repo branch : List ℕ) (version settings : ℕ) (protects : Bool)
    (none : first_cause (guard_causes protects (state_of l) given repo branch version settings) ≡ None) where
  abbrev guard : Causes
  guard = guard_causes protects (state_of l) given repo branch version settings

  -- the history has room
  pub has_room : l.entries < 4194304
  has_room =
      let stopped = first_passes guard.stopped (guard.full ∷ guard.repository ∷ guard.reference ∷ guard.parent ∷ guard.note ∷ guard.exists
      ∷ guard.default_branch ∷ guard.protected ∷ guard.version ∷ guard.path ∷ guard.expired ∷ guard.clash ∷ []) none in
      let full = first_passes guard.full _ stopped.1 in
      full_room protects full.0
    where
      full_room : (protects : Bool) → (guard_causes protects (state_of l) given repo branch version settings).full ≡ None → l.entries < 4194304
      full_room true none = ltb-true l.entries 4194304 (is_so (nat_lt l.entries 4194304) HistoryFull none)
      full_room false none = ltb-true l.entries 4194304 (is_so (nat_lt l.entries 4194304) HistoryFull none)

  versions_now : is_current given repo branch version settings ≡ true
  versions_now =
      let a = first_passes guard.stopped _ none in
      let b = first_passes guard.full _ a.1 in
      let c = first_passes guard.repository _ b.1 in
      let d = first_passes guard.reference _ c.1 in
      let e = first_passes guard.parent _ d.1 in
      let f = first_passes guard.note _ e.1 in
      let g = first_passes guard.exists _ f.1 in
      let h = first_passes guard.default_branch _ g.1 in
      let i = first_passes guard.protected _ h.1 in
      let j = first_passes guard.version _ i.1 in
      is_so (is_current given repo branch version settings) (Changed (branch_version given repo branch) (settings_version given repo)) j.0

  -- the tree is that of what is drafted
  pub tree_drafted : (has : HasVersions given l) (swap : SwapKind) (about : AboutValue) (tree : TreeValue)
      → HasTreeFor l repo branch version settings swap about tree → (r : RepositoryStateValue) (b : BranchStateValue)
      → get l.repositories repo ≡ Some r → get r.branches branch ≡ Some b → IsCutTree l.cut (draft_for swap about r b).objects tree
  tree_drafted has swap about tree is r b at on =
      let both = both_are (version == branch_version given repo branch) (settings == settings_version given repo) versions_now in
      is r b at on (eqb-true version (branch_version given repo branch) both.0 ∙ has.branches repo r branch b at on)
      (eqb-true settings (settings_version given repo) both.1 ∙ has.settings repo r at)

module _ (l : LakeStateValue) (repo branch : List ℕ) (swap : SwapKind) (about : AboutValue) (r : RepositoryStateValue) (b : BranchStateValue)
    (at : get l.repositories repo ≡ Some r) (on : get r.branches branch ≡ Some b) (new : NewHead)
    (is : new_commit new ≡ commit_of_draft l.cut r.commits (draft_for swap about r b)) where
  abbrev draft : Draft
  draft = draft_for swap about r b

  pub found_in : drafted_in repo branch swap about l ≡ Some (new_commit new)
  found_in =
      ap (option_and_then (λ r. option_map (λ b. commit_of_draft l.cut r.commits (draft_for swap about r b)) (get r.branches branch))) at
      ∙ ap (option_map (λ b. commit_of_draft l.cut r.commits (draft_for swap about r b))) on ∙ ap Some (sym is)

  -- what is expired of it
  pub expired_is : swap_expired (state_of l) repo branch (swap_rule swap about)
      ≡ option_or (option_and_then (expired_fault (repository_of r)) (swap_rule swap about).source) (expired_fault (repository_of r) new.content.name)
  expired_is =
      expired_there (state_of l) repo branch (swap_rule swap about) (repository_of r) (branch_of b) (in_state l repo branch r b at on)
      (on_state l repo branch r b at on)
      ∙ ap (λ id. option_or (option_and_then (expired_fault (repository_of r)) (swap_rule swap about).source) (expired_fault (repository_of r) id))
      (sym (ap (λ (n : NewCommit). n.id) is))

  -- its bytes
  pub bytes_are : new.content ≡ file_of (commit_spelling new.commit) → bytes_of l.cut r.commits draft ≡ new.content.bytes ∷ new.tree.value.files
  bytes_are content =
      ap (λ (c : CommitRecordValue). commit_spelling c ∷ files l.cut draft.objects) (sym (ap (λ (n : NewCommit). n.content) is))
      ∙ ap (λ bytes. bytes ∷ files l.cut draft.objects) (sym (ap (λ (f : File). f.bytes) content))
      ∙ ap (λ all. new.content.bytes ∷ all) (sym (ap (λ (n : NewCommit). n.tree.files) is))

-- bytes under their name
pub under_name : (content : File) (commit : CommitRecordValue) → content ≡ file_of (commit_spelling commit) → content ≡ file_of content.bytes
under_name content commit is = is ∙ ap file_of (sym (ap (λ (f : File). f.bytes) is))

-- ---- what the test finds

module _ (l : LakeStateValue) (sound : IsSound (state_of l)) (index : HasIndex l) (repo branch : List ℕ) (swap : SwapKind) (about : AboutValue)
    (version settings : ℕ) (tree : TreeValue) (due : HasTreeFor l repo branch version settings swap about tree)
    (protects : Bool) (counts : protects ≡ (swap_rule swap about).protects) (r : RepositoryStateValue) (b : BranchStateValue)
    (guarded : (given : VersionsGiven) → HasVersions given l
    → (first_cause (guard_causes protects (state_of l) given repo branch version settings) ≡ None)
    × (get l.repositories repo ≡ Some r) × (get r.branches branch ≡ Some b))
    (own : HasVersions (versions_of l) l) where
  passes : (given : VersionsGiven) → HasVersions given l
      → first_cause (guard_causes (swap_rule swap about).protects (state_of l) given repo branch version settings) ≡ None
  passes given has =
      subst (λ p. first_cause (guard_causes p (state_of l) given repo branch version settings) ≡ None) counts (guarded given has).0

  at : get l.repositories repo ≡ Some r
  at = (guarded (versions_of l) own).1

  on : get r.branches branch ≡ Some b
  on = (guarded (versions_of l) own).2

  pub room_found : l.entries < 4194304
  room_found = has_room l (versions_of l) repo branch version settings (swap_rule swap about).protects (passes (versions_of l) own)

  tree_is : IsCutTree l.cut (draft_for swap about r b).objects tree
  tree_is =
      tree_drafted l (versions_of l) repo branch version settings (swap_rule swap about).protects (passes (versions_of l) own) own
      swap about tree due r b at on

  -- the head is there, and the trees that the map is made from are found by their names
  pub head_is : HasCommit (repository_of r) b.head
  head_is = head_there l sound index repo r at branch b on

  pub trees_found : (provenance : Provenance) → HasTreesOf r provenance → AreFound l provenance
  trees_found = all_found l sound index repo r at

  module _ (new : NewHead) (drafts : IsDrafted l.cut r b swap about tree new) where
    is_new : new_commit new ≡ commit_of_draft l.cut r.commits (draft_for swap about r b)
    is_new = drafts.drafted tree_is

    -- what the drafted map is made from, the map of the tree is
    pub made_from : (shared : TreeValue) → shared ≡ new.tree.value → (provenance : Provenance) → IsMadeFrom provenance (draft_for swap about r b).objects
        → IsMadeFrom provenance shared.map
    made_from shared deref provenance made = subst (IsMadeFrom provenance) (sym (ap (λ (t : TreeValue). t.map) (deref ∙ drafts.tree) ∙ tree_is.map)) made

    module _ (source : Option Digest) (used : source ≡ (swap_rule swap about).source) where
      abbrev expired : Option StepFault
      expired = option_or (option_and_then (expired_fault (repository_of r)) source) (expired_fault (repository_of r) new.content.name)

      same_expired : swap_expired (state_of l) repo branch (swap_rule swap about) ≡ expired
      same_expired =
          expired_is l repo branch swap about r b at on new is_new
          ∙ ap (λ o. option_or (option_and_then (expired_fault (repository_of r)) o) (expired_fault (repository_of r) new.content.name)) (sym used)

      pub live_refused : {X : Type 0} (fault : StepFault) → expired ≡ Some fault → (given : VersionsGiven) → HasVersions given l
          → (answer : Result X StepFault) → IsErrAnd answer (λ e. e ≡ fault) → AsksForHead l given repo branch version settings swap about answer
      live_refused fault is given has answer same =
          expired_refused l sound index repo branch swap about given version settings (passes given has) fault (same_expired ∙ is) answer same

      module _ (live : expired ≡ None) (shared : TreeValue) (deref : shared ≡ new.tree.value) where
        abbrev pub Names : {X : Type 0} → Result X StepFault → Type 0
        Names answer = (q : Repository) (draft : Draft) → bytes_of l.cut q.commits draft ≡ new.content.bytes ∷ shared.files
            → AsksForBytes (state_of l) q draft answer

        own_bytes : bytes_of l.cut r.commits (draft_for swap about r b) ≡ new.content.bytes ∷ shared.files
        own_bytes =
            bytes_are l repo branch swap about r b at on new is_new drafts.content ∙ ap (λ (t : TreeValue). new.content.bytes ∷ t.files) (sym deref)

        pub names_refused : {X Y : Type 0} (fault : StepFault) → Names {X = Y} (Err fault) → (given : VersionsGiven) → HasVersions given l
            → (answer : Result X StepFault) → IsErrAnd answer (λ e. e ≡ fault) → AsksForHead l given repo branch version settings swap about answer
        names_refused fault asks given has answer same =
            bytes_refused l sound index repo branch swap about given version settings (passes given has) (same_expired ∙ live) r b at on fault
            (asks (repository_of r) (draft_for swap about r b) own_bytes) answer same

        module _ {Y : Type 0} (y : Y) (asks : Names {X = Y} (Ok y)) where
          pub head_passed : {X : Type 0} (x : X) (given : VersionsGiven) → HasVersions given l
              → AsksForHead l given repo branch version settings swap about (Ok x)
          head_passed x given has =
              bytes_passed l sound index repo branch swap about given version settings (passes given has) (same_expired ∙ live) r b at on y
              (asks (repository_of r) (draft_for swap about r b) own_bytes) x

          pub head_found : ((m : LakeStateValue) (q : List ℕ) (draft : Draft) → IsSound (state_of m) → HasIndex m → get m.repositories q ≡ Some r
              → new_commit new ≡ commit_of_draft m.cut r.commits draft → IsClashOrNone (state_of m) (repository_of r) draft None → MayHave (new_commit new) r)
              → IsNewHead l repo branch swap about new
          head_found stands = record {
            drafted = found_in l repo branch swap about r b at on new is_new;
            may = λ q there. subst (MayHave (new_commit new)) (same_some r q (get l.repositories repo) at there)
                (stands l repo (draft_for swap about r b) sound index at is_new
                (no_clash_of l r (draft_for swap about r b) y (asks (repository_of r) (draft_for swap about r b) own_bytes)));
            named = ap (λ (f : File). f.name) drafts.content;
          }
