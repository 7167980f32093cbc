-- What the step of each call decides.
use Rattle.std.proofs.Common.{◌≡◌, ◌+◌, ℕ, List, [], ◌∷◌, Option, Some, None, Result, Ok, Err, refl, sym, ap, subst, ◌∙◌}
use Rattle.std.specs.Prelude.{IsSomeAnd, option_map}
use Rattle.lake_base.specs.declared.digest.Digest.{Digest}
use Rattle.commit_graph.specs.Expressions.{RefExprValue}
use Rattle.lake_values.specs.declared.settings.HookRule.{HookRule}
use Rattle.lake_values.specs.declared.settings.Note.TheVariants as note
use Rattle.lake_values.specs.declared.settings.NoteName.TheVariants as name
use Rattle.lake_model.specs.declared.fault.StepFault.{StepFault}
use Rattle.lake_model.specs.declared.fault.StepFault.TheVariants as step
use Rattle.lake_model.specs.declared.history.Operation.{Operation}
use Rattle.lake_model.specs.declared.history.Operation.TheVariants.{BranchCreate, TagCreate}
use Rattle.lake_model.specs.State.{State}
use Rattle.lake_model.specs.Commits.{bare_repository, first_draft}
use Rattle.lake_model.specs.Refusals.{Causes, Clash, GivesOrFails, IsClashOrNone, first_cause}
use Rattle.lake_model.specs.Steps.{IsCreateBranchReply, IsCreateRepositoryReply, IsCreateTagReply, IsReplyOf, create_branch_causes, create_repository_causes}
use Rattle.lake_model.specs.Steps.{create_tag_causes, delete_branch_causes, delete_branch_reply, delete_tag_causes, delete_tag_reply, in_it}
use Rattle.lake_model.specs.Steps.{set_note_causes_of, set_note_reply, target_in}
use Rattle.lake_model.specs.Versions.{VersionsGiven}
use Rattle.lake_laws.proofs.CauseLemmas.{no_cause}
use Rattle.core_state.specs.LakeStates.{LakeStateValue, state_of}
use Rattle.core_puts.specs.KeptChanges.{Making}
use Rattle.lake_core.specs.Makings as makes
use Rattle.lake_calls.specs.Calls.{NewNameCall, NewRepositoryCall}
use Rattle.lake_calls.specs.CallExceptions.{CallMet}
use Rattle.lake_calls.specs.CallRefusals.{IsToldOf, StepPasses, StepRefused, names_of}
use Rattle.lake_calls.specs.Courses.{Fixed, Makes, call_course, nothing_fixed}
use Rattle.lake_calls.specs.DoneReplies.{IsDone}
use Rattle.lake_calls.specs.declared.call.Call.{Call}
use Rattle.lake_calls.specs.declared.call.Call.TheVariants.{Names, Settings}
use Rattle.lake_calls.specs.declared.call.SettingCall.TheVariants.{SetProtection, SetHooks}
use Rattle.lake_calls.specs.declared.names.NameCall.{NameCall}
use Rattle.lake_calls.specs.declared.names.NamingCall.TheVariants as naming
use Rattle.lake_calls.specs.declared.reply.CallReply.{CallReply}
use Rattle.lake_calls.specs.declared.reply.Done.{Done}
use Rattle.lake_calls.specs.declared.reply.Done.TheVariants as done
use Rattle.flow_steps.proofs.VersionCauseLemmas.{Decides, decided}
use Rattle.call_changes.proofs.CauseTellLemmas.{AreTold, create_branch_told, create_repository_told, create_tag_told, delete_branch_told, delete_tag_told}
use Rattle.call_changes.proofs.CauseTellLemmas.{first_told, set_note_told}
use Rattle.call_changes.proofs.ChangeLemmas.{IsDecided, IsRefused, Passes}

-- ---- a step that fixes nothing

module _ {X : Type 0} (call : Call) (moment : ℕ) (making : Making) (tells : X → Done) (s : State) (causes : Causes)
    (course : call_course call moment nothing_fixed ≡ Makes making.operation ∷ [])
    (passes : first_cause causes ≡ None → StepPasses s call making.operation)
    (refused : (fault : StepFault) (told : CallReply) → first_cause causes ≡ Some fault → IsToldOf (names_of call) fault told
    → StepRefused s call making.operation told)
    (all : AreTold causes) (done_so : (x : X) (met : CallMet) → IsDone call moment nothing_fixed met s (tells x)) where
  passes_so : first_cause causes ≡ None → Passes call moment s (Some making)
  passes_so none = record { making = making; is = refl; fixed = nothing_fixed; course = course; passes = passes none }

  refused_so : (fault : StepFault) → first_cause causes ≡ Some fault → IsRefused call moment s fault
  refused_so fault first = record {
    operation = making.operation;
    fixed = nothing_fixed;
    course = course;
    tellable = first_told causes all fault first;
    refused = λ told so. refused fault told first so;
  }

  decided_so : (result : Result X StepFault) → Decides causes result → IsDecided call moment tells s (Some making) result
  unfolding passes_so
  decided_so (Ok x) none = (passes_so none, done_so x)
  decided_so (Err step.StoreFault) none = passes_so none
  decided_so (Err step.NoMemory) first = tt
  decided_so (Err fault) first = refused_so fault first

-- ---- deletions

pub delete_branch_decided : (c : NameCall) (moment : ℕ) (l : LakeStateValue) (s : State) (result : Result ℕ StepFault)
    → GivesOrFails result (delete_branch_reply s c.repo c.name)
    → IsDecided (Names (naming.DeleteBranch c)) moment (λ at. done.BranchDeleted) s (Some (makes.delete_branch c.repo c.name l)) result
delete_branch_decided c moment l s result gives =
    let causes = delete_branch_causes s c.repo c.name in
    decided_so (Names (naming.DeleteBranch c)) moment (makes.delete_branch c.repo c.name l) (λ at. done.BranchDeleted) s causes refl
    (λ none. record { none = none; no_clash = refl; worth = tt; fixes = tt })
    (λ fault told first so. record { clash = None; is_clash = refl; fault = fault; first = first; told_so = so })
    (delete_branch_told s c.repo c.name) (λ at met. refl) result (decided s causes (s.entries + 1) result gives)

pub delete_tag_decided : (c : NameCall) (moment : ℕ) (s : State) (result : Result ℕ StepFault)
    → GivesOrFails result (delete_tag_reply s c.repo c.name)
    → IsDecided (Names (naming.DeleteTag c)) moment (λ at. done.TagDeleted) s (Some (makes.delete_tag c.repo c.name)) result
delete_tag_decided c moment s result gives =
    let causes = delete_tag_causes s c.repo c.name in
    decided_so (Names (naming.DeleteTag c)) moment (makes.delete_tag c.repo c.name) (λ at. done.TagDeleted) s causes refl
    (λ none. record { none = none; no_clash = refl; worth = tt; fixes = tt })
    (λ fault told first so. record { clash = None; is_clash = refl; fault = fault; first = first; told_so = so })
    (delete_tag_told s c.repo c.name) (λ at met. refl) result (decided s causes (s.entries + 1) result gives)

-- ---- settings

pub set_protection_decided : (repo : List ℕ) (protection : List (List ℕ)) (moment : ℕ) (l : LakeStateValue) (s : State) (given : VersionsGiven)
    (result : Result ℕ StepFault) → GivesOrFails result (set_note_reply s given repo None name.Protection (Some (note.Protection protection)))
    → IsDecided (Settings (SetProtection repo protection)) moment (λ at. done.ProtectionSet) s
    (Some (makes.set_note repo name.Protection (Some (note.Protection protection)) l)) result
set_protection_decided repo protection moment l s given result gives =
    let set = Some (note.Protection protection) in
    let causes = set_note_causes_of s repo name.Protection set in
    decided_so (Settings (SetProtection repo protection)) moment (makes.set_note repo name.Protection set l) (λ at. done.ProtectionSet) s causes refl
    (λ none. record { none = none; no_clash = refl; worth = tt; fixes = tt })
    (λ fault told first so. record { clash = None; is_clash = refl; fault = fault; first = first; told_so = so })
    (set_note_told s repo name.Protection set) (λ at met. refl) result (decided s causes (s.entries + 1) result gives)

pub set_hooks_decided : (repo : List ℕ) (hooks : List HookRule) (moment : ℕ) (l : LakeStateValue) (s : State) (given : VersionsGiven)
    (result : Result ℕ StepFault) → GivesOrFails result (set_note_reply s given repo None name.Hooks (Some (note.Hooks hooks)))
    → IsDecided (Settings (SetHooks repo hooks)) moment (λ at. done.HooksSet) s
    (Some (makes.set_note repo name.Hooks (Some (note.Hooks hooks)) l)) result
set_hooks_decided repo hooks moment l s given result gives =
    let set = Some (note.Hooks hooks) in
    let causes = set_note_causes_of s repo name.Hooks set in
    decided_so (Settings (SetHooks repo hooks)) moment (makes.set_note repo name.Hooks set l) (λ at. done.HooksSet) s causes refl
    (λ none. record { none = none; no_clash = refl; worth = tt; fixes = tt })
    (λ fault told first so. record { clash = None; is_clash = refl; fault = fault; first = first; told_so = so })
    (set_note_told s repo name.Hooks set) (λ at met. refl) result (decided s causes (s.entries + 1) result gives)

-- ---- a repository

-- where no cause holds there is no clash
no_clash : (s : State) (repo : List ℕ) (clash : Option Clash) → first_cause (create_repository_causes s repo clash) ≡ None → clash ≡ None
no_clash s repo None none = refl
no_clash s repo (Some clash) none = let no = (no_cause (create_repository_causes s repo (Some clash)) none).clash in absurd cc

pub create_repository_decided : (c : NewRepositoryCall) (moment : ℕ) (l : LakeStateValue) (s : State) (result : Result ℕ StepFault)
    → IsCreateRepositoryReply s c.name c.default_branch moment result
    → IsDecided (Names (naming.CreateRepository c)) moment
    (λ at. done.RepositoryCreated (record { name = c.name; default_branch = c.default_branch; created = moment })) s
    (Some (makes.create_repo c.name c.default_branch moment l)) result
create_repository_decided c moment l s result (clash, is_clash, gives) =
    let causes = create_repository_causes s c.name clash in
    decided_so (Names (naming.CreateRepository c)) moment (makes.create_repo c.name c.default_branch moment l)
    (λ at. done.RepositoryCreated (record { name = c.name; default_branch = c.default_branch; created = moment })) s causes refl
    (λ none.
    let no = no_clash s c.name clash none in
    record {
      none = subst (λ o. first_cause (create_repository_causes s c.name o) ≡ None) no none;
      no_clash = subst (IsClashOrNone s (bare_repository moment c.default_branch) (first_draft moment)) no is_clash;
      worth = tt;
      fixes = tt;
    })
    (λ fault told first so. record { clash = clash; is_clash = is_clash; fault = fault; first = first; told_so = so })
    (create_repository_told s c.name clash) (λ at met. refl) result (decided s causes (s.entries + 1) result gives)

-- ---- a branch, and a tag: the step fixes the commit that the expression leads to

abbrev fixing : Digest → Fixed
fixing commit = record nothing_fixed { commit = commit }

-- any commit
abbrev some_commit : Digest
some_commit = nothing_fixed.commit

module _ (call : Call) (moment : ℕ) (repo : List ℕ) (e : RefExprValue) (operation : Digest → Operation) (making : Digest → Making)
    (makes_it : (commit : Digest) → (making commit).operation ≡ operation commit) (tells : Digest → Done) (s : State) (causes : Causes)
    (course : (commit : Digest) → call_course call moment (fixing commit) ≡ Makes (operation commit) ∷ [])
    (passes : (commit : Digest) → first_cause causes ≡ None → in_it s repo (λ r. target_in r e) ≡ Some commit → StepPasses s call (operation commit))
    (refused : (fault : StepFault) (told : CallReply) → first_cause causes ≡ Some fault → IsToldOf (names_of call) fault told
    → StepRefused s call (operation some_commit) told)
    (all : AreTold causes) (done_so : (commit : Digest) (met : CallMet) → IsDone call moment (fixing commit) met s (tells commit)) where
  fixes_so : (commit : Digest) → first_cause causes ≡ None → in_it s repo (λ r. target_in r e) ≡ Some commit
      → Passes call moment s (option_map making (in_it s repo (λ r. target_in r e)))
  fixes_so commit none leads = record {
    making = making commit;
    is = ap (option_map making) leads;
    fixed = fixing commit;
    course = course commit ∙ ap (λ o. Makes o ∷ []) (sym (makes_it commit));
    passes = subst (StepPasses s call) (sym (makes_it commit)) (passes commit none leads);
  }

  -- a change that was tried is one of a commit
  tried_so : (found : Option Digest) → in_it s repo (λ r. target_in r e) ≡ found → IsSomeAnd (option_map making found) (λ m. Unit {0})
      → first_cause causes ≡ None → Passes call moment s (option_map making (in_it s repo (λ r. target_in r e)))
  tried_so (Some commit) is tried none = fixes_so commit none is
  tried_so None is tried none = absurd tried

  fixed_so : (result : Result (ℕ × Digest) StepFault) → IsReplyOf s causes (in_it s repo (λ r. target_in r e)) result
      → (result ≡ Err step.StoreFault → IsSomeAnd (option_map making (in_it s repo (λ r. target_in r e))) (λ m. Unit {0}))
      → IsDecided call moment (λ (x : ℕ × Digest). tells x.1) s (option_map making (in_it s repo (λ r. target_in r e))) result
  unfolding fixes_so
  fixed_so (Ok x) says tried = (fixes_so x.1 says.0 says.1.1, done_so x.1)
  fixed_so (Err step.StoreFault) says tried = tried_so (in_it s repo (λ r. target_in r e)) refl (tried refl) says
  fixed_so (Err step.NoMemory) says tried = tt
  fixed_so (Err fault) says tried = record {
    operation = operation some_commit;
    fixed = fixing some_commit;
    course = course some_commit;
    tellable = first_told causes all fault says;
    refused = λ told so. refused fault told says so;
  }

pub create_branch_decided : (c : NewNameCall) (moment : ℕ) (l : LakeStateValue) (s : State) → s ≡ state_of l → (result : Result (ℕ × Digest) StepFault)
    → IsCreateBranchReply s c.repo c.name c.source.e result
    → (result ≡ Err step.StoreFault → IsSomeAnd (makes.create_branch c.repo c.name c.source.e l) (λ m. Unit {0}))
    → IsDecided (Names (naming.CreateBranch c)) moment (λ (x : ℕ × Digest). done.BranchCreated x.1) s
    (makes.create_branch c.repo c.name c.source.e l) result
create_branch_decided c moment l s same result says tried =
    let making : Digest → Making = λ commit. makes.branch_making c.repo c.name commit l in
    let found : State → Option Digest = λ st. in_it st c.repo (λ r. target_in r c.source.e) in
    let causes = create_branch_causes s c.repo c.name c.source.e in
    subst (λ st. IsDecided (Names (naming.CreateBranch c)) moment (λ (x : ℕ × Digest). done.BranchCreated x.1) s (option_map making (found st)) result) same
    (fixed_so (Names (naming.CreateBranch c)) moment c.repo c.source.e (BranchCreate c.repo c.name) making (λ commit. refl) done.BranchCreated s causes
    (λ commit. refl)
    (λ commit none leads. record { none = none; no_clash = refl; worth = tt; fixes = leads })
    (λ fault told first so. record { clash = None; is_clash = refl; fault = fault; first = first; told_so = so })
    (create_branch_told s c.repo c.name c.source.e) (λ commit met. refl) result says
    (λ failed. subst (λ st. IsSomeAnd (option_map making (found st)) (λ m. Unit {0})) (sym same) (tried failed)))

pub create_tag_decided : (c : NewNameCall) (moment : ℕ) (l : LakeStateValue) (s : State) → s ≡ state_of l → (result : Result (ℕ × Digest) StepFault)
    → IsCreateTagReply s c.repo c.name c.source.e result
    → (result ≡ Err step.StoreFault → IsSomeAnd (makes.create_tag c.repo c.name c.source.e l) (λ m. Unit {0}))
    → IsDecided (Names (naming.CreateTag c)) moment (λ (x : ℕ × Digest). done.TagCreated (record { name = c.name; commit = x.1 })) s
    (makes.create_tag c.repo c.name c.source.e l) result
create_tag_decided c moment l s same result says tried =
    let making : Digest → Making = makes.tag_making c.repo c.name in
    let tells : Digest → Done = λ commit. done.TagCreated (record { name = c.name; commit = commit }) in
    let found : State → Option Digest = λ st. in_it st c.repo (λ r. target_in r c.source.e) in
    let causes = create_tag_causes s c.repo c.name c.source.e in
    subst (λ st. IsDecided (Names (naming.CreateTag c)) moment (λ (x : ℕ × Digest). tells x.1) s (option_map making (found st)) result) same
    (fixed_so (Names (naming.CreateTag c)) moment c.repo c.source.e (TagCreate c.repo c.name) making (λ commit. refl) tells s causes
    (λ commit. refl)
    (λ commit none leads. record { none = none; no_clash = refl; worth = tt; fixes = leads })
    (λ fault told first so. record { clash = None; is_clash = refl; fault = fault; first = first; told_so = so })
    (create_tag_told s c.repo c.name c.source.e) (λ commit met. refl) result says
    (λ failed. subst (λ st. IsSomeAnd (option_map making (found st)) (λ m. Unit {0})) (sym same) (tried failed)))
