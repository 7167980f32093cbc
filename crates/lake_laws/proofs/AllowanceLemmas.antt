-- Where no cause of a step holds, and its caller keeps the rest, its entry may come next.
use Rattle.std.proofs.Common.{◌≡◌, ℕ, List, true, false, refl}
use Rattle.std.specs.Prelude.{Some, None, IfSome, IsSome, option_and_then}
use Rattle.std.specs.FinMap.{contains_key, get}
use Rattle.std.specs.Result.{result_ok}
use Rattle.lake_base.specs.Names.{is_like_id}
use Rattle.lake_base.specs.declared.digest.Digest.{Digest}
use Rattle.lake_values.specs.Entry.{EntryValue}
use Rattle.lake_values.specs.declared.commit.ResetWhat.{ResetWhat}
use Rattle.lake_values.specs.declared.entry.Change.{Change}
use Rattle.commit_graph.specs.Expressions.{RefExprValue}
use Rattle.lake_model.specs.declared.fault.StepFault.TheVariants.{NoRef}
use Rattle.lake_model.specs.declared.fault.Reference.TheVariants.{Named}
use Rattle.lake_model.specs.declared.history.By.{By}
use Rattle.lake_model.specs.declared.history.CopySource.{CopySource}
use Rattle.lake_model.specs.declared.history.Operation.TheVariants.{BranchCreate, BranchDelete, Copy, Reset, Seal, Stage, TagCreate, TagDelete, TicketDrop}
use Rattle.lake_model.specs.declared.history.Operation.TheVariants.{TicketTake}
use Rattle.lake_model.specs.declared.history.SealFor.{SealFor}
use Rattle.lake_model.specs.declared.history.SealFor.TheVariants as why
use Rattle.lake_model.specs.State.{State}
use Rattle.lake_model.specs.Branches.{IsUnprotected, MayBegin, MayEnd, MayName}
use Rattle.lake_model.specs.History.{Allows, accepted_entry}
use Rattle.lake_model.specs.Readings.{expression_map}
use Rattle.lake_model.specs.Refusals.{causes_of_change, first_cause}
use Rattle.lake_model.specs.Soundness.{IsSound}
use Rattle.lake_model.specs.Steps.{copied_entry, copy_causes, copy_source, create_branch_causes, create_tag_causes, delete_branch_causes, delete_tag_causes}
use Rattle.lake_model.specs.Steps.{in_it, seal_causes, source_fault, stage_causes, target_in, write_causes}
use Rattle.lake_model.specs.Uncommitted.{HasTicket, IsSealable, copied_map, put_number}
use Rattle.lake_model.specs.Versions.{VersionsGiven}
use Rattle.lake_laws.proofs.CauseLemmas.{no_cause, allowed, or_none, test_holds}
use Rattle.lake_laws.proofs.CopyLemmas.{copied}
use Rattle.lake_laws.proofs.NameLemmas.{branch_fresh, tag_fresh, live, other}
use Rattle.lake_laws.proofs.PlaceLemmas.{asked, branch_there, tested, there, unprotected}

-- the next number may be given out
pub ticket_take_allowed : (state : State) (by : By) (repo branch : List ℕ) → first_cause (write_causes state repo branch) ≡ None
    → Allows state (accepted_entry by (TicketTake repo branch state.next_number))
ticket_take_allowed state by repo branch none =
    let no = no_cause (write_causes state repo branch) none in
    allowed state _ no.stopped no.full
    (branch_there state repo branch (λ r b. IsUnprotected r branch) no.reference (λ r b is has. unprotected state repo branch r is no.protected), refl)

-- a ticket of the seat's own may go
pub ticket_drop_allowed : (state : State) (by : By) (number : ℕ) → first_cause (causes_of_change state) ≡ None → HasTicket state by.seat number
    → Allows state (accepted_entry by (TicketDrop number))
ticket_drop_allowed state by number none ticket =
    let no = no_cause (causes_of_change state) none in
    allowed state _ no.stopped no.full ticket

-- a change may be staged
pub stage_allowed : (state : State) (given : VersionsGiven) (by : By) (repo branch : List ℕ) (version : ℕ) (path : List ℕ) (change : Change)
    → first_cause (stage_causes state given repo branch version) ≡ None → IfSome (put_number change) (HasTicket state by.seat)
    → Allows state (accepted_entry by (Stage repo branch path change))
stage_allowed state given by repo branch version path change none ticket =
    let no = no_cause (stage_causes state given repo branch version) none in
    allowed state _ no.stopped no.full
    (branch_there state repo branch (λ r b. IsUnprotected r branch) no.reference (λ r b is has. unprotected state repo branch r is no.protected), ticket)

-- an entry may be copied
pub copy_allowed : (state : State) (given : VersionsGiven) (by : By) (repo branch : List ℕ) (version : ℕ) (path : List ℕ) (e : RefExprValue)
    (source : CopySource) (from : List ℕ) (entry : EntryValue) → IsSound state
    → first_cause (copy_causes state given repo branch version e from) ≡ None → copied_entry state repo e from ≡ Some entry
    → in_it state repo (λ r. copy_source r e) ≡ Some source → Allows state (accepted_entry by (Copy repo branch path source from entry))
copy_allowed state given by repo branch version path e source from entry sound none reads leads =
    let no = no_cause (copy_causes state given repo branch version e from) none in
    allowed state _ no.stopped no.full
    (branch_there state repo branch
    (λ r b. IsUnprotected r branch × (option_and_then (λ map. get map from) (copied_map r source) ≡ Some entry))
    (or_none (stage_causes state given repo branch version).reference _ no.reference).0
    (λ r b is has. (
      unprotected state repo branch r is no.protected,
      copied state.cut r (sound.repositories repo r is) e source from entry
          (asked state repo (λ x. copy_source x e) r (Some source) is leads)
          (asked state repo (λ x. source_fault x e) r None is no.expired)
          (asked state repo (λ x. option_and_then (λ map. get map from) (result_ok (expression_map x e))) r (Some entry) is reads),
    )))

-- changes may be dropped
pub reset_allowed : (state : State) (by : By) (repo branch : List ℕ) (what : ResetWhat) → first_cause (write_causes state repo branch) ≡ None
    → Allows state (accepted_entry by (Reset repo branch what))
reset_allowed state by repo branch what none =
    let no = no_cause (write_causes state repo branch) none in
    allowed state _ no.stopped no.full
    (branch_there state repo branch (λ r b. IsUnprotected r branch) no.reference (λ r b is has. unprotected state repo branch r is no.protected))

-- staged changes may be sealed
pub seal_allowed : (state : State) (by : By) (repo branch : List ℕ) (reason : SealFor) → first_cause (seal_causes reason state repo branch) ≡ None
    → Allows state (accepted_entry by (Seal repo branch reason))
seal_allowed state by repo branch why.Commit none =
    let no = no_cause (write_causes state repo branch) none in
    allowed state _ no.stopped no.full
    (branch_there state repo branch (λ r b. IsUnprotected r branch) no.reference (λ r b is has. unprotected state repo branch r is no.protected))
seal_allowed state by repo branch why.Other none =
    let no = no_cause (seal_causes why.Other state repo branch) none in
    allowed state _ no.stopped no.full (branch_there state repo branch (λ r b. IsSealable why.Other r branch) no.reference (λ r b is has. tt))

-- a branch may be made
pub branch_create_allowed : (state : State) (by : By) (repo name : List ℕ) (e : RefExprValue) (id : Digest) → IsSound state → is_like_id name ≡ false
    → first_cause (create_branch_causes state repo name e) ≡ None → in_it state repo (λ r. target_in r e) ≡ Some id
    → Allows state (accepted_entry by (BranchCreate repo name id))
branch_create_allowed state by repo name e id sound plain none leads =
    let no = no_cause (create_branch_causes state repo name e) none in
    allowed state _ no.stopped no.full
    (there state repo (MayBegin name id) no.repository (λ r is. record {
      fresh = branch_fresh state repo r is name no.exists;
      plain = plain;
      live = live state repo r is e id sound leads no.expired;
    }))

-- a branch may go
pub branch_delete_allowed : (state : State) (by : By) (repo name : List ℕ) → first_cause (delete_branch_causes state repo name) ≡ None
    → Allows state (accepted_entry by (BranchDelete repo name))
branch_delete_allowed state by repo name none =
    let no = no_cause (delete_branch_causes state repo name) none in
    allowed state _ no.stopped no.full
    (branch_there state repo name (λ r b. MayEnd name r) no.reference (λ r b is has. record {
      other = other state repo r is name no.default_branch;
      unprotected = unprotected state repo name r is no.protected;
    }))

-- a tag may be made
pub tag_create_allowed : (state : State) (by : By) (repo name : List ℕ) (e : RefExprValue) (id : Digest) → IsSound state → is_like_id name ≡ false
    → first_cause (create_tag_causes state repo name e) ≡ None → in_it state repo (λ r. target_in r e) ≡ Some id
    → Allows state (accepted_entry by (TagCreate repo name id))
tag_create_allowed state by repo name e id sound plain none leads =
    let no = no_cause (create_tag_causes state repo name e) none in
    allowed state _ no.stopped no.full
    (there state repo (MayName name id) no.repository (λ r is. record {
      fresh = tag_fresh state repo r is name no.exists;
      plain = plain;
      live = live state repo r is e id sound leads no.expired;
    }))

-- a tag may go
pub tag_delete_allowed : (state : State) (by : By) (repo name : List ℕ) → first_cause (delete_tag_causes state repo name) ≡ None
    → Allows state (accepted_entry by (TagDelete repo name))
tag_delete_allowed state by repo name none =
    let no = no_cause (delete_tag_causes state repo name) none in
    allowed state _ no.stopped no.full
    (there state repo (λ r. IsSome (get r.tags name)) no.repository
    (λ r is. tested state repo (λ x. contains_key x.tags name) r true is (test_holds _ (NoRef Named) no.reference)))
