-- Two sessions over the same bytes.
use Rattle.std.specs.Prelude.{◌≡◌, ◌≢◌, ◌++◌, ℕ, Bool, true, false, List, [], All, map, Some}
use Rattle.std.specs.FinMap.{get}
use Rattle.block_store.specs.Blocks.{HeldObjects}
use Rattle.lake_base.specs.Outside.{Quiet}
use Rattle.http_wire.specs.SinkFronts.{Wrote}
use Rattle.http_wire.specs.declared.fault.WireFault.TheVariants.{Truncated}
use Rattle.http_wire.specs.declared.message.Request.{Request}
use Rattle.lake_calls.specs.HeldBodies.{FitsState}
use Rattle.lake_calls.specs.Requests.{Asks}
use Rattle.lake_calls.specs.declared.call.Call.TheVariants.{Objects}
use Rattle.lake_calls.specs.declared.objects.ObjectCall.TheVariants as object
use Rattle.lake_calls.specs.declared.objects.ReadCall.{ReadCall}
use Rattle.lake_calls.specs.declared.reply.CallReply.{CallReply}
use Rattle.lake_calls.specs.declared.reply.CallReply.TheVariants as reply
use Rattle.lake_core.specs.Faults.{HasFault}
use Rattle.lake_core.specs.declared.standing.LakeOrigin.{LakeOrigin}
use Rattle.api_forms.specs.CallForms.{asked}
use Rattle.flow_steps.specs.FlowSeats.{opened_state, state_at}
use Rattle.seat_laws.specs.Expiries.{HasNoneExpired, NoneExpires}
use Rattle.seat_laws.specs.LikeMoments.{Agree}
use Rattle.seat_laws.specs.Troubles.{is_unread}
use Rattle.lake_session.specs.SessionItems.{SessionItem, moments}
use Rattle.lake_session.specs.SessionViews.{SessionView}
use Rattle.lake_session.specs.WholeSessions.{IsSession}
use Rattle.lake_session.specs.declared.report.End.{End}
use Rattle.lake_session.specs.declared.report.End.TheVariants as end
use Rattle.lake_session.specs.declared.report.SessionReport.{SessionReport}

-- what was asked in a session, request by request
abbrev pub requests : List SessionItem → List Request
requests items = map (λ (item : SessionItem). item.request) items

-- what was told
abbrev pub tolds : List SessionItem → List CallReply
tolds items = map (λ (item : SessionItem). item.told) items

-- ---- what the law asks

-- TWO SESSIONS BEGIN ALIKE: each on a seat that is alone, of one number, at lakes that were opened as one state and have one history; and
-- their sources have the same bytes left in all, in whatever pieces they give them
pub record BeginAlike (old other : SessionView) : Type 0 where
  pub alone : old.seat.alone ≡ true
  pub other_alone : other.seat.alone ≡ true
  pub number : old.seat.number ≡ other.seat.number
  pub origin : LakeOrigin
  pub other_origin : LakeOrigin
  pub from : old.seat.origin ≡ Some origin
  pub other_from : other.seat.origin ≡ Some other_origin
  pub opened : opened_state origin ≡ opened_state other_origin
  pub seen : old.seat.seen ≡ other.seat.seen
  pub bytes : List ℕ
  pub unread : old.unread ≡ Some bytes
  pub other_unread : other.unread ≡ Some bytes

-- the clock's readings that a session took, where they are told
pub record Takes (old now : SessionView) (taken : List ℕ) : Type 0 where
  pub before : List ℕ
  pub begins : old.readings ≡ Some before
  pub ends : now.readings ≡ Some (before ++ taken)

-- two sessions took the same readings, as far as both took any
pub record HaveOneClock (old now other other_now : SessionView) : Type 0 where
  pub taken : List ℕ
  pub other_taken : List ℕ
  pub takes : Takes old now taken
  pub other_takes : Takes other other_now other_taken
  pub agree : Agree taken other_taken

-- to who asked for an object's bytes it wasn't told that these weren't had
abbrev pub HasBytes : SessionItem → Type 0
HasBytes item = (c : ReadCall) → asked item.request ≡ Asks (Objects (object.Read c)) → is_unread item.told ≡ false

-- A STORE HOLDS ALL THAT A LONE SEAT MAY ASK FOR: it tells what it holds, which fits what the seat has seen; and no commit of the lake is
-- expired, neither as it was opened nor by an entry that the seat has seen
pub record HoldsAll (view : SessionView) : Type 0 where
  pub alone : view.seat.alone ≡ true
  pub origin : LakeOrigin
  pub from : view.seat.origin ≡ Some origin
  pub objects : HeldObjects
  pub held : view.store.held ≡ Some objects
  pub fits : FitsState (state_at origin view.seat.seen) (get objects)
  pub none_expired : HasNoneExpired (opened_state origin)
  pub none_expires : NoneExpires view.seat.seen

-- NOTHING FAILED in a session: no fault was counted, by its source, its sink or the store of objects, and no note came that the store of
-- pairs failed; nothing was answered out of memory; and the bytes that were asked for were had
pub record WentWell (old now : SessionView) (report : SessionReport) (session : IsSession old now report) : Type 0 where
  pub source : Quiet old.read_faults now.read_faults
  pub sink : Quiet old.write_faults now.write_faults
  pub objects : Quiet old.store.faults now.store.faults
  pub pairs : HasFault session.goes.added → ⊥
  pub memory : All (λ (item : SessionItem). item.told ≢ reply.NoMemory) session.items
  pub ended : report.end ≢ end.NoMemory
  pub bodies : All HasBytes session.items

-- ---- what it says

-- a session that ended so found the end of its source
abbrev pub finds_end : End → Bool
finds_end end.SourceEnded = true
finds_end (end.Wire (Truncated n)) = true
finds_end ended = false

-- what no request took, of what the sources gave and of what they have left, is the same
pub record LeaveAlike (old now : SessionView) (report : SessionReport) (one : IsSession old now report) (other other_now : SessionView)
    (other_report : SessionReport) (two : IsSession other other_now other_report) : Type 0 where
  pub given : List ℕ
  pub left : List ℕ
  pub other_given : List ℕ
  pub other_left : List ℕ
  pub given_is : one.rest ≡ Some given
  pub left_is : now.unread ≡ Some left
  pub other_given_is : two.rest ≡ Some other_given
  pub other_left_is : other_now.unread ≡ Some other_left
  pub same : given ++ left ≡ other_given ++ other_left

-- TWO SESSIONS CAME TO THE SAME: their sinks got the same bytes; they ended for the same reason, behind the same requests, at the same
-- moments, which were told the same; they left the same history; and what no request took is the same. How much of that was given isn't said,
-- but where they found the end of their sources: there nothing is left.
pub record AreOneSession (old now : SessionView) (report : SessionReport) (one : IsSession old now report) (other other_now : SessionView)
    (other_report : SessionReport) (two : IsSession other other_now other_report) : Type 0 where
  pub out : List ℕ
  pub written : Wrote old.written now.written out
  pub other_written : Wrote other.written other_now.written out
  pub ended : report.end ≡ other_report.end
  pub asked : requests one.items ≡ requests two.items
  pub read_at : moments one.items ≡ moments two.items
  pub told : tolds one.items ≡ tolds two.items
  pub history : now.seat.seen ≡ other_now.seat.seen
  pub behind : LeaveAlike old now report one other other_now other_report two
  pub unread : finds_end report.end ≡ true → (now.unread ≡ Some []) × (other_now.unread ≡ Some [])
