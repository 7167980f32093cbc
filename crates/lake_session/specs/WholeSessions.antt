-- A session, whole.
use Rattle.std.specs.Prelude.{◌≡◌, ◌≤◌, ◌<◌, ◌⊎◌, ◌++◌, ℕ, true, false, List, [], ◌∷◌, map, All, length, Option, Some, IfSome, ⊤}
use Rattle.std.specs.FinMap.{get}
use Rattle.lake_base.specs.Outside.{Rose}
use Rattle.block_store.specs.Blocks.{HeldObjects}
use Rattle.http_wire.specs.ReplyText.{reply_text}
use Rattle.http_wire.specs.SinkFronts.{IsPrefix, Wrote}
use Rattle.http_wire.specs.declared.fault.WireFault.TheVariants.{Truncated}
use Rattle.http_wire.specs.declared.message.Reply.{Reply}
use Rattle.lake_model.specs.declared.history.HistoryEntry.{HistoryEntry}
use Rattle.lake_model.specs.History.{IsLegal}
use Rattle.lake_model.specs.Soundness.{IsSound}
use Rattle.lake_core.specs.declared.standing.LakeOrigin.{LakeOrigin}
use Rattle.lake_api.specs.AnswerWords.{IsGivenReply, IsHeldReply, KeepsFitting, LakeSeat, SeesOwn, opened_state, state_at}
use Rattle.turn_lock.specs.Seats.{seat_after}
use Rattle.call_placement.specs.Placed.{ArePlaced}
use Rattle.call_placement.specs.Sessions.{AreServed}
use Rattle.lake_calls.specs.HeldBodies.{FitsState}
use Rattle.lake_calls.specs.LakeRules.{lake_rules}
use Rattle.lake_calls.specs.Requests.{Asks}
use Rattle.lake_calls.specs.declared.call.Call.TheVariants.{Objects}
use Rattle.lake_calls.specs.declared.objects.ObjectCall.TheVariants as object
use Rattle.lake_calls.specs.declared.objects.ReadCall.{ReadCall}
use Rattle.api_forms.specs.CallForms.{asked}
use Rattle.lake_session.specs.declared.report.End.{End}
use Rattle.lake_session.specs.declared.report.End.TheVariants as end
use Rattle.lake_session.specs.declared.report.Placed.{Placed}
use Rattle.lake_session.specs.declared.report.SessionReport.{SessionReport}
use Rattle.lake_session.specs.SessionItems.{AreFirst, KeepsTelling, NoneCloses, SessionItem, call_item, item_text, moments, placed_item, placed_items}
use Rattle.lake_session.specs.SessionItems.{texts}
use Rattle.lake_session.specs.SessionTexts.{last_reply, reply_to_fault}
use Rattle.lake_session.specs.SessionTurns.{IsLastReply, IsLeft}
use Rattle.lake_session.specs.SessionViews.{HasCounted, SessionView, StoreView}

-- ---- the history

-- A SEAT WENT ON IN A SESSION: nothing changed, or what it has seen then begins with what it had seen before, is legal from a sound
-- opened state, and has of the seat's number just its own entries; where it is alone, what came is its own; and nothing else of it changed.
pub record GoesThrough (old now : LakeSeat) : Type 0 where
  pub turn : now.turn ≡ old.turn
  pub seat : now ≡ seat_after old now.seen now.mine
  pub added : List HistoryEntry
  pub seen : now.seen ≡ old.seen ++ added
  pub alone : old.alone ≡ true → All (λ (e : HistoryEntry). e.by.seat ≡ old.number) added
  pub legal : (origin : LakeOrigin) → old.origin ≡ Some origin
      → ((added ≡ []) × (now.mine ≡ old.mine)) ⊎ (IsSound (opened_state origin) × IsLegal (opened_state origin) now.seen × SeesOwn now)

-- THE CALLS OF ITEMS, numbered from 1, were served one after the other behind what their seat had seen, and are placed in all that it
-- has seen then; this is the last edge.
pub record ServesAll (origin : LakeOrigin) (old now : LakeSeat) (items : List SessionItem) (edge : ℕ) : Type 0 where
  pub served : AreServed lake_rules (opened_state origin) old.number 1 (length old.seen) old.seen (map call_item items) now.seen edge
  pub stand : ArePlaced lake_rules (opened_state origin) old.number 1 (length old.seen) old.seen now.seen (map call_item items)

-- ---- what the store of objects counted and held

-- An item that tells of an object's bytes does so by what the store holds then: at its position, up to which so much of all these
-- entries had come, bytes that it tells are those that the store gave, and has under the number of the object; it has nothing under
-- the number of one that is lost; and of one that is damaged it gave bytes that it has under the number.
abbrev pub TellsGiven : LakeOrigin → (all : List HistoryEntry) → (held : Option HeldObjects) → SessionItem → Type 0
TellsGiven origin all held item = (c : ReadCall) (objects : HeldObjects) → asked item.request ≡ Asks (Objects (object.Read c)) → held ≡ Some objects
    → (seen later : List HistoryEntry) × (all ≡ seen ++ later) × (item.position ≡ length seen)
    × IsGivenReply c (state_at origin seen) objects item.met.bytes item.told

-- so it does, of all that this seat has seen
abbrev pub TellsGivenTo : LakeSeat → (held : Option HeldObjects) → SessionItem → Type 0
TellsGivenTo seat held item = (origin : LakeOrigin) → seat.origin ≡ Some origin → TellsGiven origin seat.seen held item

-- What calls met of the store of objects, one after the other, is what that counted between two moments, and gave of what it held
-- then, to a seat that has seen all of this at the end.
abbrev pub AreCounted : LakeSeat → StoreView → List SessionItem → StoreView → Type 0
AreCounted seat before [] now = now ≡ before
AreCounted seat before (item ∷ items) now =
    (between : StoreView) × HasCounted before between item.met × TellsGivenTo seat before.held item × AreCounted seat between items now

-- An item tells of bytes as they are held: the store's bodies fitted the state at the item's position, which comes of the first of all
-- these entries, and the bytes are theirs; too many tries never come, and bytes are lost or damaged only of a commit that is expired
-- there.
abbrev pub TellsHeld : LakeOrigin → (all : List HistoryEntry) → SessionItem → Type 0
TellsHeld origin all item = (c : ReadCall) → asked item.request ≡ Asks (Objects (object.Read c))
    → (seen later : List HistoryEntry) × (all ≡ seen ++ later) × (item.position ≡ length seen)
    × (objects : HeldObjects) × FitsState (state_at origin seen) (get objects) × IsHeldReply c (state_at origin seen) objects item.told

-- so do all items, of what the seat has seen now, where it is alone, and the store tells what it holds, which fits what the seat had
-- seen before
abbrev pub AllTellHeld : (old now : LakeSeat) → (held : Option HeldObjects) → List SessionItem → Type 0
AllTellHeld old now held items = (origin : LakeOrigin) (objects : HeldObjects) → old.alone ≡ true → old.origin ≡ Some origin
    → held ≡ Some objects → FitsState (state_at origin old.seen) (get objects) → All (TellsHeld origin now.seen) items

-- ---- how it ended

-- THE REQUESTS of a session that ended so are the first messages of the bytes that its source gave, and all of them unless it ended
-- before; these are left of what it gave, and the source has the others.
pub record AreRequests (items : List SessionItem) (ended : End) (bytes : List ℕ) (unread behind : Option (List ℕ)) : Type 0 where
  pub given : List ℕ
  pub left : List ℕ
  pub rest : List ℕ
  pub gave : given ++ left ≡ bytes
  pub unread_is : unread ≡ Some left
  pub behind_is : behind ≡ Some rest
  pub first : AreFirst items given rest
  pub is_left : IsLeft ended rest left

-- a session goes on behind these items: none of their clients asked for the connection to close, and there are fewer than 10,000
abbrev pub StayOpen : List SessionItem → Type 0
StayOpen items = NoneCloses items × (length items < 10000)

-- the replies to these items were written, whole and in order, and behind them these bytes; and the items are reported so
abbrev pub AreWritten : List SessionItem → (behind out : List ℕ) → List Placed → Type 0
AreWritten items behind out placed = (out ≡ texts 1 items ++ behind) × (placed ≡ placed_items 1 items)

-- HOW A SESSION ENDED, by the end that it tells: who asked for the connection to close, what was written, and what is reported of the
-- items.
abbrev pub IsEnded : List SessionItem → End → (rest : Option (List ℕ)) → (out : List ℕ) → List Placed → Type 0
-- the last client asked for that, and none before it
IsEnded items end.Closed rest out placed = (before : List SessionItem) × (last : SessionItem) × (items ≡ before ++ last ∷ []) × StayOpen before
    × (last.request.close ≡ true) × AreWritten items [] out placed
-- 10,000 requests were answered, and none of their clients asked for that
IsEnded items end.RequestLimit rest out placed = NoneCloses items × (length items ≡ 10000) × AreWritten items [] out placed
-- what came then was no request: the source ended inside a message, and there was no reply, or the fault has one, which was written
IsEnded items (end.Wire fault) rest out placed = StayOpen items × (
    ((n : ℕ) × (fault ≡ Truncated n) × AreWritten items [] out placed)
    ⊎ ((sent : Reply) × (reply_to_fault fault ≡ Some sent) × AreWritten items (reply_text sent) out placed))
-- no memory was left for a request, and the reply that tells this was written
IsEnded items end.NoMemory rest out placed = StayOpen items × AreWritten items (reply_text last_reply) out placed
-- THE SINK FAILED in the reply to the last item, of which a front was written, and which alone is reported as not written; or in the
-- reply to a message that isn't read, or that of want of memory, behind items whose replies were all written
IsEnded items end.WriteFault rest out placed =
    ((whole : List SessionItem) × (last : SessionItem) × (front : List ℕ) × (items ≡ whole ++ last ∷ []) × StayOpen whole
    × IsPrefix front (item_text (length items) last) × (out ≡ texts 1 whole ++ front)
    × (placed ≡ placed_items 1 whole ++ placed_item (length items) last false ∷ []))
    ⊎ ((sent : Reply) × (front : List ℕ) × StayOpen items × IsLastReply rest sent × IsPrefix front (reply_text sent)
    × AreWritten items front out placed)
-- the source ended where a request would begin, or failed
IsEnded items ended rest out placed = StayOpen items × AreWritten items [] out placed

-- a fault of a stream is told only where its count rose
abbrev pub HasCause : (old now : SessionView) → End → Type 0
HasCause old now end.ReadFault = Rose old.read_faults now.read_faults
HasCause old now end.WriteFault = Rose old.write_faults now.write_faults
HasCause old now ended = ⊤

-- ---- the headline

-- A SESSION, between what it works on before it and after it: its items, of which each is a request with the moment at which it was
-- answered, and what its client was told.
--
-- The requests are the first messages of the bytes that the source gave, and all of them unless the session ended before. The moments
-- are the clock's next readings, and it goes on telling them, as long as it can count them. The calls are placed in one legal history,
-- in which each accepted change of theirs stands once, and none lies before anything that their client had seen. What was written is
-- the printed replies, in order, and the report tells of each whether it was.
pub record IsSession (old now : SessionView) (report : SessionReport) : Type 0 where
  pub items : List SessionItem
  pub rest : Option (List ℕ)
  pub requests : IfSome old.unread (λ bytes. AreRequests items report.end bytes now.unread rest)
  pub read_faults : old.read_faults ≤ now.read_faults
  pub write_faults : old.write_faults ≤ now.write_faults
  pub moment : IfSome now.readings (λ readings. (before : List ℕ) × (old.readings ≡ Some before) × (readings ≡ before ++ moments items))
  pub kept : KeepsTelling (length items) old.readings now.readings
  pub goes : GoesThrough old.seat now.seat
  pub edge : ℕ
  pub history : (origin : LakeOrigin) → old.seat.origin ≡ Some origin → ServesAll origin old.seat now.seat items edge
  pub counted : AreCounted now.seat old.store items now.store
  pub fitting : KeepsFitting old.seat now.seat old.store.held now.store.held
  pub tells : AllTellHeld old.seat now.seat old.store.held items
  pub out : List ℕ
  pub written : Wrote old.written now.written out
  pub ended : IsEnded items report.end rest out report.placed
  pub cause : HasCause old now report.end
  pub from : report.from ≡ length old.seat.seen
  pub to : report.to ≡ length now.seat.seen
