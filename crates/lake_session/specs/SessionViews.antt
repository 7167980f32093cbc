-- What a session works on, as it shows at a moment.
use Rattle.std.specs.Prelude.{◌≡◌, ◌≤◌, ◌⊎◌, ◌++◌, ℕ, max, List, [], ◌∷◌, Option, Some, IfSome, Result, Ok}
use Rattle.block_store.specs.Blocks.{HeldObjects}
use Rattle.http_wire.specs.declared.message.Request.{Request}
use Rattle.http_wire.specs.Messages.{IsRequestAnswer}
use Rattle.http_wire.specs.declared.fault.WireFault.{WireFault}
use Rattle.lake_core.specs.declared.standing.LakeOrigin.{LakeOrigin}
use Rattle.lake_api.specs.AnswerWords.{Answered, GoesOn, KeepsFitting, LakeSeat, ReadsGiven, ReadsHeld, opened_state}
use Rattle.call_placement.specs.Sessions.{IsItemServed, caller}
use Rattle.lake_calls.specs.CallExceptions.{CallMet}
use Rattle.lake_calls.specs.LakeRules.{lake_rules}
use Rattle.lake_calls.specs.Requests.{Asks, form_of}
use Rattle.lake_calls.specs.declared.call.Call.{Call}
use Rattle.api_forms.specs.CallForms.{asked}
use Rattle.lake_session.specs.SessionItems.{KeepsTelling, SessionItem, call_item}

-- what a store of objects shows: what it holds, where it tells that; its faults, its misses, and the number missed last
pub record StoreView : Type 0 where
  pub held : Option HeldObjects
  pub faults : ℕ
  pub misses : ℕ
  pub missed : ℕ

-- what a session works on: the bytes that its source has left, and what was written, where streams tell it; the clock's readings; the
-- store of objects; and its seat
pub record SessionView : Type 0 where
  pub unread : Option (List ℕ)
  pub read_faults : ℕ
  pub written : Option (List ℕ)
  pub write_faults : ℕ
  pub readings : Option (List ℕ)
  pub store : StoreView
  pub seat : LakeSeat

-- what a store counted from one moment to another, by what calls met
pub record HasCounted (before now : StoreView) (met : CallMet) : Type 0 where
  pub faults : met.block_faults ≡ record { before = before.faults; now = now.faults }
  pub misses : met.misses ≡ record { before = before.misses; now = now.misses }
  pub missed_last : met.missed_last ≡ now.missed
  pub faults_rise : before.faults ≤ now.faults
  pub misses_rise : before.misses ≤ now.misses

-- the seat stayed as it was, or went on in a call
abbrev pub Moves : (number : ℕ) → (old now : LakeSeat) → Type 0
Moves number old now = (now ≡ old) ⊎ ((origin : LakeOrigin) × GoesOn origin number old now × (now.turn ≡ old.turn))

-- A REQUEST OF A SEAT WAS ANSWERED, between the seat and the store before it and after it, behind an edge, in a call of this number:
-- its form was refused at the edge, or its call was served, and no other of the seat; or memory ran out.
pub record IsRequestAnswered (number edge : ℕ) (request : Request) (moment : ℕ) (before now : StoreView) (old new : LakeSeat) (answer : Answered)
    : Type 0 where
  pub met : CallMet
  pub served : (origin : LakeOrigin) → old.origin ≡ Some origin
      → IsItemServed lake_rules (opened_state origin) (caller old.number number) edge old.seen new.seen
      (record { request = record { asked = asked request; moment = moment }; met = met; reply = answer.reply; position = answer.position })
      answer.edge (form_of (asked request))
  pub moves : Moves number old new
  pub counted : HasCounted before now met
  pub fitting : KeepsFitting old new before.held now.held
  pub given : (call : Call) → asked request ≡ Asks call → ReadsGiven old new before.held call met.bytes answer.reply answer.position
  pub reads : (call : Call) → asked request ≡ Asks call → ReadsHeld old before.held call answer.reply answer.position

-- A REQUEST WAS TAKEN from a source, or none for a fault: it gave the first of the bytes that it had, behind those that were held; so
-- these read, and those behind the request are held then
abbrev pub TakesRequest : (held held_now : List ℕ) → (unread unread_now : Option (List ℕ)) → Result Request WireFault → Type 0
TakesRequest held held_now unread unread_now answer = IfSome unread (λ had. IsRequestAnswer held had answer held_now unread_now)

-- AN ITEM OF A SESSION WAS SERVED, but for the writing of its reply: its request is the first of the bytes held and given, its moment the
-- next reading, and it was answered so, and told what it was answered, or that memory ran out as that was printed.
pub record ServesItem (number edge next_edge : ℕ) (held held_now : List ℕ) (old now : SessionView) (item : SessionItem) : Type 0 where
  pub request : TakesRequest held held_now old.unread now.unread (Ok item.request)
  pub moment : IfSome now.readings (λ readings. IfSome old.readings (λ before. readings ≡ before ++ item.moment ∷ []))
  pub clock_told : IfSome now.readings (λ readings. (before : List ℕ) × (old.readings ≡ Some before))
  pub clock_kept : KeepsTelling 1 old.readings now.readings
  pub call_edge : ℕ
  pub served : (origin : LakeOrigin) → old.seat.origin ≡ Some origin
      → IsItemServed lake_rules (opened_state origin) (caller old.seat.number number) edge old.seat.seen now.seat.seen (call_item item)
      call_edge (form_of (asked item.request))
  pub edge_is : next_edge ≡ max edge call_edge
  pub moves : Moves number old.seat now.seat
  pub counted : HasCounted old.store now.store item.met
  pub fitting : KeepsFitting old.seat now.seat old.store.held now.store.held
  pub given : (call : Call) → asked item.request ≡ Asks call
      → ReadsGiven old.seat now.seat old.store.held call item.met.bytes item.told item.position
  pub reads : (call : Call) → asked item.request ≡ Asks call → ReadsHeld old.seat old.store.held call item.told item.position
