-- What comes of a request that a session of its own serves.
use Rattle.std.specs.Prelude.{◌≡◌, ◌++◌, ℕ, List, [], ◌∷◌, length, Option, Some, None, IfSome, Ok, Err}
use Rattle.http_wire.specs.ReplyText.{reply_text}
use Rattle.http_wire.specs.declared.fault.WireFault.{WireFault}
use Rattle.http_wire.specs.declared.message.Reply.{Reply}
use Rattle.http_wire.specs.declared.message.Request.{Request}
use Rattle.lakectl_requests.specs.SentReadings.{read_back}
use Rattle.lake_core.specs.declared.standing.LakeOrigin.{LakeOrigin}
use Rattle.shared_lake.specs.SeatSteps.{LakeSeat}
use Rattle.lake_session.specs.AnswerWords.{KeepsFitting}
pub use Rattle.lake_session.specs.SessionItems.{KeepsTelling, SessionItem, call_item, item_text, moments}
pub use Rattle.lake_session.specs.SessionTexts.{closes_behind, last_reply, reply_to_fault, told_text}
pub use Rattle.lake_session.specs.SessionViews.{StoreView}
use Rattle.lake_session.specs.WholeSessions.{AllTellHeld, ServesAll}
pub use Rattle.lake_session.specs.WholeSessions.{AreCounted, GoesThrough, TellsHeld}

-- what is asked to serve a request: the clock's readings, the store of objects, and a seat
pub record LakeView : Type 0 where
  pub readings : Option (List ℕ)
  pub store : StoreView
  pub seat : LakeSeat

-- THE ITEMS OF A SESSION WERE SERVED, all of them, and nothing else was done: at the clock's next readings, which it goes on telling as
-- long as it can count them, and placed in one legal history behind what the seat had seen.
pub record ServesItems (old now : LakeView) (items : List SessionItem) : Type 0 where
  pub moment : IfSome now.readings (λ readings. (before : List ℕ) × (old.readings ≡ Some before) × (readings ≡ before ++ moments items))
  pub kept : KeepsTelling (length items) old.readings now.readings
  pub goes : GoesThrough old.seat now.seat
  pub edge : ℕ
  pub history : (origin : LakeOrigin) → old.seat.origin ≡ Some origin → ServesAll origin old.seat now.seat items edge
  pub counted : AreCounted now.seat old.store items now.store
  pub fitting : KeepsFitting old.seat now.seat old.store.held now.store.held
  pub tells : AllTellHeld old.seat now.seat old.store.held items

-- WHAT CAME OF A REQUEST, and what was written back: its reply, of which none is told where no memory was left for it.
pub data Exchanges (request : Request) (old now : LakeView) (written : Option (List ℕ)) : Type 0 where
  -- it is within the reader's limits, and was answered
  Answered : (item : SessionItem) → item.request ≡ request → read_back request [] ≡ Ok (request, []) → ServesItems old now (item ∷ [])
      → written ≡ Some (item_text 1 item) → Exchanges request old now written
  -- its head or its body is above the limit: it isn't served
  Unread : (fault : WireFault) (reply : Reply) → read_back request [] ≡ Err fault → reply_to_fault fault ≡ Some reply → ServesItems old now []
      → written ≡ Some (reply_text reply) → Exchanges request old now written
  -- no memory was left for it
  Starved : ServesItems old now [] → written ≡ Some (reply_text last_reply) → Exchanges request old now written
  -- it was answered, and no memory was left to write the reply
  AnsweredUnwritten : (item : SessionItem) → item.request ≡ request → read_back request [] ≡ Ok (request, [])
      → ServesItems old now (item ∷ []) → written ≡ None → Exchanges request old now written
  -- it wasn't served, and no memory was left to say why
  UnservedUnwritten : ServesItems old now [] → written ≡ None → Exchanges request old now written
