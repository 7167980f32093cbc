-- The requests of a session, and what became of them.
use Rattle.std.specs.Prelude.{◌≡◌, ◌<◌, ◌+◌, ℕ, Bool, true, false, List, [], ◌∷◌, ◌++◌, All, length, Option, IfSome, IsSome, Ok}
use Rattle.lake_base.specs.Outside.{last_count}
use Rattle.http_wire.specs.declared.message.Request.{Request}
use Rattle.http_wire.specs.Messages.{ReadsRequestAt}
use Rattle.call_placement.specs.Sessions.{Item}
use Rattle.lake_calls.specs.CallExceptions.{CallMet}
use Rattle.lake_calls.specs.Requests.{CallRequest}
use Rattle.lake_calls.specs.declared.reply.CallReply.{CallReply}
use Rattle.api_forms.specs.CallForms.{asked}
use Rattle.lake_session.specs.declared.report.Placed.{Placed}
use Rattle.lake_session.specs.SessionTexts.{closes_behind, told_text}

-- A request of a session: the moment of the clock at which it was answered, what its call met, what its client was told, and the
-- position of that in the history.
pub record SessionItem : Type 0 where
  pub request : Request
  pub moment : ℕ
  pub met : CallMet
  pub told : CallReply
  pub position : ℕ

-- what was asked of the lake, and told
abbrev pub call_item : SessionItem → Item CallRequest CallMet CallReply
call_item item = record {
  request = record { asked = asked item.request; moment = item.moment };
  met = item.met;
  reply = item.told;
  position = item.position;
}

-- THE REQUESTS ARE THE FIRST MESSAGES of these bytes, one after the other, and behind them stand those
abbrev pub AreFirst : List SessionItem → (bytes rest : List ℕ) → Type 0
AreFirst [] bytes rest = rest ≡ bytes
AreFirst (item ∷ items) bytes rest = (behind : List ℕ) × ReadsRequestAt bytes (Ok (item.request, behind)) × AreFirst items behind rest

-- the moments at which they were answered
abbrev pub moments : List SessionItem → List ℕ
moments [] = []
moments (item ∷ items) = item.moment ∷ moments items

-- a clock that told its readings before tells them now, as long as their number, with so many more, is below the last value of a count
abbrev pub KeepsTelling : (more : ℕ) → (before now : Option (List ℕ)) → Type 0
KeepsTelling more before now = IfSome before (λ readings. length readings + more < last_count → IsSome now)

-- what is written of the item of a number
abbrev pub item_text : (number : ℕ) → SessionItem → List ℕ
item_text number item = told_text (closes_behind number item.request) item.told

-- WHAT IS WRITTEN of items numbered from this one on: reply by reply
abbrev pub texts : (number : ℕ) → List SessionItem → List ℕ
texts number [] = []
texts number (item ∷ items) = item_text number item ++ texts (number + 1) items

-- what a report says of an item: its number, its position, and whether its reply was written
abbrev pub placed_item : (number : ℕ) → SessionItem → (written : Bool) → Placed
placed_item number item written = record { call = number; position = item.position; written = written }

-- what it says of items numbered from this one on, whose replies were all written
abbrev pub placed_items : (number : ℕ) → List SessionItem → List Placed
placed_items number [] = []
placed_items number (item ∷ items) = placed_item number item true ∷ placed_items (number + 1) items

-- no client asked for the connection to close
abbrev pub NoneCloses : List SessionItem → Type 0
NoneCloses items = All (λ (item : SessionItem). item.request.close ≡ false) items
