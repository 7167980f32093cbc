-- What came of one turn of a session: a request was served, or the session ended.
use Rattle.std.specs.Prelude.{◌≡◌, ◌≤◌, ◌⊎◌, ◌++◌, ℕ, Bool, true, false, List, [], ◌∷◌, Option, Some, None, IfSome, Result, Ok, Err, ⊤}
use Rattle.lake_base.specs.Outside.{Rose}
use Rattle.lake_base.specs.declared.outside.Failed.{Failed}
use Rattle.http_wire.specs.Filling.{Gave}
use Rattle.http_wire.specs.Messages.{IsRequestHeadOf, IsUnfinished, ReadsRequestAt, fields_of, request_of}
use Rattle.http_wire.specs.ReplyText.{reply_text}
use Rattle.http_wire.specs.SinkFronts.{Wrote, WroteFront}
use Rattle.http_wire.specs.declared.fault.WireFault.{WireFault}
use Rattle.http_wire.specs.declared.fault.WireFault.TheVariants.{Ended, Truncated}
use Rattle.http_wire.specs.declared.message.Reply.{Reply}
use Rattle.httparse.specs.Grammar.{RequestHead}
use Rattle.lake_session.specs.declared.report.End.{End}
use Rattle.lake_session.specs.declared.report.End.TheVariants as end
use Rattle.lake_session.specs.declared.report.Placed.{Placed}
use Rattle.lake_session.specs.SessionItems.{SessionItem, item_text, placed_item}
use Rattle.lake_session.specs.SessionTexts.{last_reply, reply_to_fault}
use Rattle.lake_session.specs.SessionViews.{ServesItem, SessionView}

-- no whole request stands in the bytes, and no fault but that they end
abbrev pub HoldsPart : List ℕ → Type 0
HoldsPart = IsUnfinished IsRequestHeadOf (λ (head : RequestHead). fields_of head.fields) request_of (Some 67108864)

-- the bytes given have this fault, where they are told
abbrev pub IsFaultOf : WireFault → (given : Option (List ℕ)) → Type 0
IsFaultOf fault given = IfSome given (λ bytes. ReadsRequestAt bytes (Err fault))

-- the bytes given have this fault, and where it is that they end, nothing is left
abbrev pub HasFault : WireFault → (given left : List ℕ) → Type 0
HasFault Ended given left = ReadsRequestAt given (Err Ended) × (left ≡ [])
HasFault (Truncated n) given left = ReadsRequestAt given (Err (Truncated n)) × (left ≡ [])
HasFault fault given left = ReadsRequestAt given (Err fault)

-- WHAT STANDS BEHIND THE REQUESTS of a session that ended so, of what its source gave, and is left of what this had: all whole requests
-- that were given first were answered, unless it ended before them.
abbrev pub IsLeft : End → (rest left : List ℕ) → Type 0
IsLeft end.SourceEnded rest left = HasFault Ended rest left
IsLeft (end.Wire fault) rest left = HasFault fault rest left
IsLeft end.ReadFault rest left = HoldsPart rest
IsLeft _ rest left = ⊤

-- nothing changed but what is unread, what was written, and what the source and the sink counted
pub record NothingServed (old now : SessionView) : Type 0 where
  pub readings : now.readings ≡ old.readings
  pub store : now.store ≡ old.store
  pub seat : now.seat ≡ old.seat

-- the reply that ends a session behind these bytes: to their fault, or that of want of memory
abbrev pub IsLastReply : (behind : Option (List ℕ)) → Reply → Type 0
IsLastReply behind sent = ((fault : WireFault) × IsFaultOf fault behind × (reply_to_fault fault ≡ Some sent)) ⊎ (sent ≡ last_reply)

-- a session ended so behind these bytes, and nothing was served
abbrev pub EndsUnserved : (behind : Option (List ℕ)) → (old now : SessionView) → End → Type 0
EndsUnserved behind old now end.SourceEnded = now.written ≡ old.written
EndsUnserved behind old now end.ReadFault = Rose old.read_faults now.read_faults × (now.written ≡ old.written)
EndsUnserved behind old now (end.Wire fault) =
    ((n : ℕ) × (fault ≡ Truncated n) × (now.written ≡ old.written))
    ⊎ ((sent : Reply) × (reply_to_fault fault ≡ Some sent) × Wrote old.written now.written (reply_text sent))
EndsUnserved behind old now end.NoMemory = Wrote old.written now.written (reply_text last_reply)
EndsUnserved behind old now end.WriteFault =
    Rose old.write_faults now.write_faults × (sent : Reply) × IsLastReply behind sent × WroteFront old.written now.written (reply_text sent)
EndsUnserved behind old now end.Closed = ⊥
EndsUnserved behind old now end.RequestLimit = ⊥

-- what a session keeps from one request to the next: what it has to report, its edge, and the bytes that are held, which were read ahead
pub record Tally : Type 0 where
  pub placed : List Placed
  pub edge : ℕ
  pub held : List ℕ

-- an item was served, and its reply was written whole
pub record ServesWhole (number : ℕ) (old now : SessionView) (tally tally_now : Tally) (item : SessionItem) : Type 0 where
  pub serves : ServesItem number tally.edge tally_now.edge tally.held tally_now.held old now item
  pub placed : tally_now.placed ≡ tally.placed ++ placed_item number item true ∷ []
  pub wrote : Wrote old.written now.written (item_text number item)

-- an item was served, and a front of its reply was written before the sink failed
pub record ServesInPart (number : ℕ) (old now : SessionView) (tally tally_now : Tally) (item : SessionItem) : Type 0 where
  pub serves : ServesItem number tally.edge tally_now.edge tally.held tally_now.held old now item
  pub placed : tally_now.placed ≡ tally.placed ++ placed_item number item false ∷ []
  pub wrote : WroteFront old.written now.written (item_text number item)
  pub failed : Rose old.write_faults now.write_faults

-- nothing was served, and the session ended so, behind these bytes of those held and given
pub record EndsSo (old now : SessionView) (tally tally_now : Tally) (ended : End) : Type 0 where
  pub behind : Option (List ℕ)
  pub read : IfSome old.unread (λ had. Gave tally.held had now.unread (λ given left. (behind ≡ Some given) × IsLeft ended given left))
  pub nothing : NothingServed old now
  pub tally_is : tally_now ≡ record tally { held = tally_now.held }
  pub ends : EndsUnserved behind old now ended

-- WHAT CAME OF A TURN: the session goes on behind an item, or it ended so.
abbrev pub TurnEnds : (number : ℕ) → (old now : SessionView) → (tally tally_now : Tally) → Option End → Type 0
TurnEnds number old now tally tally_now None =
    (item : SessionItem) × ServesWhole number old now tally tally_now item × (item.request.close ≡ false)
TurnEnds number old now tally tally_now (Some end.Closed) =
    (item : SessionItem) × ServesWhole number old now tally tally_now item × (item.request.close ≡ true)
TurnEnds number old now tally tally_now (Some end.WriteFault) =
    ((item : SessionItem) × ServesInPart number old now tally tally_now item) ⊎ EndsSo old now tally tally_now end.WriteFault
TurnEnds number old now tally tally_now (Some ended) = EndsSo old now tally tally_now ended

-- A TURN: the counts of the streams don't fall, the moments are the clock's, and it came to this.
pub record IsTurn (number : ℕ) (old now : SessionView) (tally tally_now : Tally) (answer : Option End) : Type 0 where
  pub read_faults : old.read_faults ≤ now.read_faults
  pub write_faults : old.write_faults ≤ now.write_faults
  pub came : TurnEnds number old now tally tally_now answer

-- whether a session ends behind a reply that was to be written, whose client asks for the connection to close or doesn't
abbrev pub end_behind : {T : Type 0} → Result T Failed → (close : Bool) → Option End
end_behind (Err failed) close = Some end.WriteFault
end_behind (Ok done) true = Some end.Closed
end_behind (Ok done) false = None
