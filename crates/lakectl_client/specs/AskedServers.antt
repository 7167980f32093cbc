-- What comes of asking a server.
use Rattle.std.specs.Prelude.{◌≡◌, ◌++◌, ℕ, List, [], ◌∷◌, Option, Some, IfSome, Result, Ok, Err}
use Rattle.lake_base.specs.Outside.{Rose}
use Rattle.lake_base.specs.declared.outside.Trouble.{Trouble}
use Rattle.lake_base.specs.declared.outside.Trouble.TheVariants.{Failed, NoMemory}
use Rattle.http_wire.specs.SinkFronts.{Wrote, WroteFront}
use Rattle.http_wire.specs.Streams.{Streams}
use Rattle.http_wire.specs.declared.message.Reply.{Reply}
use Rattle.lakectl_commands.specs.SentCommands.{ReadsReplyOf}
use Rattle.lakectl_client.specs.Dialing.{DialView}

-- ---- over a connection

module _ (text : List ℕ) (given back : Streams) where
  -- all of these bytes were sent, and this was read of what came back
  pub record IsAnswered (reply : Option Reply) : Type 0 where
    pub sent : Wrote given.written back.written text
    pub read : ReadsReplyOf given.unread back.unread reply

  -- No answer was read: a front of them was sent before the sink failed; or all were, and the source failed, or memory ran out.
  pub data IsUnanswered (trouble : Trouble) : Type 0 where
    Unsent : trouble ≡ Failed → WroteFront given.written back.written text → Rose given.write_faults back.write_faults → IsUnanswered trouble
    Unread : trouble ≡ Failed → Wrote given.written back.written text → Rose given.read_faults back.read_faults → IsUnanswered trouble
    Starved : trouble ≡ NoMemory → Wrote given.written back.written text → IsUnanswered trouble

  -- the one or the other
  abbrev pub IsExchange : Result (Option Reply) Trouble → Type 0
  IsExchange (Ok reply) = IsAnswered reply
  IsExchange (Err trouble) = IsUnanswered trouble

-- ---- connections

-- one connection to this address was given, with these streams, and hung up with those; and no other was
pub record IsOneCall (at : List ℕ) (old now : DialView) (given back : Streams) : Type 0 where
  pub dialed : IfSome old.dialed (λ before. now.dialed ≡ Some (before ++ record { at = at; streams = given } ∷ []))
  pub hung_up : IfSome old.hung_up (λ before. now.hung_up ≡ Some (before ++ back ∷ []))

-- no connection was given, and none was hung up
pub record IsNoCall (old now : DialView) : Type 0 where
  pub dialed : now.dialed ≡ old.dialed
  pub hung_up : now.hung_up ≡ old.hung_up

module _ (at text : List ℕ) (old now : DialView) where
  -- A SERVER WAS ASKED, over one connection: all of these bytes were sent, and this was read of what came back
  pub record HasAsked (reply : Option Reply) : Type 0 where
    pub given : Streams
    pub back : Streams
    pub call : IsOneCall at old now given back
    pub answered : IsAnswered text given back reply

  -- NO SERVER ANSWERED: none was reached, or its connection gave no answer
  pub data HasFailed (trouble : Trouble) : Type 0 where
    Unreached : IsNoCall old now → (trouble ≡ Failed → Rose old.faults now.faults) → HasFailed trouble
    BrokenOff : (given back : Streams) → IsOneCall at old now given back → IsUnanswered text given back trouble → HasFailed trouble

  -- the one or the other
  abbrev pub Asks : Result (Option Reply) Trouble → Type 0
  Asks (Ok reply) = HasAsked reply
  Asks (Err trouble) = HasFailed trouble
