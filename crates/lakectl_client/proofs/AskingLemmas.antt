-- What comes of asking a server, from what came over its connection.
use Rattle.std.proofs.Common.{◌≡◌, ◌++◌, ◌∷◌, [], ℕ, List, Option, Some, IfSome, IfOk, Result, Ok, Err, refl, sym, subst}
use Rattle.lake_base.specs.declared.outside.Trouble.{Trouble}
use Rattle.lake_base.specs.declared.outside.Trouble.TheVariants.{Failed, NoMemory}
use Rattle.block_store.specs.Blocks.{FailsByFault}
use Rattle.http_wire.specs.SinkFronts.{Wrote}
use Rattle.http_wire.specs.Streams.{Streams}
use Rattle.http_wire.specs.declared.message.Reply.{Reply}
use Rattle.lakectl_commands.specs.SentCommands.{ReadsReplyOf}
use Rattle.lakectl_client.specs.AskedServers.{Asks, BrokenOff, IsExchange, IsOneCall, Starved, Unread}
use Rattle.lakectl_client.specs.Dialing.{DialView, Dialed}

-- all was sent, and the reply was read, or wasn't
pub read_so : (text : List ℕ) (given back : Streams) (result : Result (Option Reply) Trouble) → Wrote given.written back.written text
    → IfOk result (ReadsReplyOf given.unread back.unread) → FailsByFault given.read_faults back.read_faults result → IsExchange text given back result
read_so text given back (Ok reply) sent read cause = record { sent = sent; read = read }
read_so text given back (Err Failed) sent read cause = Unread refl sent (cause.failed refl)
read_so text given back (Err NoMemory) sent read cause = Starved refl sent

-- the one connection was given and hung up
pub one_call : (at : List ℕ) (old middle now : DialView) (given back : Streams)
    → IfSome old.dialed (λ before. middle.dialed ≡ Some (before ++ record { at = at; streams = given } ∷ [])) → now.dialed ≡ middle.dialed
    → middle.hung_up ≡ old.hung_up → IfSome middle.hung_up (λ before. now.hung_up ≡ Some (before ++ back ∷ [])) → IsOneCall at old now given back
one_call at old middle now given back dialed same none hung_up = record {
  dialed = subst (λ (d : Option (List Dialed)). IfSome old.dialed (λ before. d ≡ Some (before ++ record { at = at; streams = given } ∷ []))) (sym same) dialed;
  hung_up = subst (λ (h : Option (List Streams)). IfSome h (λ before. now.hung_up ≡ Some (before ++ back ∷ []))) none hung_up;
}

-- it gave an answer, or none
pub asked_so : (at text : List ℕ) (old now : DialView) (given back : Streams) (result : Result (Option Reply) Trouble) → IsOneCall at old now given back
    → IsExchange text given back result → Asks at text old now result
asked_so at text old now given back (Ok reply) call answered = record { given = given; back = back; call = call; answered = answered }
asked_so at text old now given back (Err trouble) call none = BrokenOff given back call none
