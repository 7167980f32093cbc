-- A session over bytes in memory.
use Rattle.std.proofs.Common.{◌≡◌, ◌≢◌, ℕ, List, [], Option, Some, None, Result, Ok, Err, IfOk, refl, sym, subst}
use Rattle.lake_base.specs.Memory.{MemorySinkValue}
use Rattle.lake_base.specs.declared.outside.NoMemory.{NoMemory}
use Rattle.http_wire.specs.declared.message.Reply.{Reply}
use Rattle.http_wire.specs.declared.message.Request.{Request}
use Rattle.lakectl_commands.specs.SentCommands.{IsReplyRead}
use Rattle.lake_session.specs.SessionViews.{SessionView}
use Rattle.lake_session.specs.WholeSessions.{IsSession}
use Rattle.lake_session.specs.declared.report.End.TheVariants as end
use Rattle.lake_session.specs.declared.report.SessionReport.{SessionReport}
use Rattle.lakectl_session.specs.Exchanges.{LakeView}
use Rattle.lakectl_session.specs.SessionsInMemory.{IsClosingText, IsExchanged, IsSessionOf, in_memory}
use Rattle.lakectl_session.proofs.ExchangeLemmas.{exchanged}

module _ (text : List ℕ) (old now : LakeView) (left : Option (List ℕ)) (given : List ℕ) (first sink : MemorySinkValue) (report : SessionReport) where
  -- what the session began with, as its source and its sink show it
  abbrev begun : List ℕ → (written : List ℕ) → (faults : ℕ) → SessionView
  begun unread written faults = in_memory old (Some unread) written faults

  session_is : given ≡ text → first.written ≡ [] → first.faults ≡ 0
      → IsSession (begun given first.written first.faults) (in_memory now left sink.written sink.faults) report
      → IsSession (begun text [] 0) (in_memory now left sink.written sink.faults) report
  session_is same none quiet is =
      subst (λ (faults : ℕ). IsSession (begun text [] faults) (in_memory now left sink.written sink.faults) report) quiet
      (subst (λ (written : List ℕ). IsSession (begun text written first.faults) (in_memory now left sink.written sink.faults) report) none
      (subst (λ (bytes : List ℕ). IsSession (begun bytes first.written first.faults) (in_memory now left sink.written sink.faults) report) same is))

  -- what it wrote, where the sink didn't fail
  pub whole_session : given ≡ text → first.written ≡ [] → first.faults ≡ 0
      → IsSession (begun given first.written first.faults) (in_memory now left sink.written sink.faults) report
      → report.end ≢ end.WriteFault → IsSessionOf text old now (Some sink.written)
  whole_session same none quiet is well = record {
    left = left;
    out = sink.written;
    faults = sink.faults;
    report = report;
    is = session_is same none quiet is;
    wrote = λ told. well;
    whole = λ bytes told. let bytes_are : sink.written ≡ bytes = cc told in sym bytes_are;
    failed = λ told. let never : ⊥ = cc told in absurd never;
  }

  -- and where it did
  pub part_session : given ≡ text → first.written ≡ [] → first.faults ≡ 0
      → IsSession (begun given first.written first.faults) (in_memory now left sink.written sink.faults) report
      → report.end ≡ end.WriteFault → IsSessionOf text old now None
  part_session same none quiet is fails = record {
    left = left;
    out = sink.written;
    faults = sink.faults;
    report = report;
    is = session_is same none quiet is;
    wrote = λ told. let never : ⊥ = cc told in absurd never;
    whole = λ bytes told. let never : ⊥ = cc told in absurd never;
    failed = λ told. fails;
  }

-- the seat is at the same lake
pub session_turn : (text : List ℕ) (old now : LakeView) (written : Option (List ℕ)) → IsSessionOf text old now written → now.seat.turn ≡ old.seat.turn
session_turn text old now written s = s.is.goes.turn

-- what was read of what was written
pub exchange_read : (request : Request) (text : List ℕ) (old now : LakeView) (written : List ℕ) (result : Result (Option Reply) NoMemory)
    → IsClosingText request text → IsSessionOf text old now (Some written) → ((reply : Option Reply) → result ≡ Ok reply → IsReplyRead written reply)
    → IsExchanged request old now result
exchange_read request text old now written (Ok reply) closing s reads =
    (written, exchanged request text closing old now (Some written) s, reads reply refl)
exchange_read request text old now written (Err starved) closing s reads = (Some written, exchanged request text closing old now (Some written) s)

pub exchange_starved : (request : Request) (text : List ℕ) (old now : LakeView) (starved : NoMemory) → IsClosingText request text
    → IsSessionOf text old now None → IsExchanged request old now (Err starved)
exchange_starved request text old now starved closing s = (None, exchanged request text closing old now None s)

-- what was read of the bytes that were written
pub reply_of : (result : Result (Option Reply) NoMemory) (bytes written : List ℕ) → bytes ≡ written → IfOk result (IsReplyRead bytes)
    → (reply : Option Reply) → result ≡ Ok reply → IsReplyRead written reply
reply_of result bytes written same reads reply is =
    subst (λ (b : List ℕ). IsReplyRead b reply) same (subst (λ (r : Result (Option Reply) NoMemory). IfOk r (IsReplyRead bytes)) is reads)
