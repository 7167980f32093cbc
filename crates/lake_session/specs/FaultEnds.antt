-- How a session ends at a message that isn't read, by what it writes then.
use Rattle.std.specs.Prelude.{◌≡◌, ◌⊎◌, ℕ, List, Option, Some}
use Rattle.lake_base.specs.Outside.{Rose}
use Rattle.http_wire.specs.ReplyText.{reply_text}
use Rattle.http_wire.specs.SinkFronts.{Wrote, WroteFront}
use Rattle.http_wire.specs.declared.fault.WireFault.{WireFault}
use Rattle.http_wire.specs.declared.fault.WireFault.TheVariants.{Ended, NoMemory, ReadFault, Truncated}
use Rattle.http_wire.specs.declared.message.Reply.{Reply}
use Rattle.lake_session.specs.declared.report.End.{End}
use Rattle.lake_session.specs.declared.report.End.TheVariants as end
use Rattle.lake_session.specs.SessionTexts.{last_reply, reply_to_fault}

-- the last reply was written, and this is the end; or a front of it was, and the sink failed
abbrev pub EndsBehind : (ended : End) → (sent : Reply) → (before now : Option (List ℕ)) → (faults faults_now : ℕ) → End → Type 0
EndsBehind ended sent before now faults faults_now answer =
    ((answer ≡ ended) × Wrote before now (reply_text sent))
    ⊎ ((answer ≡ end.WriteFault) × Rose faults faults_now × WroteFront before now (reply_text sent))

-- it ends for want of memory
abbrev pub StarvesAtEnd : (before now : Option (List ℕ)) → (faults faults_now : ℕ) → End → Type 0
StarvesAtEnd before now faults faults_now answer = EndsBehind end.NoMemory last_reply before now faults faults_now answer

-- by its fault: nothing is written, or its reply
abbrev pub EndsByFault : WireFault → (before now : Option (List ℕ)) → (faults faults_now : ℕ) → End → Type 0
EndsByFault Ended before now faults faults_now answer = (answer ≡ end.SourceEnded) × (now ≡ before)
EndsByFault ReadFault before now faults faults_now answer = (answer ≡ end.ReadFault) × (now ≡ before)
EndsByFault NoMemory before now faults faults_now answer = StarvesAtEnd before now faults faults_now answer
EndsByFault (Truncated n) before now faults faults_now answer = (answer ≡ end.Wire (Truncated n)) × (now ≡ before)
EndsByFault fault before now faults faults_now answer =
    (sent : Reply) × (reply_to_fault fault ≡ Some sent) × EndsBehind (end.Wire fault) sent before now faults faults_now answer
