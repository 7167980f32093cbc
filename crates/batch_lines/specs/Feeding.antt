-- What a batch has done once some bytes of its source were given.
use Rattle.std.specs.Prelude.{◌≡◌, ◌+◌, ℕ, true, false, List, [], ◌∷◌, ◌++◌, take, Result, Ok, Err}
use Rattle.http_wire.specs.SinkFronts.{IsPrefix, WroteFirst, WroteFront, Shows}
use Rattle.batch_lines.specs.declared.stop.Stop.{Stop}
use Rattle.batch_lines.specs.declared.stop.Stop.TheVariants.{SinkFailed, HostFailed}
use Rattle.batch_lines.specs.ServedLines.{LineReply, LineEffect, AreServed, text_of, all_done, any_starved, any_failed}
use Rattle.batch_lines.specs.Lines.{ended_lines, last_part}
use Rattle.batch_lines.specs.Outcome.{Trace}
use Rattle.batch_lines.specs.Progress.{BatchState}

-- So many bytes are kept of the line under way: enough to tell that it is too long, with a carriage return at its end.
abbrev pub line_room : ℕ
line_room = 65536 + 2

-- What may be answered to a line, what stood before the batch, and what the lines had come to that were served when its
-- source was read last. These are the first of the lines, and all that they showed was written before that.
module _ {L : Type 0} (serves : List ℕ → L → L → LineReply → Type 0) (before : Trace L) (first : List LineEffect) where
  -- These lines were served. What they showed is written or pending, and this text behind it.
  pub record HasShown (lines : List (List ℕ)) (text : List ℕ) (now : BatchState L) : Type 0 where
    pub effects : List LineEffect
    pub each : AreServed serves lines before.server effects now.server
    pub sound : any_failed effects ≡ false
    pub shown : Shows before.written now.progress.written [] (text_of effects ++ text) now.progress.pending
    pub done : now.progress.done ≡ all_done effects
    pub starved : now.progress.starved ≡ any_starved effects
    pub later : List LineEffect
    pub begun : first ++ later ≡ effects
    pub early : WroteFirst before.written now.progress.written (text_of first)

  -- These lines were served, and a front was written of what they showed and of the text behind it.
  pub record IsBrokenOff (lines : List (List ℕ)) (text : List ℕ) (now : BatchState L) : Type 0 where
    pub effects : List LineEffect
    pub each : AreServed serves lines before.server effects now.server
    pub sound : any_failed effects ≡ false
    pub front : WroteFront before.written now.progress.written (text_of effects ++ text)
    pub later : List LineEffect
    pub begun : first ++ later ≡ effects
    pub early : WroteFirst before.written now.progress.written (text_of first)

  -- These lines were served, and the server failed at the last. What they showed is written or pending.
  pub record HasFailed (lines : List (List ℕ)) (now : BatchState L) : Type 0 where
    pub effects : List LineEffect
    pub last : LineEffect
    pub each : AreServed serves lines before.server (effects ++ last ∷ []) now.server
    pub sound : any_failed effects ≡ false
    pub failed : last.failed ≡ true
    pub shown : Shows before.written now.progress.written [] (text_of (effects ++ last ∷ [])) now.progress.pending
    pub later : List LineEffect
    pub begun : first ++ later ≡ effects
    pub early : WroteFirst before.written now.progress.written (text_of first)

  -- the first, the second where the sink failed, or the third where the server did
  abbrev pub ShowsLines : List (List ℕ) → List ℕ → BatchState L → Result (Unit {0}) Stop → Type 0
  ShowsLines lines text now (Ok _) = HasShown lines text now
  ShowsLines lines text now (Err SinkFailed) = IsBrokenOff lines text now
  ShowsLines lines text now (Err HostFailed) = HasFailed lines now

  -- After the given bytes the lines that ended in them were served and shown. The line under way is the last part, of
  -- which a front is kept.
  pub record HasServed (given : List ℕ) (now : BatchState L) (kept : List ℕ) : Type 0 where
    pub ended : HasShown (ended_lines given) [] now
    pub under_way : kept ≡ take line_room (last_part given)

  -- After the given bytes a chunk was fed, whole, or up to where the sink or the server failed.
  abbrev pub Feeds : List ℕ → List ℕ → BatchState L → List ℕ → Result (Unit {0}) Stop → Type 0
  Feeds given chunk now kept (Ok _) = HasServed (given ++ chunk) now kept
  Feeds given chunk now kept (Err SinkFailed) =
      (part : List ℕ) × IsPrefix part chunk × IsBrokenOff (ended_lines (given ++ part)) [] now
  Feeds given chunk now kept (Err HostFailed) =
      (part : List ℕ) × IsPrefix part chunk × HasFailed (ended_lines (given ++ part)) now
