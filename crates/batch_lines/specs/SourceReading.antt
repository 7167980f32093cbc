-- How the source of a batch is read.
use Rattle.std.specs.Prelude.{◌≡◌, ◌≤◌, ◌<◌, ℕ, List, [], ◌++◌, length, take, Option, Some, IfSome, Result, Ok, Err}
use Rattle.lake_base.specs.Outside.{Reads}
use Rattle.http_wire.specs.SinkFronts.{IsPrefix, Wrote, WroteFront}
use Rattle.batch_lines.specs.declared.stop.End.{End}
use Rattle.batch_lines.specs.declared.stop.End.TheVariants.{Source, TooLong, SourceFailed, SinkFailed, HostFailed}
use Rattle.batch_lines.specs.ServedLines.{LineReply, LineEffect}
use Rattle.batch_lines.specs.Lines.{ended_lines}
use Rattle.batch_lines.specs.Outcome.{Trace, IsReadOut, IsReadTo}
use Rattle.batch_lines.specs.Progress.{Progress, BatchState}
use Rattle.batch_lines.specs.Feeding.{HasShown, IsBrokenOff, HasFailed, HasServed}

-- what was pending was written
pub record IsFlushed (old new : Progress) : Type 0 where
  pub wrote : Wrote old.written new.written old.pending
  pub none : new.pending ≡ []
  pub done : new.done ≡ old.done
  pub starved : new.starved ≡ old.starved

-- What was pending was written, and then a piece was read into the front of the room, or one of these failed.
abbrev pub NextPiece : (old new : Progress) → (left after : Option (List ℕ)) → (before room : List ℕ) → Result ℕ End
    → Type 0
NextPiece old new left after before room (Ok count) =
    IsFlushed old new × IfSome left (λ bytes. Reads bytes after before room count)
NextPiece old new left after before room (Err Source) =
    IsFlushed old new × IfSome left (λ bytes. Reads bytes after before room 0)
NextPiece old new left after before room (Err SourceFailed) = IsFlushed old new × (after ≡ left)
NextPiece old new left after before room (Err SinkFailed) =
    WroteFront old.written new.written old.pending × (after ≡ left)
NextPiece old new left after before room (Err end) = ⊥

module _ {L : Type 0} (serves : List ℕ → L → L → LineReply → Type 0) (before : Trace L) (most : ℕ) (input : List ℕ)
    (source : Option (List ℕ)) where
  -- So many bytes of the input were given and fed. Behind them a piece was given that isn't fed yet.
  pub record Reaches (total : ℕ) (piece : List ℕ) (now : BatchState L) (kept : List ℕ) : Type 0 where
    pub first : List LineEffect
    pub read : IsReadTo serves before.server most input source first
    pub given : List ℕ
    pub behind : read.earlier ++ read.piece ≡ given ++ piece
    pub ahead : length read.earlier ≤ length given
    pub count : total ≡ length given
    pub served : HasServed serves before first given now kept

  -- The source gave all or more than the limit, and these bytes of it were fed.
  pub record IsFed (limit : ℕ) (given : List ℕ) (now : BatchState L) (kept : List ℕ) : Type 0 where
    pub out : IsReadOut limit most input source
    pub first : List LineEffect
    pub read : IsReadTo serves before.server most input source first
    pub served : HasServed serves before first given now kept

  -- The source failed after it gave these bytes within the limit; of what their lines show nothing is pending.
  pub record IsBroken (limit : ℕ) (now : BatchState L) : Type 0 where
    pub given : List ℕ
    pub rest : List ℕ
    pub whole : given ++ rest ≡ input
    pub left : source ≡ Some rest
    pub within : length given ≤ limit
    pub first : List LineEffect
    pub shown : HasShown serves before first (ended_lines given) [] now
    pub written : now.progress.pending ≡ []

  -- The sink failed at what the lines show that ended in a part of what was given.
  pub record IsCutAt (limit : ℕ) (now : BatchState L) : Type 0 where
    pub part : List ℕ
    pub front : IsPrefix part (take limit input)
    pub first : List LineEffect
    pub read : IsReadTo serves before.server most input source first
    pub cut : IsBrokenOff serves before first (ended_lines part) [] now

  -- The server failed at the last of the lines that ended in a part of what was given.
  pub record IsLostAt (limit : ℕ) (now : BatchState L) : Type 0 where
    pub part : List ℕ
    pub front : IsPrefix part (take limit input)
    pub first : List LineEffect
    pub read : IsReadTo serves before.server most input source first
    pub lost : HasFailed serves before first (ended_lines part) now

  -- The source ended within the limit, it gave more, it failed, or the sink or the server failed.
  abbrev pub Ends : ℕ → BatchState L → List ℕ → End → Type 0
  Ends limit now kept Source = (length input ≤ limit) × IsFed limit input now kept
  Ends limit now kept TooLong = (limit < length input) × IsFed limit (take limit input) now kept
  Ends limit now kept SourceFailed = IsBroken limit now
  Ends limit now kept SinkFailed = IsCutAt limit now
  Ends limit now kept HostFailed = IsLostAt limit now
