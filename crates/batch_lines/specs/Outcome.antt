-- What became of a whole batch.
use Rattle.std.specs.Prelude.{◌≡◌, ◌<◌, ◌≤◌, ◌⊎◌, ◌+◌, ◌&&◌, ℕ, true, false, nat_le, List, [], ◌∷◌, ◌++◌, length, Option, Some}
use Rattle.lake_base.specs.Outside.{Rose}
use Rattle.http_wire.specs.SinkFronts.{IsPrefix, Wrote, WroteFirst}
use Rattle.batch_lines.specs.declared.status.ExitStatus.{ExitStatus}
use Rattle.batch_lines.specs.declared.status.ExitStatus.TheVariants.{Done, Refused, Usage}
use Rattle.batch_lines.specs.declared.status.ExitStatus.TheVariants.{SourceFailed, SinkFailed, HostFailed, PairsRefused, OutOfMemory}
use Rattle.batch_lines.specs.ServedLines.{LineReply, LineEffect, AreServed, text_of, all_done, any_starved, any_failed}
use Rattle.batch_lines.specs.Lines.{ended_lines, batch_lines, end_text}
use Rattle.batch_lines.specs.Status.{status_of}

-- what a batch changes line by line: what serves the lines, what the sink got, and how often that has failed
pub record Trace (L : Type 0) : Type 0 where
  pub server : L
  pub written : Option (List ℕ)
  pub faults : ℕ

-- how far a batch came: the lines that were served and those that weren't, what each served line came to, and what was
-- written
pub record Extent : Type 0 where
  pub served : List (List ℕ)
  pub unserved : List (List ℕ)
  pub effects : List LineEffect
  pub out : List ℕ

-- The status of a batch whose lines came to this: 7 where memory ran out at one, else 0 where each was done and the
-- batch isn't too long, else 1.
abbrev pub batch_status : ℕ → List ℕ → List LineEffect → ExitStatus
batch_status limit input effects = status_of (any_starved effects) (all_done effects && nat_le (length input) limit)

-- All was read: the source gave all of the input, or more than the limit, by at most what it gives at once.
pub record IsReadOut (limit most : ℕ) (input : List ℕ) (source : Option (List ℕ)) : Type 0 where
  pub given : List ℕ
  pub rest : List ℕ
  pub whole : given ++ rest ≡ input
  pub left : source ≡ Some rest
  pub enough : (rest ≡ []) ⊎ ((limit < length given) × (length given ≤ limit + most))

-- All lines were served, and all that they show was written.
pub record IsWhole (limit most : ℕ) (input : List ℕ) (source : Option (List ℕ)) (extent : Extent)
    (status : ExitStatus) : Type 0 where
  pub read : IsReadOut limit most input source
  pub all : extent.unserved ≡ []
  pub sound : any_failed extent.effects ≡ false
  pub text : extent.out ≡ text_of extent.effects ++ end_text limit input []
  pub tells : status ≡ batch_status limit input extent.effects

-- Just the lines that ended in what the source gave were served, and all that they show was written.
pub record IsGiven (limit : ℕ) (input : List ℕ) (source : Option (List ℕ)) (extent : Extent) : Type 0 where
  pub given : List ℕ
  pub rest : List ℕ
  pub whole : given ++ rest ≡ input
  pub left : source ≡ Some rest
  pub within : length given ≤ limit
  pub lines : extent.served ≡ ended_lines given
  pub sound : any_failed extent.effects ≡ false
  pub text : extent.out ≡ text_of extent.effects

-- What may be answered to a line, and what served the first.
module _ {L : Type 0} (serves : List ℕ → L → L → LineReply → Type 0) (server : L) where
  -- The source gave a front of the input, and then a piece of at most so many bytes. The lines that ended in that front
  -- came to these effects.
  pub record IsReadTo (most : ℕ) (input : List ℕ) (source : Option (List ℕ)) (first : List LineEffect) : Type 0 where
    pub earlier : List ℕ
    pub piece : List ℕ
    pub rest : List ℕ
    pub whole : (earlier ++ piece) ++ rest ≡ input
    pub left : source ≡ Some rest
    pub few : length piece ≤ most
    pub reached : L
    pub each : AreServed serves (ended_lines earlier) server first reached

module _ {L : Type 0} (serves : List ℕ → L → L → LineReply → Type 0) (most : ℕ) (before after : Trace L) (input : List ℕ)
    (source : Option (List ℕ)) where
  -- The sink failed. All was written that the lines show that ended before the last piece, so that no more than such a
  -- piece was read after the failed write.
  pub record IsStopped (extent : Extent) : Type 0 where
    pub first : List LineEffect
    pub later : List LineEffect
    pub begun : first ++ later ≡ extent.effects
    pub sound : any_failed extent.effects ≡ false
    pub read : IsReadTo serves before.server most input source first
    pub early : WroteFirst before.written after.written (text_of first)

  -- The server failed at the last line that was served, and at no other. That line ended in the last piece, or nothing
  -- ended it, so that nothing was read after it. All that the lines show was written, or the sink failed too.
  pub record IsAbandoned (extent : Extent) : Type 0 where
    pub first : List LineEffect
    pub later : List LineEffect
    pub last : LineEffect
    pub begun : (first ++ later) ++ last ∷ [] ≡ extent.effects
    pub sound : any_failed (first ++ later) ≡ false
    pub failed : last.failed ≡ true
    pub read : IsReadTo serves before.server most input source first
    pub early : WroteFirst before.written after.written (text_of first)
    pub text : (extent.out ≡ text_of extent.effects) ⊎ Rose before.faults after.faults

module _ {L : Type 0} (serves : List ℕ → L → L → LineReply → Type 0) (limit most : ℕ) (before after : Trace L)
    (input : List ℕ) (source : Option (List ℕ)) where
  -- how much was read, served and written, by the status
  abbrev pub EndsWith : Extent → ExitStatus → Type 0
  EndsWith extent Done = IsWhole limit most input source extent Done
  EndsWith extent Refused = IsWhole limit most input source extent Refused
  EndsWith extent Usage = ⊥
  EndsWith extent SourceFailed = IsGiven limit input source extent
  EndsWith extent SinkFailed = IsStopped serves most before after input source extent
  EndsWith extent HostFailed = IsAbandoned serves most before after input source extent
  EndsWith extent PairsRefused = ⊥
  EndsWith extent OutOfMemory = IsWhole limit most input source extent OutOfMemory

  -- What became of the batch of an input, of which this is left in its source, which gives at most so many bytes at once.
  pub record Outcome (status : ExitStatus) : Type 0 where
    pub extent : Extent
    -- the lines were served in their order,
    pub lines : extent.served ++ extent.unserved ≡ batch_lines limit input
    -- each by what the server was after the one before
    pub each : AreServed serves extent.served before.server extent.effects after.server
    -- a front of what they show was written, and nothing else
    pub wrote : Wrote before.written after.written extent.out
    pub front : IsPrefix extent.out (text_of extent.effects ++ end_text limit input extent.unserved)
    pub ended : EndsWith extent status
