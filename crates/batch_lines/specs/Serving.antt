-- How one line of a batch is served.
use Rattle.std.specs.Prelude.{◌≡◌, ◌&&◌, ◌||◌, ℕ, true, false, List, ◌++◌, Result, Ok, Err}
use Rattle.http_wire.specs.SinkFronts.{WroteFront, Shows}
use Rattle.batch_lines.specs.declared.stop.Stop.{Stop}
use Rattle.batch_lines.specs.declared.stop.Stop.TheVariants.{SinkFailed, HostFailed}
use Rattle.batch_lines.specs.ServedLines.{LineReply, LineEffect, IsLineServed}
use Rattle.batch_lines.specs.Progress.{Progress, BatchState}

module _ (old new : Progress) (effect : LineEffect) where
  -- what the line shows is written or pending
  pub record IsShown : Type 0 where
    pub sound : effect.failed ≡ false
    pub shown : Shows old.written new.written old.pending effect.text new.pending
    pub done : new.done ≡ (old.done && effect.done)
    pub starved : new.starved ≡ (old.starved || effect.starved)

  -- the sink failed: a front was written of what was pending and of what the line shows
  pub record IsCutOff : Type 0 where
    pub sound : effect.failed ≡ false
    pub front : WroteFront old.written new.written (old.pending ++ effect.text)

  -- the server failed
  pub record IsLost : Type 0 where
    pub failed : effect.failed ≡ true
    pub shown : Shows old.written new.written old.pending effect.text new.pending

  -- one of these
  abbrev pub Tells : Result (Unit {0}) Stop → Type 0
  Tells (Ok _) = IsShown
  Tells (Err SinkFailed) = IsCutOff
  Tells (Err HostFailed) = IsLost

-- a line was served, and what it came to was told
pub record ServesLine {L : Type 0} (serves : List ℕ → L → L → LineReply → Type 0) (old new : BatchState L) (line : List ℕ)
    (result : Result (Unit {0}) Stop) : Type 0 where
  pub effect : LineEffect
  pub served : IsLineServed serves line old.server effect new.server
  pub tells : Tells old.progress new.progress effect result
