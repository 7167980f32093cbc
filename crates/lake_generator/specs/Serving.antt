-- How lines of the generator are served, whatever serves them.
use Rattle.std.specs.Prelude.{◌≡◌, ℕ, Bool, true, false, List, [], ◌∷◌, ◌++◌, Result, Ok, Err}
use Rattle.batch_lines.specs.ServedLines.{AreServed, IsLineServed, LineEffect, LineReply}
use Rattle.batch_lines.specs.declared.status.ExitStatus.{ExitStatus}
use Rattle.lake_generator.specs.Counting.{any_failure, failure_status, heads_done, is_failure, is_head, is_upload, uploads_done}
use Rattle.lake_generator.specs.declared.serving.Counts.{Counts}

-- what is told of a line: that it was done, or found no changes; or the status with which the run ends
abbrev pub Tells : LineEffect → Result Bool ExitStatus → Type 0
Tells effect (Ok done) = (is_failure effect ≡ false) × (effect.done ≡ done)
Tells effect (Err status) = (is_failure effect ≡ true) × (status ≡ failure_status effect)

-- a line that makes a commit or a merge
abbrev pub MakesHead : List ℕ → Type 0
MakesHead line = (is_upload line ≡ false) × (is_head line ≡ true)

-- What may be answered to a line, and what served the first.
module _ {L : Type 0} (serves : List ℕ → L → L → LineReply → Type 0) where
  -- a line was served
  pub record ServesOne (line : List ℕ) (old now : L) (result : Result Bool ExitStatus) : Type 0 where
    pub effect : LineEffect
    pub served : IsLineServed serves line old effect now
    pub tells : Tells effect result

  module _ (first : L) where
    -- these lines were served, and none failed
    pub record HasServed (lines : List (List ℕ)) (counts : Counts) (now : L) : Type 0 where
      pub effects : List LineEffect
      pub each : AreServed serves lines first effects now
      pub fine : any_failure effects ≡ false
      pub uploads : counts.uploads ≡ uploads_done lines effects
      pub heads : counts.heads ≡ heads_done lines effects

    -- these lines were served up to one that failed
    pub record HasStopped (lines : List (List ℕ)) (status : ExitStatus) (now : L) : Type 0 where
      pub served : List (List ℕ)
      pub unserved : List (List ℕ)
      pub whole : served ++ unserved ≡ lines
      pub effects : List LineEffect
      pub last : LineEffect
      pub each : AreServed serves served first (effects ++ last ∷ []) now
      pub fine : any_failure effects ≡ false
      pub failed : is_failure last ≡ true
      pub tells : status ≡ failure_status last

    -- the one or the other
    abbrev pub Goes : List (List ℕ) → Result Counts ExitStatus → L → Type 0
    Goes lines (Ok counts) now = HasServed lines counts now
    Goes lines (Err status) now = HasStopped lines status now
