-- Two runs of one batch come to the same.
use Rattle.std.proofs.Common.{◌≡◌, ◌≢◌, ◌++◌, ℕ, Bool, true, false, List, [], Some, refl, sym, ap, ◌∙◌}
use Rattle.batch_lines.specs.Lines.{end_text}
use Rattle.batch_lines.specs.Outcome.{batch_status}
use Rattle.batch_lines.specs.ServedLines.{LineEffect, any_starved, text_of}
use Rattle.batch_lines.specs.Status.{status_of}
use Rattle.batch_lines.specs.declared.status.ExitStatus.{ExitStatus}
use Rattle.batch_lines.specs.declared.status.ExitStatus.TheVariants.{OutOfMemory}
use Rattle.folder_batch.specs.BatchWords.{BatchView}
use Rattle.program_words.specs.declared.batch.Timing.{Timing}
use Rattle.lake_program.specs.OneBatches.{AreOneBatch, IsRunTwice}
use Rattle.lake_program.specs.Run.{IsBatchRun}

not_starved : (starved done : Bool) (status : ExitStatus) → status ≡ status_of starved done → status ≢ OutOfMemory → starved ≡ false
not_starved true done status is fed = absurd (fed is)
not_starved false done status is fed = refl

pub one_batch : (timing other_timing : Timing) (input written : List ℕ) (before after other_before other_after : BatchView)
    (status other_status : ExitStatus) (run : IsBatchRun timing input written before after status)
    (other : IsBatchRun other_timing input written other_before other_after other_status)
    → IsRunTwice timing other_timing input written before after other_before other_after status other_status run other
    → AreOneBatch timing other_timing input written before after other_before other_after status other_status run other
one_batch timing other_timing input written before after other_before other_after status other_status run other is =
    let one = run.only other_timing other_before other_after other.begin other.end other.effects other.each is.files other.fresh other.timed is.told
    is.other_told is.clock
    (record {
      memory = not_starved (any_starved run.effects) _ status run.tells is.memory;
      files = run.sound;
      objects = run.calm;
      pairs = run.pairs;
    })
    (record {
      memory = not_starved (any_starved other.effects) _ other_status other.tells is.other_memory;
      files = other.sound;
      objects = other.calm;
      pairs = other.pairs;
    }) is.apart in
    record {
      output = run.text ∙ (ap (λ (effects : List LineEffect). Some (written ++ (text_of effects ++ end_text 1073741824 input []))) one.lines ∙ sym other.text);
      status_is = run.tells ∙ (ap (batch_status 1073741824 input) one.lines ∙ sym other.tells);
      files = run.files ∙ (one.files ∙ sym other.files);
      history = one.history;
    }
