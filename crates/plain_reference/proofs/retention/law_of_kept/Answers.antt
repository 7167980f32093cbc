use Rattle.plain_reference.proofs.RetentionKeptLemmas.{kept_from, kept_to, kept_ascends}
use Rattle.plain_reference.proofs.retention.law_of_kept.Goals as goal

pub returns : goal.returns
returns c = record {
  all = λ graph heads tags rules now id is. (kept_from graph is heads tags rules now id, kept_to graph is heads tags rules now id);
  order = λ graph heads tags rules now. kept_ascends graph heads tags rules now;
}
