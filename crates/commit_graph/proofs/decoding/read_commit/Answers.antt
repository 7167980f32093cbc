use Rattle.std.proofs.Common.{◌≤◌, length, subst, sym}
use Rattle.lake_format.proofs.FieldsLemmas.{text_limits, long_text_limits}
use Rattle.commit_graph.proofs.ReadingLemmas.{generation_is, parents_few}
use Rattle.commit_graph.proofs.decoding.read_commit.Goals as goal

pub invariant_of-commit : goal.invariant_of-commit
invariant_of-commit c =
    let committer = text_limits 1 128 c.in_ok-parents.rest.now c.in_ok-committer.committer c.in_ok-committer.rest.now c.in_ok-committer.ensures in
    let message = long_text_limits 65536 c.in_ok-committer.rest.now c.in_ok-message.message c.in_ok-message.rest.now c.in_ok-message.ensures in
    record {
      remark = record { some = committer.long; short = committer.short; short_message = message.short };
      counted = (generation_is c.in_ok-meta_range.rest.now c.in_ok-generation.generation c.in_ok-generation.rest.now c.in_ok-generation.ensures).1;
      few = subst (λ ids. length ids ≤ 2) (sym c.of.ensures)
          (parents_few c.in_ok-date.rest.now c.in_ok-parents.parents.items c.in_ok-parents.rest.now c.in_ok-parents.ensures);
    }
