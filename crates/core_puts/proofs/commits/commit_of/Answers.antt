use Rattle.std.proofs.Common.{ap, sym, ◌∙◌}
use Rattle.std.specs.FinMap.{empty}
use Rattle.lake_format.specs.Spelling.{file_name}
use Rattle.meta_range.specs.Ranges.{TreeValue, first_file}
use Rattle.meta_range.proofs.LawLemmas.{first_is}
use Rattle.core_state.specs.FirstStates.{first_record}
use Rattle.core_puts.proofs.commits.commit_of.Goals as goal

pub returns : goal.returns
unfolding first_record
returns c cut is =
    let name = c.name.ensures ∙ ap (λ (t : TreeValue). file_name (first_file t.files)) is ∙ sym (first_is cut empty) in
    let parents = c.of.ensures ∙ c.new.ensures.items in
    let committer = c.of-2.ensures ∙ c.in_ok-from_str.ensures.ok in
    let message = c.of-3.ensures ∙ c.in_ok-from_str-2.ensures.ok in
    λ i. record {
      meta_range = name i;
      generation = 1;
      date = c.args.date;
      parents = parents i;
      committer = committer i;
      message = message i;
      metadata = c.new-2.ensures i;
    }
