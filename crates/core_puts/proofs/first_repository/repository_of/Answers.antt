use Rattle.std.proofs.Common.{None, ap, ◌∙◌}
use Rattle.std.specs.FinMap.{empty, insert}
use Rattle.byte_map.specs.Values.{some_values}
use Rattle.byte_map.proofs.ValuesLemmas.{some_values_empty}
use Rattle.lake_format.specs.Spelling.{commit_id}
use Rattle.core_state.specs.BranchStates.{new_branch}
use Rattle.core_puts.proofs.FoundingLemmas.{first_named}
use Rattle.core_puts.proofs.first_repository.repository_of.Goals as goal

pub returns : goal.returns
returns c cut is =
    let date = ap (λ commit. commit.date) c.commit.view_is in
    let branch = c.new_branch.ensures ∙ ap (λ id. new_branch c.args.version id c.args.token) is.name in
    let branches = c.in_ok-branches.ensures ∙ ap (insert empty c.args.branch) branch in
    let tags = ap (some_values (λ tag. tag)) c.new.ensures ∙ some_values_empty (λ tag. tag) in
    let named = ap commit_id is.content ∙ first_named cut c.args.commit.date in
    let commits = c.in_ok-graph.ensures ∙ (λ i. insert empty (named i).0 (is.content i)) in
    let trees = c.in_ok-trees.ensures ∙ (λ i. insert empty (is.name i).0 (is.files i)) in
    λ i. record {
      created = date i;
      default_branch = c.args.branch;
      settings = 0;
      branches = branches i;
      tags = tags i;
      commits = commits i;
      trees = trees i;
      expired = c.new-2.ensures i;
      notes = record { retention = None; protection = None; hooks = None };
    }
