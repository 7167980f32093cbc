use Rattle.std.proofs.Common.{ap, ◌∙◌}
use Rattle.lake_values.specs.Ancestry.{due_generation}
use Rattle.lake_format.specs.Spelling.{commit_id}
use Rattle.meta_range.specs.declared.file.File.{File}
use Rattle.core_state.specs.BranchStates.{branch_value}
use Rattle.core_state.specs.RepositoryStates.{repository_value}
use Rattle.core_commits.specs.HeadOperations.{draft_for, swap_parents}
use Rattle.core_commits.proofs.CommitLemmas.{about_is, parents_are, record_is, tree_is}
use Rattle.core_commits.proofs.commits.new_head.Goals as goal

pub returns : goal.returns
returns c cut =
    let r = repository_value c.args.repository.now in
    let b = branch_value c.args.branch.now in
    let draft = draft_for c.args.kind c.args.about r b in
    let parents = c.in_ok-parents.ensures ∙ ap (swap_parents c.args.kind) c.head.ensures ∙ parents_are c.args.about r b c.args.kind in
    let due = c.in-Some.ensures ∙ ap (due_generation r.commits) (c.as_slice.ensures.value ∙ parents) in
    let said = c.about.view_is ∙ about_is c.args.about r b c.args.kind in
    record {
      content = c.in_ok-content.ensures.spelled;
      limits = c.in_ok-content.ensures.limits;
      tree = c.in_ok-tree.ensures.ok;
      drafted = λ is.
          let commit = record_is cut draft c.args.tree is r.commits _ _ _ _ c.name.ensures due (c.of.ensures ∙ parents) said in
          let id = ap (λ (file : File). file.name) c.in_ok-content.ensures.spelled ∙ ap commit_id commit in
          let tree = c.in_ok-tree.ensures.ok ∙ tree_is cut draft c.args.tree is in
          λ i. record { id = id i; content = commit i; tree = tree i };
    }
