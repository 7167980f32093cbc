use Rattle.lake_laws.proofs.AllowanceLemmas.{branch_create_allowed, branch_delete_allowed, tag_create_allowed, tag_delete_allowed}
use Rattle.lake_laws.proofs.step_names.law_of_name_steps.Goals as goal

pub returns : goal.returns
returns c = record {
  create_branch = branch_create_allowed;
  delete_branch = branch_delete_allowed;
  create_tag = tag_create_allowed;
  delete_tag = tag_delete_allowed;
}
