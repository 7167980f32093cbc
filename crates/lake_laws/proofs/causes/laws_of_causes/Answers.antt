use Rattle.lake_laws.proofs.ToldLemmas.{change_refused, write_refused, stage_refused, copy_refused, seal_refused, create_branch_refused, delete_branch_refused}
use Rattle.lake_laws.proofs.ToldLemmas.{create_tag_refused, delete_tag_refused, set_note_refused, create_repository_refused, expire_refused, swap_refused}
use Rattle.lake_laws.proofs.causes.laws_of_causes.Goals as goal

pub returns : goal.returns
returns c = record {
  change = change_refused;
  write = write_refused;
  stage = λ state given repo branch version. stage_refused state repo given branch version;
  copy = λ state given repo branch version. copy_refused state repo given branch version;
  seal = λ why state repo branch. seal_refused state repo why branch;
  create_branch = create_branch_refused;
  delete_branch = delete_branch_refused;
  create_tag = create_tag_refused;
  delete_tag = delete_tag_refused;
  set_note = λ state given repo. set_note_refused state repo given;
  create_repository = create_repository_refused;
  swap = λ state given repo branch version settings. swap_refused state repo given branch version settings;
  expire = expire_refused;
}
