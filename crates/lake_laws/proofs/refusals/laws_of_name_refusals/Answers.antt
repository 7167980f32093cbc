use Rattle.lake_laws.proofs.RefusalLemmas.{create_branch_none, create_tag_none, delete_branch_none, delete_tag_none, set_note_none}
use Rattle.lake_laws.proofs.refusals.laws_of_name_refusals.Goals as goal

pub returns-clause-create_branch : goal.returns-clause-create_branch
returns-clause-create_branch c state by repo name e id may leads = create_branch_none state _ may repo name e id may.possible leads

pub returns-clause-delete_branch : goal.returns-clause-delete_branch
returns-clause-delete_branch c state by repo name may = delete_branch_none state _ may repo name may.possible

pub returns-clause-create_tag : goal.returns-clause-create_tag
returns-clause-create_tag c state by repo name e id may leads = create_tag_none state _ may repo name e id may.possible leads

pub returns-clause-delete_tag : goal.returns-clause-delete_tag
returns-clause-delete_tag c state by repo name may = delete_tag_none state _ may repo name may.possible

pub returns-clause-set_note : goal.returns-clause-set_note
returns-clause-set_note c state given by repo expected name note may current =
    set_note_none state _ may repo given expected name note may.possible current
