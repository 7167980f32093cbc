use Rattle.core_pairs.proofs.ChangeLemmas.{follow_branch_create, follow_note, follow_tag_create, follow_tag_delete}
use Rattle.core_pairs.proofs.GoneLemmas.{follow_branch_delete}
use Rattle.core_pairs.proofs.changes.laws_of_kept_names.Goals as goal

pub returns-clause-create_branch : goal.returns-clause-create_branch
returns-clause-create_branch c pairs l repo name commit stand few there none named digest =
    follow_branch_create pairs l repo name commit stand few there none named digest

pub returns-clause-delete_branch : goal.returns-clause-delete_branch
returns-clause-delete_branch c pairs l repo name stand apart there = follow_branch_delete pairs l repo name stand apart there

pub returns-clause-create_tag : goal.returns-clause-create_tag
returns-clause-create_tag c pairs l repo name commit stand there named digest = follow_tag_create pairs l repo name stand named commit there digest

pub returns-clause-delete_tag : goal.returns-clause-delete_tag
returns-clause-delete_tag c pairs l repo name stand there named = follow_tag_delete pairs l repo name stand named there

pub returns-clause-set_note : goal.returns-clause-set_note
returns-clause-set_note c pairs l repo name note stand few there is_of bytes = follow_note pairs l repo name note stand few is_of bytes there
