use Rattle.lake_values.specs.declared.commit.ResetWhat.TheVariants.{All}
use Rattle.core_state.specs.LakeStates.{state_of}
use Rattle.core_standing.proofs.PresentLemmas.{present_sound}
use Rattle.core_standing.proofs.PlainLemmas.{branch_plain, default_plain, tag_plain}
use Rattle.core_standing.proofs.plain_names.laws_of_plain_names.Goals as goal

pub returns-clause-write : goal.returns-clause-write
returns-clause-write c opened history l by repo branch stands none =
    branch_plain (state_of l) (present_sound c.law_of_soundness.ensures.replay opened history l stands) repo branch
    (c.law_of_write_steps.ensures.reset (state_of l) by repo branch All none).possible

pub returns-clause-seal : goal.returns-clause-seal
returns-clause-seal c opened history l by repo branch why stands none =
    branch_plain (state_of l) (present_sound c.law_of_soundness.ensures.replay opened history l stands) repo branch
    (c.law_of_write_steps.ensures.seal (state_of l) by repo branch why none).possible

pub returns-clause-delete_branch : goal.returns-clause-delete_branch
returns-clause-delete_branch c opened history l by repo name stands none =
    branch_plain (state_of l) (present_sound c.law_of_soundness.ensures.replay opened history l stands) repo name
    (c.law_of_name_steps.ensures.delete_branch (state_of l) by repo name none).possible

pub returns-clause-delete_tag : goal.returns-clause-delete_tag
returns-clause-delete_tag c opened history l by repo name stands none =
    tag_plain (state_of l) (present_sound c.law_of_soundness.ensures.replay opened history l stands) repo name
    (c.law_of_name_steps.ensures.delete_tag (state_of l) by repo name none).possible

pub returns-clause-default_branch : goal.returns-clause-default_branch
returns-clause-default_branch c opened history l repo stands =
    default_plain l (present_sound c.law_of_soundness.ensures.replay opened history l stands) repo
