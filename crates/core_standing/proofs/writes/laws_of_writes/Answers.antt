use Rattle.lake_model.specs.declared.history.Operation.TheVariants.{Copy, Reset, Seal, Stage}
use Rattle.core_state.specs.LakeStates.{state_of}
use Rattle.core_changes.specs.LakeChanges.{after_copy, after_reset, after_seal, after_stage}
use Rattle.core_standing.specs.Standing.{versions_since}
use Rattle.core_standing.proofs.MakingLemmas.{may_make}
use Rattle.core_standing.proofs.PresentLemmas.{present_sound}
use Rattle.core_standing.proofs.writes.laws_of_writes.Goals as goal

pub returns-clause-stage : goal.returns-clause-stage
returns-clause-stage c opened history l by repo branch version path change stands none ticket =
    may_make opened history l by (Stage repo branch path change) stands
    (c.law_of_write_steps.ensures.stage (state_of l) (versions_since opened history) by repo branch version path change none ticket)
    (after_stage repo branch path change)
    (c.laws_of_states.ensures.stage l by repo branch path change stands.tokens)
    (c.laws_of_counts.ensures.stage (versions_since opened history) l by repo branch path change)
    (c.laws_of_tokens.ensures.stage l repo branch path change)
    (c.laws_of_few.ensures.stage l repo branch path change) (c.laws_of_few.ensures.fault l)
    (c.laws_of_indexes.ensures.stage l repo branch path change) (c.laws_of_indexes.ensures.fault l)

pub returns-clause-copy : goal.returns-clause-copy
returns-clause-copy c opened history l by repo branch version path e source from entry stands none found leads =
    may_make opened history l by (Copy repo branch path source from entry) stands
    (c.law_of_write_steps.ensures.copy (state_of l) (versions_since opened history) by repo branch version path e source from entry
    (present_sound c.law_of_soundness.ensures.replay opened history l stands) none found leads)
    (after_copy repo branch path entry)
    (c.laws_of_states.ensures.copy l by repo branch path source from entry stands.tokens)
    (c.laws_of_counts.ensures.copy (versions_since opened history) l by repo branch path source from entry)
    (c.laws_of_tokens.ensures.copy l repo branch path entry)
    (c.laws_of_few.ensures.copy l repo branch path entry) (c.laws_of_few.ensures.fault l)
    (c.laws_of_indexes.ensures.copy l repo branch path entry) (c.laws_of_indexes.ensures.fault l)

pub returns-clause-reset : goal.returns-clause-reset
returns-clause-reset c opened history l by repo branch what stands none =
    may_make opened history l by (Reset repo branch what) stands
    (c.law_of_write_steps.ensures.reset (state_of l) by repo branch what none) (after_reset repo branch what)
    (c.laws_of_states.ensures.reset l by repo branch what)
    (c.laws_of_counts.ensures.reset (versions_since opened history) l by repo branch what)
    (c.laws_of_tokens.ensures.reset l repo branch what)
    (c.laws_of_few.ensures.reset l repo branch what) (c.laws_of_few.ensures.fault l)
    (c.laws_of_indexes.ensures.reset l repo branch what) (c.laws_of_indexes.ensures.fault l)

pub returns-clause-seal : goal.returns-clause-seal
returns-clause-seal c opened history l by repo branch why stands none =
    may_make opened history l by (Seal repo branch why) stands
    (c.law_of_write_steps.ensures.seal (state_of l) by repo branch why none) (after_seal repo branch)
    (c.laws_of_states.ensures.seal l by repo branch why stands.tokens)
    (c.laws_of_counts.ensures.seal (versions_since opened history) l by repo branch why)
    (c.laws_of_tokens.ensures.seal l repo branch)
    (c.laws_of_few.ensures.seal l repo branch) (c.laws_of_few.ensures.fault l)
    (c.laws_of_indexes.ensures.seal l repo branch) (c.laws_of_indexes.ensures.fault l)
