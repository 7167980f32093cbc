use Rattle.lake_model.specs.declared.history.Operation.TheVariants.{NoteSet}
use Rattle.core_state.specs.LakeStates.{state_of}
use Rattle.core_changes.specs.LakeChanges.{after_note_set}
use Rattle.core_standing.specs.Standing.{versions_since}
use Rattle.core_standing.proofs.MakingLemmas.{may_make}
use Rattle.core_standing.proofs.PresentLemmas.{is_there}
use Rattle.core_standing.proofs.names.law_of_settings.Goals as goal

pub returns : goal.returns
returns c opened history l by repo expected name note stands none named =
    let allowed = c.law_of_note_steps.ensures.set_note (state_of l) (versions_since opened history) by repo expected name note none named in
    may_make opened history l by (NoteSet repo name note) stands allowed (after_note_set repo name note)
    (c.laws_of_states.ensures.note_set l by repo name note)
    (λ has. c.laws_of_counts.ensures.note_set (versions_since opened history) l by repo name note has
    (is_there l repo allowed.possible.0 allowed.possible.1))
    (c.laws_of_tokens.ensures.note_set l repo name note)
    (c.laws_of_few.ensures.note_set l repo name note) (c.laws_of_few.ensures.fault l)
    (c.laws_of_indexes.ensures.note_set l repo name note) (c.laws_of_indexes.ensures.fault l)
