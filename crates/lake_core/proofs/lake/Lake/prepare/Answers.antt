use Rattle.std.specs.Prelude.{IfSome, option_copied}
use Rattle.core_state.specs.LakeStates.{lake_value}
use Rattle.lake_model.specs.Preparing.{prepare_reply}
use Rattle.lake_model.specs.Refusals.{Gives}
use Rattle.core_readings.specs.Preparations.{HasSides, prepared_answer}
use Rattle.lake_core.proofs.PreparingLemmas.{modulus_told}
use Rattle.lake_core.proofs.StepLemmas.{held_then, holds_now}
use Rattle.lake_core.proofs.lake.Lake.prepare.Goals as goal

pub prepare-requires-clause-sound : goal.prepare-requires-clause-sound
prepare-requires-clause-sound g c = c.law_of_present.ensures _ _ _ c.self.invariant.stands

pub prepare-requires-clause-index : goal.prepare-requires-clause-index
prepare-requires-clause-index g c = c.self.invariant.stands.index

pub prepare-requires-clause-sides : goal.prepare-requires-clause-sides
prepare-requires-clause-sides g c =
    held_then (λ s given. IfSome (option_copied c.args.sides) (HasSides s c.args.repo.now)) c.self.view_is c.self.invariant.stands.replayed c.requires

pub returns-clause-reply : goal.returns-clause-reply
returns-clause-reply g c =
    holds_now (λ s given. Gives (prepared_answer c.prepare.result) (prepare_reply s given c.args.repo.now c.args.branch.now (option_copied c.args.sides)))
    c.self.view_is c.self.invariant.stands.replayed (c.prepare.ensures.reply _ c.self.invariant.stands.versions)

pub returns-clause-modulus : goal.returns-clause-modulus
returns-clause-modulus g c = modulus_told c.prepare.result (lake_value c.self.inside.present).cut c.prepare.ensures.cut c.self.invariant.stands.modulus
