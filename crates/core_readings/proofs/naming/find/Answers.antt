use Rattle.std.proofs.Common.{Ok, Err, Option, ap, ◌∙◌}
use Rattle.std.specs.Option.{option_map_or}
use Rattle.lake_base.specs.declared.digest.Digest.{Digest}
use Rattle.lake_model.specs.Readings.{name_in}
use Rattle.lake_model.specs.State.{Repository}
use Rattle.lake_model.specs.declared.fault.StepFault.TheVariants.{NoRef}
use Rattle.lake_model.specs.declared.fault.Reference.TheVariants.{Named}
use Rattle.core_state.specs.LakeStates.{lake_value}
use Rattle.core_readings.proofs.ReplyLemmas.{in_none, in_some}
use Rattle.core_readings.proofs.naming.find.Goals as goal

pub returns-in_default : goal.returns-in_default
returns-in_default c = in_none (lake_value c.args.lake.now) c.args.repo.now _ c.in_default.ensures

pub returns-in-Some-commit_of : goal.returns-in-Some-commit_of
unfolding lake_value
returns-in-Some-commit_of c =
    ap (λ (o : Option Digest). option_map_or (λ id. Ok (c.args.lake.now.entries, id)) o (Err (NoRef Named))) c.in-Some-commit_of.ensures
    ∙ in_some (lake_value c.args.lake.now) c.args.repo.now
    (λ (r : Repository). option_map_or (λ id. Ok (c.args.lake.now.entries, id)) (name_in r c.args.tags c.args.name.now) (Err (NoRef Named)))
    c.in-Some.repository.now c.in-Some.ensures

pub returns-in-None : goal.returns-in-None
unfolding lake_value
returns-in-None c =
    ap (λ (o : Option Digest). option_map_or (λ id. Ok (c.args.lake.now.entries, id)) o (Err (NoRef Named))) c.in-None.ensures
    ∙ in_some (lake_value c.args.lake.now) c.args.repo.now
    (λ (r : Repository). option_map_or (λ id. Ok (c.args.lake.now.entries, id)) (name_in r c.args.tags c.args.name.now) (Err (NoRef Named)))
    c.in-Some.repository.now c.in-Some.ensures
