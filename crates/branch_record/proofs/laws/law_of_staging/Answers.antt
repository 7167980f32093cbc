use Rattle.branch_record.proofs.LayersLemmas.{said_changed, staged_changed, layers_kept}
use Rattle.branch_record.proofs.laws.law_of_staging.Goals as goal

pub returns : goal.returns
returns c = record {
  look = λ r tokens path other change distinct. said_changed tokens r.staging path change r.sealed other distinct;
  staged = λ r tokens path change. staged_changed tokens r.staging path change;
  sealed = λ r tokens path change distinct. layers_kept tokens r.staging path change r.sealed distinct;
}
