use Rattle.branch_record.proofs.LayersLemmas.{get_layered, get_overlay, layers_joined}
use Rattle.branch_record.proofs.laws.laws_of_layers.Goals as goal

pub returns : goal.returns
returns c = record { layers = get_layered; look = λ r tokens path. get_overlay tokens r path; joined = layers_joined }
