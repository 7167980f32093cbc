use Rattle.branch_record.proofs.LayerCursorLemmas.{over_maps, over_rows}
use Rattle.branch_record.proofs.layer_laws.law_of_layers.Goals as goal

pub returns : goal.returns
returns c = record { rows = over_rows; maps = over_maps }
