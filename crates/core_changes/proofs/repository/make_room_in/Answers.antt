use Rattle.std.proofs.Common.{ap}
use Rattle.lake_base.specs.Maps.{ByteMap}
use Rattle.core_state.specs.BranchStates.{BranchStateValue, branch_value}
use Rattle.core_state.specs.RepositoryStates.{repository_value}
use Rattle.core_changes.proofs.PlacesLemmas.{same_values}
use Rattle.core_changes.proofs.repository.make_room_in.Goals as goal

pub returns-in-Branch-clause-same : goal.returns-in-Branch-clause-same
returns-in-Branch-clause-same c =
    let r = repository_value c.args.r.now in
    ap (λ (m : ByteMap BranchStateValue). record r { branches = m })
    (same_values branch_value c.args.r.now.branches c.make_place.new.places c.make_place.ensures.same)
