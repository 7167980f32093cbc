use Rattle.std.proofs.Common.{refl}
use Rattle.lake_model.specs.State.{HasRepository, map_of}
use Rattle.lake_laws.proofs.HistoryLemmas.{kept-replay}
use Rattle.lake_laws.proofs.IdentityLemmas.{HasMapped, mapped-after, tagged-replay}
use Rattle.lake_laws.proofs.BasesLemmas.{bases_stay}
use Rattle.lake_laws.proofs.identity.law_of_identity.Goals as goal

pub returns-clause-commits : goal.returns-clause-commits
returns-clause-commits c state entries repo r id commit legal is has =
    kept-replay (λ s. HasRepository s repo (HasMapped id commit (map_of r id))) entries state (λ s entry. mapped-after id commit (map_of r id) s entry repo)
    legal (r, is, (has, refl))

pub returns-clause-tags : goal.returns-clause-tags
returns-clause-tags c state entries repo tag r id legal is has stays = tagged-replay tag id repo entries state legal stays (r, is, has)

pub returns-clause-bases : goal.returns-clause-bases
returns-clause-bases c state entries repo r a b sound legal is = bases_stay state entries repo r sound legal is a b
