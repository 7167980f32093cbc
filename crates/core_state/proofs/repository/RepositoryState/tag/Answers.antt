use Rattle.core_state.proofs.PlacesLemmas.{found_at, none_at}
use Rattle.core_state.proofs.repository.RepositoryState.tag.Goals as goal

pub returns-in-Some : goal.returns-in-Some
returns-in-Some c = found_at (λ tag. tag) c.args.self.now.tags c.args.name.now c.in-Some.tag.now c.in-Some.ensures

pub returns-in-None : goal.returns-in-None
returns-in-None c = none_at (λ tag. tag) c.args.self.now.tags c.args.name.now c.in-None.ensures
