use Rattle.http_wire.proofs.UniqueLemmas.{never_long}
use Rattle.http_wire.proofs.laws.law_of_long_bodies.Goals as goal

pub returns : goal.returns
returns c = never_long
