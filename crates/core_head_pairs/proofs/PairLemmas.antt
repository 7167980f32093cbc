-- Words on the pairs of a lake, handed on to who stands on these laws.
pub use Rattle.core_pairs.proofs.ChangeLemmas.{follow_none}
pub use Rattle.core_standing.proofs.KindLemmas.{kind_asks}
pub use Rattle.core_standing.proofs.PlaceLemmas.{Place, branch_there, place_of, repository_there}
pub use Rattle.core_standing.proofs.PresentLemmas.{is_there, isnt_there}
