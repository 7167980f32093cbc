-- Words on the pairs of a lake, handed on to who stands on these laws.
pub use Rattle.core_pairs.specs.KeptPlaces.{HasPlaces}
pub use Rattle.core_pairs.specs.LakePairs.{AreTokensApart, StandFor, at_rest}
pub use Rattle.core_pairs.specs.PutWords.{fresh_puts}
pub use Rattle.core_pairs.specs.PutWords.{branch_at, create_branch_puts, create_repository_puts, create_tag_puts, delete_branch_puts}
pub use Rattle.core_pairs.specs.PutWords.{delete_tag_puts, new_head_puts, note_text, reset_puts, seal_puts, set_note_puts, stage_puts}
pub use Rattle.core_pairs.specs.PutWords.{ticket_puts}
pub use Rattle.core_standing.specs.Standing.{MayMake, Stands}
