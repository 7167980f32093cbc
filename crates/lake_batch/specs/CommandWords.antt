-- What is said of commands, and handed on: what a session exchanges, and what a command and a line come to.
pub use Rattle.lakectl_session.specs.Exchanges.{Answered, AnsweredUnwritten, AreCounted, Exchanges, GoesThrough, LakeView, ServesItems, SessionItem}
pub use Rattle.lakectl_session.specs.Exchanges.{Starved, StoreView, TellsHeld, Unread, UnservedUnwritten, call_item, closes_behind, item_text}
pub use Rattle.lakectl_session.specs.Exchanges.{last_reply, moments, reply_to_fault, told_text}
pub use Rattle.lakectl_session.specs.ServedCommands.{Behind, CommandEnds, CommandShows, CommandStops, CommandView, LineEnds, LineShows, LineStops, NoFile, Sent}
pub use Rattle.lakectl_session.specs.ServedCommands.{Unsent, Usage}
