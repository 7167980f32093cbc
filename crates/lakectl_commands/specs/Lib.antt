pub mod HeldFiles
pub mod SentCommands
pub mod Sendings
pub mod SavedReplies
pub mod ShownTexts
