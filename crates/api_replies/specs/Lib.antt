pub mod NoFloats
pub mod PrintedReplies
pub mod RefusalTexts
pub mod ReplyForms
