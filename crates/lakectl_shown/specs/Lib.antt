pub mod FormTables
pub mod ShownForms
pub mod ShownReplies
