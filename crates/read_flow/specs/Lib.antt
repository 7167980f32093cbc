pub mod ObjectLooks
pub mod ObjectReads
pub mod ReadAnswers
pub mod ExpiredReads
pub mod ReadsAlone
pub mod FlowWords
pub mod WrittenWords
