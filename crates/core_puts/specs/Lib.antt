pub mod BranchParts
pub mod FirstCommits
pub mod FreshLakes
pub mod KeeperViews
pub mod KeptChanges
pub mod NewFiles
pub mod Puts
pub mod Removing
