pub mod Found
pub mod PairTrees
pub mod SettingTexts
pub mod Spelled
pub mod Tables
pub mod Things
pub mod Unread
