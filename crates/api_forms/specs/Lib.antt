pub mod CallForms
pub mod HeadForms
pub mod NamingForms
pub mod SettingCalls
