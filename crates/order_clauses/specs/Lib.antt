pub mod Appended
pub mod ClauseOf
pub mod Literals
pub mod Numbered
pub mod OrderVariables
pub mod ReasonList
pub mod Turned
pub mod Unmade
