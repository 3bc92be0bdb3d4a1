pub mod Assembled
pub mod ClientsAtSites
pub mod ClosingEvents
pub mod MetLists
pub mod MovedEntries
pub mod NumberedAnswers
pub mod Reading
pub mod SiteEvents
