pub mod Forecast
pub mod Key
pub mod Laws
pub mod Peaks
pub mod Text
pub mod View
pub mod Visits
pub mod inner
