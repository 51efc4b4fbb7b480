pub mod LastWriter
pub mod Left
pub mod PlacesLeft
pub mod Restriction
