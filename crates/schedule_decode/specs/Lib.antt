pub mod Decode
pub mod DecodeCauses
