pub mod CnfCauses
pub mod CnfLines
pub mod CnfProgress
pub mod CnfReading
