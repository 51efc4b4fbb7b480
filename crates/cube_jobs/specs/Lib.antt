pub mod Models
pub mod Options
pub mod Results
pub mod SearchCauses
