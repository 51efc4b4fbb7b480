pub mod Details
