pub mod JsonString
