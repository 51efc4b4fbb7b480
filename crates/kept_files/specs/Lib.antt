pub mod KeptFiles
