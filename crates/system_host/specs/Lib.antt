pub mod FileSink
pub mod FileSource
pub mod SystemHost
