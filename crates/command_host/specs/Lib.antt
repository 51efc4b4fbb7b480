pub mod HostCalls
pub mod Streams
