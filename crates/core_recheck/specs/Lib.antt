pub mod CoreRecheck
