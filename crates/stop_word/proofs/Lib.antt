pub mod LeastLemmas
pub mod ViewLemmas
pub mod StepLemmas
pub mod LawLemmas
pub mod SeatLemmas
