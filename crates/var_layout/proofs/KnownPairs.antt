pub mod RisingLemmas
pub mod SaidLemmas
pub mod UntimedLemmas
