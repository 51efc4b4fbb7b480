-- Workers that are started, joined, or at fault.
pub mod FaultLemmas
pub mod HandleLemmas
pub mod JoinLemmas
