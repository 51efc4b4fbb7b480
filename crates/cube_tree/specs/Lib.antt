pub mod Covers
pub mod CubeTree
pub mod LeafPlace
pub mod NodeText
pub mod Nodes
pub mod SplitFault
pub mod TreeFault
pub mod TreeText
