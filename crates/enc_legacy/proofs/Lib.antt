pub mod SinglesSteps
pub mod Prefixes
pub mod Strides
pub mod PairPointers
pub mod SjisBytes
pub mod EucBytes
