pub mod ClassMaps
pub mod FaceLists
pub mod FaceSums
pub mod ComparisonRows
pub mod CocycleValues
