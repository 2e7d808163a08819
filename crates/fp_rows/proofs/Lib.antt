pub mod Primes
pub mod ListLemmas
pub mod ClearingLemmas
pub mod RefLemmas
pub mod PlaceLemmas
pub mod BitLemmas
pub mod SolvingLemmas
pub mod TableLemmas
mod PivotSearch
pub mod PivotPlaces
pub mod Turns
pub mod ReducedRowLemmas
pub mod ShortLemmas
pub mod PartLemmas
