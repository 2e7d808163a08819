pub mod Laws
pub mod SumLaws
pub mod TermLaws
pub mod MapLaws
