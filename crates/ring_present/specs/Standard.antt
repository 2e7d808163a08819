-- Standard monomials, in order.
pub use Rattle.cohomology_degree.specs.Standard.{AreStandard, without_pivots}
