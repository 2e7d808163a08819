-- Generators and relations of the cohomology ring of a p-group through a degree.
pub use Rattle.cohomology_degree.specs.Rings.{cohomology, dual_basis, IsPresentation}
