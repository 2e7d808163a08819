pub mod Bases
pub mod Cliques
pub mod OwnGroups
pub mod Sets
pub mod Subgroups
