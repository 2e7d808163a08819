pub mod PGroups
