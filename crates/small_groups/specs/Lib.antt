pub mod SmallGroup
