-- Members of a list: tested, counted, mapped, in another order, and none of them twice.
pub mod Each
pub mod Chains
pub mod Counting
pub mod Congruence
pub mod Distinct
pub mod DistinctAppend
pub mod Tests
pub mod Only
pub mod Maps
pub mod FlatMap
pub mod WithoutOne
pub mod Permuted
