-- Laws of partitions, and of the maximin share: `AnyOrder` says that the share does not depend on the order of the values.
pub mod Partitions
pub mod Laws
pub mod AnyOrder
