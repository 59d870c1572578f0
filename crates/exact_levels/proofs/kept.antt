-- What can be kept of a set, item by item, and the sets from which agents can be served.
pub mod Most
pub mod Blocks
pub mod Staged
pub mod Served
