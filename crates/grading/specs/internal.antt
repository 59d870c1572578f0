-- What only the contracts of private functions cite.
pub mod ByAmounts
