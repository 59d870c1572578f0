-- Laws of what an allocation comes to, by the amounts that are compared.
pub mod ByAmounts
