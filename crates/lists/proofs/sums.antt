-- Sums, and the least and the greatest of several numbers.
pub mod Sums
pub mod Totals
pub mod Once
pub mod LeastOf
pub mod GreatestOf
pub mod Exchange
pub mod Covering
pub mod InOneList
