-- `Listed` has what the list of growth partitions lists, `Counted` that the recurrence counts it, `Growths` the laws on how many there are;
-- `Table` serves the proofs of the functions and of the crates that read the table of counts.
pub mod Listed
pub mod Counted
pub mod Growths
pub mod Table
