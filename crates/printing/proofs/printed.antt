-- The printed text of a division: what it needs of the division, its worths, how long it is, and the samples.
pub mod Printable
pub mod Worths
pub mod Lengths
pub mod Longest
pub mod Samples
