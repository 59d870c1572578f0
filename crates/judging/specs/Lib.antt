-- How the code has the margins of a division that is accepted; what judging a division means stands in `stated_truth`.
pub mod Stored
