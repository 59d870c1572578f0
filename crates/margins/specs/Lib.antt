-- The margin of a bundle over the part of the share that is promised.
pub mod Margins
