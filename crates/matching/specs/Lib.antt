-- Which agents wait, and which bundles the others are matched with (document 01, "Rounds").
pub mod Matching
