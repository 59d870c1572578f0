-- Laws of the search for an exact division: the bundles that are handed out, and the answer.
pub mod bundles
pub mod Searched
pub mod Outcomes
