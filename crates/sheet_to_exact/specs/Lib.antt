-- What the text of a sheet gets: reading, the search for an exact division and printing, one after the other.
pub mod Showing
