-- What the text of a sheet gets: reading, and writing in the strict layout.
pub mod Rewriting
