-- Exact divisions (document 02, order 4): what they are, and what the search for one answers.
pub mod Exact
pub mod Search
