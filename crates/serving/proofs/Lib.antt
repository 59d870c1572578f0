-- Laws of the parts of a round, and of the searches for who waits and for the bundles of those served.
pub mod round
pub mod searches
