-- Laws of the terms of document 01, and of allowed terms.
pub mod TermsFor
pub mod Allowed
