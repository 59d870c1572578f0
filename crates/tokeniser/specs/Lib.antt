-- What a place of a text means, which token is the next there, and the places behind the tokens that are read. `internal` has what the
-- contracts of private functions cite; no public contract does.
pub mod Places
pub mod NextToken
pub mod Behind
pub mod internal
