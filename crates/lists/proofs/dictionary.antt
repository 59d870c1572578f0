-- Lists of lists in dictionary order, and the first of several.
pub mod Dictionary
pub mod Listed
pub mod First
pub mod FirstBest
pub mod FirstThat
