-- Short lists, and the library's words for what the code asks of one.
pub mod Entries
