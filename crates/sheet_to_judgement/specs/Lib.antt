-- What a text with a sheet and a division behind it gets: reading, judging and printing, one after the other.
pub mod AcceptedText
pub mod TextJudged
pub mod SampleTexts
pub mod internal
