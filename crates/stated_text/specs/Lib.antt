-- The text of what a division states.
pub mod StatedText
