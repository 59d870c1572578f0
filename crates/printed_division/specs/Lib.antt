-- The text of a division as the code has it.
pub mod OutcomeText
