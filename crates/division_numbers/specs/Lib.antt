-- The numbers that a division states, and what reading them answers.
pub mod Forms
pub mod Numbers
pub mod Results
