-- Laws of the printed text, and of the outcome that the code prints.
pub mod printed
pub mod outcomes
