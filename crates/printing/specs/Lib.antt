-- What printing a division writes and answers.
pub mod Printed
pub mod Printing
