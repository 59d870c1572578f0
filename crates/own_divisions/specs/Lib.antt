-- What a division that the box prints states, and its text behind that of its sheet.
pub mod StatedBy
pub mod SheetAndDivision
