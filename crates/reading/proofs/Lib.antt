-- Laws of the definitions: the parts of a text that are read one after another, what the code's result says of the text, what an accepted text has and how
-- great its marks are, which numbers refuse a text, a sheet alone and before another text, the samples by computation, that spaces, remarks
-- and blank lines count for nothing, and that wider limits of a mark refuse no text accepted before. What sheet a and the sheet of the three
-- players of document 000 carry is computed here once, and cited by the crates above.
pub mod Exits
pub mod BeforeEnd
pub mod Parts
pub mod Composed
pub mod Samples
pub mod Respaced
pub mod Accepted
pub mod Refusals
pub mod AtFront
pub mod LongTexts
pub mod FrontPlace
pub mod SmallMarks
pub mod WiderMarks
pub mod SheetA
pub mod ThreePlayers
