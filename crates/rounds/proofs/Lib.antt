-- Why each agent gets its fraction of its maximin share, and each round is as document 01 says: `density` and `round` have the reasons,
-- the other files what holds of the division of every table, and the starred sheets.
pub mod density
pub mod round
pub mod Allocation
pub mod Answers
pub mod EveryRound
pub mod DividedAsDocumented
pub mod OneDivision
pub mod Graded
pub mod Theorems
pub mod Samples
