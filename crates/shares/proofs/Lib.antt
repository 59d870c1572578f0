-- Laws of the shares of a table and of its refusals.
pub mod Profile
pub mod Refusals
pub mod Allowance
pub mod Marks
pub mod EachAgent
pub mod Answered
pub mod Shown
pub mod ThreePlayers
