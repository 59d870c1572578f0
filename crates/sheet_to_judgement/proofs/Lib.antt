-- The theorem that a text is accepted exactly if all it states is true, and that every true division in the printed layout is accepted behind its
-- sheet; the length of buffer with which a text is never refused, that none is refused for an allowance, that spaces and remarks count for nothing, and
-- sheet c from text to text; then the laws that these and the proofs of the functions cite: the printed margins, the counts of a sheet at the
-- front of a text, what the code keeps of a division that is read, how each answer of judging is printed, and what is answered by what reading
-- the sheet answers.
pub mod Theorems
pub mod TrueDivisions
pub mod NoAllowance
pub mod Respaced
pub mod Samples
pub mod Longest
pub mod Texts
pub mod Fit
pub mod Front
pub mod FrontJudged
pub mod StatedBack
pub mod Answers
