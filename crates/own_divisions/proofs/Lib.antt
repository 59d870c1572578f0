-- A division that the box prints, without its cutters line, is the text of what it states, by `PrintedText`. All that it states is true, by
-- `AllTrue`, with the least bundle of its cuts in `CutBundles`; so it is accepted with its margins behind its strict sheet. `Theorems` says so of
-- every accepted text.
pub mod Theorems
pub mod PrintedText
pub mod CutBundles
pub mod AllTrue
