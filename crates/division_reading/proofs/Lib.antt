-- Laws of the definitions: what is kept of what is read, what is left behind it, what the bundles and a division that are read have, and
-- samples by computation.
pub mod kept
pub mod Suffixes
pub mod Bundles
pub mod Shape
pub mod Samples
