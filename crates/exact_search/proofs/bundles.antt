-- The bundles that are handed out, and the divisions from which they can be.
pub mod Left
pub mod Handing
pub mod Shown
pub mod Giving
