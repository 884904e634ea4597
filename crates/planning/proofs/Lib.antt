pub mod Gaps
pub mod Cursors
pub mod Walking
