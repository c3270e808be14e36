pub mod Moves
pub mod Cursors
pub mod ChildrenLeft
pub mod Closing
pub mod Entering
pub mod Hearing
pub mod ElementCut
pub mod Answers
