pub mod ShapeLaws
pub mod FirstFaultLaws
pub mod ReadingLaws
