pub mod HeadLaws
pub mod ReadingLaws
pub mod MirrorLaws
pub mod OneAnswer
