pub mod OrderLaws
pub mod LineLaws
pub mod MemberLaws
pub mod PlanLaws
pub mod ScopeLaws
