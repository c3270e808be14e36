pub mod VarLaws
pub mod BesideLaws
