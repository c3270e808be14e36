mod Exclusion
mod SeatLaws
mod CoreLaws
mod TurnLaws
mod LoadLaws
mod RowLaws
mod ReporterLaws
mod StartLaws
mod RoundLaws
mod StageLaws
mod WriteLaws
mod JoinLaws
mod WovenLaws
mod FollowLaws
pub mod OneRun
mod LockedLaws
