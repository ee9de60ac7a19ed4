pub mod Outside
pub mod Refusals
pub mod Texts
pub mod Reports
pub mod WholeRuns
pub mod Promised
pub mod Steps
