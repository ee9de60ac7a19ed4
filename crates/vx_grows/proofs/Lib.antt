pub mod Bases
pub mod Later
pub mod GrowSteps
pub mod GrowParts
pub mod GrowAssertions
pub mod GrowStatements
pub mod GrowMembers
