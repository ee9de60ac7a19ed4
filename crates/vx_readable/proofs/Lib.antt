pub mod Literals
pub mod Shapes
pub mod States
pub mod ShapeSteps
pub mod Programs
pub mod ShapeParts
pub mod ShapeAssertions
pub mod ShapeStatements
pub mod ShapeMembers
pub mod Tokens
pub mod Spelled
pub mod Settled
pub mod Texts
mod Examples
