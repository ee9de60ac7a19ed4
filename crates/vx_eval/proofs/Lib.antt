pub mod Given
mod Sides
mod Unfolded
