mod Replies
pub mod Ended
mod Shown
mod Lines
mod Originals
mod Likes
mod ReadTerms
mod Mirrors
mod ReadCommands
mod Answered
pub mod Rightly
mod Taken
pub mod Lawful
