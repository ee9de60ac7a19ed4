pub mod Deeds
pub mod Causes
pub mod Answers
pub mod Few
pub mod Judged
pub mod Tests
