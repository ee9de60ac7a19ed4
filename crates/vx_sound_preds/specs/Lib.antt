pub mod Bodies
pub mod Asking
pub mod Covered
pub mod Examples
pub mod FoldExamples
