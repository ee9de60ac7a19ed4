pub mod Told
pub mod Firm
pub mod Laws
pub mod Examples
pub mod AskingExamples
