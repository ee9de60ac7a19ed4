pub mod Leads
pub mod Mentioners
pub mod Known
