pub mod Typing
pub mod StoreLanguage
pub mod FieldLanguage
pub mod CallLanguage
pub mod InstanceLanguage
pub mod Now
pub mod Premises
pub mod Closure
