mod Trees
pub mod Others
