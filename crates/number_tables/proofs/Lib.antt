pub mod ItemsOf
pub mod NumbersAt
