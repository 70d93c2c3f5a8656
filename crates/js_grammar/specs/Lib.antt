pub mod Shapes
pub mod Tokens
pub mod Derives
pub mod Printed
pub mod Expressions
pub mod Laws
