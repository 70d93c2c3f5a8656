mod NamedOnce
-- the laws
pub mod Programs
