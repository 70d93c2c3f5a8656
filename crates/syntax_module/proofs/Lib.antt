mod Comparisons
pub mod Visits
