pub mod InlineStringLemmas
pub mod ListLemmas
pub mod RopeColumns
pub mod RopeLemmas
pub mod RopeLines
pub mod SparseStackLemmas
pub mod TextLemmas
