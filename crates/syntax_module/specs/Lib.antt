pub mod Contents
pub mod Entries
pub mod ModuleRecord
pub mod RecordList
pub mod Visits
