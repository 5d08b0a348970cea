-- What is asked of the parts of a record.
pub mod Parts
