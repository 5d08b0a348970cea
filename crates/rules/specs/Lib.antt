-- What the steps of the rules do to a set of identifiers.
pub mod Changes
