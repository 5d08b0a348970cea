-- What the proofs of the crates above cite of bytes and slices.
pub mod ByteLaws
