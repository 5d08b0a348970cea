-- What a packet's way promises: one packet and rows of them, and how far a run has come.
pub mod Verdicts
pub mod Passing
