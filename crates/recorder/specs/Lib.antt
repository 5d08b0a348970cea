-- The record of the code as the definition's, cleared slots, what a call does with its run, and what the calls promise.
pub mod Filter
pub mod Slots
pub mod Front
pub mod Calls
