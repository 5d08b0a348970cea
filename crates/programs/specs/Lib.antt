-- What the programs promise beside what they read and write.
pub mod Pipe
pub mod Asked
pub mod Lines
pub mod Stream
