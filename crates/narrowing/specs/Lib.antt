pub mod Bodies
pub mod Tables
pub mod Answers
