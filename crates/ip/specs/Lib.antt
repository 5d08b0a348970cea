-- What the code of plain IP is asked, and what it adds up.
pub mod Words
pub mod Room
