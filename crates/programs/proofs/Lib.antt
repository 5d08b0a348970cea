-- Laws on what a head asks for, on the text of numbers and lines, and on a stream from its start to its end.
pub mod AskedLaws
pub mod LineLaws
pub mod StreamLaws
