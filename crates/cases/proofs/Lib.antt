-- Laws on the bytes of an answer, on what a case asks for, and on the calls of a stream.
pub mod Laws
pub mod StreamLaws
