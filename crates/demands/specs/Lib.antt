-- What the user asks for, stated over what the functions promise.
pub mod Demands
