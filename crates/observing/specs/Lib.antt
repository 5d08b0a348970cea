-- What a call tells as new, and what each step of learning promises.
pub mod News
pub mod Steps
pub mod Observed
