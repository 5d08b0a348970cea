-- How what is known of tables stands in arrays, when a PLT or an MPT changes it, and what becomes of it then.
pub mod Kept
pub mod News
pub mod Learnt
