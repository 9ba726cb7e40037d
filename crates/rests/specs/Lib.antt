-- The statement of what is promised.
pub mod Promises
