-- The statements of what is promised.
pub mod Promises
