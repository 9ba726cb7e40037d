-- The definitions that contracts cite, and the statements of what is promised.
pub mod Flat
pub mod Promises
