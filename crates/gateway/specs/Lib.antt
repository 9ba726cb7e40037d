-- The definitions that contracts cite, and the statements of what is promised.
pub mod Exports
pub mod Promises
