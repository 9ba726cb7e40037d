-- The definitions that contracts cite, and the statements of what is promised.
pub mod Requests
pub mod Forms
pub mod Promises
