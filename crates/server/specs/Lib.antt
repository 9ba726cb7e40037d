-- The definitions that contracts cite, and the statements of what is promised.
pub mod Calls
pub mod First
pub mod Inner
pub mod Rows
pub mod Runs
pub mod FirstPromises
pub mod InnerPromises
