-- The definitions that contracts cite, and the statements of what is promised.
pub mod Bytes
pub mod Each
pub mod Entries
pub mod Meaning
pub mod Soundness
pub mod Changes
pub mod Shown
pub mod Promises
