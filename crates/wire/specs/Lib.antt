-- The definitions that contracts cite, and the statements of what is promised.
pub mod Limits
pub mod Numbers
pub mod Steps
pub mod Texts
pub mod Utf8
pub mod Abnf
pub mod Mpint
pub mod Read
pub mod Parts
pub mod Values
pub mod Write
pub mod Frames
pub mod Refusals
pub mod Constraints
pub mod Promises
