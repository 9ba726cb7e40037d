-- The definitions that contracts cite, and the statements of what is promised.
pub mod Fields
pub mod Kinds
pub mod Constraints
pub mod Additions
pub mod Values
pub mod Forms
pub mod Faults
pub mod Promises
