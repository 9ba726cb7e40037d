-- The definitions that contracts cite, and the statements of what is promised.
pub mod Reaches
pub mod Values
pub mod Identities
pub mod Signatures
pub mod Promises
