-- The laws that the proofs of functions cite, and the proofs of what is promised.
pub mod Reading
pub mod Steps
pub mod Cases
pub mod Format
pub mod Bytewise
pub mod Abnf
pub mod Longest
pub mod Mpint
pub mod Writing
pub mod ByteLaws
pub mod Laws
pub mod Strings
pub mod FrameLaws
pub mod RefusalLaws
