-- The definitions that contracts of helpers cite; what the test itself says is in table's `specs/Soundness.antt`.
pub mod Rising
pub mod Shortened
