-- The laws that the proofs of functions cite, and the proofs of what is promised.
pub mod WriteLaws
pub mod ConstraintLaws
pub mod SmartcardLaws
pub mod WriterTables
pub mod RequestRules
pub mod CardForms
