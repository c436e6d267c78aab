-- Checks and Contents carry the proofs; Examples shows what the promises say at document 01's example.
pub mod Checks
pub mod Contents
pub mod Examples
