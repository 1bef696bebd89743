-- The relation of a core and Baker's machine that the proof follows; no public contract cites it.
pub mod Coupling
pub mod States
pub mod Counts
pub mod Ownership
pub mod Chains
pub mod Calling
pub mod PartInvariant
pub mod CouplingInvariant
pub mod Agrees
