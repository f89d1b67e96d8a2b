-- Between functions: What loading a text gives, and what it refuses, for the crates above.
pub use Rattle.rvf_load.specs.declared.fault.LoadFault.{LoadFault}
pub use Rattle.rvf_load.specs.declared.fault.LoadFault.TheVariants as load
pub use Rattle.rvf_load.specs.declared.loaded.Loaded.{Loaded}
