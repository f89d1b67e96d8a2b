-- Between functions: The statuses that a run ends with, for the crates above.
pub use Rattle.rvf_report.specs.declared.status.Status.{Status}
pub use Rattle.rvf_report.specs.declared.status.Status.TheVariants as statuses
