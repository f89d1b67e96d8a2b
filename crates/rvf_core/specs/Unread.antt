-- Between functions: The report on a file that gave no bytes. Rule of this project.
use Rattle.std.specs.Prelude.{◌≡◌, ℕ, List}
use Rattle.fv_base.specs.declared.files.FileFault.{FileFault}
use Rattle.fv_base.specs.declared.files.FileFault.TheVariants as file
use Rattle.rvf_report.specs.Lines.{absent_line, unread_line}
use Rattle.rvf_report.specs.declared.status.Status.TheVariants as s
use Rattle.rvf_core.specs.Certificate.{one_line}
use Rattle.rvf_core.specs.declared.report.Report.{Report}

-- want of memory has none
abbrev pub IsUnreadReport : FileFault → List ℕ → Report → Type 0
IsUnreadReport file.Absent name report = report ≡ one_line s.Absent (absent_line name)
IsUnreadReport file.Failed name report = report ≡ one_line s.ReadFault (unread_line name)
IsUnreadReport file.Memory name report = ⊥
