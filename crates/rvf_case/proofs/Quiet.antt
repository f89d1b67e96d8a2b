-- Facts that hold unless a file could not be read, or memory was wanted.
use Rattle.std.proofs.Common.{List, ℕ, Result, Ok, Err}
use Rattle.fv_base.specs.Outside.{UnlessFailed}
use Rattle.fv_base.specs.declared.files.FileFault.{FileFault}
use Rattle.fv_base.specs.declared.files.FileFault.TheVariants as file
use Rattle.rvf_case.specs.Cases.{UnlessFault, UnlessUnread}
use Rattle.rvf_case.specs.Steps.{Becomes}
use Rattle.rvf_case.specs.declared.refusal.Refusal.{Refusal}
use Rattle.rvf_case.specs.declared.refusal.Refusal.TheVariants as refusal

-- one that holds in any case
pub in_any_case : (f : Refusal) (P : Type 0) → P → UnlessFault f P
in_any_case (refusal.Absent name) P p = p
in_any_case (refusal.Unread name) P p = tt
in_any_case (refusal.Config f) P p = p
in_any_case (refusal.NoCheck name) P p = p
in_any_case (refusal.Source f names) P p = p
in_any_case (refusal.Heavy name number) P p = p
in_any_case refusal.Memory P p = tt

pub in_any_answer : {A : Type 0} (r : Result A Refusal) (P : Type 0) → P → UnlessUnread r P
in_any_answer (Ok x) P p = p
in_any_answer (Err f) P p = in_any_case f P p

-- what follows from one
pub follows : (f : Refusal) (P Q : Type 0) → (P → Q) → UnlessFault f P → UnlessFault f Q
follows (refusal.Absent name) P Q h p = h p
follows (refusal.Unread name) P Q h p = tt
follows (refusal.Config f) P Q h p = h p
follows (refusal.NoCheck name) P Q h p = h p
follows (refusal.Source f names) P Q h p = h p
follows (refusal.Heavy name number) P Q h p = h p
follows refusal.Memory P Q h p = tt

-- a fault of a file becomes a refusal
pub becomes_quiet : (A : Type 0) (f : Refusal) (fault : FileFault) (name : List ℕ) (P : Type 0) → Becomes f fault name
    → UnlessFailed {A = A} (Err fault) P → UnlessFault f P
becomes_quiet A refusal.Memory fault name P b p = tt
becomes_quiet A (refusal.Unread other) fault name P b p = tt
becomes_quiet A (refusal.Absent other) file.Absent name P b p = p
becomes_quiet A (refusal.Absent other) file.Failed name P b p = absurd b
becomes_quiet A (refusal.Absent other) file.Memory name P b p = absurd b
becomes_quiet A (refusal.Config f) fault name P b p = absurd b
becomes_quiet A (refusal.NoCheck n) fault name P b p = absurd b
becomes_quiet A (refusal.Source f names) fault name P b p = absurd b
becomes_quiet A (refusal.Heavy n number) fault name P b p = absurd b
