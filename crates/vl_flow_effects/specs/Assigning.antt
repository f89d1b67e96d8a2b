-- Between functions: The names that blocks assign, as sets. Rule of this project.
use Rattle.std.specs.Prelude.{ℕ, List, Bool}
use Rattle.vl_tree.specs.declared.stmt.AssignKind.{AssignKind}
use Rattle.vl_tree.specs.declared.stmt.AssignKind.TheVariants as a
use Rattle.vl_tree.specs.Stmt.{Stmt}
use Rattle.vl_size.specs.declared.decl.Decl.{Decl}
use Rattle.vl_mean.specs.declared.driver.DriverKind.{DriverKind}
use Rattle.fv_bit_sets.specs.declared.step.Step.{Step}
use Rattle.fv_bit_sets.specs.Cells.{has, IsBare}
use Rattle.vl_flow_spec.specs.Assigned.{assigned_names}
use Rattle.vl_flow_spec.specs.Paths.{is_blocking, is_nonblocking}
use Rattle.vl_flow_spec.specs.Refusals.{names_in}
use Rattle.vl_flow_order.specs.Names.{AreNames}
use Rattle.vl_flow_effects.specs.declared.assigned.Assigned.{Assigned}

-- assignments of the kind
abbrev pub is_kind : AssignKind → (AssignKind → Bool)
is_kind a.Blocking = is_blocking
is_kind a.Nonblocking = is_nonblocking

-- those of one kind
abbrev pub set_of : Assigned → AssignKind → List Step
set_of x a.Blocking = x.blocking
set_of x a.Nonblocking = x.nonblocking

-- no name is there
pub record IsNothing (x : Assigned) : Type 0 where
  pub blocking : (c : ℕ) → IsBare x.blocking c
  pub nonblocking : (c : ℕ) → IsBare x.nonblocking c

pub record AreAssignedIn (ds : List Decl) (s : Stmt) (x : Assigned) : Type 0 where
  pub blocking : AreNames ds (assigned_names is_blocking s) (has x.blocking)
  pub nonblocking : AreNames ds (assigned_names is_nonblocking s) (has x.nonblocking)

-- the names that a driver's assignments have as targets, each kind by itself
pub record AreAssignedBy (ds : List Decl) (x : Assigned) (driver : DriverKind) : Type 0 where
  pub blocking : AreNames ds (names_in is_blocking driver) (has x.blocking)
  pub nonblocking : AreNames ds (names_in is_nonblocking driver) (has x.nonblocking)
