-- Between functions: What is written of a design without hierarchy, each behind the others. Rule of this project.
use Rattle.std.specs.Prelude.{List, [], ◌∷◌, ◌++◌}
use Rattle.fv_text.specs.declared.pos.Pos.{Pos}
use Rattle.vl_size.specs.declared.decl.Decl.{Decl}
use Rattle.vl_mean.specs.declared.driver.Driver.{Driver}
use Rattle.vl_mean.specs.declared.driver.DriverKind.{DriverKind}
use Rattle.vl_mean.specs.declared.driver.Start.{Start}

pub record Written : Type 0 where
  pub decls : List Decl
  pub drivers : List Driver
  pub starts : List Start

abbrev pub nothing : Written
nothing = record { decls = []; drivers = []; starts = [] }

abbrev pub with_decl : Written → Decl → Written
with_decl w d = record w { decls = w.decls ++ d ∷ [] }

abbrev pub with_driver : Written → Driver → Written
with_driver w x = record w { drivers = w.drivers ++ x ∷ [] }

abbrev pub with_start : Written → Start → Written
with_start w x = record w { starts = w.starts ++ x ∷ [] }

-- with a driver of the item at a place
abbrev pub with_kind : Written → Pos → DriverKind → Written
with_kind w p what = with_driver w (record { pos = p; what = what })
