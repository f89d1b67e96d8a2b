-- Meaning: What a design without hierarchy is made of: the parts of `Parts`, all in one scope, in which each name is a
-- full name. Rule of this project.
use Rattle.std.specs.Prelude.{List, [], ◌∷◌, ◌++◌, map}
use Rattle.vl_tree.specs.Expr.{number}
use Rattle.vl_size.specs.declared.decl.Decl.{Decl}
use Rattle.vl_mean.specs.declared.driver.Driver.{Driver}
use Rattle.vl_mean.specs.declared.driver.DriverKind.{DriverKind}
use Rattle.vl_mean.specs.declared.driver.DriverKind.TheVariants as k
use Rattle.vl_mean.specs.declared.flat.Flat.{Flat}
use Rattle.vl_mean.specs.declared.driver.Start.{Start}
use Rattle.vl_mean.specs.Constants.{number_of}
use Rattle.vl_mean.specs.FlatLaw.{flat_scopes}
use Rattle.vl_mean.specs.Scopes.{Scope}
use Rattle.vl_mean.specs.Parts.{Part, declares, equation, combinational, clocked, starts, here}

abbrev pub driver_part : List Scope → DriverKind → Part
driver_part ss (k.Assign l e) = equation ss l ss e
driver_part ss (k.Comb s) = combinational ss s
driver_part ss (k.Clocked s) = clocked ss s

abbrev pub start_part : List Scope → Start → Part
start_part ss x = starts ss x.target (number here (number_of x.value))

abbrev pub parts_of : List Decl → List Driver → List Start → List Part
parts_of ds drivers xs =
    let ss = flat_scopes ds in map (λ d. declares d) ds ++ map (λ x. driver_part ss x.what) drivers
    ++ map (start_part ss) xs

abbrev pub flat_parts : Flat → List Part
flat_parts f = parts_of f.decls f.drivers f.starts
