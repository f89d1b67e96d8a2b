-- Meaning: When a design without hierarchy is drawn from the parts of a design: its declarations, drivers and values
-- at first are those of the parts, each in order, with full names, and with numbers in place of constants. Rule of
-- this project.
use Rattle.std.specs.Prelude.{◌≡◌, List, [], ◌∷◌, map}
use Rattle.vl_mean.specs.declared.driver.DriverKind.{DriverKind}
use Rattle.vl_mean.specs.declared.driver.DriverKind.TheVariants as k
use Rattle.vl_mean.specs.declared.driver.Start.{Start}
use Rattle.vl_mean.specs.declared.flat.Flat.{Flat}
use Rattle.vl_mean.specs.Parts.{Part, declares, equation, combinational, clocked, starts}
use Rattle.vl_mean_flat.specs.FullNames.{flat_expr, flat_lval, flat_stmt}
use Rattle.vl_mean_flat.specs.Flattened.{decls_of, start_value}

abbrev pub drivers_of : List Part → List DriverKind
drivers_of [] = []
drivers_of (declares d ∷ ps) = drivers_of ps
drivers_of (equation ts l ss e ∷ ps) = k.Assign (flat_lval ts l) (flat_expr ss e) ∷ drivers_of ps
drivers_of (combinational ss s ∷ ps) = k.Comb (flat_stmt ss s) ∷ drivers_of ps
drivers_of (clocked ss s ∷ ps) = k.Clocked (flat_stmt ss s) ∷ drivers_of ps
drivers_of (starts ss l e ∷ ps) = drivers_of ps

abbrev pub starts_of : List Part → List Start
starts_of [] = []
starts_of (starts ss l e ∷ ps) = record { target = flat_lval ss l; value = start_value ss l e } ∷ starts_of ps
starts_of (p ∷ ps) = starts_of ps

pub record IsDrawn (ps : List Part) (f : Flat) : Type 0 where
  pub decls_are : f.decls ≡ decls_of ps
  pub drivers_are : map (λ x. x.what) f.drivers ≡ drivers_of ps
  pub starts_are : f.starts ≡ starts_of ps
