-- Between functions: Ports that are written short. IEEE 1364-2005, section 12.3.4.
use Rattle.std.specs.Prelude.{ℕ, List, Option}
use Rattle.vl_tree.specs.declared.declaration.FullPort.{FullPort}
use Rattle.vl_tree.specs.Expr.{Expr}

-- all of a port but its name and its value
abbrev pub renamed : FullPort → List ℕ → Option Expr → FullPort
renamed p text value = record p { name = text; value = value }
