-- Between functions: Names of a net that has no input, register or memory (rule of this project).
use Rattle.std.specs.Prelude.{List}
use Rattle.std.specs.List.{AllByRecursion, IsDistinct}
use Rattle.std.specs.Str.{bytes_eq}
use Rattle.wn_net.specs.declared.names.NetName.{NetName}
use Rattle.wn_net.specs.Net.{Netlist}
use Rattle.wn_net.specs.Names.{IsNameOf}

-- each has its place in the net, and no two have one text
pub record AreListed (net : Netlist) (list : List NetName) : Type 0 where
  pub placed : AllByRecursion (IsNameOf net) list
  pub differ : IsDistinct (λ (a b : NetName). bytes_eq a.text b.text) list
