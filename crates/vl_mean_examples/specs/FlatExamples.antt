-- Between functions: A small design without hierarchy, and what such a design doesn't keep: `input clock, reset; reg
-- [1:0] q = 2; wire o = q[1];` `always @(posedge clock) q <= q + 1;`
use Rattle.std.specs.Prelude.{ℕ, ◌+◌, List, [], ◌∷◌, pos, false, None, codes, bytes_eq, if◌then◌else◌}
use Rattle.vl_tree.specs.Expr.{Expr, name, whole, bit}
use Rattle.vl_tree.specs.Lval.{Lval, named}
use Rattle.vl_size.specs.declared.decl.Class.{Class}
use Rattle.vl_size.specs.declared.decl.Class.TheVariants as class
use Rattle.vl_size.specs.declared.decl.Decl.{Decl}
use Rattle.vl_size.specs.Size.{Values}
use Rattle.vl_mean.specs.declared.driver.Driver.{Driver}
use Rattle.vl_mean.specs.declared.driver.DriverKind.{DriverKind}
use Rattle.vl_mean.specs.declared.driver.DriverKind.TheVariants as k
use Rattle.vl_mean.specs.declared.driver.Start.{Start}
use Rattle.vl_mean.specs.Constants.{cut_to}
use Rattle.vl_mean_examples.specs.Examples.{decimal, later, plus}
use Rattle.vl_mean.specs.FlatParts.{parts_of}
use Rattle.vl_mean.specs.Parts.{Part, here, plain, plain_target}

-- `[left:0]`
abbrev vector : Class → ℕ → List ℕ → Decl
vector c left text = record {
  name = text;
  width = left + 1;
  signed = false;
  left = pos left;
  right = pos 0;
  words = None;
  class = c;
  output = false;
}

abbrev pub decls : List Decl
decls =
    vector class.Clock 0 (codes "clock") ∷ vector class.Reset 0 (codes "reset")
    ∷ vector class.Variable 1 (codes "q")
    ∷ vector class.Net 0 (codes "o") ∷ []

abbrev pub driver : DriverKind → Driver
driver what = record { pos = here; what = what }

-- the target has the value of the expression
abbrev pub assigns : Lval → Expr → List Driver
assigns l e = driver (k.Assign l e) ∷ []

abbrev pub o : Lval
o = plain_target (codes "o")

abbrev pub bit_of_q : Expr
bit_of_q = name here (codes "q") (bit here (decimal 1) whole)

abbrev pub varying_bit_of_o : Lval
varying_bit_of_o = named here (codes "o") (bit here (plain (codes "q")) whole)

abbrev pub drivers : List Driver
drivers = driver (k.Clocked (later (codes "q") (plus (plain (codes "q")) (decimal 1)))) ∷ assigns o bit_of_q

abbrev pub starts : List Start
starts = record { target = plain_target (codes "q"); value = cut_to 2 false 2 } ∷ []

abbrev pub design : List Part
design = parts_of decls drivers starts

-- the numbers of a cycle
abbrev pub cycle : ℕ → ℕ → ℕ → Values
cycle reset q high text =
    if bytes_eq text (codes "q") then q
    else if bytes_eq text (codes "reset") then reset
    else if bytes_eq text (codes "o") then high
    else 0
