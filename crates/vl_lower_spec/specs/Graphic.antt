-- Between functions: That the names of a net can be printed. Rule of this project.
use Rattle.std.specs.Prelude.{◌≡◌, List, All, true}
use Rattle.vl_size.specs.declared.decl.Decl.{Decl}
use Rattle.vl_mean.specs.declared.driver.Driver.{Driver}
use Rattle.vl_mean.specs.declared.driver.Start.{Start}
use Rattle.vl_mean.specs.FlatLaw.{IsKept, is_graphic}
use Rattle.vl_mean.specs.FlatParts.{parts_of}
use Rattle.wn_net.specs.declared.names.Names.{Names}
use Rattle.wn_net.specs.Net.{Netlist}
use Rattle.vl_lower_spec.specs.Evaluations.{IsLowered}

-- no text has a blank or a control byte in it
abbrev pub AreGraphic : Names → Type 0
AreGraphic names = All (λ x. All (λ c. is_graphic c ≡ true) x.text) names.list

-- the names of the net of a design whose declared names have none
abbrev pub NamesAreGraphic : Type 0
NamesAreGraphic =
    (ds : List Decl) (drivers : List Driver) (starts : List Start) (net : Netlist) (names : Names) → All IsKept ds
    → IsLowered (parts_of ds drivers starts) net names → AreGraphic names
