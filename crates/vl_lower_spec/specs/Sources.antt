-- Between functions: That the names of a net's inputs, registers and memories are what is free in a map. Rule of this
-- project.
use Rattle.std.specs.Prelude.{ℕ, List, All}
use Rattle.vl_size.specs.declared.decl.Decl.{Decl}
use Rattle.vl_size.specs.Table.{AreApart, AreDifferent, IsShaped}
use Rattle.vl_mean.specs.declared.driver.Driver.{Driver}
use Rattle.vl_mean.specs.declared.driver.Start.{Start}
use Rattle.vl_mean.specs.FlatLaw.{IsLawful}
use Rattle.vl_mean.specs.FlatParts.{parts_of}
use Rattle.vl_flow_spec.specs.Refusals.{HasNoRefusal}
use Rattle.vl_flow_spec.specs.Sequence.{IsSequence}
use Rattle.wn_net.specs.declared.names.Names.{Names}
use Rattle.wn_net.specs.Net.{Netlist}
use Rattle.vl_lower_spec.specs.Built.{NameWhatIsFree}
pub use Rattle.vl_lower_spec.specs.Spots.{AreEach, below, kind_of, IsInputOf, IsBelow, BeginsAs, IsRegOf, IsMemOf}
pub use Rattle.vl_lower_spec.specs.Spots.{IsAtSpot, IsWordOf, IsSource, AreSources}

-- ---- the law: the names of such sources are what is free

abbrev pub NamedSourcesAreFree : Type 0
NamedSourcesAreFree =
    (ds : List Decl) (drivers : List Driver) (starts : List Start) (sequence : List ℕ) (net : Netlist)
    (names : Names) → All IsShaped ds → AreDifferent ds → AreApart ds → IsLawful ds drivers starts
    → HasNoRefusal ds drivers → IsSequence ds drivers sequence
    → AreSources ds (parts_of ds drivers starts) net names
    → NameWhatIsFree ds (parts_of ds drivers starts) net names
