-- Between functions: The names of a net over a design's inputs, registers and memories: they are that net's, and what
-- is named shows there. Rule of this project.
use Rattle.std.specs.Prelude.{◌≡◌, ℕ, List, All}
use Rattle.vl_size.specs.declared.decl.Decl.{Decl}
use Rattle.vl_size.specs.Size.{Values}
use Rattle.vl_size.specs.Table.{AreApart, AreDifferent, IsShaped}
use Rattle.vl_mean.specs.FlatLaw.{IsKept}
use Rattle.vl_mean.specs.Parts.{Part}
use Rattle.vl_lower_spec.specs.Maps.{given_of}
use Rattle.wn_net.specs.declared.names.Names.{Names}
use Rattle.wn_net.specs.Names.{AreNamesOf, HaveAll, ShowNames}
use Rattle.wn_net.specs.Net.{Netlist}
use Rattle.wn_net.specs.Value.{Given}
use Rattle.vl_lower_assign.specs.Frames.{AreCellsOf, Stand}
use Rattle.vl_lower_spec.specs.Sources.{AreSources}
use Rattle.vl_lower_cell_laws.specs.Entries.{all_entries}
use Rattle.vl_lower_cell_laws.specs.Listing.{AreKeeps, HasSources, Keeping}

-- entries over nodes for the cells, and spots of all inputs, registers and memories, are names of the net
abbrev pub NamesAreWhole : Type 0
NamesAreWhole =
    (ds : List Decl) (ps : List Part) (keep : Keeping) (nodes : List ℕ) (net : Netlist) (names : Names)
    → All IsShaped ds → AreDifferent ds → AreApart ds → All IsKept ds → AreKeeps ps keep ds 0
    → names.list ≡ all_entries ps ds nodes 0 0 → HasSources ps keep ds net names → AreCellsOf net ds nodes
    → AreNamesOf net names × HaveAll net names

-- where the cells stand for a map that comes from what is given, the bits of inputs and registers are the named ones
abbrev pub NamesAreShown : Type 0
NamesAreShown =
    (ds : List Decl) (ps : List Part) (nodes : List ℕ) (net : Netlist) (names : Names) (g : Given) (v : Values)
    → AreDifferent ds → AreApart ds → All IsKept ds → names.list ≡ all_entries ps ds nodes 0 0
    → AreSources ds ps net names → Stand net g ds nodes v → given_of names v ≡ g → ShowNames net names g
