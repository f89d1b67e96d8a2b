-- Meaning: How many inputs, registers and words of memories a net may have. Rule of this project.
use Rattle.std.specs.Prelude.{◌+◌, ◌≤◌, List, All, length, map, sum}
use Rattle.vl_size.specs.declared.decl.Decl.{Decl}
use Rattle.vl_size.specs.Table.{IsShaped}
use Rattle.vl_mean.specs.FlatLaw.{IsKept, all_names_count}
use Rattle.vl_mean.specs.Parts.{Part}
use Rattle.wn_net.specs.declared.names.Names.{Names}
use Rattle.wn_net.specs.Net.{Netlist}
use Rattle.vl_lower_cell_laws.specs.Listing.{HasSources, Keeping}

pub record AreFew (net : Netlist) : Type 0 where
  pub inputs : length net.inputs ≤ 1000000
  pub state : length net.regs + sum (map (λ m. m.words) net.mems) ≤ 50000000

-- a net with the sources of a design
abbrev pub SourcesAreFew : Type 0
SourcesAreFew =
    (ds : List Decl) (ps : List Part) (keep : Keeping) (net : Netlist) (names : Names) → All IsShaped ds
    → All IsKept ds → all_names_count ds ≤ 200000 → HasSources ps keep ds net names → AreFew net
