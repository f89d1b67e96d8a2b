-- Between functions: The numbers that cells begin with. Rule of this project; what is written at first is `Runs` of
-- vl_mean.
use Rattle.std.specs.Prelude.{◌≡◌, ℕ, List, [], ◌∷◌, ◌++◌, length, Some, slice_get, slice_index}
use Rattle.vl_tree.specs.Expr.{number}
use Rattle.vl_size.specs.declared.decl.Decl.{Decl}
use Rattle.vl_size.specs.Size.{Values}
use Rattle.vl_mean.specs.declared.driver.Driver.{Driver}
use Rattle.vl_mean.specs.declared.driver.Start.{Start}
use Rattle.vl_mean.specs.Constants.{number_of}
use Rattle.vl_mean.specs.Execution.{assigned}
use Rattle.vl_mean.specs.FlatLaw.{flat_scopes}
use Rattle.vl_mean.specs.FlatParts.{parts_of}
use Rattle.vl_mean.specs.Parts.{here}
use Rattle.vl_mean.specs.Runs.{initial_writes}
use Rattle.vl_mean.specs.Scopes.{no_values}
use Rattle.vl_mean.specs.Targets.{Write, put_all}
use Rattle.vl_flow_cells.specs.Numbered.{all_cells}
use Rattle.vl_lower_assign.specs.Frames.{Cells, Steps, cell_widths}
use Rattle.wn_net.specs.Value.{Given}
use Rattle.wn_net.specs.Net.{Netlist}
use Rattle.vl_lower_stmt.specs.Zeros.{AreZeros}

-- a cycle of a net without inputs, registers and memories
abbrev pub nothing_given : Given
nothing_given = record { inputs = []; state = record { regs = []; mems = [] } }

-- nothing was assumed, all numbers are 0, and there is no memory
pub record IsZeroFrame (net : Netlist) (ds : List Decl) (f : Cells) : Type 0 where
  pub now : AreZeros net (cell_widths ds) f.now
  pub next : AreZeros net (cell_widths ds) f.next
  pub assumed : f.assumed ≡ []
  pub tracks : f.tracks ≡ []

-- ---- starts over a map

module _ (ds : List Decl) where
  -- the bits that a start writes, by the map in which indices are read
  abbrev pub written_by : Start → Values → List Write
  written_by x v = assigned (flat_scopes ds) x.target (flat_scopes ds) (number here (number_of x.value)) v

  -- starts, one after the other
  abbrev pub all_written : List Start → Values → List Write
  all_written [] v = []
  all_written (x ∷ xs) v = written_by x v ++ all_written xs v

  -- nodes are added, and the cells of the next cycle have what is written so, over the map of the cycle
  abbrev pub Starts : Netlist → Netlist → Cells → Cells → (Values → List Write) → Type 0
  Starts old new before after writes =
      Steps old new ds before after (λ g t. record t { pending = t.pending ++ writes t.now })
      (λ g t w. put_all (writes t.now) w)

-- ---- what comes out

-- by the number of each cell, what the writes at first make of 0, whatever drives it
pub record AreFirst (ds : List Decl) (xs : List Start) (numbers : List ℕ) : Type 0 where
  pub each : length numbers ≡ length (all_cells ds)
  pub same : (drivers : List Driver) (c : ℕ) (n : List ℕ) → slice_get (all_cells ds) c ≡ Some n
      → slice_index numbers c ≡ put_all (initial_writes (parts_of ds drivers xs)) no_values n
