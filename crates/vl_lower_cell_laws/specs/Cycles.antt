-- Between functions: Cells in which the drivers of a design are settled one after the other, and then its clocked
-- blocks act. Rule of this project.
use Rattle.std.specs.Prelude.{◌≡◌, ℕ, ◌<◌, ◌↔◌, List, [], ◌∷◌, ◌++◌, Some, slice_get}
use Rattle.vl_size.specs.declared.decl.Decl.{Decl}
use Rattle.vl_size.specs.Size.{Values}
use Rattle.vl_mean.specs.declared.driver.Driver.{Driver}
use Rattle.vl_mean.specs.declared.driver.DriverKind.{DriverKind}
use Rattle.vl_mean.specs.Runs.{Each}
use Rattle.vl_flow_spec.specs.Settle.{driven}
use Rattle.wn_net.specs.Value.{Given}
use Rattle.wn_net.specs.Net.{Netlist, AreNodes, value_at}
use Rattle.wn_net.specs.Given.{IsGiven}
use Rattle.wn_net.specs.Changes.{AddsNodes}
use Rattle.vl_lower_assign.specs.Frames.{Cells, IsFrame, Stand}
use Rattle.vl_lower_spec.specs.Settled.{settled}
use Rattle.vl_lower_cell_laws.specs.Ticked.{stored_by, ticked}
use Rattle.vl_lower_cell_laws.specs.Left.{left, left_by, seen_at_edge, seen_at_edges, seen_by, seen_in}

-- the nodes tell in a cycle whether all numbers that are assumed are other than 0
abbrev pub Tell : Netlist → Given → List ℕ → List ℕ → Type 0
Tell net g numbers nodes = Each (λ x. 0 < x) numbers ↔ Each (λ id. 0 < value_at net g id) nodes

-- Nodes are added, and a frame becomes another one, with nodes for what is assumed: in each cycle in which its cells
-- have the numbers of maps, those of the cycle become these, those of the next cycle these, and the nodes tell what is
-- assumed.
pub record Turns (old new : Netlist) (ds : List Decl) (before after : Cells) (nodes : List ℕ) (now : Values → Values)
    (next : Values → Values → Values) (seen : Values → List ℕ) : Type 0 where
  pub adds : AddsNodes old new
  pub frame : IsFrame new ds after
  pub there : AreNodes new nodes
  pub comes : (g : Given) (v w : Values) → IsGiven old g → Stand old g ds before.now v → Stand old g ds before.next w
      → Stand new g ds after.now (now v) × Stand new g ds after.next (next v w) × Tell new g (seen v) nodes

module _ (ds : List Decl) where
  -- a driver that isn't a clocked block is settled
  abbrev pub Settles : Netlist → Netlist → Cells → Cells → List ℕ → DriverKind → Type 0
  Settles old new before after nodes x = Turns old new ds before after nodes (driven ds x) (left_by ds x) (seen_by ds x)

  -- drivers by their numbers, one after the other
  abbrev pub SettlesAll : Netlist → Netlist → Cells → Cells → List ℕ → List Driver → List ℕ → Type 0
  SettlesAll old new before after nodes drivers numbers =
      Turns old new ds before after nodes (settled ds drivers numbers) (left ds drivers numbers)
      (seen_in ds drivers numbers)

  -- a clocked block acts: the cells of the cycle have the numbers that they had
  abbrev pub Ticks : Netlist → Netlist → Cells → Cells → List ℕ → DriverKind → Type 0
  Ticks old new before after nodes x =
      Turns old new ds before after nodes (λ v. v) (stored_by ds x) (seen_at_edge ds x)

  -- the clocked ones of some drivers, one after the other
  abbrev pub TicksAll : Netlist → Netlist → Cells → Cells → List ℕ → List Driver → Type 0
  TicksAll old new before after nodes drivers =
      Turns old new ds before after nodes (λ v. v) (ticked ds drivers) (seen_at_edges ds drivers)

-- ---- the laws: one more, behind the others

pub record CyclesGrow (ds : List Decl) (drivers : List Driver) (old mid new : Netlist) (f h k : Cells)
    (xs ys : List ℕ) : Type 0 where
  -- none
  pub settles_none : IsFrame old ds f → SettlesAll ds old old f f [] drivers []
  pub ticks_none : IsFrame old ds f → TicksAll ds old old f f [] []
  -- one more
  pub settles_more : (numbers : List ℕ) (i : ℕ) (x : Driver) → slice_get drivers i ≡ Some x
      → SettlesAll ds old mid f h xs drivers numbers → Settles ds mid new h k ys x.what
      → SettlesAll ds old new f k (xs ++ ys) drivers (numbers ++ i ∷ [])
  pub ticks_more : (done : List Driver) (x : Driver) → TicksAll ds old mid f h xs done
      → Ticks ds mid new h k ys x.what → TicksAll ds old new f k (xs ++ ys) (done ++ x ∷ [])

abbrev pub AllCyclesGrow : Type 0
AllCyclesGrow =
    (ds : List Decl) (drivers : List Driver) (old mid new : Netlist) (f h k : Cells) (xs ys : List ℕ)
    → CyclesGrow ds drivers old mid new f h k xs ys
