-- Between functions: What it means that statements are executed over a frame. Rule of this project; what a statement
-- does is `Execution` of vl_mean.
use Rattle.std.specs.Prelude.{◌≡◌, ℕ, ◌&&◌, Bool, List, Option, Some, if◌then◌else◌}
use Rattle.fv_bits.specs.Bits.{bit}
use Rattle.vl_tree.specs.declared.stmt.CaseKind.{CaseKind}
use Rattle.vl_tree.specs.Expr.{Expr}
use Rattle.vl_tree.specs.Stmt.{Stmt, Stmts, Arms}
use Rattle.vl_size.specs.declared.decl.Decl.{Decl}
use Rattle.vl_size.specs.Size.{Values, is_true}
use Rattle.vl_mean.specs.Execution.{State, exec, exec_all, otherwise, matches}
use Rattle.vl_mean.specs.FlatLaw.{flat_scopes}
use Rattle.vl_mean.specs.Scopes.{operand_in}
use Rattle.wn_net.specs.Value.{Given}
use Rattle.wn_net.specs.Net.{Netlist, IsNodeOf, value_at}
use Rattle.wn_net.specs.Given.{IsGiven}
use Rattle.wn_net.specs.Changes.{AddsNodes}
use Rattle.vl_lower_assign.specs.Slots.{is_taken}
use Rattle.vl_lower_assign.specs.Frames.{Cells, Stand, Steps}
use Rattle.vl_lower_assign.specs.Stored.{stored, all_stored, otherwise_stored}

-- where a path is taken, and else nothing is done
abbrev pub done_where : Netlist → Option ℕ → (State → State) → Given → State → State
done_where net path does g t = if is_taken net g path then does t else t

abbrev pub stored_where : Netlist → Option ℕ → (State → Values → Values) → Given → State → Values → Values
stored_where net path stores g t w = if is_taken net g path then stores t w else w

module _ (ds : List Decl) where
  -- a statement is executed where the path is taken
  abbrev pub Executes : Netlist → Netlist → Cells → Cells → Option ℕ → Stmt → Type 0
  Executes old new before after path s =
      Steps old new ds before after (done_where old path (exec (flat_scopes ds) s))
      (stored_where old path (stored (flat_scopes ds) s))

  abbrev pub ExecutesAll : Netlist → Netlist → Cells → Cells → Option ℕ → Stmts → Type 0
  ExecutesAll old new before after path xs =
      Steps old new ds before after (done_where old path (exec_all (flat_scopes ds) xs))
      (stored_where old path (all_stored (flat_scopes ds) xs))

  -- the default arm, wherever it stands
  abbrev pub ExecutesOther : Netlist → Netlist → Cells → Cells → Option ℕ → Arms → Type 0
  ExecutesOther old new before after path xs =
      Steps old new ds before after (done_where old path (otherwise (flat_scopes ds) xs))
      (stored_where old path (otherwise_stored (flat_scopes ds) xs))

  -- Nodes are added, and this one is there with the width. In each cycle in which cells have the numbers of a map, it
  -- has what is meant over the map.
  pub record Evaluates (old new : Netlist) (cells : List ℕ) (width : ℕ) (meaning : Values → ℕ) (id : ℕ) : Type 0 where
    pub adds : AddsNodes old new
    pub node : IsNodeOf new width id
    pub value : (g : Given) (v : Values) → IsGiven old g → Stand old g ds cells v → value_at new g id ≡ meaning v

  -- Nodes are added, and this one is the path on which an expression isn't 0, or on which it is.
  pub record Enters (old new : Netlist) (cells : List ℕ) (path : Option ℕ) (turned : Bool → Bool) (e : Expr) (id : ℕ)
      : Type 0 where
    pub adds : AddsNodes old new
    pub node : IsNodeOf new 1 id
    pub taken : (g : Given) (v : Values) → IsGiven old g → Stand old g ds cells v
        → is_taken new g (Some id)
        ≡ (is_taken old g path && turned (is_true (operand_in (flat_scopes ds) v e)))

  -- Nodes are added, and this one says whether one of the labels of a case matches the number of a node.
  pub record Matches (old new : Netlist) (cells : List ℕ) (kind : CaseKind) (width : ℕ) (signed : Bool) (word : ℕ)
      (es : List Expr) (id : ℕ)
      : Type 0 where
    pub adds : AddsNodes old new
    pub node : IsNodeOf new 1 id
    pub value : (g : Given) (v : Values) → IsGiven old g → Stand old g ds cells v
        → value_at new g id ≡ bit (matches (flat_scopes ds) kind v width signed (value_at old g word) es)
