-- Expressions over cells that stand for a map.
use Rattle.std.specs.Prelude.{◌≡◌, ℕ, Bool, IsSome, List, length}
use Rattle.std.proofs.Common.{ap, sym, ◌∙◌, subst}
use Rattle.fv_bits.specs.Bits.{bit}
use Rattle.vl_tree.specs.Expr.{Expr}
use Rattle.vl_size.specs.declared.decl.Decl.{Decl}
use Rattle.vl_size.specs.Size.{Values, Cells, cells_in, is_true, operand_of, own, size, value}
use Rattle.vl_mean.specs.FlatLaw.{flat_scopes}
use Rattle.vl_mean.specs.Scopes.{operand_in}
use Rattle.vl_mean_flat.proofs.SameTarget.{flat_operand}
use Rattle.wn_net.specs.Value.{Given}
use Rattle.wn_net.specs.Net.{Netlist}
use Rattle.vl_lower_expr.specs.declared.place.Place.{Place}
use Rattle.vl_lower_expr.specs.Bound.{Bound, AreBound, HaveNumbers}
use Rattle.vl_lower_expr.specs.Lowers.{Lowers}
use Rattle.vl_lower_assign.specs.Frames.{AreCellsOf}
use Rattle.vl_lower_stmt.specs.Executes.{Evaluates}
use Rattle.vl_lower_stmt.specs.Layout.{IsLayout}
use Rattle.vl_lower_stmt.proofs.Named.{over, bound_over, numbers_over}

module _ (ds : List Decl) (places : List Place) (own : IsLayout ds places) where
  -- bindings that are names over the cells
  pub bound_is : (net : Netlist) (cells : List ℕ) (names : Bound) → names ≡ over ds places cells
      → AreCellsOf net ds cells → AreBound net names
  bound_is net cells names e are = subst (AreBound net) (sym e) (bound_over ds places own net cells are)

  -- what is lowered over them is a value over each map that they stand for
  pub evaluated : (old new : Netlist) (cells : List ℕ) (names : Bound) (width : ℕ) (m : Given → Cells → ℕ)
      (n : Values → ℕ) (id : ℕ) → names ≡ over ds places cells → Lowers old new names width m id
      → ((g : Given) (v : Values) → m g (cells_in v) ≡ n v) → Evaluates ds old new cells width n id
  evaluated old new cells names width m n id e h same = record {
    adds = h.adds;
    node = h.node;
    value = λ g v given has.
        h.value g (cells_in v) given
        (subst (HaveNumbers old g (cells_in v)) (sym e) (numbers_over ds places own old g v cells has))
        ∙ same g v;
  }

  -- by another width that is the same
  pub evaluated_at : (old new : Netlist) (cells : List ℕ) (names : Bound) (width other : ℕ) (m : Given → Cells → ℕ)
      (n : Values → ℕ) (id : ℕ) → names ≡ over ds places cells → Lowers old new names width m id → width ≡ other
      → ((g : Given) (v : Values) → m g (cells_in v) ≡ n v) → Evaluates ds old new cells other n id
  evaluated_at old new cells names width other m n id e h wide same =
      subst (λ w. Evaluates ds old new cells w n id) wide (evaluated old new cells names width m n id e h same)

-- what has a size has one over the names
pub names_sized : (ds : List Decl) (places : List Place) (cells : List ℕ) (names : Bound) (e : Expr)
    → names ≡ over ds places cells → IsSome (size ds e) → IsSome (size names.decls e)
names_sized ds places cells names e same h = subst (λ b. IsSome (size b.decls e)) (sym same) h

pub places_each : (ds : List Decl) (places : List Place) (cells : List ℕ) (names : Bound) → IsLayout ds places
    → names ≡ over ds places cells → length names.places ≡ length names.decls
places_each ds places cells names own same = subst (λ b. length b.places ≡ length b.decls) (sym same) own.each

-- an expression in the one scope
pub truth_in : (ds : List Decl) (v : Values) (e : Expr)
    → bit (is_true (operand_of ds (cells_in v) e)) ≡ bit (is_true (operand_in (flat_scopes ds) v e))
truth_in ds v e = ap (λ x. bit (is_true x)) (sym (flat_operand ds v e))

pub own_in : (ds : List Decl) (v : Values) (e : Expr)
    → own (operand_of ds (cells_in v) e) ≡ own (operand_in (flat_scopes ds) v e)
own_in ds v e = ap own (sym (flat_operand ds v e))

pub number_at : (ds : List Decl) (v : Values) (w : ℕ) (s : Bool) (e : Expr)
    → value ds (cells_in v) w s e ≡ (operand_in (flat_scopes ds) v e).at w s
number_at ds v w s e = ap (λ x. x.at w s) (sym (flat_operand ds v e))
