-- Parts of an expression in a list, and selects in one.
use Rattle.std.specs.Prelude.{◌≡◌, refl, ℕ, zero, suc, ◌≤◌, ◌<◌, List, [], ◌∷◌, length, get_or, Option}
use Rattle.std.proofs.Common.{ap, arith}
use Rattle.fv_text.specs.declared.pos.Pos.{Pos}
use Rattle.vl_tree.specs.declared.expr.Select.{Select}
use Rattle.vl_tree.specs.declared.expr.Select.TheVariants as s
use Rattle.vl_tree.specs.Expr.{Selects, whole, selects_depth}
use Rattle.vl_tree.specs.ExprView.{selects, with_select}
use Rattle.vl_size.specs.declared.decl.Decl.{Decl}
use Rattle.vl_size.specs.Divisors.{selects_zero_divisor, select_zero_divisor}
use Rattle.vl_size.specs.Places.{earlier_place}
use Rattle.vl_size.proofs.Rest.{part_depth}

-- a select is no deeper than the list of selects
first_depth : (x : Select) (ss : Selects) → selects_depth (with_select x whole) ≤ selects_depth (with_select x ss)
first_depth (s.Bit p i) ss = omega arith
first_depth (s.Part p l r) ss = omega arith
first_depth (s.Indexed p i n) ss = omega arith

rest_depth : (x : Select) (ss : Selects) → selects_depth ss ≤ selects_depth (with_select x ss)
rest_depth (s.Bit p i) ss = omega arith
rest_depth (s.Part p l r) ss = omega arith
rest_depth (s.Indexed p i n) ss = omega arith

pub select_depth : (ss : List Select) (i : ℕ) (x : Select) → i < length ss → x ≡ get_or ss i x
    → selects_depth (with_select x whole) ≤ selects_depth (selects ss)
select_depth [] i x h k = absurd (omega arith)
select_depth (y ∷ ss) zero x h k =
    omega (arith, ap (λ z. selects_depth (with_select z whole)) k, first_depth y (selects ss))
select_depth (y ∷ ss) (suc i) x h k = omega (arith, select_depth ss i x (omega arith) k, rest_depth y (selects ss))

pub selects_next : (ds : List Decl) (x : Select) (ss : Selects)
    → selects_zero_divisor ds (with_select x ss) ≡ earlier_place (select_zero_divisor ds x) (selects_zero_divisor ds ss)
selects_next ds (s.Bit p i) ss = refl
selects_next ds (s.Part p l r) ss = refl
selects_next ds (s.Indexed p i n) ss = refl

pub ruleset parts = (part_depth, select_depth, selects_next)
