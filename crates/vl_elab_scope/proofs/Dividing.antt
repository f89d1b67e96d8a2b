-- Where no quotient and no remainder stands in an expression, no divisor in it is 0.
use Rattle.std.specs.Prelude.{◌≡◌, refl, ℕ, List, [], ◌∷◌, Bool, true, false, ◌&&◌, ◌||◌, Option, Some, None}
use Rattle.std.specs.Prelude.{is_none, if◌then◌else◌}
use Rattle.std.proofs.Common.{sym, ◌∙◌}
use Rattle.fv_text.specs.declared.pos.Pos.{Pos}
use Rattle.vl_tree.specs.declared.expr.Select.{Select}
use Rattle.vl_tree.specs.declared.expr.Select.TheVariants as s
use Rattle.vl_tree.specs.Expr.{
  Expr,
  Exprs,
  Selects,
  number,
  name,
  paren,
  unary,
  binary,
  conditional,
  concat,
  repeat,
  cast,
  none,
  more,
  whole,
  bit,
  part,
  indexed,
}
use Rattle.vl_tree.specs.ExprView.{with_select}
use Rattle.vl_size.proofs.Falls.{select_depth}
use Rattle.vl_size.proofs.Rest.{part_depth}
use Rattle.vl_size.specs.declared.context.Context.{Context}
use Rattle.vl_size.specs.declared.decl.Decl.{Decl}
use Rattle.vl_size.specs.Divisors.{place_if, own_context, left_context, right_context, is_zero}
use Rattle.vl_size.specs.Divisors.{zero_divisor, parts_zero_divisor, selects_zero_divisor, own_zero_divisor}
use Rattle.vl_size.specs.Divisors.{valid_size}
use Rattle.vl_size.specs.Places.{earlier_place}
use Rattle.vl_size.specs.Size.{cells_in, divides, value}
use Rattle.vl_size.specs.Way.{way, keeps_size}
use Rattle.vl_mean.specs.declared.const_number.Const.{Const}
use Rattle.vl_mean.specs.Constants.{settled, settled_exprs, settled_selects, named_constant, selected_constant}
use Rattle.vl_mean.specs.Constants.{number_or, values_at, vector_of}
use Rattle.vl_elab_scope.specs.Divisions.{has_division, parts_have_division, selects_have_division, select_has_division}

-- one select before the others
pub selects_next : (x : Select) (ss : Selects)
    → selects_have_division (with_select x ss) ≡ (select_has_division x || selects_have_division ss)
selects_next (s.Bit p i) ss = refl
selects_next (s.Part p l r) ss = refl
selects_next (s.Indexed p i n) ss = refl

pub ruleset dividing = (part_depth, select_depth, selects_next)

-- neither of two
or_left : (a b : Bool) → (a || b) ≡ false → a ≡ false
or_left true b h = cc
or_left false b h = refl

or_right : (a b : Bool) → (a || b) ≡ false → b ≡ false
or_right true b h = cc
or_right false b h = h

module _ (f : List ℕ → Option Const) (ds : List Decl) where
  in_number : (c : Context) (p : Pos) (o : Option ℕ) (x : Expr) (v : ℕ → ℕ) → zero_divisor ds c x ≡ None
      → zero_divisor ds c (number_or p o x v) ≡ None
  in_number c p None x v h = h
  in_number c p (Some n) x v h = refl

  in_selected : (c : Context) (p : Pos) (text : List ℕ) (x : Expr) (k : Const) → zero_divisor ds c x ≡ None
      → zero_divisor ds c (selected_constant p text x k) ≡ None
  in_selected c p text x k h =
      in_number c p (valid_size (vector_of text k ∷ []) x) x
      (λ n. value (vector_of text k ∷ []) (cells_in (values_at text k)) n false x) h

  -- a name, or the number in its place
  in_name : (c : Context) (p : Pos) (text : List ℕ) (ss : Selects) (o : Option Const)
      → selects_zero_divisor ds ss ≡ None → zero_divisor ds c (named_constant p text ss o) ≡ None
  in_name c p text ss None h = h
  in_name c p text whole (Some k) h = refl
  in_name c p text (bit q i ss) (Some k) h = in_selected c p text (name p text (bit q i ss)) k h
  in_name c p text (part q l r ss) (Some k) h = in_selected c p text (name p text (part q l r ss)) k h
  in_name c p text (indexed q i n ss) (Some k) h = in_selected c p text (name p text (indexed q i n ss)) k h

  mutual
    pub undivided : (c : Context) (e : Expr) → has_division e ≡ false → zero_divisor ds c (settled f e) ≡ None
    undivided c (number p n) h = refl
    undivided c (name p text ss) h =
        in_name c p text (settled_selects f ss) (f text) (undivided_selects ss h)
    undivided c (paren p x) h = undivided c x h
    undivided c (unary p op x) h = undivided (if keeps_size op then c else own_context ds (settled f x)) x h
    undivided c (binary p op x y) h =
        let both = or_right (divides op) (has_division x || has_division y) h in
        let first = undivided (left_context ds (way op) op c (settled f x) (settled f y)) x
        (or_left (has_division x) (has_division y) both) in
        let second = undivided (right_context ds (way op) op c (settled f x) (settled f y)) y
        (or_right (has_division x) (has_division y) both) in
        λ i. earlier_place (place_if (or_left (divides op) (has_division x || has_division y) h i
        && (is_none (second i) && is_zero ds c (settled f y))) p) (earlier_place (first i) (second i))
    undivided c (conditional p k x y) h =
        let both = or_right (has_division k) (has_division x || has_division y) h in
        let test = undivided (own_context ds (settled f k)) k
        (or_left (has_division k) (has_division x || has_division y) h) in
        let first = undivided c x (or_left (has_division x) (has_division y) both) in
        let second = undivided c y (or_right (has_division x) (has_division y) both) in
        λ i. earlier_place (test i) (earlier_place (first i) (second i))
    undivided c (concat p es) h = undivided_parts es h
    undivided c (repeat p n es) h =
        let count = undivided (own_context ds (settled f n)) n (or_left (has_division n) (parts_have_division es) h) in
        let parts = undivided_parts es (or_right (has_division n) (parts_have_division es) h) in
        λ i. earlier_place (count i) (parts i)
    undivided c (cast p to x) h = undivided (own_context ds (settled f x)) x h

    undivided_parts : (es : Exprs) → parts_have_division es ≡ false
        → parts_zero_divisor ds (settled_exprs f es) ≡ None
    undivided_parts none h = refl
    undivided_parts (more e es) h =
        let first = undivided (own_context ds (settled f e)) e (or_left (has_division e) (parts_have_division es) h) in
        let rest = undivided_parts es (or_right (has_division e) (parts_have_division es) h) in
        λ i. earlier_place (first i) (rest i)

    undivided_selects : (ss : Selects) → selects_have_division ss ≡ false
        → selects_zero_divisor ds (settled_selects f ss) ≡ None
    undivided_selects whole h = refl
    undivided_selects (bit p x ss) h =
        let first = undivided (own_context ds (settled f x)) x
        (or_left (has_division x) (selects_have_division ss) h) in
        let rest = undivided_selects ss (or_right (has_division x) (selects_have_division ss) h) in
        λ i. earlier_place (first i) (rest i)
    undivided_selects (part p l r ss) h =
        let both = or_left (has_division l || has_division r) (selects_have_division ss) h in
        let first = undivided (own_context ds (settled f l)) l (or_left (has_division l) (has_division r) both) in
        let second = undivided (own_context ds (settled f r)) r (or_right (has_division l) (has_division r) both) in
        let rest = undivided_selects ss (or_right (has_division l || has_division r) (selects_have_division ss) h) in
        λ i. earlier_place (earlier_place (first i) (second i)) (rest i)
    undivided_selects (indexed p x n ss) h =
        let both = or_left (has_division x || has_division n) (selects_have_division ss) h in
        let first = undivided (own_context ds (settled f x)) x (or_left (has_division x) (has_division n) both) in
        let second = undivided (own_context ds (settled f n)) n (or_right (has_division x) (has_division n) both) in
        let rest = undivided_selects ss (or_right (has_division x || has_division n) (selects_have_division ss) h) in
        λ i. earlier_place (earlier_place (first i) (second i)) (rest i)

  -- by the test that says so
  pub none_divided : (c : Context) (e : Expr) (b : Bool) → b ≡ has_division e → b ≡ false
      → None ≡ zero_divisor ds c (settled f e)
  none_divided c e b h k = sym (undivided c e (sym h ∙ k))

  pub none_divided_own : (e : Expr) (b : Bool) → b ≡ has_division e → b ≡ false
      → None ≡ own_zero_divisor ds (settled f e)
  none_divided_own e b h k = none_divided (own_context ds (settled f e)) e b h k
