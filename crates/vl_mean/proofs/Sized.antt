-- What is found where operands have sizes.
use Rattle.std.specs.Prelude.{◌≡◌, ℕ, List, Option, Some, None, ℤ}
use Rattle.std.proofs.Common.{ap, sym, ◌∙◌}
use Rattle.fv_text.specs.declared.pos.Pos.{Pos}
use Rattle.vl_tree.specs.declared.expr.Select.{Select}
use Rattle.vl_tree.specs.Expr.{Expr, Exprs, Selects, part, indexed, repeat, exprs}
use Rattle.vl_tree.specs.ExprView.{with_select}
use Rattle.vl_size.specs.declared.decl.Decl.{Decl}
use Rattle.vl_size.specs.Divisors.{valid_size}
use Rattle.vl_size.specs.Size.{◌>>=◌, Cells, some_bits}
use Rattle.vl_mean.specs.ConstantFaults.{if_sized, index, wide_part, wide_times, wide_select, wide, wides}
use Rattle.vl_mean.specs.ConstantFaults.{range_unless, range_fault, part_fault, bound_fault, far_fault}
use Rattle.vl_mean.specs.declared.const_fault.ConstFault.{ConstFault}
use Rattle.vl_mean.specs.declared.const_number.Const.{Const}

pub two_sized : {A : Type 0} (o q p r : Option ℕ) (x x_is y z : Option A) → z ≡ if_sized o y → y ≡ if_sized p x
    → o ≡ q → p ≡ r → x ≡ x_is
    → z ≡ if_sized q (if_sized r x_is)
two_sized o q p r x x_is y z e f g h k = e ∙ (λ i. if_sized (g i) y) ∙ ap (if_sized q) (f ∙ (λ i. if_sized (h i) (k i)))

module _ (ds : List Decl) (v : Cells) where
  pub part_sized : (select : Select) (p : Pos) (rest : Selects) (l r l_is r_is : Expr) (a b : ℤ) (o q x y z : Option ℕ)
      → ((rest : Selects) → with_select select rest ≡ part p l_is r_is rest) → l ≡ l_is → r ≡ r_is → a ≡ index ds v l
      → b ≡ index ds v r
      → o ≡ valid_size ds l → q ≡ valid_size ds r → x ≡ wide_part a b → y ≡ if_sized q x → z ≡ if_sized o y
      → z ≡ wide_select ds v (with_select select rest)
  part_sized select p rest l r l_is r_is a b o q x y z shape el er ea eb eo eq ex ey ez =
      two_sized o (valid_size ds l_is) q (valid_size ds r_is) x
      (wide_part (index ds v l_is) (index ds v r_is)) y z ez ey
      (eo ∙ ap (valid_size ds) el) (eq ∙ ap (valid_size ds) er)
      (ex ∙ (λ i. wide_part ((ea ∙ ap (index ds v) el) i) ((eb ∙ ap (index ds v) er) i)))
      ∙ sym (ap (wide_select ds v) (shape rest))

  pub indexed_sized : (select : Select) (p : Pos) (rest : Selects) (l r l_is r_is : Expr) (b : ℤ) (o q x y z : Option ℕ)
      → ((rest : Selects) → with_select select rest ≡ indexed p l_is r_is rest) → l ≡ l_is → r ≡ r_is → b ≡ index ds v r
      → o ≡ valid_size ds l → q ≡ valid_size ds r → x ≡ wide_times b 1 → y ≡ if_sized q x → z ≡ if_sized o y
      → z ≡ wide_select ds v (with_select select rest)
  indexed_sized select p rest l r l_is r_is b o q x y z shape el er eb eo eq ex ey ez =
      two_sized o (valid_size ds l_is) q (valid_size ds r_is) x (wide_times (index ds v r_is) 1) y z ez ey
      (eo ∙ ap (valid_size ds) el) (eq ∙ ap (valid_size ds) er)
      (ex ∙ ap (λ n. wide_times n 1) (eb ∙ ap (index ds v) er))
      ∙ sym (ap (wide_select ds v) (shape rest))

pub repeat_sized : (c : List ℕ → Option Const) (ds : List Decl) (v : Cells) (e n : Expr) (p : Pos) (l r : Expr)
    (es : List Expr) (fs : Exprs)
    (w m : ℕ) (a : ℤ) (o x z : Option ℕ) → repeat p n fs ≡ e → exprs es ≡ fs → l ≡ n → r ≡ n
    → Some w ≡ wides c ds v (exprs es)
    → Some m ≡ some_bits (Some w) → o ≡ valid_size ds l → a ≡ index ds v r → x ≡ wide_times a m → z ≡ if_sized o x
    → z ≡ wide c ds v e
repeat_sized c ds v e n p l r es fs w m a o x z shape same el er ew em eo ea ex ez =
    ez ∙ (λ i. if_sized ((eo ∙ ap (valid_size ds) el) i) ((ex ∙ (λ j. wide_times ((ea ∙ ap (index ds v) er) j) m)) i))
    ∙ ap (λ q. q >>= λ k. if_sized (valid_size ds n) (wide_times (index ds v n) k))
    (em ∙ ap some_bits (ew ∙ ap (wides c ds v) same))
    ∙ ap (wide c ds v) shape

module _ (ds : List Decl) (v : Cells) where
  pub part_ranged : (p : Pos) (l r : Expr) (a b : ℤ) (o q w : Option ℕ) (x y z : Option ConstFault)
      → a ≡ index ds v l → b ≡ index ds v r → o ≡ valid_size ds l → q ≡ valid_size ds r
      → w ≡ wide_part a b → x ≡ range_unless p w → y ≡ if_sized q x → z ≡ if_sized o y → z ≡ part_fault ds v p l r
  part_ranged p l r a b o q w x y z ea eb eo eq ew ex ey ez =
      two_sized o (valid_size ds l) q (valid_size ds r) x
      (range_unless p (wide_part (index ds v l) (index ds v r))) y z ez ey eo eq
      (ex ∙ ap (range_unless p) (ew ∙ (λ i. wide_part (ea i) (eb i))))

  pub bound_ranged : (p : Pos) (e : Expr) (a : ℤ) (o : Option ℕ) (x z : Option ConstFault)
      → a ≡ index ds v e → o ≡ valid_size ds e → x ≡ far_fault p a → z ≡ if_sized o x → z ≡ bound_fault ds v p e
  bound_ranged p e a o x z ea eo ex ez = ez ∙ (λ i. if_sized (eo i) ((ex ∙ ap (far_fault p) ea) i))

  pub indexed_ranged : (select : Select) (p : Pos) (rest : Selects) (l r r_is : Expr) (b : ℤ) (q w : Option ℕ)
      (x z : Option ConstFault)
      → ((rest : Selects) → with_select select rest ≡ indexed p l r_is rest) → r ≡ r_is → b ≡ index ds v r
      → q ≡ valid_size ds r
      → w ≡ wide_times b 1 → x ≡ range_unless p w → z ≡ if_sized q x → z ≡ range_fault ds v (with_select select rest)
  indexed_ranged select p rest l r r_is b q w x z shape er eb eq ew ex ez =
      ez ∙ (λ i. if_sized ((eq ∙ ap (valid_size ds) er) i)
      ((ex ∙ ap (range_unless p) (ew ∙ ap (λ n. wide_times n 1) (eb ∙ ap (index ds v) er))) i))
      ∙ sym (ap (range_fault ds v) (shape rest))
