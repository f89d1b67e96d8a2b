-- What is read of an expression, over tables of its own names.
use Rattle.std.specs.Prelude.{◌≡◌, ℕ, List, [], Bool, Option, Some, None, Result, Ok, Err, IfOk, IfSome}
use Rattle.std.proofs.Common.{ap, sym, ◌∙◌}
use Rattle.fv_text.specs.declared.pos.Pos.{Pos}
use Rattle.fv_bits.specs.Bits.{as_int}
use Rattle.vl_tree.specs.Expr.{Expr}
use Rattle.vl_size.specs.declared.decl.Decl.{Decl}
use Rattle.vl_size.specs.declared.own.Own.{Own}
use Rattle.vl_size.specs.Divisors.{if_none, own_zero_divisor, valid_size}
use Rattle.vl_size.specs.Sign.{sign}
use Rattle.vl_size.specs.Size.{Cells, index_of, no_names, operand_of, or_none, size, value}
use Rattle.vl_mean.specs.declared.const_number.Const.{Const}
use Rattle.vl_mean.specs.Constants.{settled}
use Rattle.vl_elab_scope.specs.Texts.{texts, AgreeOn}
use Rattle.vl_elab_scope.proofs.Agree.{same_settled}

pub ok_settled : {F : Type 0} (r : Result Expr F) (g f : List ℕ → Option Const) (e : Expr) → AgreeOn g f (texts e)
    → IfOk r (λ x. x ≡ settled g e) → IfOk r (λ x. x ≡ settled f e)
ok_settled (Ok x) g f e h k = k ∙ same_settled g f e h
ok_settled (Err y) g f e h k = k

valid_known : (s : Expr) (w : ℕ) → Some w ≡ valid_size [] s → size [] s ≡ Some w
valid_known s w h = by (own_zero_divisor [] s) (sym h)
  where
    by : (o : Option Pos) → if_none o (size [] s) ≡ Some w → size [] s ≡ Some w
    by None h = h
    by (Some p) h = cc

-- the value at the size and the sign that a constant has by itself
index_at : (s : Expr) (w n : ℕ) (t : Bool) → Some w ≡ valid_size [] s → t ≡ sign [] s
    → n ≡ value [] no_names w t s → as_int w t n ≡ index_of (operand_of [] no_names s)
index_at s w n t h e k =
    ap (as_int w t) k ∙ (λ i. as_int (or_none (sym (valid_known s w h) i)) (e i)
    (value [] no_names (or_none (sym (valid_known s w h) i)) (e i) s))

-- the same of what is found, over no names
pub value_is : (o : Option Own) (ds : List Decl) (v : Cells) (s t : Expr) → ds ≡ [] → v ≡ no_names → s ≡ t
    → IfSome o (λ own. Some own.width ≡ valid_size ds s) → IfSome o (λ own. own.signed ≡ sign ds s)
    → IfSome o (λ own. own.number ≡ value ds v own.width own.signed s)
    → IfSome o (λ own. as_int own.width own.signed own.number ≡ index_of (operand_of [] no_names t))
value_is None ds v s t d e k width signed number = tt
value_is (Some own) ds v s t d e k width signed number =
    index_at t own.width own.number own.signed (width ∙ (λ i. valid_size (d i) (k i))) (signed ∙ (λ i. sign (d i) (k i)))
    (number ∙ (λ i. value (d i) (e i) own.width own.signed (k i)))
