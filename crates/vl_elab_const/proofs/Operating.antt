-- Operations on two numbers, or on constants.
use Rattle.std.specs.Prelude.{◌≡◌, refl, ℕ, ◌<◌, max, List, [], ◌∷◌, length, true, false, Option, Some, None}
use Rattle.std.specs.Prelude.{if◌then◌else◌, IfSome}
use Rattle.std.proofs.Common.{ap, sym, ◌∙◌, arith}
use Rattle.fv_text.specs.declared.number.Number.{Number}
use Rattle.fv_text.specs.declared.pos.Pos.{Pos}
use Rattle.vl_tree.specs.declared.operator.BinaryOperator.{BinaryOperator}
use Rattle.vl_tree.specs.Expr.{Expr, name, number, binary, whole}
use Rattle.vl_size.specs.Sign.{sign_by}
use Rattle.vl_size.specs.Size.{binary_number, divides, no_names, only_if, operand_of, or_none, size_by}
use Rattle.vl_size.specs.Way.{way}
use Rattle.vl_mean.specs.declared.const_number.Const.{Const}
use Rattle.vl_mean.specs.Constants.{named_constant, number_of}
use Rattle.vl_elab_spec.specs.Expressions.{known}
use Rattle.vl_elab_spec.specs.Meanings.{Names, constants}
use Rattle.vl_elab_const.specs.Operations.{number_operand, IsNumber}

-- a name that means a constant
pub constant_is : (ns : List Names) (text : List ℕ) (o : Option Const) (c : Const) (n : Number)
    → o ≡ constants ns text → o ≡ Some c → n ≡ number_of c → (p : Pos) → IsNumber n (known ns (name p text whole))
constant_is ns text o c n h k e p = (p, ap (named_constant p text whole) (sym h ∙ k) ∙ ap (number p) (sym e))

pub no_selects : {A : Type 0} (xs : List A) → length xs < 1 → xs ≡ []
no_selects [] h = refl
no_selects (x ∷ xs) h = absurd (omega arith)

pub here : (o : Option Number) (ns : List Names) (text : List ℕ) (p : Pos) (e : Expr) → name p text whole ≡ e
    → IfSome o (λ n. (p : Pos) → IsNumber n (known ns (name p text whole)))
    → IfSome o (λ n. IsNumber n (known ns e))
here None ns text p e is h = tt
here (Some n) ns text p e is h = let at = h p in (at.0, ap (known ns) (sym is) ∙ at.1)

pub operation_is : (op : BinaryOperator) (p : Pos) (x y : Expr) (a b : Number) (least n : ℕ) → divides op ≡ false
    → IsNumber a x → IsNumber b y
    → n ≡ binary_number (way op) op (max least (size_by (way op) a.width b.width))
    (sign_by (way op) a.signed b.signed) (number_operand a) (number_operand b)
    → let o = operand_of [] no_names (binary p op x y) in n ≡ o.at (max least o.size) o.sign
operation_is op p x y a b least n h ha hb e =
    e ∙ (λ i. binary_number (way op) op (max least (or_none (if sym h i then only_if true (max a.width b.width)
    else Some (size_by (way op) a.width b.width)))) (sign_by (way op) a.signed b.signed) (number_operand a)
    (number_operand b))
    ∙ (λ i. let o = operand_of [] no_names (binary p op (sym ha.1 i) (sym hb.1 i)) in o.at (max least o.size) o.sign)
