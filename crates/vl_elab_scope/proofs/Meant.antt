-- Names that mean constants, and those that mean none.
use Rattle.std.specs.Prelude.{◌≡◌, refl, ℕ, List, false, Option, Some, None, is_some, Result, Ok, Err, IfOk}
use Rattle.std.proofs.Common.{ap, ◌∙◌}
use Rattle.fv_text.specs.declared.pos.Pos.{Pos}
use Rattle.vl_tree.specs.Expr.{Expr, Selects, name, whole}
use Rattle.vl_mean.specs.declared.const_number.Const.{Const}
use Rattle.vl_mean.specs.Constants.{named_constant, settled, settled_selects}

-- one that means none stays
pub name_stays : (p : Pos) (text : List ℕ) (ss : Selects) (o : Option Const) → is_some o ≡ false
    → name p text ss ≡ named_constant p text ss o
name_stays p text ss None h = refl
name_stays p text ss (Some c) h = cc

pub selected_known : (c : List ℕ → Option Const) (p : Pos) (text n : List ℕ) (made xs : Selects)
    → is_some (c text) ≡ false → n ≡ text → made ≡ settled_selects c xs → name p n made ≡ settled c (name p text xs)
selected_known c p text n made xs h e k =
    (λ i. name p (e i) (k i)) ∙ name_stays p text (settled_selects c xs) (c text) h

pub ok_named : {F : Type 0} (r : Result Expr F) (p : Pos) (text : List ℕ) (o q : Option Const) → o ≡ q
    → IfOk r (λ e. e ≡ named_constant p text whole o) → IfOk r (λ e. e ≡ named_constant p text whole q)
ok_named (Ok e) p text o q h k = k ∙ ap (named_constant p text whole) h
ok_named (Err f) p text o q h k = k
