-- Between functions: A code for expressions: each is written as a tree with labels, and read back. Rule of this
-- project.
use Rattle.std.specs.Prelude.{◌≡◌, refl, ℕ, List, ◌⊎◌}
use Rattle.std.specs.Coded.{Coded, code_by, coded_ℕ, coded_list, coded×, coded⊎}
use Rattle.std.proofs.Common.{inl, inr, zero, suc}
use Rattle.fv_text.specs.Rose.{Rose, Roses, node, coded_rose}
use Rattle.fv_text.specs.Rose as r
use Rattle.fv_text.specs.declared.pos.Pos.{Pos}
use Rattle.fv_text.specs.contracts.pos.Pos as pos
use Rattle.fv_text.specs.declared.number.Number.{Number}
use Rattle.fv_text.specs.contracts.number.Number as num
use Rattle.vl_tree.specs.declared.operator.UnaryOperator.{UnaryOperator}
use Rattle.vl_tree.specs.contracts.operator.UnaryOperator as un
use Rattle.vl_tree.specs.declared.operator.BinaryOperator.{BinaryOperator}
use Rattle.vl_tree.specs.contracts.operator.BinaryOperator as bin
use Rattle.vl_tree.specs.declared.operator.Cast.{Cast}
use Rattle.vl_tree.specs.contracts.operator.Cast as cas
use Rattle.vl_tree.specs.Expr.{
  Expr,
  Exprs,
  Selects,
  number,
  name,
  paren,
  unary,
  binary,
  conditional,
  concat,
  repeat,
  cast,
  none,
  more,
  whole,
  bit,
  part,
  indexed,
}

-- what a node has besides its parts: which one it is, and what it holds
abbrev What : Type 0
What = Number ⊎ (List ℕ ⊎ (UnaryOperator ⊎ (BinaryOperator ⊎ (Cast ⊎ ℕ))))

abbrev Label : Type 0
Label = Pos × What

abbrev label_code : Coded Label
label_code = coded× pos.the_row.coded
    (coded⊎ num.the_row.coded (coded⊎ (coded_list coded_ℕ)
    (coded⊎ un.the_row.coded (coded⊎ bin.the_row.coded (coded⊎ cas.the_row.coded coded_ℕ)))))

abbrev one : Rose Label → Roses Label
one a = r.more a r.none

abbrev two : Rose Label → Rose Label → Roses Label
two a b = r.more a (one b)

abbrev plain : Pos → ℕ → Label
plain p n = (p, inr (inr (inr (inr (inr n)))))

abbrev mutual
  to : Expr → Rose Label
  to (number p n) = node (p, inl n) r.none
  to (name p text ss) = node (p, inr (inl text)) (to_selects ss)
  to (paren p a) = node (plain p 0) (one (to a))
  to (unary p op a) = node (p, inr (inr (inl op))) (one (to a))
  to (binary p op a b) = node (p, inr (inr (inr (inl op)))) (two (to a) (to b))
  to (conditional p c a b) = node (plain p 1) (r.more (to c) (two (to a) (to b)))
  to (concat p es) = node (plain p 2) (to_exprs es)
  to (repeat p n es) = node (plain p 3) (r.more (to n) (to_exprs es))
  to (cast p c a) = node (p, inr (inr (inr (inr (inl c))))) (one (to a))

  to_exprs : Exprs → Roses Label
  to_exprs none = r.none
  to_exprs (more e es) = r.more (to e) (to_exprs es)

  to_selects : Selects → Roses Label
  to_selects whole = r.none
  to_selects (bit p a ss) = r.more (node (plain p 0) (one (to a))) (to_selects ss)
  to_selects (part p a b ss) = r.more (node (plain p 1) (two (to a) (to b))) (to_selects ss)
  to_selects (indexed p a b ss) = r.more (node (plain p 2) (two (to a) (to b))) (to_selects ss)

abbrev mutual
  back : Rose Label → Expr
  back (node (p, inl n) ts) = number p n
  back (node (p, inr (inl text)) ts) = name p text (back_selects ts)
  back (node (p, inr (inr (inl op))) (r.more a ts)) = unary p op (back a)
  back (node (p, inr (inr (inr (inl op)))) (r.more a (r.more b ts))) = binary p op (back a) (back b)
  back (node (p, inr (inr (inr (inr (inl c))))) (r.more a ts)) = cast p c (back a)
  back (node (p, inr (inr (inr (inr (inr zero))))) (r.more a ts)) = paren p (back a)
  back (node (p, inr (inr (inr (inr (inr (suc zero)))))) (r.more c (r.more a (r.more b ts)))) =
      conditional p (back c) (back a) (back b)
  back (node (p, inr (inr (inr (inr (inr (suc (suc (suc n)))))))) (r.more a ts)) = repeat p (back a) (backs ts)
  back (node (p, what) ts) = concat p (backs ts)

  backs : Roses Label → Exprs
  backs r.none = none
  backs (r.more t ts) = more (back t) (backs ts)

  back_selects : Roses Label → Selects
  back_selects (r.more (node (p, inr (inr (inr (inr (inr zero))))) (r.more a us)) ts) = bit p (back a) (back_selects ts)
  back_selects (r.more (node (p, inr (inr (inr (inr (inr (suc zero)))))) (r.more a (r.more b us))) ts) =
      part p (back a) (back b) (back_selects ts)
  back_selects (r.more (node (p, inr (inr (inr (inr (inr (suc (suc n))))))) (r.more a (r.more b us))) ts) =
      indexed p (back a) (back b) (back_selects ts)
  back_selects ts = whole

mutual
  pub back-to : (e : Expr) → back (to e) ≡ e
  back-to (number p n) = refl
  back-to (name p text ss) = λ i. name p text (back_selects-to ss i)
  back-to (paren p a) = λ i. paren p (back-to a i)
  back-to (unary p op a) = λ i. unary p op (back-to a i)
  back-to (binary p op a b) = λ i. binary p op (back-to a i) (back-to b i)
  back-to (conditional p c a b) = λ i. conditional p (back-to c i) (back-to a i) (back-to b i)
  back-to (concat p es) = λ i. concat p (backs-to es i)
  back-to (repeat p n es) = λ i. repeat p (back-to n i) (backs-to es i)
  back-to (cast p c a) = λ i. cast p c (back-to a i)

  pub backs-to : (es : Exprs) → backs (to_exprs es) ≡ es
  backs-to none = refl
  backs-to (more e es) = λ i. more (back-to e i) (backs-to es i)

  pub back_selects-to : (ss : Selects) → back_selects (to_selects ss) ≡ ss
  back_selects-to whole = refl
  back_selects-to (bit p a ss) = λ i. bit p (back-to a i) (back_selects-to ss i)
  back_selects-to (part p a b ss) = λ i. part p (back-to a i) (back-to b i) (back_selects-to ss i)
  back_selects-to (indexed p a b ss) = λ i. indexed p (back-to a i) (back-to b i) (back_selects-to ss i)

abbrev pub expr_code : Coded Expr
expr_code = code_by (Rose Label) (coded_rose label_code) to back back-to

abbrev to_rose : Selects → Rose Label
to_rose ss = node (plain (record { file = 0; line = 0; col = 0 }) 0) (to_selects ss)

abbrev from_rose : Rose Label → Selects
from_rose (node l ts) = back_selects ts

abbrev pub selects_code : Coded Selects
selects_code = code_by (Rose Label) (coded_rose label_code) to_rose from_rose back_selects-to
