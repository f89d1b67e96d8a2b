-- Between functions: A code for targets: each is written as a tree with labels, and read back. Rule of this project.
use Rattle.std.specs.Prelude.{◌≡◌, refl, ℕ, List, ◌⊎◌}
use Rattle.std.specs.Coded.{Coded, code_by, coded_ℕ, coded_list, coded×, coded⊎}
use Rattle.std.proofs.Common.{inl, inr}
use Rattle.fv_text.specs.Rose.{Rose, Roses, node, coded_rose}
use Rattle.fv_text.specs.Rose as r
use Rattle.fv_text.specs.declared.pos.Pos.{Pos}
use Rattle.fv_text.specs.contracts.pos.Pos as pos
use Rattle.vl_tree.specs.Expr.{Selects}
use Rattle.vl_tree.specs.ExprCode.{selects_code}
use Rattle.vl_tree.specs.Lval.{Lval, Lvals, named, joined, no_lvals, more_lvals}

abbrev Label : Type 0
Label = (Pos × (List ℕ × Selects)) ⊎ Pos

abbrev label_code : Coded Label
label_code = coded⊎ (coded× pos.the_row.coded (coded× (coded_list coded_ℕ) selects_code)) pos.the_row.coded

abbrev mutual
  to : Lval → Rose Label
  to (named p text ss) = node (inl (p, (text, ss))) r.none
  to (joined p ls) = node (inr p) (to_lvals ls)

  to_lvals : Lvals → Roses Label
  to_lvals no_lvals = r.none
  to_lvals (more_lvals l ls) = r.more (to l) (to_lvals ls)

abbrev mutual
  back : Rose Label → Lval
  back (node (inl (p, (text, ss))) ts) = named p text ss
  back (node (inr p) ts) = joined p (backs ts)

  backs : Roses Label → Lvals
  backs r.none = no_lvals
  backs (r.more t ts) = more_lvals (back t) (backs ts)

mutual
  pub back-to : (l : Lval) → back (to l) ≡ l
  back-to (named p text ss) = refl
  back-to (joined p ls) = λ i. joined p (backs-to ls i)

  pub backs-to : (ls : Lvals) → backs (to_lvals ls) ≡ ls
  backs-to no_lvals = refl
  backs-to (more_lvals l ls) = λ i. more_lvals (back-to l i) (backs-to ls i)

abbrev pub lval_code : Coded Lval
lval_code = code_by (Rose Label) (coded_rose label_code) to back back-to
