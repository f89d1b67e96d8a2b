-- Meaning: Targets as plain trees, each node with the place of its first token. IEEE 1364-2005, section A.8.5.
use Rattle.std.specs.Prelude.{ℕ, ◌+◌, max, List, [], ◌∷◌}
use Rattle.fv_text.specs.declared.pos.Pos.{Pos}
use Rattle.vl_tree.specs.Expr.{Selects}

mutual
  pub data Lval : Type 0 where
    named : Pos → List ℕ → Selects → Lval
    joined : Pos → Lvals → Lval

  pub data Lvals : Type 0 where
    no_lvals : Lvals
    more_lvals : Lval → Lvals → Lvals

abbrev pub lvals : List Lval → Lvals
lvals [] = no_lvals
lvals (l ∷ ls) = more_lvals l (lvals ls)

abbrev mutual
  pub depth : Lval → ℕ
  depth (named p text ss) = 0
  depth (joined p ls) = lvals_depth ls + 1

  pub lvals_depth : Lvals → ℕ
  lvals_depth no_lvals = 0
  lvals_depth (more_lvals l ls) = max (depth l) (lvals_depth ls)
