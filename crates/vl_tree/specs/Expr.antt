-- Meaning: Expressions as plain trees, each node with the place of its first token. Two are equal where their places
-- and parts are. IEEE 1364-2005, section A.8, cut to this project's subset.
use Rattle.std.specs.Prelude.{ℕ, ◌+◌, max, List, [], ◌∷◌}
use Rattle.fv_text.specs.declared.pos.Pos.{Pos}
use Rattle.fv_text.specs.declared.number.Number.{Number}
use Rattle.vl_tree.specs.declared.operator.UnaryOperator.{UnaryOperator}
use Rattle.vl_tree.specs.declared.operator.BinaryOperator.{BinaryOperator}
use Rattle.vl_tree.specs.declared.operator.Cast.{Cast}

mutual
  pub data Expr : Type 0 where
    number : Pos → Number → Expr
    name : Pos → List ℕ → Selects → Expr
    paren : Pos → Expr → Expr
    unary : Pos → UnaryOperator → Expr → Expr
    binary : Pos → BinaryOperator → Expr → Expr → Expr
    conditional : Pos → Expr → Expr → Expr → Expr
    concat : Pos → Exprs → Expr
    repeat : Pos → Expr → Exprs → Expr
    cast : Pos → Cast → Expr → Expr

  pub data Exprs : Type 0 where
    none : Exprs
    more : Expr → Exprs → Exprs

  -- the selects behind a name, each with the place of its bracket
  pub data Selects : Type 0 where
    whole : Selects
    bit : Pos → Expr → Selects → Selects
    part : Pos → Expr → Expr → Selects → Selects
    indexed : Pos → Expr → Expr → Selects → Selects

abbrev pub exprs : List Expr → Exprs
exprs [] = none
exprs (e ∷ es) = more e (exprs es)

-- how many nodes lie on the longest way down to a leaf
abbrev mutual
  pub depth : Expr → ℕ
  depth (number p n) = 0
  depth (name p text ss) = selects_depth ss + 1
  depth (paren p a) = depth a + 1
  depth (unary p op a) = depth a + 1
  depth (binary p op a b) = max (depth a) (depth b) + 1
  depth (conditional p c a b) = max (depth c) (max (depth a) (depth b)) + 1
  depth (concat p es) = exprs_depth es + 1
  depth (repeat p n es) = max (depth n) (exprs_depth es) + 1
  depth (cast p to a) = depth a + 1

  pub exprs_depth : Exprs → ℕ
  exprs_depth none = 0
  exprs_depth (more e es) = max (depth e) (exprs_depth es)

  pub selects_depth : Selects → ℕ
  selects_depth whole = 0
  selects_depth (bit p a ss) = max (depth a) (selects_depth ss)
  selects_depth (part p a b ss) = max (max (depth a) (depth b)) (selects_depth ss)
  selects_depth (indexed p a b ss) = max (max (depth a) (depth b)) (selects_depth ss)
