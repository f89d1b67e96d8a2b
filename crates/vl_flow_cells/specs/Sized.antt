-- Between functions: Expressions and statements in which each name is declared and has selects with a size. Rule of
-- this project.
use Rattle.std.specs.Prelude.{List, [], ◌∷◌}
use Rattle.vl_tree.specs.Expr.{
  Expr,
  Exprs,
  Selects,
  number,
  name,
  paren,
  unary,
  binary,
  conditional,
  concat,
  repeat,
  cast,
  none,
  more,
  whole,
  bit,
  part,
  indexed,
}
use Rattle.vl_tree.specs.Lval.{Lval, Lvals, named, joined, no_lvals, more_lvals}
use Rattle.vl_tree.specs.Stmt.{
  Stmt,
  Stmts,
  Arms,
  begin,
  if_only,
  if_else,
  case,
  assign,
  assume,
  empty,
  no_stmts,
  more_stmts,
  no_arms,
  labels,
  default,
}
use Rattle.vl_size.specs.declared.decl.Decl.{Decl}
use Rattle.vl_mean.specs.declared.driver.DriverKind.{DriverKind}
use Rattle.vl_mean.specs.declared.driver.DriverKind.TheVariants as k
use Rattle.vl_flow_cells.specs.Numbered.{HasSize}

module _ (ds : List Decl) where
  abbrev mutual
    pub IsSized : Expr → Type 0
    IsSized (number p x) = Unit {0}
    IsSized (name p text xs) = HasSize ds text xs × SelectsAreSized xs
    IsSized (paren p x) = IsSized x
    IsSized (unary p op x) = IsSized x
    IsSized (binary p op x y) = IsSized x × IsSized y
    IsSized (conditional p c x y) = IsSized c × (IsSized x × IsSized y)
    IsSized (concat p es) = AreSized es
    IsSized (repeat p x es) = IsSized x × AreSized es
    IsSized (cast p to x) = IsSized x

    pub AreSized : Exprs → Type 0
    AreSized none = Unit {0}
    AreSized (more e es) = IsSized e × AreSized es

    -- in the indices
    pub SelectsAreSized : Selects → Type 0
    SelectsAreSized whole = Unit {0}
    SelectsAreSized (bit p i xs) = IsSized i × SelectsAreSized xs
    SelectsAreSized (part p l r xs) = (IsSized l × IsSized r) × SelectsAreSized xs
    SelectsAreSized (indexed p s m xs) = (IsSized s × IsSized m) × SelectsAreSized xs

  abbrev mutual
    pub TargetIsSized : Lval → Type 0
    TargetIsSized (named p text xs) = HasSize ds text xs × SelectsAreSized xs
    TargetIsSized (joined p ls) = TargetsAreSized ls

    pub TargetsAreSized : Lvals → Type 0
    TargetsAreSized no_lvals = Unit {0}
    TargetsAreSized (more_lvals l ls) = TargetIsSized l × TargetsAreSized ls

  abbrev pub LabelsAreSized : List Expr → Type 0
  LabelsAreSized [] = Unit {0}
  LabelsAreSized (e ∷ es) = IsSized e × LabelsAreSized es

  abbrev mutual
    pub StmtIsSized : Stmt → Type 0
    StmtIsSized (begin attrs p label xs) = StmtsAreSized xs
    StmtIsSized (if_only attrs p e x) = IsSized e × StmtIsSized x
    StmtIsSized (if_else attrs p e x y) = IsSized e × (StmtIsSized x × StmtIsSized y)
    StmtIsSized (case attrs p kind e arms) = IsSized e × ArmsAreSized arms
    StmtIsSized (assign attrs p l kind e) = TargetIsSized l × IsSized e
    StmtIsSized (assume attrs p e) = IsSized e
    StmtIsSized (empty attrs p) = Unit {0}

    pub StmtsAreSized : Stmts → Type 0
    StmtsAreSized no_stmts = Unit {0}
    StmtsAreSized (more_stmts x xs) = StmtIsSized x × StmtsAreSized xs

    pub ArmsAreSized : Arms → Type 0
    ArmsAreSized no_arms = Unit {0}
    ArmsAreSized (labels p es x arms) = LabelsAreSized es × (StmtIsSized x × ArmsAreSized arms)
    ArmsAreSized (default p colon x arms) = StmtIsSized x × ArmsAreSized arms

  abbrev pub DriverIsSized : DriverKind → Type 0
  DriverIsSized (k.Assign l e) = TargetIsSized l × IsSized e
  DriverIsSized (k.Comb s) = StmtIsSized s
  DriverIsSized (k.Clocked s) = StmtIsSized s
