-- Meaning: The weight of a design without hierarchy: about how many gates it takes. Rule of this project.
use Rattle.std.specs.Prelude.{ℕ, ◌+◌, ◌*◌, max, List, [], ◌∷◌, ◌++◌, ◌&&◌}
use Rattle.std.specs.Prelude.{is_none, Option, Some, None, ℤ, if◌then◌else◌}
use Rattle.vl_tree.specs.declared.operator.UnaryOperator.{UnaryOperator}
use Rattle.vl_tree.specs.declared.operator.UnaryOperator.TheVariants as u
use Rattle.vl_tree.specs.declared.operator.BinaryOperator.{BinaryOperator}
use Rattle.vl_tree.specs.declared.operator.BinaryOperator.TheVariants as b
use Rattle.vl_tree.specs.Expr.{
  Expr,
  Exprs,
  Selects,
  number,
  name,
  paren,
  unary,
  binary,
  conditional,
  concat,
  repeat,
  cast,
  none,
  more,
  whole,
  bit,
  part,
  indexed,
}
use Rattle.vl_tree.specs.Lval.{Lval, Lvals, named, joined, no_lvals, more_lvals}
use Rattle.vl_tree.specs.Stmt.{
  Stmt,
  Stmts,
  Arms,
  begin,
  if_only,
  if_else,
  case,
  assign,
  assume,
  empty,
  no_stmts,
  more_stmts,
  no_arms,
  labels,
  default,
}
use Rattle.vl_size.specs.declared.decl.Decl.{Decl}
use Rattle.vl_size.specs.declared.way.Way.{Way}
use Rattle.vl_size.specs.declared.way.Way.TheVariants as w
use Rattle.vl_size.specs.Divisors.{is_logical}
use Rattle.vl_size.specs.Size.{is_constant, or_none, size}
use Rattle.vl_size.specs.Table.{declared_as, span}
use Rattle.vl_size.specs.Way.{way, keeps_size}
use Rattle.vl_mean.specs.declared.driver.Driver.{Driver}
use Rattle.vl_mean.specs.declared.driver.DriverKind.{DriverKind}
use Rattle.vl_mean.specs.declared.driver.DriverKind.TheVariants as k
use Rattle.vl_mean.specs.Cells.{contains_name}
use Rattle.vl_mean.specs.Execution.{arms_size}
use Rattle.vl_mean.specs.FlatLaw.{flat_scopes, target_size}
use Rattle.vl_mean.specs.Targets.{are_fixed}
use Rattle.vl_flow_spec.specs.Assigned.{assigned_names, arms_assigned_names}
use Rattle.vl_flow_spec.specs.Paths.{any_kind}

-- an operation on n bits: shifts, sums and orders count eightfold, a product as the square of that
abbrev pub operation_weight : BinaryOperator → ℕ → ℕ
operation_weight b.Multiply n = 8 * n * n
operation_weight b.Add n = 8 * n
operation_weight b.Subtract n = 8 * n
operation_weight b.Less n = 8 * n
operation_weight b.LessEqual n = 8 * n
operation_weight b.Greater n = 8 * n
operation_weight b.GreaterEqual n = 8 * n
operation_weight b.ShiftLeft n = 8 * n
operation_weight b.ShiftRight n = 8 * n
operation_weight b.ArithmeticShiftLeft n = 8 * n
operation_weight b.ArithmeticShiftRight n = 8 * n
operation_weight op n = n

abbrev pub unary_weight : UnaryOperator → ℕ → ℕ
unary_weight u.Plus n = 8 * n
unary_weight u.Minus n = 8 * n
unary_weight op n = n

-- a memory counts with all its words
abbrev pub word_count : Option (ℤ × ℤ) → ℕ
word_count None = 1
word_count (Some bounds) = span bounds.0 bounds.1

-- the selects behind the one that takes a memory's word
abbrev pub behind_word : Selects → Selects
behind_word whole = whole
behind_word (bit p i xs) = xs
behind_word (part p l r xs) = xs
behind_word (indexed p s m xs) = xs

-- ---- names

-- the widths of the vectors among the names, each once
abbrev pub widths_of : List Decl → List (List ℕ) → ℕ
widths_of [] names = 0
widths_of (d ∷ es) names =
    (if is_none d.words && contains_name names d.name then d.width else 0) + widths_of es names

module _ (ds : List Decl) where
  -- ---- reads and writes of names

  -- of a vector of w bits: its constant selects are free, and one with an index that varies takes the width
  abbrev pub select_weight : ℕ → Selects → ℕ
  select_weight w xs = if are_fixed (flat_scopes ds) xs then 0 else w

  -- a memory takes all its words, whichever index it has, and selects of its word are those of a vector
  abbrev pub access_weight : Option Decl → Selects → ℕ
  access_weight None xs = 0
  access_weight (Some d) xs =
      if is_none d.words then select_weight d.width xs
      else word_count d.words * d.width + select_weight d.width (behind_word xs)

  -- ---- expressions

  abbrev pub own_size : Expr → ℕ
  own_size e = or_none (size ds e)

  -- the bits of an operation: those of its operands where it has one bit, and else those of its context
  abbrev pub operation_size : Way → ℕ → Expr → Expr → ℕ
  operation_size w.Larger n x y = n
  operation_size w.Left n x y = n
  operation_size w.One n x y = max (own_size x) (own_size y)

  -- the size of the left and of the right operand
  abbrev pub left_size : Way → BinaryOperator → ℕ → Expr → Expr → ℕ
  left_size w.Larger op n x y = n
  left_size w.Left op n x y = n
  left_size w.One op n x y = if is_logical op then own_size x else max (own_size x) (own_size y)

  abbrev pub right_size : Way → BinaryOperator → ℕ → Expr → Expr → ℕ
  right_size w.Larger op n x y = n
  right_size w.Left op n x y = own_size y
  right_size w.One op n x y = if is_logical op then own_size y else max (own_size x) (own_size y)

  -- an expression that has n bits from its context; one without names is free
  abbrev mutual
    pub weight : ℕ → Expr → ℕ
    weight n (number p x) = 0
    weight n (name p text xs) =
        access_weight (declared_as ds text) xs + selects_weight xs
    weight n (paren p x) = weight n x
    weight n (unary p op x) =
        let m = if keeps_size op then n else own_size x in
        if is_constant x then 0 else unary_weight op m + weight m x
    weight n (binary p op x y) =
        let here = operation_weight op (operation_size (way op) n x y) in
        let inner = weight (left_size (way op) op n x y) x + weight (right_size (way op) op n x y) y in
        if is_constant x && is_constant y then 0 else here + inner
    weight n (conditional p c x y) =
        let inner = weight (own_size c) c + weight n x + weight n y in
        if is_constant c && (is_constant x && is_constant y) then 0 else n + inner
    weight n (concat p es) = parts_weight es
    weight n (repeat p m es) = parts_weight es
    weight n (cast p to x) = weight (own_size x) x

    pub parts_weight : Exprs → ℕ
    parts_weight none = 0
    parts_weight (more e es) = weight (own_size e) e + parts_weight es

    pub selects_weight : Selects → ℕ
    selects_weight whole = 0
    selects_weight (bit p i xs) = weight (own_size i) i + selects_weight xs
    selects_weight (part p l r xs) = selects_weight xs
    selects_weight (indexed p s m xs) = weight (own_size s) s + selects_weight xs

  abbrev mutual
    pub target_weight : Lval → ℕ
    target_weight (named p text xs) =
        access_weight (declared_as ds text) xs + selects_weight xs
    target_weight (joined p ls) = targets_weight ls

    pub targets_weight : Lvals → ℕ
    targets_weight no_lvals = 0
    targets_weight (more_lvals l ls) = target_weight l + targets_weight ls

  -- an assignment is evaluated at the larger of both sizes
  abbrev pub assigned_weight : Lval → Expr → ℕ
  assigned_weight l e = target_weight l + weight (max (target_size ds l) (own_size e)) e

  -- ---- statements

  abbrev pub merge_weight : List (List ℕ) → ℕ
  merge_weight names = widths_of ds names

  abbrev pub labels_weight : ℕ → List Expr → ℕ
  labels_weight n [] = 0
  labels_weight n (e ∷ es) = n + weight n e + labels_weight n es

  -- an `if` and a `case` merge what is assigned in them; a case compares each label
  abbrev mutual
    pub stmt_weight : Stmt → ℕ
    stmt_weight (begin attrs p label xs) = stmts_weight xs
    stmt_weight (if_only attrs p e x) = merge_weight (assigned_names any_kind x) + weight (own_size e) e + stmt_weight x
    stmt_weight (if_else attrs p e x y) =
        merge_weight (assigned_names any_kind x ++ assigned_names any_kind y) + weight (own_size e) e
        + stmt_weight x + stmt_weight y
    stmt_weight (case attrs p kind e arms) =
        let n = max (own_size e) (arms_size (flat_scopes ds) arms) in
        merge_weight (arms_assigned_names any_kind arms) + weight n e + arms_weight n arms
    stmt_weight (assign attrs p l kind e) = assigned_weight l e
    stmt_weight (assume attrs p e) = weight (own_size e) e
    stmt_weight (empty attrs p) = 0

    pub stmts_weight : Stmts → ℕ
    stmts_weight no_stmts = 0
    stmts_weight (more_stmts x xs) = stmt_weight x + stmts_weight xs

    pub arms_weight : ℕ → Arms → ℕ
    arms_weight n no_arms = 0
    arms_weight n (labels p es x arms) = labels_weight n es + stmt_weight x + arms_weight n arms
    arms_weight n (default p colon x arms) = stmt_weight x + arms_weight n arms

  abbrev pub driver_weight : DriverKind → ℕ
  driver_weight (k.Assign l e) = assigned_weight l e
  driver_weight (k.Comb s) = stmt_weight s
  driver_weight (k.Clocked s) = stmt_weight s

  -- the sum over all drivers
  abbrev pub design_weight : List Driver → ℕ
  design_weight [] = 0
  design_weight (x ∷ xs) = driver_weight x.what + design_weight xs
