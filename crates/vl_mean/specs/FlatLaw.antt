-- Meaning: What a design without hierarchy keeps: nothing in it is refused, so each name, select and target in it has
-- a meaning. What may be assigned where is IEEE 1364-2005, sections 6.1, 6.2 and 9.2, and which parts are constant
-- sections 4.2.1 and 5.2; the limits, the clock that is no number, and what a memory may be are rules of this project.
use Rattle.std.specs.Prelude.{
  ◌≡◌,
  ℕ,
  ◌+◌,
  ◌≤◌,
  List,
  [],
  ◌∷◌,
  ◌++◌,
  All,
  IsSome,
  Bool,
  true,
  false,
  ◌&&◌,
  ◌||◌,
  not,
}
use Rattle.std.specs.Prelude.{nat_lt, ◌==◌, max, is_none, Option, Some, None, ℤ}
use Rattle.vl_tree.specs.Expr.{
  Expr,
  Exprs,
  Selects,
  number,
  name,
  paren,
  unary,
  binary,
  conditional,
  concat,
  repeat,
  cast,
  none,
  more,
  whole,
  bit,
  part,
  indexed,
}
use Rattle.vl_tree.specs.Lval.{Lval, Lvals, named, joined, no_lvals, more_lvals}
use Rattle.vl_tree.specs.Stmt.{
  Stmt,
  Stmts,
  Arms,
  begin,
  if_only,
  if_else,
  case,
  assign,
  assume,
  empty,
  no_stmts,
  more_stmts,
  no_arms,
  labels,
  default,
}
use Rattle.vl_tree.specs.StmtWellFormed.{default_count}
use Rattle.vl_size.specs.declared.decl.Class.{Class}
use Rattle.vl_size.specs.declared.decl.Class.TheVariants as class
use Rattle.vl_size.specs.declared.decl.Decl.{Decl}
use Rattle.vl_size.specs.declared.context.Context.{Context}
use Rattle.vl_size.specs.Divisors.{own_context, zero_divisor}
use Rattle.vl_size.specs.Sign.{sign}
use Rattle.vl_size.specs.Size.{size, or_none, is_bound}
use Rattle.vl_size.specs.Table.{declared_as, span}
use Rattle.vl_mean.specs.declared.driver.Driver.{Driver}
use Rattle.vl_mean.specs.declared.driver.DriverKind.{DriverKind}
use Rattle.vl_mean.specs.declared.driver.DriverKind.TheVariants as k
use Rattle.vl_mean.specs.declared.driver.Start.{Start}
use Rattle.vl_mean.specs.Execution.{arms_size, arms_sign}
use Rattle.vl_mean.specs.Scopes.{Scope, is_clock_decl}
use Rattle.vl_mean.specs.Targets.{is_decl, are_fixed}

-- the one scope of such a design, in which each name is a full name
abbrev pub flat_scopes : List Decl → List Scope
flat_scopes ds = record { path = []; decls = ds; constants = [] } ∷ []

-- ---- what is declared

abbrev is_net_class : Class → Bool
is_net_class class.Net = true
is_net_class c = false

abbrev is_variable_class : Class → Bool
is_variable_class class.Variable = true
is_variable_class c = false

abbrev pub is_net : Decl → Bool
is_net d = is_net_class d.class

abbrev pub is_variable : Decl → Bool
is_variable d = is_variable_class d.class

-- no blank and no control byte
abbrev pub is_graphic : ℕ → Bool
is_graphic c = nat_lt 32 c && not (c == 127)

-- each word of a memory is a variable
abbrev pub IsMemory : Option (ℤ × ℤ) → Decl → Type 0
IsMemory None d = Unit {0}
IsMemory (Some bounds) d =
    (is_bound bounds.0 ≡ true) × (is_bound bounds.1 ≡ true) × (is_variable d ≡ true) × (d.output ≡ false)

pub record IsKept (d : Decl) : Type 0 where
  pub graphic : All (λ c. is_graphic c ≡ true) d.name
  pub left : is_bound d.left ≡ true
  pub right : is_bound d.right ≡ true
  pub memory : IsMemory d.words d

-- a memory's words count beside its name
abbrev pub name_count : Option (ℤ × ℤ) → ℕ
name_count None = 1
name_count (Some bounds) = span bounds.0 bounds.1 + 1

abbrev pub all_names_count : List Decl → ℕ
all_names_count [] = 0
all_names_count (d ∷ ds) = name_count d.words + all_names_count ds

-- ---- names that stand in an expression

abbrev mutual
  pub names_in : Expr → List (List ℕ)
  names_in (number p n) = []
  names_in (name p text ss) = text ∷ names_in_selects ss
  names_in (paren p x) = names_in x
  names_in (unary p op x) = names_in x
  names_in (binary p op x y) = names_in x ++ names_in y
  names_in (conditional p c x y) = names_in c ++ names_in x ++ names_in y
  names_in (concat p es) = names_in_all es
  names_in (repeat p n es) = names_in n ++ names_in_all es
  names_in (cast p to x) = names_in x

  pub names_in_all : Exprs → List (List ℕ)
  names_in_all none = []
  names_in_all (more e es) = names_in e ++ names_in_all es

  pub names_in_selects : Selects → List (List ℕ)
  names_in_selects whole = []
  names_in_selects (bit p i ss) = names_in i ++ names_in_selects ss
  names_in_selects (part p l r ss) = names_in l ++ names_in r ++ names_in_selects ss
  names_in_selects (indexed p s n ss) = names_in s ++ names_in n ++ names_in_selects ss

-- ---- nodes: expressions, targets, selects and statements

abbrev mutual
  pub nodes : Expr → ℕ
  nodes (number p n) = 1
  nodes (name p text ss) = select_nodes ss + 1
  nodes (paren p x) = nodes x + 1
  nodes (unary p op x) = nodes x + 1
  nodes (binary p op x y) = nodes x + nodes y + 1
  nodes (conditional p c x y) = nodes c + nodes x + nodes y + 1
  nodes (concat p es) = all_nodes es + 1
  nodes (repeat p n es) = nodes n + all_nodes es + 1
  nodes (cast p to x) = nodes x + 1

  pub all_nodes : Exprs → ℕ
  all_nodes none = 0
  all_nodes (more e es) = nodes e + all_nodes es

  pub select_nodes : Selects → ℕ
  select_nodes whole = 0
  select_nodes (bit p i ss) = nodes i + select_nodes ss + 1
  select_nodes (part p l r ss) = nodes l + nodes r + select_nodes ss + 1
  select_nodes (indexed p s n ss) = nodes s + nodes n + select_nodes ss + 1

abbrev mutual
  pub target_nodes : Lval → ℕ
  target_nodes (named p text ss) = select_nodes ss + 1
  target_nodes (joined p ls) = all_target_nodes ls + 1

  pub all_target_nodes : Lvals → ℕ
  all_target_nodes no_lvals = 0
  all_target_nodes (more_lvals l ls) = target_nodes l + all_target_nodes ls

abbrev pub label_nodes : List Expr → ℕ
label_nodes [] = 0
label_nodes (e ∷ es) = nodes e + label_nodes es

abbrev mutual
  pub stmt_nodes : Stmt → ℕ
  stmt_nodes (begin attrs p label xs) = all_stmt_nodes xs + 1
  stmt_nodes (if_only attrs p e x) = nodes e + stmt_nodes x + 1
  stmt_nodes (if_else attrs p e x y) = nodes e + stmt_nodes x + stmt_nodes y + 1
  stmt_nodes (case attrs p kind e arms) = nodes e + arm_nodes arms + 1
  stmt_nodes (assign attrs p l kind e) = target_nodes l + nodes e + 1
  stmt_nodes (assume attrs p e) = nodes e + 1
  stmt_nodes (empty attrs p) = 1

  pub all_stmt_nodes : Stmts → ℕ
  all_stmt_nodes no_stmts = 0
  all_stmt_nodes (more_stmts x xs) = stmt_nodes x + all_stmt_nodes xs

  pub arm_nodes : Arms → ℕ
  arm_nodes no_arms = 0
  arm_nodes (labels p es x arms) = label_nodes es + stmt_nodes x + arm_nodes arms
  arm_nodes (default p colon x arms) = stmt_nodes x + arm_nodes arms

abbrev pub driver_nodes : DriverKind → ℕ
driver_nodes (k.Assign l e) = target_nodes l + nodes e
driver_nodes (k.Comb s) = stmt_nodes s
driver_nodes (k.Clocked s) = stmt_nodes s

abbrev pub node_count : List Driver → List Start → ℕ
node_count [] [] = 0
node_count [] (x ∷ xs) = target_nodes x.target + node_count [] xs
node_count (d ∷ ds) xs = driver_nodes d.what + node_count ds xs

-- ---- what is read and assigned

-- an expression with a size, in which no divisor is 0 in its context, and the clock doesn't stand
pub record IsReadIn (ds : List Decl) (c : Context) (e : Expr) : Type 0 where
  pub sized : IsSome (size ds e)
  pub divided : is_none (zero_divisor ds c e) ≡ true
  pub clockless : All (λ text. is_clock_decl (declared_as ds text) ≡ false) (names_in e)

-- one that has its own size and sign
abbrev pub IsRead : List Decl → Expr → Type 0
IsRead ds e = IsReadIn ds (own_context ds e) e

module _ (ds : List Decl) where
  -- each name is one that may be assigned there, and has constant indices where they have to be
  abbrev mutual
    pub IsTarget : (Decl → Bool) → Bool → Lval → Type 0
    IsTarget may fixed (named p text ss) =
        IsRead ds (name p text ss) × (is_decl (declared_as ds text) may ≡ true)
        × ((not fixed || are_fixed (flat_scopes ds) ss) ≡ true)
    IsTarget may fixed (joined p ls) = AreTargets may fixed ls

    pub AreTargets : (Decl → Bool) → Bool → Lvals → Type 0
    AreTargets may fixed no_lvals = Unit {0}
    AreTargets may fixed (more_lvals l ls) = IsTarget may fixed l × AreTargets may fixed ls

  abbrev mutual
    pub target_size : Lval → ℕ
    target_size (named p text ss) = or_none (size ds (name p text ss))
    target_size (joined p ls) = all_target_sizes ls

    pub all_target_sizes : Lvals → ℕ
    all_target_sizes no_lvals = 0
    all_target_sizes (more_lvals l ls) = target_size l + all_target_sizes ls

  abbrev pub IsAssigned : (Decl → Bool) → Bool → Lval → Type 0
  IsAssigned may fixed l = IsTarget may fixed l × (target_size l ≤ 128)

  -- the right side of an assignment has the larger of both sizes, and its own sign: section 5.4
  abbrev pub assigned_context : Lval → Expr → Context
  assigned_context l e = record { size = Some (max (target_size l) (or_none (size ds e))); signed = sign ds e }

  -- the expression and the labels of a case have the largest size, and are signed where all are: section 9.5
  abbrev pub case_context : Expr → Arms → Context
  case_context e arms =
      let ss = flat_scopes ds in record {
        size = Some (max (or_none (size ds e)) (arms_size ss arms));
        signed = sign ds e && arms_sign ss arms;
      }

  abbrev mutual
    pub IsBlock : Stmt → Type 0
    IsBlock (begin attrs p label xs) = AreBlocks xs
    IsBlock (if_only attrs p e x) = IsRead ds e × IsBlock x
    IsBlock (if_else attrs p e x y) = IsRead ds e × (IsBlock x × IsBlock y)
    IsBlock (case attrs p kind e arms) =
        IsReadIn ds (case_context e arms) e × ((default_count arms ≤ 1) × AreArms (case_context e arms) arms)
    IsBlock (assign attrs p l kind e) = IsAssigned is_variable false l × IsReadIn ds (assigned_context l e) e
    IsBlock (assume attrs p e) = IsRead ds e
    IsBlock (empty attrs p) = Unit {0}

    pub AreBlocks : Stmts → Type 0
    AreBlocks no_stmts = Unit {0}
    AreBlocks (more_stmts x xs) = IsBlock x × AreBlocks xs

    pub AreArms : Context → Arms → Type 0
    AreArms c no_arms = Unit {0}
    AreArms c (labels p es x arms) = All (IsReadIn ds c) es × (IsBlock x × AreArms c arms)
    AreArms c (default p colon x arms) = IsBlock x × AreArms c arms

  abbrev pub IsDriver : DriverKind → Type 0
  IsDriver (k.Assign l e) = IsAssigned is_net true l × IsReadIn ds (assigned_context l e) e
  IsDriver (k.Comb s) = IsBlock s
  IsDriver (k.Clocked s) = IsBlock s

-- ---- the whole

pub record IsLawful (ds : List Decl) (drivers : List Driver) (starts : List Start) : Type 0 where
  pub kept : All IsKept ds
  pub driven : All (λ x. IsDriver ds x.what) drivers
  pub started : All (λ x. IsAssigned ds is_variable true x.target) starts
  pub few_names : all_names_count ds ≤ 200000
  pub few_nodes : node_count drivers starts ≤ 4000000
