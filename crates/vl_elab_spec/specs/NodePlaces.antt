-- Meaning: Where the nodes and the declared names of a step stand in the text, in reading order: a node before its
-- parts, and of a loop each turn behind the one before it. There are as many as are counted. Rule of this project.
use Rattle.std.specs.Prelude.{ℕ, zero, suc, ◌-◌, List, [], ◌∷◌, ◌++◌, ◌&&◌, nat_lt, Option, Some, None}
use Rattle.std.specs.Prelude.{if◌then◌else◌}
use Rattle.fv_text.specs.declared.pos.Pos.{Pos}
use Rattle.vl_tree.specs.declared.declaration.DeclaredName.{DeclaredName}
use Rattle.vl_tree.specs.declared.declaration.Parameter.{Parameter}
use Rattle.vl_tree.specs.declared.declaration.Range.{Range}
use Rattle.vl_tree.specs.declared.item.RegionMark.{RegionMark}
use Rattle.vl_tree.specs.declared.item.RegionMark.TheVariants as mark
use Rattle.vl_tree.specs.declared.part.Assignment.{Assignment}
use Rattle.vl_tree.specs.declared.part.LoopHead.{LoopHead}
use Rattle.vl_tree.specs.Expr.{
  Expr,
  Exprs,
  Selects,
  number,
  name,
  paren,
  unary,
  binary,
  conditional,
  concat,
  repeat,
  cast,
  none,
  more,
  whole,
  bit,
  part,
  indexed,
}
use Rattle.vl_tree.specs.Item as tree
use Rattle.vl_tree.specs.Item.{
  Item,
  declaration,
  integer,
  genvar,
  parameter,
  always,
  initial,
  instance,
  generate,
  for_loop,
}
use Rattle.vl_tree.specs.Lval.{Lval, Lvals, named, joined, no_lvals, more_lvals}
use Rattle.vl_tree.specs.Stmt.{Stmt, Stmts, Arms, begin, if_only, if_else, case, assign, assume, empty, no_stmts}
use Rattle.vl_tree.specs.Stmt.{more_stmts, no_arms, labels, default}
use Rattle.vl_mean.specs.declared.const_number.Const.{Const}
use Rattle.vl_mean.specs.Declarations.{word_bounds}
use Rattle.vl_mean.specs.FlatLaw.{name_count}
use Rattle.vl_mean.specs.Scopes.{Scope}
use Rattle.vl_mean.specs.Walk.{Place, Step, header, port, item, override, connection, block_step, goes_on, next_turn}
use Rattle.vl_mean.specs.Walk.{first_turn, most_turns, turn_place}
use Rattle.vl_elab_spec.specs.Counts.{block_pos}
use Rattle.vl_elab_spec.specs.Items.{is_valued}

-- ---- expressions, targets and statements

abbrev mutual
  pub expr_places : Expr → List Pos
  expr_places (number p n) = p ∷ []
  expr_places (name p text ss) = p ∷ select_places ss
  expr_places (paren p x) = p ∷ expr_places x
  expr_places (unary p op x) = p ∷ expr_places x
  expr_places (binary p op x y) = p ∷ expr_places x ++ expr_places y
  expr_places (conditional p c x y) = p ∷ expr_places c ++ expr_places x ++ expr_places y
  expr_places (concat p es) = p ∷ all_places es
  expr_places (repeat p n es) = p ∷ expr_places n ++ all_places es
  expr_places (cast p to x) = p ∷ expr_places x

  pub all_places : Exprs → List Pos
  all_places none = []
  all_places (more e es) = expr_places e ++ all_places es

  pub select_places : Selects → List Pos
  select_places whole = []
  select_places (bit p i ss) = p ∷ expr_places i ++ select_places ss
  select_places (part p l r ss) = p ∷ expr_places l ++ expr_places r ++ select_places ss
  select_places (indexed p s n ss) = p ∷ expr_places s ++ expr_places n ++ select_places ss

abbrev mutual
  pub target_places : Lval → List Pos
  target_places (named p text ss) = p ∷ select_places ss
  target_places (joined p ls) = p ∷ all_target_places ls

  pub all_target_places : Lvals → List Pos
  all_target_places no_lvals = []
  all_target_places (more_lvals l ls) = target_places l ++ all_target_places ls

abbrev pub label_places : List Expr → List Pos
label_places [] = []
label_places (e ∷ es) = expr_places e ++ label_places es

abbrev mutual
  pub stmt_places : Stmt → List Pos
  stmt_places (begin attrs p label xs) = p ∷ all_stmt_places xs
  stmt_places (if_only attrs p e x) = p ∷ expr_places e ++ stmt_places x
  stmt_places (if_else attrs p e x y) = p ∷ expr_places e ++ stmt_places x ++ stmt_places y
  stmt_places (case attrs p kind e arms) = p ∷ expr_places e ++ arm_places arms
  stmt_places (assign attrs p l kind e) = p ∷ target_places l ++ expr_places e
  stmt_places (assume attrs p e) = p ∷ expr_places e
  stmt_places (empty attrs p) = p ∷ []

  pub all_stmt_places : Stmts → List Pos
  all_stmt_places no_stmts = []
  all_stmt_places (more_stmts x xs) = stmt_places x ++ all_stmt_places xs

  pub arm_places : Arms → List Pos
  arm_places no_arms = []
  arm_places (labels p es x arms) = label_places es ++ stmt_places x ++ arm_places arms
  arm_places (default p colon x arms) = stmt_places x ++ arm_places arms

-- ---- declarations

abbrev pub value_places : Option Expr → List Pos
value_places None = []
value_places (Some e) = expr_places e

abbrev pub range_places : Option Range → List Pos
range_places None = []
range_places (Some r) = expr_places r.left ++ expr_places r.right

abbrev pub declared_places : List DeclaredName → List Pos
declared_places [] = []
declared_places (x ∷ xs) = x.pos ∷ range_places x.words ++ value_places x.value ++ declared_places xs

abbrev pub parameter_places : List Parameter → List Pos
parameter_places [] = []
parameter_places (x ∷ xs) = x.pos ∷ range_places x.shape.range ++ expr_places x.value ++ parameter_places xs

abbrev pub assignment_places : List Assignment → List Pos
assignment_places [] = []
assignment_places (x ∷ xs) = target_places x.target ++ expr_places x.value ++ assignment_places xs

-- ---- generate constructs

-- a turn: its condition, and what leads to the next one; that behind the last one ends with its condition
abbrev pub turn_places : ℕ → LoopHead → Place → Const → List Pos
turn_places zero head at c = expr_places head.condition
turn_places (suc n) head at c =
    let more = turn_places n head at (next_turn head at.scopes c) in
    expr_places head.condition ++ (if goes_on head at.scopes c then expr_places head.next ++ more else [])

-- the first turn alone
abbrev pub one_turn_places : LoopHead → Place → Const → List Pos
one_turn_places head at c =
    expr_places head.condition ++ (if goes_on head at.scopes c then expr_places head.next else [])

-- of the turns that begin, as the walk goes through them
abbrev pub loop_places : LoopHead → Place → List Pos
loop_places head at =
    let first = first_turn head at.scopes in
    let inside = turn_place at head.variable first in
    let turns =
    if is_valued inside head.next then turn_places most_turns head at first
    else one_turn_places head at first
    in if is_valued at head.start && is_valued inside head.condition then turns else expr_places head.condition

-- ---- steps

abbrev pub mark_places : RegionMark → Pos → List Pos
mark_places mark.Open p = p ∷ []
mark_places mark.Close p = []

-- an item without what its turns add
abbrev pub own_places : Item → List Pos
own_places (declaration attrs p d) = p ∷ range_places d.shape.range ++ declared_places d.names
own_places (integer attrs p xs) = p ∷ declared_places xs
own_places (genvar attrs p xs) = p ∷ []
own_places (parameter attrs p kind xs) = p ∷ parameter_places xs
own_places (tree.assign attrs p xs) = p ∷ assignment_places xs
own_places (always attrs p event s) = p ∷ stmt_places s
own_places (initial attrs p s) = p ∷ stmt_places s
own_places (instance attrs p x) = p ∷ []
own_places (generate attrs p m) = mark_places m p
own_places (for_loop attrs p head b) = p ∷ expr_places head.start
own_places (tree.if_only attrs p c b) = p ∷ expr_places c
own_places (tree.if_else attrs p c b d) = p ∷ expr_places c

-- of a loop its turns
abbrev pub inner_places : Place → Item → List Pos
inner_places at (for_loop attrs p head b) = loop_places head at
inner_places at x = []

abbrev pub node_places : Step → List Pos
node_places (header at x) = parameter_places (x ∷ [])
node_places (port at u p q) = p.pos ∷ range_places q.shape.range ++ value_places q.value
node_places (item at x) = own_places x ++ inner_places at x
node_places (override at m u given x) = x.pos ∷ value_places x.value
node_places (connection at m u inside given x) = x.pos ∷ value_places x.value
node_places (block_step at b) = block_pos b ∷ []

-- ---- declared names: the words of a memory stand at its name

-- that behind so many others
abbrev pub words_place : List Scope → ℕ → List DeclaredName → Option Pos
words_place ss n [] = None
words_place ss n (x ∷ xs) =
    let words = name_count (word_bounds ss x.words) in
    if nat_lt n words then Some x.pos else words_place ss (n - words) xs

abbrev pub name_place : ℕ → Step → Option Pos
name_place n (port at u p q) = if nat_lt n 1 then Some p.pos else None
name_place n (item at (declaration attrs p d)) = words_place at.around n d.names
name_place n (item at (integer attrs p xs)) = words_place at.around n xs
name_place n x = None
