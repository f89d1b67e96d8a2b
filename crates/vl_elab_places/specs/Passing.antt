-- Between functions: How far it is to the node, or the name, that is one too many, behind each part of a text in
-- reading order. Rule of this project.
use Rattle.std.specs.Prelude.{ℕ, zero, suc, ◌-◌, List, [], ◌∷◌, Bool, is_some, nat_lt, Option, Some, None}
use Rattle.std.specs.Prelude.{if◌then◌else◌}
use Rattle.fv_text.specs.declared.pos.Pos.{Pos}
use Rattle.vl_tree.specs.declared.declaration.DeclaredName.{DeclaredName}
use Rattle.vl_tree.specs.declared.declaration.Parameter.{Parameter}
use Rattle.vl_tree.specs.declared.declaration.Range.{Range}
use Rattle.vl_tree.specs.declared.item.RegionMark.{RegionMark}
use Rattle.vl_tree.specs.declared.item.RegionMark.TheVariants as mark
use Rattle.vl_tree.specs.declared.part.Assignment.{Assignment}
use Rattle.vl_tree.specs.declared.part.LoopHead.{LoopHead}
use Rattle.vl_tree.specs.Expr.{
  Expr,
  Exprs,
  Selects,
  number,
  name,
  paren,
  unary,
  binary,
  conditional,
  concat,
  repeat,
  cast,
  none,
  more,
  whole,
  bit,
  part,
  indexed,
}
use Rattle.vl_tree.specs.Item as tree
use Rattle.vl_tree.specs.Item.{
  Item,
  declaration,
  integer,
  genvar,
  parameter,
  always,
  initial,
  instance,
  generate,
  for_loop,
}
use Rattle.vl_tree.specs.Lval.{Lval, Lvals, named, joined, no_lvals, more_lvals}
use Rattle.vl_tree.specs.Stmt.{Stmt, Stmts, Arms, begin, if_only, if_else, case, assign, assume, empty, no_stmts}
use Rattle.vl_tree.specs.Stmt.{more_stmts, no_arms, labels, default}
use Rattle.vl_mean.specs.declared.const_number.Const.{Const}
use Rattle.vl_mean.specs.ConstantFaults.{capped}
use Rattle.vl_mean.specs.Walk.{most_turns}
use Rattle.vl_elab_spec.specs.Meanings.{Names}
use Rattle.vl_elab_const.specs.Numbers.{holds, genvar_number}
use Rattle.vl_elab_check_item.specs.declared.reach.HeadValues.{HeadValues}
use Rattle.vl_elab_check_item.specs.TurnParts.{in_turn}
use Rattle.vl_elab_count.specs.Counts.{name_count}
use Rattle.vl_elab_places.specs.declared.cursor.Cursor.{Cursor}

-- behind so many at one place, where so many are left and none is found
abbrev pub counted_down : ℕ → Pos → ℕ → Cursor
counted_down n p left =
    if nat_lt left n then record { left = 0; found = Some p } else record { left = left - n; found = None }

-- behind so many at one place
abbrev pub moved : ℕ → Pos → Cursor → Cursor
moved n p c = let behind = counted_down n p c.left in if is_some c.found then c else behind

-- behind a list of places
abbrev pub passed : List Pos → Cursor → Cursor
passed [] c = c
passed (p ∷ ps) c = passed ps (moved 1 p c)

-- ---- expressions, targets and statements

abbrev mutual
  pub expr_passed : Expr → Cursor → Cursor
  expr_passed (number p n) c = moved 1 p c
  expr_passed (name p text ss) c = selects_passed ss (moved 1 p c)
  expr_passed (paren p x) c = expr_passed x (moved 1 p c)
  expr_passed (unary p op x) c = expr_passed x (moved 1 p c)
  expr_passed (binary p op x y) c = expr_passed y (expr_passed x (moved 1 p c))
  expr_passed (conditional p e x y) c = expr_passed y (expr_passed x (expr_passed e (moved 1 p c)))
  expr_passed (concat p es) c = exprs_passed es (moved 1 p c)
  expr_passed (repeat p n es) c = exprs_passed es (expr_passed n (moved 1 p c))
  expr_passed (cast p to x) c = expr_passed x (moved 1 p c)

  pub exprs_passed : Exprs → Cursor → Cursor
  exprs_passed none c = c
  exprs_passed (more e es) c = exprs_passed es (expr_passed e c)

  pub selects_passed : Selects → Cursor → Cursor
  selects_passed whole c = c
  selects_passed (bit p i ss) c = selects_passed ss (expr_passed i (moved 1 p c))
  selects_passed (part p l r ss) c = selects_passed ss (expr_passed r (expr_passed l (moved 1 p c)))
  selects_passed (indexed p s n ss) c = selects_passed ss (expr_passed n (expr_passed s (moved 1 p c)))

abbrev mutual
  pub target_passed : Lval → Cursor → Cursor
  target_passed (named p text ss) c = selects_passed ss (moved 1 p c)
  target_passed (joined p ls) c = targets_passed ls (moved 1 p c)

  pub targets_passed : Lvals → Cursor → Cursor
  targets_passed no_lvals c = c
  targets_passed (more_lvals l ls) c = targets_passed ls (target_passed l c)

abbrev pub labels_passed : List Expr → Cursor → Cursor
labels_passed [] c = c
labels_passed (e ∷ es) c = labels_passed es (expr_passed e c)

abbrev mutual
  pub stmt_passed : Stmt → Cursor → Cursor
  stmt_passed (begin attrs p label xs) c = stmts_passed xs (moved 1 p c)
  stmt_passed (if_only attrs p e x) c = stmt_passed x (expr_passed e (moved 1 p c))
  stmt_passed (if_else attrs p e x y) c = stmt_passed y (stmt_passed x (expr_passed e (moved 1 p c)))
  stmt_passed (case attrs p kind e arms) c = arms_passed arms (expr_passed e (moved 1 p c))
  stmt_passed (assign attrs p l kind e) c = expr_passed e (target_passed l (moved 1 p c))
  stmt_passed (assume attrs p e) c = expr_passed e (moved 1 p c)
  stmt_passed (empty attrs p) c = moved 1 p c

  pub stmts_passed : Stmts → Cursor → Cursor
  stmts_passed no_stmts c = c
  stmts_passed (more_stmts x xs) c = stmts_passed xs (stmt_passed x c)

  pub arms_passed : Arms → Cursor → Cursor
  arms_passed no_arms c = c
  arms_passed (labels p es x arms) c = arms_passed arms (stmt_passed x (labels_passed es c))
  arms_passed (default p colon x arms) c = arms_passed arms (stmt_passed x c)

-- ---- declarations and assignments

abbrev pub value_passed : Option Expr → Cursor → Cursor
value_passed None c = c
value_passed (Some e) c = expr_passed e c

abbrev pub range_passed : Option Range → Cursor → Cursor
range_passed None c = c
range_passed (Some r) c = expr_passed r.right (expr_passed r.left c)

abbrev pub declared_passed : List DeclaredName → Cursor → Cursor
declared_passed [] c = c
declared_passed (x ∷ xs) c = declared_passed xs (value_passed x.value (range_passed x.words (moved 1 x.pos c)))

abbrev pub parameters_passed : List Parameter → Cursor → Cursor
parameters_passed [] c = c
parameters_passed (x ∷ xs) c =
    parameters_passed xs (expr_passed x.value (range_passed x.shape.range (moved 1 x.pos c)))

abbrev pub assignments_passed : List Assignment → Cursor → Cursor
assignments_passed [] c = c
assignments_passed (x ∷ xs) c = assignments_passed xs (expr_passed x.value (target_passed x.target c))

-- ---- items

-- of a generate region only its beginning
abbrev pub mark_passed : RegionMark → Pos → Cursor → Cursor
mark_passed mark.Open p c = moved 1 p c
mark_passed mark.Close p c = c

-- without what its turns add
abbrev pub own_passed : Item → Cursor → Cursor
own_passed (declaration attrs p d) c = declared_passed d.names (range_passed d.shape.range (moved 1 p c))
own_passed (integer attrs p xs) c = declared_passed xs (moved 1 p c)
own_passed (genvar attrs p xs) c = moved 1 p c
own_passed (parameter attrs p kind xs) c = parameters_passed xs (moved 1 p c)
own_passed (tree.assign attrs p xs) c = assignments_passed xs (moved 1 p c)
own_passed (always attrs p event s) c = stmt_passed s (moved 1 p c)
own_passed (initial attrs p s) c = stmt_passed s (moved 1 p c)
own_passed (instance attrs p x) c = moved 1 p c
own_passed (generate attrs p m) c = mark_passed m p c
own_passed (for_loop attrs p head b) c = expr_passed head.start (moved 1 p c)
own_passed (tree.if_only attrs p e b) c = expr_passed e (moved 1 p c)
own_passed (tree.if_else attrs p e b d) c = expr_passed e (moved 1 p c)

-- ---- turns over the numbers of constants

abbrev pub turns_passed : ℕ → List Names → LoopHead → Const → Cursor → Cursor
turns_passed zero ns head value c = expr_passed head.condition c
turns_passed (suc n) ns head value c =
    let inner = in_turn head.variable value ns in
    let behind = expr_passed head.condition c in
    let more = turns_passed n ns head (genvar_number inner head.next) (expr_passed head.next behind) in
    if holds inner head.condition then more else behind

-- the first turn alone
abbrev pub turn_passed : List Names → LoopHead → Const → Cursor → Cursor
turn_passed ns head value c =
    let behind = expr_passed head.condition c in
    if holds (in_turn head.variable value ns) head.condition then expr_passed head.next behind else behind

-- by whether the step has a value
abbrev pub begun_passed : Bool → List Names → LoopHead → Cursor → Cursor
begun_passed further ns head c =
    let first = genvar_number ns head.start in
    if further then turns_passed most_turns ns head first c else turn_passed ns head first c

abbrev pub loop_passed : HeadValues → List Names → LoopHead → Cursor → Cursor
loop_passed values ns head c =
    if values.turns then begun_passed values.further ns head c else expr_passed head.condition c

-- ---- declared names, with the words of memories

abbrev pub words_passed : List Names → List DeclaredName → Cursor → Cursor
words_passed ns [] c = c
words_passed ns (x ∷ xs) c = words_passed ns xs (moved (capped (name_count ns x.words)) x.pos c)

abbrev pub names_passed : List Names → Item → Cursor → Cursor
names_passed ns (declaration attrs p d) c = words_passed ns d.names c
names_passed ns (integer attrs p xs) c = words_passed ns xs c
names_passed ns x c = c
