-- There are as many places as nodes.
use Rattle.std.specs.Prelude.{◌≡◌, refl, ℕ, zero, suc, ◌+◌, List, [], ◌∷◌, ◌++◌, length, Bool, true, false, ◌&&◌}
use Rattle.std.specs.Prelude.{Option, Some, None, if◌then◌else◌}
use Rattle.std.proofs.Common.{◌∙◌, arith}
use Rattle.fv_text.specs.declared.pos.Pos.{Pos}
use Rattle.vl_tree.specs.declared.declaration.DeclaredName.{DeclaredName}
use Rattle.vl_tree.specs.declared.declaration.Parameter.{Parameter}
use Rattle.vl_tree.specs.declared.declaration.Range.{Range}
use Rattle.vl_tree.specs.declared.item.RegionMark.TheVariants as mark
use Rattle.vl_tree.specs.declared.part.Assignment.{Assignment}
use Rattle.vl_tree.specs.declared.part.LoopHead.{LoopHead}
use Rattle.vl_tree.specs.Expr.{Expr, Exprs, Selects, number, name, paren, unary, binary, conditional, concat, repeat}
use Rattle.vl_tree.specs.Expr.{cast, none, more, whole, bit, part, indexed}
use Rattle.vl_tree.specs.Item as tree
use Rattle.vl_tree.specs.Item.{Item, declaration, integer, genvar, parameter, always, initial, instance, generate}
use Rattle.vl_tree.specs.Item.{for_loop}
use Rattle.vl_tree.specs.Lval.{Lval, Lvals, named, joined, no_lvals, more_lvals}
use Rattle.vl_tree.specs.Stmt.{Stmt, Stmts, Arms, begin, if_only, if_else, case, assign, assume, empty, no_stmts}
use Rattle.vl_tree.specs.Stmt.{more_stmts, no_arms, labels, default}
use Rattle.vl_mean.specs.declared.const_number.Const.{Const}
use Rattle.vl_mean.specs.FlatLaw.{all_nodes, all_stmt_nodes, all_target_nodes, arm_nodes, label_nodes, nodes}
use Rattle.vl_mean.specs.FlatLaw.{select_nodes, stmt_nodes, target_nodes}
use Rattle.vl_mean.specs.Walk.{Place, Step, header, port, item, override, connection, block_step, goes_on, next_turn}
use Rattle.vl_mean.specs.Walk.{first_turn, turn_place}
use Rattle.vl_elab_spec.specs.Counts.{assignment_nodes, item_nodes, loop_nodes, name_nodes, one_turn_nodes}
use Rattle.vl_elab_spec.specs.Counts.{parameter_nodes, range_nodes, step_nodes, turn_nodes, value_nodes}
use Rattle.vl_elab_spec.specs.Items.{is_valued}
use Rattle.vl_elab_spec.specs.NodePlaces.{all_places, all_stmt_places, all_target_places, arm_places}
use Rattle.vl_elab_spec.specs.NodePlaces.{assignment_places, declared_places, expr_places, inner_places, label_places}
use Rattle.vl_elab_spec.specs.NodePlaces.{loop_places, node_places, one_turn_places, own_places, parameter_places}
use Rattle.vl_elab_spec.specs.NodePlaces.{range_places, select_places, stmt_places, target_places, turn_places}
use Rattle.vl_elab_spec.specs.NodePlaces.{value_places}

-- lists one behind the other
join : (xs ys : List Pos) → length (xs ++ ys) ≡ length xs + length ys
join [] ys = omega arith
join (x ∷ xs) ys = let rest : length (xs ++ ys) ≡ length xs + length ys = join xs ys in omega (arith, rest)

two : (xs ys : List Pos) (m n : ℕ) → length xs ≡ m → length ys ≡ n → length (xs ++ ys) ≡ m + n
two xs ys m n h k = join xs ys ∙ (λ i. h i + k i)

three : (xs ys zs : List Pos) (m n k : ℕ) → length xs ≡ m → length ys ≡ n → length zs ≡ k
    → length (xs ++ ys ++ zs) ≡ m + n + k
three xs ys zs m n k a b c = two (xs ++ ys) zs (m + n) k (two xs ys m n a b) c

-- a place before others
after : (p : Pos) (xs : List Pos) (n : ℕ) → length xs ≡ n → length (p ∷ xs) ≡ n + 1
after p xs n h = omega (arith, h)

mutual
  expr_length : (e : Expr) → length (expr_places e) ≡ nodes e
  expr_length (number p n) = refl
  expr_length (name p text ss) = after p (select_places ss) (select_nodes ss) (selects_length ss)
  expr_length (paren p x) = after p (expr_places x) (nodes x) (expr_length x)
  expr_length (unary p op x) = after p (expr_places x) (nodes x) (expr_length x)
  expr_length (binary p op x y) =
      after p (expr_places x ++ expr_places y) (nodes x + nodes y)
      (two (expr_places x) (expr_places y) (nodes x) (nodes y) (expr_length x) (expr_length y))
  expr_length (conditional p c x y) =
      after p (expr_places c ++ expr_places x ++ expr_places y) (nodes c + nodes x + nodes y)
      (three (expr_places c) (expr_places x) (expr_places y) (nodes c) (nodes x) (nodes y) (expr_length c)
      (expr_length x) (expr_length y))
  expr_length (concat p es) = after p (all_places es) (all_nodes es) (exprs_length es)
  expr_length (repeat p n es) =
      after p (expr_places n ++ all_places es) (nodes n + all_nodes es)
      (two (expr_places n) (all_places es) (nodes n) (all_nodes es) (expr_length n) (exprs_length es))
  expr_length (cast p to x) = after p (expr_places x) (nodes x) (expr_length x)

  exprs_length : (es : Exprs) → length (all_places es) ≡ all_nodes es
  exprs_length none = refl
  exprs_length (more e es) =
      two (expr_places e) (all_places es) (nodes e) (all_nodes es) (expr_length e) (exprs_length es)

  selects_length : (ss : Selects) → length (select_places ss) ≡ select_nodes ss
  selects_length whole = refl
  selects_length (bit p i ss) =
      after p (expr_places i ++ select_places ss) (nodes i + select_nodes ss)
      (two (expr_places i) (select_places ss) (nodes i) (select_nodes ss) (expr_length i) (selects_length ss))
  selects_length (part p l r ss) =
      after p (expr_places l ++ expr_places r ++ select_places ss) (nodes l + nodes r + select_nodes ss)
      (three (expr_places l) (expr_places r) (select_places ss) (nodes l) (nodes r) (select_nodes ss) (expr_length l)
      (expr_length r) (selects_length ss))
  selects_length (indexed p s n ss) =
      after p (expr_places s ++ expr_places n ++ select_places ss) (nodes s + nodes n + select_nodes ss)
      (three (expr_places s) (expr_places n) (select_places ss) (nodes s) (nodes n) (select_nodes ss) (expr_length s)
      (expr_length n) (selects_length ss))

mutual
  target_length : (l : Lval) → length (target_places l) ≡ target_nodes l
  target_length (named p text ss) = after p (select_places ss) (select_nodes ss) (selects_length ss)
  target_length (joined p ls) = after p (all_target_places ls) (all_target_nodes ls) (targets_length ls)

  targets_length : (ls : Lvals) → length (all_target_places ls) ≡ all_target_nodes ls
  targets_length no_lvals = refl
  targets_length (more_lvals l ls) =
      two (target_places l) (all_target_places ls) (target_nodes l) (all_target_nodes ls) (target_length l)
      (targets_length ls)

labels_length : (es : List Expr) → length (label_places es) ≡ label_nodes es
labels_length [] = refl
labels_length (e ∷ es) =
    two (expr_places e) (label_places es) (nodes e) (label_nodes es) (expr_length e) (labels_length es)

mutual
  stmt_length : (s : Stmt) → length (stmt_places s) ≡ stmt_nodes s
  stmt_length (begin attrs p label xs) = after p (all_stmt_places xs) (all_stmt_nodes xs) (stmts_length xs)
  stmt_length (if_only attrs p e x) =
      after p (expr_places e ++ stmt_places x) (nodes e + stmt_nodes x)
      (two (expr_places e) (stmt_places x) (nodes e) (stmt_nodes x) (expr_length e) (stmt_length x))
  stmt_length (if_else attrs p e x y) =
      after p (expr_places e ++ stmt_places x ++ stmt_places y) (nodes e + stmt_nodes x + stmt_nodes y)
      (three (expr_places e) (stmt_places x) (stmt_places y) (nodes e) (stmt_nodes x) (stmt_nodes y) (expr_length e)
      (stmt_length x) (stmt_length y))
  stmt_length (case attrs p kind e arms) =
      after p (expr_places e ++ arm_places arms) (nodes e + arm_nodes arms)
      (two (expr_places e) (arm_places arms) (nodes e) (arm_nodes arms) (expr_length e) (arms_length arms))
  stmt_length (assign attrs p l kind e) =
      after p (target_places l ++ expr_places e) (target_nodes l + nodes e)
      (two (target_places l) (expr_places e) (target_nodes l) (nodes e) (target_length l) (expr_length e))
  stmt_length (assume attrs p e) = after p (expr_places e) (nodes e) (expr_length e)
  stmt_length (empty attrs p) = refl

  stmts_length : (ss : Stmts) → length (all_stmt_places ss) ≡ all_stmt_nodes ss
  stmts_length no_stmts = refl
  stmts_length (more_stmts x xs) =
      two (stmt_places x) (all_stmt_places xs) (stmt_nodes x) (all_stmt_nodes xs) (stmt_length x) (stmts_length xs)

  arms_length : (arms : Arms) → length (arm_places arms) ≡ arm_nodes arms
  arms_length no_arms = refl
  arms_length (labels p es x arms) =
      three (label_places es) (stmt_places x) (arm_places arms) (label_nodes es) (stmt_nodes x) (arm_nodes arms)
      (labels_length es) (stmt_length x) (arms_length arms)
  arms_length (default p colon x arms) =
      two (stmt_places x) (arm_places arms) (stmt_nodes x) (arm_nodes arms) (stmt_length x) (arms_length arms)

value_length : (o : Option Expr) → length (value_places o) ≡ value_nodes o
value_length None = refl
value_length (Some e) = expr_length e

range_length : (r : Option Range) → length (range_places r) ≡ range_nodes r
range_length None = refl
range_length (Some r) =
    two (expr_places r.left) (expr_places r.right) (nodes r.left) (nodes r.right) (expr_length r.left)
    (expr_length r.right)

-- a name before its parts, and others behind them
named_length : (p : Pos) (xs ys zs : List Pos) (m n k : ℕ) → length xs ≡ m → length ys ≡ n → length zs ≡ k
    → length (p ∷ xs ++ ys ++ zs) ≡ m + n + 1 + k
named_length p xs ys zs m n k a b c =
    let all : length (xs ++ ys ++ zs) ≡ m + n + k = three xs ys zs m n k a b c in omega (arith, all)

names_length : (xs : List DeclaredName) → length (declared_places xs) ≡ name_nodes xs
names_length [] = refl
names_length (x ∷ xs) =
    named_length x.pos (range_places x.words) (value_places x.value) (declared_places xs) (range_nodes x.words)
    (value_nodes x.value) (name_nodes xs) (range_length x.words) (value_length x.value) (names_length xs)

parameters_length : (xs : List Parameter) → length (parameter_places xs) ≡ parameter_nodes xs
parameters_length [] = refl
parameters_length (x ∷ xs) =
    named_length x.pos (range_places x.shape.range) (expr_places x.value) (parameter_places xs)
    (range_nodes x.shape.range) (nodes x.value) (parameter_nodes xs) (range_length x.shape.range) (expr_length x.value)
    (parameters_length xs)

assignments_length : (xs : List Assignment) → length (assignment_places xs) ≡ assignment_nodes xs
assignments_length [] = refl
assignments_length (x ∷ xs) =
    three (target_places x.target) (expr_places x.value) (assignment_places xs) (target_nodes x.target) (nodes x.value)
    (assignment_nodes xs) (target_length x.target) (expr_length x.value) (assignments_length xs)

-- ---- turns

module _ (head : LoopHead) where
  turn_and_more : (rest : List Pos) (n : ℕ) → length rest ≡ n → (t : Bool)
      → length (expr_places head.condition ++ (if t then expr_places head.next ++ rest else []))
      ≡ nodes head.condition + (if t then nodes head.next + n else 0)
  turn_and_more rest n h true =
      two (expr_places head.condition) (expr_places head.next ++ rest) (nodes head.condition) (nodes head.next + n)
      (expr_length head.condition) (two (expr_places head.next) rest (nodes head.next) n (expr_length head.next) h)
  turn_and_more rest n h false =
      two (expr_places head.condition) [] (nodes head.condition) 0 (expr_length head.condition) refl

  turn_alone : (t : Bool)
      → length (expr_places head.condition ++ (if t then expr_places head.next else []))
      ≡ nodes head.condition + (if t then nodes head.next else 0)
  turn_alone true =
      two (expr_places head.condition) (expr_places head.next) (nodes head.condition) (nodes head.next)
      (expr_length head.condition) (expr_length head.next)
  turn_alone false =
      two (expr_places head.condition) [] (nodes head.condition) 0 (expr_length head.condition) refl

  module _ (at : Place) where
    turns_length : (n : ℕ) (c : Const) → length (turn_places n head at c) ≡ turn_nodes n head at c
    turns_length zero c = expr_length head.condition
    turns_length (suc n) c =
        turn_and_more (turn_places n head at (next_turn head at.scopes c)) (turn_nodes n head at (next_turn head at.scopes c))
        (turns_length n (next_turn head at.scopes c)) (goes_on head at.scopes c)

    by_values : (turns further : Bool)
        → length (if turns then (if further then turn_places 4096 head at (first_turn head at.scopes)
        else one_turn_places head at (first_turn head at.scopes)) else expr_places head.condition)
        ≡ (if turns then (if further then turn_nodes 4096 head at (first_turn head at.scopes)
        else one_turn_nodes head at (first_turn head at.scopes)) else nodes head.condition)
    by_values true true = turns_length 4096 (first_turn head at.scopes)
    by_values true false = turn_alone (goes_on head at.scopes (first_turn head at.scopes))
    by_values false further = expr_length head.condition

    loop_length : length (loop_places head at) ≡ loop_nodes head at
    loop_length =
        by_values (is_valued at head.start
        && is_valued (turn_place at head.variable (first_turn head at.scopes)) head.condition)
        (is_valued (turn_place at head.variable (first_turn head at.scopes)) head.next)

-- ---- steps

none_more : (xs : List Pos) (n : ℕ) → length xs ≡ n → length (xs ++ []) ≡ n
none_more xs n h = let all : length (xs ++ []) ≡ n + 0 = two xs [] n 0 h refl in omega (arith, all)

-- an item without what is within it
own : (p : Pos) (xs : List Pos) (n : ℕ) → length xs ≡ n → length (p ∷ xs ++ []) ≡ n + 1
own p xs n h = none_more (p ∷ xs) (n + 1) (after p xs n h)

item_length : (at : Place) (x : Item) → length (own_places x ++ inner_places at x) ≡ item_nodes at x
item_length at (declaration attrs p d) =
    own p (range_places d.shape.range ++ declared_places d.names) (range_nodes d.shape.range + name_nodes d.names)
    (two (range_places d.shape.range) (declared_places d.names) (range_nodes d.shape.range) (name_nodes d.names)
    (range_length d.shape.range) (names_length d.names))
item_length at (integer attrs p xs) = own p (declared_places xs) (name_nodes xs) (names_length xs)
item_length at (genvar attrs p xs) = refl
item_length at (parameter attrs p kind xs) = own p (parameter_places xs) (parameter_nodes xs) (parameters_length xs)
item_length at (tree.assign attrs p xs) = own p (assignment_places xs) (assignment_nodes xs) (assignments_length xs)
item_length at (always attrs p event s) = own p (stmt_places s) (stmt_nodes s) (stmt_length s)
item_length at (initial attrs p s) = own p (stmt_places s) (stmt_nodes s) (stmt_length s)
item_length at (instance attrs p x) = refl
item_length at (generate attrs p mark.Open) = refl
item_length at (generate attrs p mark.Close) = refl
item_length at (for_loop attrs p head b) =
    let start : length (p ∷ expr_places head.start) ≡ nodes head.start + 1 =
    after p (expr_places head.start) (nodes head.start) (expr_length head.start) in
    let all : length ((p ∷ expr_places head.start) ++ loop_places head at) ≡ nodes head.start + 1 + loop_nodes head at =
    two (p ∷ expr_places head.start) (loop_places head at) (nodes head.start + 1) (loop_nodes head at) start
    (loop_length head at) in
    all ∙ swap (nodes head.start) (loop_nodes head at)
  where
    swap : (m n : ℕ) → m + 1 + n ≡ m + n + 1
    swap m n = omega arith
item_length at (tree.if_only attrs p c b) = own p (expr_places c) (nodes c) (expr_length c)
item_length at (tree.if_else attrs p c b d) = own p (expr_places c) (nodes c) (expr_length c)

pub step_length : (x : Step) → length (node_places x) ≡ step_nodes x
step_length (header at x) = parameters_length (x ∷ [])
step_length (port at u p q) =
    after p.pos (range_places q.shape.range ++ value_places q.value) (range_nodes q.shape.range + value_nodes q.value)
    (two (range_places q.shape.range) (value_places q.value) (range_nodes q.shape.range) (value_nodes q.value)
    (range_length q.shape.range) (value_length q.value))
step_length (item at x) = item_length at x
step_length (override at m u given x) = after x.pos (value_places x.value) (value_nodes x.value) (value_length x.value)
step_length (connection at m u inside given x) =
    after x.pos (value_places x.value) (value_nodes x.value) (value_length x.value)
step_length (block_step at b) = refl
