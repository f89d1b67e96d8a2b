-- Between functions: What a statement leaves for the next cycle: each bit that it assigns, now or for the block's end,
-- in the order of the text. Where no name is assigned in both ways, these are the values at the block's end. IEEE
-- 1364-2005, section 9.2.
use Rattle.std.specs.Prelude.{max, ◌&&◌, Bool, List, if◌then◌else◌}
use Rattle.vl_tree.specs.Expr.{Expr}
use Rattle.vl_tree.specs.Stmt.{
  Stmt,
  Stmts,
  Arms,
  begin,
  if_only,
  if_else,
  case,
  assign,
  assume,
  empty,
  no_stmts,
  more_stmts,
  no_arms,
  labels,
  default,
}
use Rattle.vl_size.specs.Size.{Values, is_true}
use Rattle.vl_mean.specs.Scopes.{Scope, operand_in}
use Rattle.vl_mean.specs.Targets.{put_all}
use Rattle.vl_mean.specs.Execution.{State, assigned, arms_size, arms_sign, matches, exec}

module _ (ss : List Scope) where
  abbrev mutual
    -- from a state, into a map
    pub stored : Stmt → State → Values → Values
    stored (begin attrs p label xs) t w = all_stored xs t w
    stored (if_only attrs p e x) t w = let done = stored x t w in if is_true (operand_in ss t.now e) then done else w
    stored (if_else attrs p e x y) t w =
        let first = stored x t w in let second = stored y t w in
        if is_true (operand_in ss t.now e) then first else second
    stored (case attrs p kind e arms) t w =
        let x = operand_in ss t.now e in
        let size = max x.size (arms_size ss arms) in
        let s = x.sign && arms_sign ss arms in
        arm_stored arms (λ es. matches ss kind t.now size s (x.at size s) es) (λ u m. otherwise_stored arms u m) t w
    stored (assign attrs p l kind e) t w = put_all (assigned ss l ss e t.now) w
    stored (assume attrs p e) t w = w
    stored (empty attrs p) t w = w

    pub all_stored : Stmts → State → Values → Values
    all_stored no_stmts t w = w
    all_stored (more_stmts x xs) t w = all_stored xs (exec ss x t) (stored x t w)

    -- by the first arm with a label that matches, or else otherwise
    pub arm_stored : Arms → (List Expr → Bool) → (State → Values → Values) → State → Values → Values
    arm_stored no_arms test other t w = other t w
    arm_stored (labels p es x arms) test other t w =
        let here = stored x t w in let there = arm_stored arms test other t w in if test es then here else there
    arm_stored (default p colon x arms) test other t w = arm_stored arms test other t w

    -- by the default arm, wherever it stands
    pub otherwise_stored : Arms → State → Values → Values
    otherwise_stored no_arms t w = w
    otherwise_stored (labels p es x arms) t w = otherwise_stored arms t w
    otherwise_stored (default p colon x arms) t w = stored x t w
