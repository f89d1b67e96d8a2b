-- Meaning: The names that the assignments of a statement have as their targets, whatever these reach of them: also by
-- an index past the range. IEEE 1364-2005, section 9.2.
use Rattle.std.specs.Prelude.{ℕ, List, [], ◌∷◌, ◌++◌, Bool, if◌then◌else◌}
use Rattle.vl_tree.specs.declared.stmt.AssignKind.{AssignKind}
use Rattle.vl_tree.specs.Lval.{Lval, Lvals, named, joined, no_lvals, more_lvals}
use Rattle.vl_tree.specs.Stmt.{
  Stmt,
  Stmts,
  Arms,
  begin,
  if_only,
  if_else,
  case,
  assign,
  assume,
  empty,
  no_stmts,
  more_stmts,
  no_arms,
  labels,
  default,
}

abbrev mutual
  pub target_names : Lval → List (List ℕ)
  target_names (named p text xs) = text ∷ []
  target_names (joined p ls) = all_target_names ls

  pub all_target_names : Lvals → List (List ℕ)
  all_target_names no_lvals = []
  all_target_names (more_lvals l ls) = target_names l ++ all_target_names ls

-- by assignments of some kinds
module _ (counts : AssignKind → Bool) where
  abbrev mutual
    pub assigned_names : Stmt → List (List ℕ)
    assigned_names (begin attrs p label xs) = all_assigned_names xs
    assigned_names (if_only attrs p e x) = assigned_names x
    assigned_names (if_else attrs p e x y) = assigned_names x ++ assigned_names y
    assigned_names (case attrs p kind e arms) = arms_assigned_names arms
    assigned_names (assign attrs p l kind e) = if counts kind then target_names l else []
    assigned_names (assume attrs p e) = []
    assigned_names (empty attrs p) = []

    pub all_assigned_names : Stmts → List (List ℕ)
    all_assigned_names no_stmts = []
    all_assigned_names (more_stmts x xs) = assigned_names x ++ all_assigned_names xs

    pub arms_assigned_names : Arms → List (List ℕ)
    arms_assigned_names no_arms = []
    arms_assigned_names (labels p es x arms) = assigned_names x ++ arms_assigned_names arms
    arms_assigned_names (default p colon x arms) = assigned_names x ++ arms_assigned_names arms
