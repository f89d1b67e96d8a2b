-- Meaning: Which bits a statement surely assigns, which it reads before that, and which its assignments may change:
-- path by path, in a design without hierarchy. IEEE 1364-2005, sections 9.2, 9.4 and 9.5; what counts as sure is a
-- rule of this project: a varying index surely assigns nothing, and a case does so only where it has a default.
use Rattle.std.specs.Prelude.{List, [], ◌∷◌, Bool, true, false, ◌&&◌, ◌||◌, not}
use Rattle.vl_tree.specs.declared.stmt.AssignKind.{AssignKind}
use Rattle.vl_tree.specs.declared.stmt.AssignKind.TheVariants as a
use Rattle.vl_tree.specs.Expr.{Expr}
use Rattle.vl_tree.specs.Lval.{Lval, Lvals, named, joined, no_lvals, more_lvals}
use Rattle.vl_tree.specs.Stmt.{
  Stmt,
  Stmts,
  Arms,
  begin,
  if_only,
  if_else,
  case,
  assign,
  assume,
  empty,
  no_stmts,
  more_stmts,
  no_arms,
  labels,
  default,
}
use Rattle.vl_size.specs.declared.decl.Decl.{Decl}
use Rattle.vl_mean.specs.FlatLaw.{flat_scopes}
use Rattle.vl_mean.specs.Targets.{are_fixed, may_change}
use Rattle.vl_flow_spec.specs.Reads.{Bits, selected, reads, selects_read}

abbrev pub is_blocking : AssignKind → Bool
is_blocking a.Blocking = true
is_blocking a.Nonblocking = false

abbrev pub is_nonblocking : AssignKind → Bool
is_nonblocking kind = not (is_blocking kind)

abbrev pub any_kind : AssignKind → Bool
any_kind kind = true

abbrev pub has_default : Arms → Bool
has_default no_arms = false
has_default (labels p es x arms) = has_default arms
has_default (default p colon x arms) = true

module _ (ds : List Decl) where
  -- ---- targets

  -- the indices of a target are read
  abbrev mutual
    pub target_reads : Lval → Bits
    target_reads (named p text xs) n k = selects_read ds xs n k
    target_reads (joined p ls) n k = targets_read ls n k

    pub targets_read : Lvals → Bits
    targets_read no_lvals n k = false
    targets_read (more_lvals l ls) n k = target_reads l n k || targets_read ls n k

  -- the bits that constant selects take
  abbrev mutual
    pub sets : Lval → Bits
    sets (named p text xs) n k = are_fixed (flat_scopes ds) xs && selected ds text xs n k
    sets (joined p ls) n k = any_sets ls n k

    pub any_sets : Lvals → Bits
    any_sets no_lvals n k = false
    any_sets (more_lvals l ls) n k = sets l n k || any_sets ls n k

  -- ---- by assignments of some kinds

  module _ (counts : AssignKind → Bool) where
    -- assigned on each path
    abbrev mutual
      pub sure : Stmt → Bits
      sure (begin attrs p label xs) n k = all_sure xs n k
      sure (if_only attrs p e x) n k = false
      sure (if_else attrs p e x y) n k = sure x n k && sure y n k
      sure (case attrs p kind e arms) n k = has_default arms && arms_sure arms n k
      sure (assign attrs p l kind e) n k = counts kind && sets l n k
      sure (assume attrs p e) n k = false
      sure (empty attrs p) n k = false

      pub all_sure : Stmts → Bits
      all_sure no_stmts n k = false
      all_sure (more_stmts x xs) n k = sure x n k || all_sure xs n k

      pub arms_sure : Arms → Bits
      arms_sure no_arms n k = true
      arms_sure (labels p es x arms) n k = sure x n k && arms_sure arms n k
      arms_sure (default p colon x arms) n k = sure x n k && arms_sure arms n k

    -- changed by some assignment on some path
    abbrev mutual
      pub changes : Stmt → Bits
      changes (begin attrs p label xs) n k = any_changes xs n k
      changes (if_only attrs p e x) n k = changes x n k
      changes (if_else attrs p e x y) n k = changes x n k || changes y n k
      changes (case attrs p kind e arms) n k = arms_change arms n k
      changes (assign attrs p l kind e) n k = counts kind && may_change (flat_scopes ds) l n k
      changes (assume attrs p e) n k = false
      changes (empty attrs p) n k = false

      pub any_changes : Stmts → Bits
      any_changes no_stmts n k = false
      any_changes (more_stmts x xs) n k = changes x n k || any_changes xs n k

      pub arms_change : Arms → Bits
      arms_change no_arms n k = false
      arms_change (labels p es x arms) n k = changes x n k || arms_change arms n k
      arms_change (default p colon x arms) n k = changes x n k || arms_change arms n k

  -- ---- what is read before

  abbrev pub labels_read : List Expr → Bits
  labels_read [] n k = false
  labels_read (e ∷ es) n k = reads ds e n k || labels_read es n k

  -- on some path before the path has surely assigned it; what is assigned for the block's end doesn't count
  abbrev mutual
    pub needs : Stmt → Bits
    needs (begin attrs p label xs) n k = all_need xs n k
    needs (if_only attrs p e x) n k = reads ds e n k || needs x n k
    needs (if_else attrs p e x y) n k = reads ds e n k || (needs x n k || needs y n k)
    needs (case attrs p kind e arms) n k = reads ds e n k || arms_need arms n k
    needs (assign attrs p l kind e) n k = target_reads l n k || reads ds e n k
    needs (assume attrs p e) n k = reads ds e n k
    needs (empty attrs p) n k = false

    pub all_need : Stmts → Bits
    all_need no_stmts n k = false
    all_need (more_stmts x xs) n k = needs x n k || (not (sure is_blocking x n k) && all_need xs n k)

    pub arms_need : Arms → Bits
    arms_need no_arms n k = false
    arms_need (labels p es x arms) n k = labels_read es n k || (needs x n k || arms_need arms n k)
    arms_need (default p colon x arms) n k = needs x n k || arms_need arms n k
