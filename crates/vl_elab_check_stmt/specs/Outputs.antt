-- Between functions: The targets that outputs are joined to: what the functions that make them promise one another.
-- Rule of this project.
use Rattle.std.specs.Prelude.{List, [], ◌∷◌, Option, Some, None}
use Rattle.fv_text.specs.declared.pos.Pos.{Pos}
use Rattle.vl_tree.specs.Expr.{Expr, name}
use Rattle.vl_tree.specs.Lval.{Lval, Lvals, named, joined, more_lvals}
use Rattle.vl_size.specs.Size.{◌>>=◌}

-- a name with its selects as a target
abbrev pub name_target : Expr → Option Lval
name_target (name p text ss) = Some (named p text ss)
name_target e = None

abbrev pub joined_target : Pos → Option Lvals → Option Lval
joined_target p ls = ls >>= λ xs. Some (joined p xs)

-- the targets so far, and then those that are left
abbrev pub lvals_before : List Lval → Lvals → Lvals
lvals_before [] rest = rest
lvals_before (l ∷ ls) rest = more_lvals l (lvals_before ls rest)

abbrev pub targets_before : List Lval → Option Lvals → Option Lvals
targets_before ls rest = rest >>= λ xs. Some (lvals_before ls xs)
