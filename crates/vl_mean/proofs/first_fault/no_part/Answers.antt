use Rattle.std.specs.Prelude.{◌≡◌, refl, ◌≤◌, List, [], ◌∷◌, length, None}
use Rattle.std.proofs.Common.{arith}
use Rattle.fv_text.specs.declared.pos.Pos.{Pos}
use Rattle.vl_tree.specs.Expr.{Expr, exprs}
use Rattle.vl_mean.specs.ConstantFaults.{no_part}
use Rattle.vl_mean.proofs.first_fault.no_part.Goals as goal

part_there : (p : Pos) (es : List Expr) → 1 ≤ length es → None ≡ no_part p (exprs es)
part_there p [] h = absurd (omega (arith, h))
part_there p (e ∷ es) h = refl

pub returns-in-len1-up : goal.returns-in-len1-up
returns-in-len1-up c = part_there c.args.pos c.args.all.now c.in-len1-up.len_at_least
