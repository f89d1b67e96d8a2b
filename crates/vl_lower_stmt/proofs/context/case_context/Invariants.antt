use Rattle.std.specs.Prelude.{◌≡◌, ◌&&◌, max, drop}
use Rattle.vl_tree.specs.StmtView.{arms}
use Rattle.vl_size.specs.Sign.{sign}
use Rattle.vl_size.specs.Size.{or_none, size}
use Rattle.vl_mean.specs.Execution.{arms_sign, arms_size}
use Rattle.vl_mean.specs.FlatLaw.{flat_scopes}
use Rattle.vl_lower_stmt.specs.StepsArms.{AreLedTo}
use Rattle.vl_lower_stmt.proofs.context.case_context.Given as goal

-- what the other arms make of the context
abbrev pub invariant-loop-arm : goal.invariant-loop-arm
invariant-loop-arm l = record {
  left : AreLedTo l.decls (arms (drop l.arm-index l.all));
  width : max l.context.width (arms_size (flat_scopes l.decls) (arms (drop l.arm-index l.all)))
      ≡ max (or_none (size l.decls l.expr)) (arms_size (flat_scopes l.decls) (arms l.all));
  signed : (l.context.signed && arms_sign (flat_scopes l.decls) (arms (drop l.arm-index l.all)))
      ≡ (sign l.decls l.expr && arms_sign (flat_scopes l.decls) (arms l.all));
}
