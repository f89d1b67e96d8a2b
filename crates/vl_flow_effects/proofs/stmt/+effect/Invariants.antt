use Rattle.std.proofs.Common.{drop, take}
use Rattle.vl_tree.specs.Stmt.{stmts}
use Rattle.vl_tree.specs.StmtView.{arms}
use Rattle.vl_flow_effects.specs.Effects.{AreEach, IsEffectOf, IsEffectOfArm}
use Rattle.vl_flow_cells.specs.Sized.{ArmsAreSized, StmtsAreSized}
use Rattle.vl_flow_effects.proofs.stmt.+effect.Given as goal

abbrev pub invariant-sequence_effect-loop-part : goal.invariant-sequence_effect-loop-part
invariant-sequence_effect-loop-part l = record {
  left : StmtsAreSized l.decls (stmts l.all) → StmtsAreSized l.decls (stmts (drop l.part-index l.all));
  each : StmtsAreSized l.decls (stmts l.all)
      → AreEach (IsEffectOf l.decls) l.effects.items (take l.part-index l.all);
}

abbrev pub invariant-arms_effect-loop-arm : goal.invariant-arms_effect-loop-arm
invariant-arms_effect-loop-arm l = record {
  left : ArmsAreSized l.decls (arms l.all) → ArmsAreSized l.decls (arms (drop l.arm-index l.all));
  each : ArmsAreSized l.decls (arms l.all)
      → AreEach (IsEffectOfArm l.decls) l.effects.items (take l.arm-index l.all);
}
