use Rattle.std.proofs.Common.{List, drop, true}
use Rattle.vl_tree.specs.Lval.{lvals}
use Rattle.vl_mean.specs.FlatLaw.{AreTargets, is_net}
use Rattle.vl_flow_cells.specs.Sized.{TargetsAreSized}
use Rattle.vl_flow_check.specs.declared.share.Share.{Share}
use Rattle.vl_flow_check.specs.Shares.{AddsPlaces}
use Rattle.vl_flow_check.proofs.Targets.{all_target_places}
use Rattle.vl_flow_check.proofs.target.+shares.Given as goal

abbrev pub invariant-loop-part : goal.invariant-loop-part
invariant-loop-part l = record {
  sized : TargetsAreSized l.decls (lvals l.part-items)
      → TargetsAreSized l.decls (lvals (drop l.part-index l.part-items));
  fixed : AreTargets l.decls is_net true (lvals l.part-items)
      → AreTargets l.decls is_net true (lvals (drop l.part-index l.part-items));
  added : TargetsAreSized l.decls (lvals l.part-items) → AreTargets l.decls is_net true (lvals l.part-items)
      → (zs : List Share)
      → AddsPlaces l.decls l.into.items zs (all_target_places l.decls (lvals (drop l.part-index l.part-items)) l.pos)
      → AddsPlaces l.decls l.initial.into.items zs (all_target_places l.decls (lvals l.part-items) l.pos);
}
