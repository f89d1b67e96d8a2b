use Rattle.std.proofs.Common.{drop, take}
use Rattle.vl_tree.specs.Lval.{lvals}
use Rattle.vl_mean.specs.FlatLaw.{all_target_sizes, flat_scopes}
use Rattle.vl_mean.specs.Targets.{all_spots}
use Rattle.vl_lower_stmt.specs.Located.{AreSizedTargets, Locates}
use Rattle.vl_lower_stmt.proofs.target.+locate.Given as goal

abbrev pub invariant-locate_all-loop-part : goal.invariant-locate_all-loop-part
invariant-locate_all-loop-part l = record {
  left : AreSizedTargets l.layout.decls.now (lvals (drop l.part-index l.parts));
  done : Locates l.layout.decls.now l.fn.net l.net l.cells l.fn.slots l.slots
      (all_target_sizes l.layout.decls.now (lvals (take l.part-index l.parts)))
      (λ v. all_spots (flat_scopes l.layout.decls.now) v (lvals (take l.part-index l.parts)));
}
