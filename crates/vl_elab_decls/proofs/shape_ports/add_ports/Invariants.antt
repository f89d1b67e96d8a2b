use Rattle.std.proofs.Common.{◌≡◌, None}
use Rattle.std.specs.Prelude.{drop, IfSome}
use Rattle.vl_elab_decls.specs.Objects.{Fits, with_ports}
use Rattle.vl_elab_decls.proofs.shape_ports.add_ports.Given as goal

abbrev pub invariant-loop-port : goal.invariant-loop-port
invariant-loop-port l = record {
  fits : IfSome l.last (λ f. Fits f.extent);
  names : with_ports l.names l.inputs l.level l.last (drop l.port-index l.all)
      ≡ with_ports l.names l.inputs l.fn.level None l.all;
}
