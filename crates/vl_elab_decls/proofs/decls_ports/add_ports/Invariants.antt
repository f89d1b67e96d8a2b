use Rattle.std.proofs.Common.{◌++◌, List, None}
use Rattle.std.specs.Prelude.{drop}
use Rattle.vl_mean.specs.Declarations.{declared_ports, full_ports}
use Rattle.vl_mean.specs.Runs.{Each}
use Rattle.vl_mean.specs.Scopes.{Scope}
use Rattle.vl_mean.specs.Walk.{Use}
use Rattle.vl_elab_const.specs.Numbers.{HaveNumbers}
use Rattle.vl_elab_const.specs.Openable.{IsInRange}
use Rattle.vl_elab_decls.specs.Inputs.{AreInputs}
use Rattle.vl_elab_decls.proofs.PortDecls.{PortsGo}
use Rattle.vl_elab_decls.proofs.decls_ports.add_ports.Given as goal

abbrev pub invariant-loop-port : goal.invariant-loop-port
invariant-loop-port l =
    (ss : List Scope) (u : Use) (g : AreInputs l.inputs u) → HaveNumbers l.numbers ss
    → Each IsInRange (declared_ports ss u.is_top u.input (full_ports None l.all))
    → PortsGo ss u l.inputs g (l.fn.decls ++ declared_ports ss u.is_top u.input (full_ports None l.all)) l.last l.decls
    (drop l.port-index l.all)
