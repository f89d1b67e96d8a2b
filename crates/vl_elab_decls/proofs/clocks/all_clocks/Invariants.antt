use Rattle.std.proofs.Common.{◌≡◌, false, ℕ, List, None}
use Rattle.std.specs.Prelude.{drop}
use Rattle.vl_elab_names.specs.Known.{contains}
use Rattle.vl_elab_decls.specs.Clocks.{clocks_of}
use Rattle.vl_elab_decls.proofs.clocks.all_clocks.Given as goal

abbrev pub invariant-loop-port : goal.invariant-loop-port
invariant-loop-port l =
    (other : List ℕ)
    → clocks_of l.inputs l.last (drop l.port-index l.all) (contains l.ports) (contains l.clocks) other
    ≡ clocks_of l.inputs None l.all (λ text. false) (λ text. false) other
