use Rattle.std.proofs.Common.{◌≡◌, false}
use Rattle.std.specs.Prelude.{drop}
use Rattle.vl_elab_names.specs.Known.{contains}
use Rattle.vl_elab_names.specs.Table.{twice_by}
use Rattle.vl_elab_names.proofs.twice.first_twice.Given as goal

abbrev pub invariant-loop-module : goal.invariant-loop-module
invariant-loop-module l =
    twice_by (contains l.earlier) (drop l.module-index l.all) ≡ twice_by (λ text. false) l.all
