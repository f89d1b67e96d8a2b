-- Between functions: Steps of which some were walked. Rule of this project.
use Rattle.std.specs.Prelude.{◌≡◌, List}
use Rattle.vl_tree.specs.declared.source.Module.{Module}
use Rattle.vl_mean.specs.Walk.{Step}
use Rattle.vl_elab_spec.specs.Refused.{Totals, all_counted, first_refused}
use Rattle.vl_elab_spec.specs.declared.totals.Totals as kept
use Rattle.vl_elab_spec.specs.Walked.{AreTotals}

-- Of all steps behind so many nodes and names these are left; none before them was refused, and this much is counted.
pub record AreLeft (ms : List Module) (t : Totals) (all : List Step) (so_far : kept.Totals) (rest : List Step)
    : Type 0 where
  pub now : Totals
  pub known : AreTotals so_far now
  pub fault : first_refused ms t all ≡ first_refused ms now rest
  pub totals : all_counted t all ≡ all_counted now rest
