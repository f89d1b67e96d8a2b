-- Between functions: Steps that were walked, and how much of a design they are. Rule of this project.
use Rattle.std.specs.Prelude.{◌≡◌, List, Option, None}
use Rattle.vl_tree.specs.declared.source.Module.{Module}
use Rattle.vl_mean.specs.ConstantFaults.{capped}
use Rattle.vl_mean.specs.Walk.{Step}
use Rattle.vl_elab_spec.specs.declared.elab_fault.ElabFault.{ElabFault}
use Rattle.vl_elab_spec.specs.Refused.{Totals, all_counted, first_refused}
use Rattle.vl_elab_spec.specs.declared.totals.Totals as kept

-- so many nodes and names, each up to 2 ^ 64 - 1
pub record AreTotals (x : kept.Totals) (t : Totals) : Type 0 where
  pub nodes : x.nodes ≡ capped t.nodes
  pub names : x.names ≡ capped t.names

-- Behind so many nodes and names what is answered is the first refusal of these steps, and where there is none, all of
-- them are counted.
pub record AreWalked (ms : List Module) (t : Totals) (new : kept.Totals) (xs : List Step) (g : Option ElabFault)
    : Type 0 where
  pub fault : g ≡ first_refused ms t xs
  pub totals : g ≡ None → AreTotals new (all_counted t xs)
