-- Between functions: What is left of a walk behind the steps that it went through. Rule of this project.
use Rattle.std.specs.Prelude.{ℕ, List, Option}
use Rattle.vl_tree.specs.declared.source.Module.{Module}
use Rattle.vl_tree.specs.Item.{Items}
use Rattle.vl_mean.specs.Walk.{Place, Step, Unfolding, items_walk}
use Rattle.vl_elab_spec.specs.declared.elab_fault.ElabFault.{ElabFault}
use Rattle.vl_elab_spec.specs.Items.{is_valued}
use Rattle.vl_elab_spec.specs.Refused.{Totals}
use Rattle.vl_elab_spec.specs.declared.totals.Totals as kept
use Rattle.vl_elab_spec.specs.Walked.{AreTotals, AreWalked}

-- So much was walked of all steps that these are left: what is answered of them is answered of all.
pub record AreLeft (ms : List Module) (t : Totals) (all : List Step) (walked : kept.Totals) (left : List Step)
    : Type 0 where
  pub behind : Totals
  pub totals : AreTotals walked behind
  pub follows : (new : kept.Totals) (g : Option ElabFault) → AreWalked ms behind new left g → AreWalked ms t new all g

-- The steps of these items are left, from a place on of which this holds.
pub record ItemsAreLeft (ms : List Module) (inner : Unfolding) (t : Totals) (all : List Step) (IsHere : Place → Type 0)
    (walked : kept.Totals) (left : Items) : Type 0 where
  pub at : Place
  pub number : ℕ
  pub here : IsHere at
  pub steps : AreLeft ms t all walked (items_walk is_valued ms inner left at number)
