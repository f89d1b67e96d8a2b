-- Between functions: Where the judging walk stands: what the functions that go through a design promise one another.
-- Rule of this project.
use Rattle.std.specs.Prelude.{◌≡◌, ◌∷◌, ℕ, List, All, drop}
use Rattle.vl_tree.specs.declared.source.Module.{Module}
use Rattle.vl_tree.specs.WellFormed.{IsModule}
use Rattle.vl_mean.specs.Walk.{Place, Unfolding, module_walk}
use Rattle.vl_elab_spec.specs.Items.{is_valued}
use Rattle.vl_elab_spec.specs.Meanings.{meanings_at}
use Rattle.vl_elab_spec.specs.Refused.{Totals}
use Rattle.vl_elab_names.specs.Known.{contains}
use Rattle.vl_elab_scope.specs.Seen.{innermost}
use Rattle.vl_elab_decls.specs.declared.scopes.Inside.{Inside}
use Rattle.vl_elab_decls.specs.Stands.{Stands}
use Rattle.vl_elab_params.specs.Reached.{AreAround, AreBefore}
use Rattle.vl_elab_spec.specs.declared.totals.Totals as kept
use Rattle.vl_elab_spec.specs.Walked.{AreTotals}
use Rattle.vl_elab_check.specs.Here.{IsAt}
use Rattle.vl_elab_check.specs.declared.progress.Source.{Source}
use Rattle.vl_elab_check.specs.declared.scopes.Here.{Here}

-- the steps of a module that an instance names, with modules in one another no deeper than they may be
abbrev pub below : Source → Unfolding
below source = module_walk is_valued source.fuel source.modules.now

-- so much of well formed modules was walked
pub record IsSoFar (ms : List Module) (walked : kept.Totals) (t : Totals) : Type 0 where
  pub formed : All IsModule ms
  pub totals : AreTotals walked t

-- in the scopes of a place, within these modules
pub record IsWithin (inside : Inside) (path : List (List ℕ)) (at : Place) : Type 0 where
  pub stands : Stands inside.names inside.numbers (contains inside.clocks) (meanings_at at) at.scopes
  pub around : AreAround inside.around at
  pub modules : path ≡ at.modules

-- the same, where what stands before the next scope was handed over to it
pub record IsHanded (inside : Inside) (path : List (List ℕ)) (at : Place) : Type 0 where
  pub stands : Stands inside.names inside.numbers (contains inside.clocks) (meanings_at at) at.scopes
  pub before : AreBefore inside.around at at.earlier
  pub modules : path ≡ at.modules

-- there is a scope
abbrev pub HasScope : Inside → Type 0
HasScope inside = inside.numbers ≡ innermost inside.numbers ∷ drop 1 inside.numbers

-- at a place, behind what is declared before it in its scope
pub record IsHere (inside : Inside) (here : Here) (path : List (List ℕ)) (at : Place) : Type 0 where
  pub within : IsWithin inside path at
  pub known : IsAt inside.names inside.numbers here.earlier here.reached here.given at
