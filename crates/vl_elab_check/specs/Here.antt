-- Between functions: What is known where a step of the walk stands. Rule of this project.
use Rattle.std.specs.Prelude.{ℕ, List, [], map, drop}
use Rattle.vl_tree.specs.Item.{Item, declaration, integer, genvar, parameter}
use Rattle.vl_mean.specs.Walk.{Place}
use Rattle.vl_elab_spec.specs.Meanings.{Names, meanings_at}
use Rattle.vl_elab_scope.specs.Alike.{Alike}
use Rattle.vl_elab_const.specs.declared.given.Given.{Given}
use Rattle.vl_elab_const.specs.Numbers.{HaveNumbers}
use Rattle.vl_elab_names.specs.declared.set.NameSet.{NameSet}
use Rattle.vl_elab_names.specs.Known.{AreNames}
use Rattle.vl_elab_params.specs.declared.reached.Reached.{Reached}
use Rattle.vl_elab_params.specs.Reached.{IsReached}
use Rattle.vl_elab_check_scope.specs.Gives.{Gives}

-- What names mean, the numbers of constants there and in the shapes of declarations, the names that stand before it,
-- the parameters among them, and the parameters that the instance gives a value.
pub record IsAt (names values : List Names) (earlier : NameSet) (reached : Reached) (given : Given) (at : Place)
    : Type 0 where
  pub alike : Alike names (meanings_at at)
  pub constants : HaveNumbers values at.scopes
  pub shapes : HaveNumbers (drop 1 values) at.around
  pub before : AreNames earlier at.earlier
  pub parameters : IsReached reached at at.earlier
  pub overrides : Gives given at

-- of the names that an item declares its parameters, and the others that may stand in expressions
abbrev pub own_parameters : Item → List (List ℕ)
own_parameters (parameter attrs p kind xs) = map (λ x. x.name) xs
own_parameters x = []

abbrev pub own_names : Item → List (List ℕ)
own_names (declaration attrs p d) = map (λ x. x.name) d.names
own_names (integer attrs p xs) = map (λ x. x.name) xs
own_names (genvar attrs p xs) = xs
own_names x = []
