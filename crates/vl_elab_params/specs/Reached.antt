-- Between functions: Parameters of scopes that stand before a step of the walk, and those that don't. That the value of
-- a parameter may use those before it alone is a rule of this project.
use Rattle.std.specs.Prelude.{◌≡◌, ℕ, List, [], ◌∷◌, Bool, true, false, ◌&&◌, ◌||◌, if◌then◌else◌}
use Rattle.vl_mean.specs.Cells.{contains_name}
use Rattle.vl_mean.specs.Scopes.{Scope}
use Rattle.vl_mean.specs.Walk.{Contents, Place}
use Rattle.vl_elab_spec.specs.Meanings.{undeclared, later, Names, is_undeclared, meaning_of, meaning_in, meanings_at}
use Rattle.vl_elab_spec.specs.Meanings.{meanings_before, reached, scope_parameters}
use Rattle.vl_elab_scope.specs.Seen.{AreNamed, AllNamed}
use Rattle.vl_elab_params.specs.declared.reached.Reached.{Reached}

-- of the innermost scope
abbrev pub innermost_parameters : List Scope → List Contents → List (List ℕ)
innermost_parameters [] cs = []
innermost_parameters (s ∷ ss) [] = []
innermost_parameters (s ∷ ss) (c ∷ cs) = scope_parameters c

-- of the scope that a step stands in
abbrev pub parameters_at : Place → List (List ℕ)
parameters_at at = innermost_parameters at.scopes at.contents

-- those that stand before the step have their meanings, and all are pending behind them
pub record AreReached (before behind : Names) (known : List Names) (parameters earlier : List (List ℕ)) : Type 0 where
  pub before_named : AreNamed before
  pub behind_named : AreNamed behind
  pub before_mean : (text : List ℕ) → meaning_of before text
      ≡ (if contains_name parameters text && contains_name earlier text then meaning_in known text else undeclared)
  pub behind_mean : (text : List ℕ) → meaning_of behind text
      ≡ (if contains_name parameters text then later else undeclared)

-- of the parameters of the place's scope exactly those among these names stand before, with what they mean
abbrev pub IsReached : Reached → Place → List (List ℕ) → Type 0
IsReached r at earlier = AreReached r.passed r.pending (meanings_at at) (parameters_at at) earlier

-- with those of the parameters of a scope before the others
abbrev pub over : Reached → List Names → List Names
over r ns = r.passed ∷ r.pending ∷ ns

-- ---- what is kept of the parameters of several scopes, apart from all other names

-- one of the scopes has such a parameter
abbrev pub is_parameter_of : List Scope → List Contents → List ℕ → Bool
is_parameter_of [] cs text = false
is_parameter_of (s ∷ ss) [] text = false
is_parameter_of (s ∷ ss) (c ∷ cs) text = contains_name (scope_parameters c) text || is_parameter_of ss cs text

-- one of the scopes around the innermost
abbrev pub is_parameter_around : List Scope → List Contents → List ℕ → Bool
is_parameter_around [] cs text = false
is_parameter_around (s ∷ ss) [] text = false
is_parameter_around (s ∷ ss) (c ∷ cs) text = is_parameter_of ss cs text

-- what names mean where all of the innermost scope is reached, and the scopes around are as far as this one
abbrev pub reached_around : List Contents → List Names → List Names
reached_around (c ∷ cs) (ns ∷ outer) = ns ∷ reached cs c.earlier outer
reached_around cs ns = ns

-- Of these names all parameters in question are said, and what is said of a name is what it means there.
pub record Says (kept : List Names) (is_said : List ℕ → Bool) (meant : List Names) : Type 0 where
  pub named : AllNamed kept
  pub all : (text : List ℕ) → is_said text ≡ true → is_undeclared (meaning_in kept text) ≡ false
  pub right : (text : List ℕ) → is_undeclared (meaning_in kept text) ≡ false
      → meaning_in kept text ≡ meaning_in meant text

-- of the scopes around the one that a step stands in
abbrev pub AreAround : List Names → Place → Type 0
AreAround kept at =
    Says kept (is_parameter_around at.scopes at.contents) (reached_around at.contents (meanings_at at))

-- of all scopes, behind what declares these names in the innermost
abbrev pub AreBefore : List Names → Place → List (List ℕ) → Type 0
AreBefore kept at earlier = Says kept (is_parameter_of at.scopes at.contents) (meanings_before at earlier)
