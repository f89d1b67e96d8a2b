-- Between functions: Scopes that are filled, with the numbers of constants: what the functions that fill them promise
-- one another. Rule of this project.
use Rattle.std.specs.Prelude.{◌≡◌, ℕ, List, [], ◌∷◌, ◌++◌, true, Option}
use Rattle.vl_tree.specs.declared.declaration.Parameter.{Parameter}
use Rattle.vl_tree.specs.declared.declaration.ParameterKind.{ParameterKind}
use Rattle.vl_tree.specs.declared.declaration.ParameterKind.TheVariants as k
use Rattle.vl_size.specs.declared.decl.Decl.{Decl}
use Rattle.vl_mean.specs.Constants.{Constants}
use Rattle.vl_mean.specs.Declarations.{Overrides, with_parameters}
use Rattle.vl_mean.specs.Scopes.{Scope}
use Rattle.vl_elab_spec.specs.Meanings.{Names, constant, faulty}
use Rattle.vl_elab_scope.specs.Seen.{with_name}
use Rattle.vl_elab_const.specs.declared.given.Value.{Value}
use Rattle.vl_elab_const.specs.Given.{IsGiven}
use Rattle.vl_elab_const.specs.Numbers.{HaveNumbers}
use Rattle.vl_elab_const.specs.Openable.{Different, constant_names}

-- constants with their numbers
abbrev pub constants_level : Constants → Names
constants_level [] = []
constants_level (c ∷ cs) = (c.0, constant c.1 true) ∷ constants_level cs

-- with nets and variables, of which no number is known
abbrev pub hidden : Names → List Decl → Names
hidden l [] = l
hidden l (d ∷ ds) = hidden (with_name l d.name faulty) ds

-- with nets and variables behind the others
abbrev pub with_decls : Scope → List Decl → Scope
with_decls s ds = record s { decls = s.decls ++ ds }

-- the constants behind parameters of this kind; a `localparam` isn't overridden
abbrev pub with_declared : ParameterKind → Overrides → List Scope → Constants → List Parameter → Constants
with_declared k.Parameter os ss cs xs = with_parameters os ss cs xs
with_declared k.Localparam os ss cs xs = with_parameters [] ss cs xs

-- a scope with constants alone, and their numbers within those around
pub record HasConstants (path : List ℕ) (cs : Constants) (outer : List Names) (s : Scope) (ns : List Names) : Type 0
  where
    pub scope : s ≡ record { path = path; decls = []; constants = cs }
    pub numbers : ns ≡ constants_level cs ∷ outer

-- Constants are added that have these names and follow from those before them, from what is given to parameters and
-- from the scopes around.
abbrev pub Adds : (List ℕ → Option Value) → (Overrides → List Scope → Constants → Constants) → List (List ℕ) → Scope
    → List Names → Scope → List Names → Type 0
Adds given follow names s ns new news =
    (os : Overrides) (ss : List Scope) (path : List ℕ) (cs : Constants) (outer : List Names) → IsGiven given os
    → HaveNumbers outer ss → Different (constant_names cs ++ names) → HasConstants path cs outer s ns
    → HasConstants path (follow os ss cs) outer new news
