-- Between functions: When names mean in a judged design what they stand for in its scopes. Rule of this project.
use Rattle.std.specs.Prelude.{◌≡◌, ℕ, List, Some, None}
use Rattle.vl_size.specs.Table.{IsShaped, declared_as}
use Rattle.vl_mean.specs.Scopes.{Scope, constant_in, visible}
use Rattle.vl_elab_spec.specs.Meanings.{Meaning, undeclared, constant, loop_variable, object, faulty, shapeless, later}
use Rattle.vl_elab_spec.specs.Meanings.{Names, meaning_in}

-- a constant has its value there, and of a net or a variable the innermost declaration is the one that is meant; no
-- name is one whose own declaration is refused
abbrev pub MeansIn : List Scope → List ℕ → Meaning → Type 0
MeansIn ss text undeclared = Unit {0}
MeansIn ss text (constant c selected) = constant_in ss text ≡ Some c
MeansIn ss text loop_variable = Unit {0}
MeansIn ss text (object d role scalar) =
    (constant_in ss text ≡ None) × (declared_as (visible ss) text ≡ Some d) × IsShaped d
MeansIn ss text faulty = ⊥
MeansIn ss text shapeless = ⊥
MeansIn ss text later = ⊥

abbrev pub AreMeant : List Names → List Scope → Type 0
AreMeant ns ss = (text : List ℕ) → MeansIn ss text (meaning_in ns text)
