-- Between functions: Names with their constants, as a map. Rule of this project.
use Rattle.std.specs.Prelude.{ℕ, List, if◌then◌else◌, Option, Some, bytes_eq}
use Rattle.std.specs.Map.{lookup}
use Rattle.vl_mean.specs.declared.const_number.Const.{Const}
use Rattle.vl_mean.specs.declared.params.Params.{Params}

-- the constant of a name, where it has one
abbrev pub constant : Params → List ℕ → Option Const
constant params name = lookup (λ key. bytes_eq name key.items) params.map.entries

-- the same constants but for this name, which has this one
abbrev pub with_constant : List ℕ → Const → (List ℕ → Option Const) → List ℕ → Option Const
with_constant name value constants other = if bytes_eq name other then Some value else constants other
