-- Between functions: Declarations with numbers, as a map from names to numbers. Rule of this project.
use Rattle.std.specs.Prelude.{ℕ, List, if◌then◌else◌, bytes_eq}
use Rattle.std.specs.Map.{lookup}
use Rattle.vl_size.specs.Size.{Values, Cells, cells_in, or_none}
use Rattle.vl_mean.specs.declared.env.Env.{Env}

-- the number of each name; 0 where none was set
abbrev pub values_of : Env → Values
values_of env name = or_none (lookup (λ key. bytes_eq name key.items) env.numbers.entries)

-- the same, of a memory by its name and an index
abbrev pub cells_of : Env → Cells
cells_of env = cells_in (values_of env)

-- the same numbers but for this name, which has this one
abbrev pub with_number : List ℕ → ℕ → Values → Values
with_number name value numbers other = if bytes_eq name other then value else numbers other
