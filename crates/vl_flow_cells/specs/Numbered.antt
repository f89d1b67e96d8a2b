-- Between functions: The cells of declared names under numbers: those of a name stand together, a memory's words from
-- the left bound on, and the names in their order. Rule of this project.
use Rattle.std.specs.Prelude.{◌≡◌, ℕ, zero, suc, ◌+◌, List, [], ◌∷◌, ◌++◌, length, Bool, false, ◌&&◌, ◌||◌}
use Rattle.std.specs.Prelude.{nat_le, nat_lt, Option, Some, None, IsSome, is_none, slice_get, if◌then◌else◌}
use Rattle.vl_tree.specs.Expr.{Selects}
use Rattle.vl_size.specs.declared.decl.Decl.{Decl}
use Rattle.vl_size.specs.Size.{◌>>=◌, vector_size, word_size}
use Rattle.vl_size.specs.Table.{declared_as}
use Rattle.vl_mean.specs.Cells.{cells}
use Rattle.fv_bit_sets.specs.Cells.{is_set}
use Rattle.vl_flow_spec.specs.Reads.{Bits}
use Rattle.vl_flow_cells.specs.declared.cell_run.CellRun.{CellRun}

-- a cell's number is its place here
abbrev pub all_cells : List Decl → List (List ℕ)
all_cells [] = []
all_cells (d ∷ ds) = cells d ++ all_cells ds

-- how many cells stand before those of the declaration at a place
abbrev pub first_cell : List Decl → ℕ → ℕ
first_cell [] i = 0
first_cell (d ∷ ds) zero = 0
first_cell (d ∷ ds) (suc i) = length (cells d) + first_cell ds i

-- bits of numbered cells are those of the cells' names
abbrev pub Shows : List Decl → (ℕ → ℕ → Bool) → Bits → Type 0
Shows ds marks K = (c : ℕ) (n : List ℕ) (i : ℕ) → slice_get (all_cells ds) c ≡ Some n → marks c i ≡ K n i

-- ---- runs of cells

-- the bit of the cell is in the run
abbrev pub takes : CellRun → ℕ → ℕ → Bool
takes r c i = (nat_le r.first c && nat_lt c r.past) && is_set r.mask i

abbrev pub some_takes : Option CellRun → ℕ → ℕ → Bool
some_takes None c i = false
some_takes (Some r) c i = takes r c i

abbrev pub any_takes : List CellRun → ℕ → ℕ → Bool
any_takes [] c i = false
any_takes (r ∷ rs) c i = takes r c i || any_takes rs c i

-- the bits of the later runs are those of the earlier ones and these
abbrev pub Adds : List Decl → List CellRun → List CellRun → Bits → Type 0
Adds ds before after K =
    (c : ℕ) (n : List ℕ) (i : ℕ) → slice_get (all_cells ds) c ≡ Some n
    → any_takes after c i ≡ (any_takes before c i || K n i)

-- ---- what may be selected

-- the name is declared, and its selects have a size
abbrev pub HasSize : List Decl → List ℕ → Selects → Type 0
HasSize ds text xs =
    IsSome (declared_as ds text >>= λ d. if is_none d.words then vector_size ds d xs else word_size ds d xs)
