-- Between functions: Modules by their names. IEEE 1364-2005, section 12.1; that the first one of a name counts is a
-- rule of this project.
use Rattle.std.specs.Prelude.{◌≡◌, ℕ, ◌+◌, List, [], ◌∷◌, Bool, ◌||◌, Option, Some, None, bytes_eq}
use Rattle.std.specs.Prelude.{if◌then◌else◌}
use Rattle.std.specs.Map.{lookup}
use Rattle.vl_tree.specs.declared.source.Module.{Module}
use Rattle.vl_elab_spec.specs.declared.elab_fault.ElabFault.{ElabFault}
use Rattle.vl_elab_spec.specs.declared.elab_fault.ElabFault.TheVariants as f
use Rattle.vl_elab_names.specs.declared.table.ModuleTable.{ModuleTable}

-- the place of the first module of a name, where they stand from this place on
abbrev pub place_from : ℕ → List Module → List ℕ → Option ℕ
place_from n [] text = None
place_from n (m ∷ ms) text = if bytes_eq text m.name then Some n else place_from (n + 1) ms text

-- the place that a table has for a name
abbrev pub place_in : ModuleTable → List ℕ → Option ℕ
place_in table text = lookup (λ key. bytes_eq text key.items) table.places.entries

-- the table is of these modules
abbrev pub AreModules : ModuleTable → List Module → Type 0
AreModules table ms = (text : List ℕ) → place_in table text ≡ place_from 0 ms text

-- ---- modules that stand twice, over a test of the names before them

-- one name more stands before
abbrev pub with_name : (List ℕ → Bool) → List ℕ → List ℕ → Bool
with_name earlier text other = bytes_eq other text || earlier other

-- the first one whose name stands before it
abbrev pub twice_by : (List ℕ → Bool) → List Module → Option ElabFault
twice_by earlier [] = None
twice_by earlier (m ∷ ms) =
    let more = twice_by (with_name earlier m.name) ms in
    if earlier m.name then Some (f.Twice m.name m.pos) else more
