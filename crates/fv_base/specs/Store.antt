-- Between functions: Files that are kept in memory: a map from names to bytes. Rules of this project.
use Rattle.std.specs.Prelude.{ℕ, List, [], ◌∷◌, None, option_map, Vec, String, string_bytes}
use Rattle.std.specs.Ordering.{nat_cmp}
use Rattle.std.specs.Cmp.Lexicographic.{slice_cmp}
use Rattle.std.specs.declared.alloc.Global.{Global}
use Rattle.std.specs.BTreeMap.{BTreeMap}
use Rattle.std.specs.BTreeMap as tree
use Rattle.fv_base.specs.Outside.{Names, with_file}

abbrev pub Store : Type 0
Store = BTreeMap (Vec ℕ Global) (Vec ℕ Global)

-- what each name holds in the map
abbrev pub names_in : Store → Names
names_in store name = option_map (λ bytes. bytes.items) (tree.get_by (λ key. slice_cmp nat_cmp name key.items) store)

-- no name holds anything
abbrev pub no_files : Names
no_files name = None

-- the names after each pair in turn was put there; of pairs with one name the last counts
abbrev pub with_pairs : Names → List (String Global × Vec ℕ Global) → Names
with_pairs names [] = names
with_pairs names (pair ∷ pairs) = with_pairs (with_file names (string_bytes pair.0) pair.1.items) pairs
