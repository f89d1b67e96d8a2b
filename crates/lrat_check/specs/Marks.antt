-- Between functions: A set of literals as marks by code: a table of the codes that the texts are long enough for, and a
-- set of the others. Rule of this project.
use Rattle.std.specs.Prelude.{ℕ, ◌≡◌, ◌==◌, ◌||◌, Bool, false, List, ℤ, slice_index_or}
use Rattle.std.specs.HashSet.{contains}
use Rattle.lrat_check.specs.Codes.{code_of}
use Rattle.lrat_check.specs.Sets.{has, AreLits}
use Rattle.lrat_check.specs.declared.marks.Marks.{Marks}

-- whether the code is marked in the table; beyond it none is
abbrev pub is_near : List Bool → ℕ → Bool
is_near table code = slice_index_or table code false

-- whether the code is marked
abbrev pub is_marked : Marks → ℕ → Bool
is_marked marks code = is_near marks.near.items code || contains ◌==◌ marks.far code

-- the literals that are marked are those of the set
pub record AreMarked (marks : Marks) (set : List ℤ) : Type 0 where
  pub all_lits : AreLits set
  pub at : (lit : ℤ) → is_marked marks (code_of lit) ≡ has set lit
