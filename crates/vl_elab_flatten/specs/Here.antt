-- Between functions: Where names are read, from what is there as a design is written: the scopes, the path of the
-- innermost one, and the names that are explicitly declared in it. Rule of this project.
use Rattle.std.specs.Prelude.{ℕ, List, [], ◌∷◌}
use Rattle.vl_tree.specs.Item.{Items}
use Rattle.vl_mean.specs.Constants.{Constants}
use Rattle.vl_mean.specs.Declarations.{declared, with_constants, with_items_parameters}
use Rattle.vl_mean.specs.Scopes.{Scope}
use Rattle.vl_mean.specs.Walk.{Place}

-- the scopes over which bounds in the innermost one are read
abbrev pub around_of : List Scope → List Scope
around_of [] = []
around_of (s ∷ ss) = with_constants s.constants ss

-- what a place has besides changes neither the parts nor the scopes of its steps
abbrev pub place_in : List Scope → List ℕ → List (List ℕ) → Place
place_in ss path names = record {
  around = around_of ss;
  scopes = ss;
  contents = [];
  path = path;
  names = names;
  earlier = [];
  modules = [];
}

abbrev pub block_constants : List Scope → Items → Constants
block_constants ss xs = with_items_parameters [] ss [] xs

-- the scope of a block with these items
abbrev pub block_scope : List Scope → List ℕ → Items → Scope
block_scope ss path xs = record {
  path = path;
  decls = declared (with_constants (block_constants ss xs) ss) xs;
  constants = block_constants ss xs;
}
