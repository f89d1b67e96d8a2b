-- Between functions: What a scope has to be to be opened as a design is written: its names differ, and what it
-- declares is in range. Names of one scope differ by IEEE 1364-2005, section 12.7; the limits are rules of this
-- project.
use Rattle.std.specs.Prelude.{◌≡◌, ℕ, List, [], ◌∷◌, ◌++◌, map, false}
use Rattle.vl_tree.specs.Item.{Item, Items, parameter, no_items, more_items}
use Rattle.vl_size.specs.declared.decl.Decl.{Decl}
use Rattle.vl_size.specs.Table.{AreDifferent, IsPlain, span}
use Rattle.vl_mean.specs.Cells.{contains_name}
use Rattle.vl_mean.specs.Constants.{Constants}
use Rattle.vl_mean.specs.Runs.{Each}
use Rattle.vl_mean.specs.Scopes.{Scope}
use Rattle.vl_mean.specs.Walk.{parameter_names}
use Rattle.vl_elab_const.specs.InRange.{AreWords, IsShort}

-- each name isn't one of those behind it
abbrev pub Different : List (List ℕ) → Type 0
Different [] = Unit {0}
Different (n ∷ ns) = (contains_name ns n ≡ false) × Different ns

-- what is declared has a shape of 128 bits at most, and bounds of 32 signed bits
pub record IsInRange (d : Decl) : Type 0 where
  pub width : d.width ≡ span d.left d.right
  pub short : IsShort (d.left, d.right)
  pub words : AreWords d.words

abbrev pub constant_names : Constants → List (List ℕ)
constant_names cs = map (λ c. c.0) cs

-- its constants have different names, and so have its nets and variables, which are in range
pub record IsOpenable (s : Scope) : Type 0 where
  pub constants : Different (constant_names s.constants)
  pub decls : AreDifferent s.decls
  pub plain : Each IsPlain s.decls
  pub in_range : Each IsInRange s.decls

-- of nested scopes, the innermost first
abbrev pub AreOpenable : List Scope → Type 0
AreOpenable ss = Each IsOpenable ss

-- ---- the names of the constants that items declare

abbrev pub item_constants : Item → List (List ℕ)
item_constants (parameter attrs p kind xs) = parameter_names xs
item_constants x = []

abbrev pub items_constants : Items → List (List ℕ)
items_constants no_items = []
items_constants (more_items x xs) = item_constants x ++ items_constants xs
