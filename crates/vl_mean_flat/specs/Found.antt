-- Between functions: A name that means the same under another name. Rule of this project.
use Rattle.std.specs.Prelude.{◌≡◌, ℕ, List, Some}
use Rattle.vl_size.specs.declared.decl.Decl.{Decl}
use Rattle.vl_size.specs.Table.{declared_as}
use Rattle.vl_mean.specs.Scopes.{Scope, full, visible}

-- the name is declared there under its new name, in the same way
pub record IsFound (f : List ℕ → List ℕ) (ds es : List Decl) (text : List ℕ) : Type 0 where
  pub decl : Decl
  pub own : decl.name ≡ text
  pub here : declared_as ds text ≡ Some decl
  pub there : declared_as es (f text) ≡ Some (record decl { name = f text })

-- under its full name
abbrev pub Found : List Decl → List Scope → List ℕ → Type 0
Found es ss text = IsFound (full ss) (visible ss) es text
