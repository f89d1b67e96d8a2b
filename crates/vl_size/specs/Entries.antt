-- Between functions: The entries of the map behind a table of declarations. Rule of this project.
use Rattle.std.specs.Prelude.{◌≡◌, ℕ, ◌<◌, ◌^◌, List, [], ◌∷◌, length, map, All, Vec}
use Rattle.std.specs.declared.alloc.Global.{Global}
use Rattle.vl_size.specs.declared.decl.Decl.{Decl}
use Rattle.vl_size.specs.Table.{IsShaped, AreApart}

abbrev pub Entry : Type 0
Entry = Vec ℕ Global × Decl

abbrev pub decls_of : List Entry → List Decl
decls_of es = map (λ e. e.1) es

-- each key is the name of its declaration
abbrev pub AreKeyed : List Entry → Type 0
AreKeyed [] = Unit {0}
AreKeyed (e ∷ es) = (e.0.items ≡ e.1.name) × AreKeyed es

pub record IsTable (es : List Entry) : Type 0 where
  pub keyed : AreKeyed es
  pub shaped : All IsShaped (decls_of es)
  pub apart : AreApart (decls_of es)
  pub short : length es < 2 ^ 32
