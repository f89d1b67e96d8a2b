-- Between functions: Scopes to which names are added one behind the other. Rule of this project.
use Rattle.std.specs.Prelude.{◌≡◌, ℕ, List, [], ◌∷◌, ◌++◌, map, Option, Some, None, Vec, if◌then◌else◌}
use Rattle.std.specs.declared.alloc.Global.{Global}
use Rattle.vl_size.specs.declared.decl.Decl.{Decl}
use Rattle.vl_size.specs.Table.{is_declared}
use Rattle.vl_mean.specs.declared.const_number.Const.{Const}
use Rattle.vl_mean.specs.Constants.{Constants}
use Rattle.vl_mean.specs.Scopes.{Scope}
use Rattle.vl_elab_draft.specs.declared.named.Named.{Named}

abbrev pub Entry : Type 0
Entry = Vec ℕ Global × Const

-- the constants of a table, in order
abbrev pub constants_of : List Entry → Constants
constants_of es = map (λ e. (e.0.items, e.1)) es

-- the first one stands apart
abbrev pub constants_from : Option Named → List Entry → Constants
constants_from None es = constants_of es
constants_from (Some n) es = (n.text, n.value) ∷ constants_of es

-- without a first one there are no others
abbrev pub AreBehind : Option Named → List Entry → Type 0
AreBehind None es = es ≡ []
AreBehind (Some n) es = Unit {0}

-- the full names of what is declared under a path, in order
abbrev pub names_under : List ℕ → List Decl → List (List ℕ)
names_under path ds = map (λ d. path ++ d.name) ds

-- the full name of a net or a variable of the scope
abbrev pub own_full : Scope → List ℕ → Option (List ℕ)
own_full s text = if is_declared s.decls text then Some (s.path ++ text) else None

-- one that declares nothing
abbrev pub empty_scope : List ℕ → Scope
empty_scope path = record { path = path; decls = []; constants = [] }

-- with a constant behind the others
abbrev pub with_constant : Scope → List ℕ → Const → Scope
with_constant s text c = record s { constants = s.constants ++ (text, c) ∷ [] }

-- with a net or a variable behind the others
abbrev pub with_decl : Scope → Decl → Scope
with_decl s d = record s { decls = s.decls ++ d ∷ [] }
