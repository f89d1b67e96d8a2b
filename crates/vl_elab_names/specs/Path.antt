-- Between functions: Modules that stand in one another, by their names. Rule of this project.
use Rattle.std.specs.Prelude.{ℕ, List, map, Vec}
use Rattle.std.specs.declared.alloc.Global.{Global}

-- a name, as it is kept
abbrev pub Entry : Type 0
Entry = Vec ℕ Global × Unit {0}

-- the names themselves, in their order
abbrev pub texts_of : List Entry → List (List ℕ)
texts_of es = map (λ e. e.0.items) es
