-- Between functions: Literals that are made of others, and what they mean (rule of this project).
use Rattle.std.specs.Prelude.{
  ◌≡◌,
  ℕ,
  ◌≤◌,
  Bool,
  not,
  ◌&&◌,
  ◌||◌,
  List,
  [],
  ◌∷◌,
  ◌++◌,
  length,
  take,
  map,
}
use Rattle.std.specs.List.{AllByRecursion}
use Rattle.bb_aig.specs.declared.node.AigNode.{AigNode}
use Rattle.bb_aig.specs.Graph.{IsLit, lit_at, inputs_of}

-- a meaning of a literal and of a list of literals, for each choice of inputs
abbrev pub Meaning : Type 0
Meaning = (ℕ → Bool) → Bool

abbrev pub Meanings : Type 0
Meanings = (ℕ → Bool) → List Bool

-- gates are added, and nothing else
pub record Grows (old new : List AigNode) : Type 0 where
  pub begun : take (length old) new ≡ old
  pub longer : length old ≤ length new
  pub counted : inputs_of new ≡ inputs_of old
  pub kept : (x : ℕ → Bool) (l : ℕ) → IsLit old l → lit_at new x l ≡ lit_at old x l

-- a literal is there, and means this
pub record IsMade (graph : List AigNode) (means : Meaning) (lit : ℕ) : Type 0 where
  pub there : IsLit graph lit
  pub value : (x : ℕ → Bool) → lit_at graph x lit ≡ means x

abbrev pub AreLits : List AigNode → List ℕ → Type 0
AreLits graph lits = AllByRecursion (IsLit graph) lits

-- the values of literals
abbrev pub bits : List AigNode → (ℕ → Bool) → List ℕ → List Bool
bits graph x lits = map (lit_at graph x) lits

pub record AreMade (graph : List AigNode) (means : Meanings) (lits : List ℕ) : Type 0 where
  pub there : AreLits graph lits
  pub value : (x : ℕ → Bool) → bits graph x lits ≡ means x

-- a literal is that of both
abbrev pub Both : List AigNode → ℕ → ℕ → ℕ → Type 0
Both graph a b l = (x : ℕ → Bool) → lit_at graph x l ≡ (lit_at graph x a && lit_at graph x b)
