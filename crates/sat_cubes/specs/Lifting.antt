-- Meaning: Steps that refute what a cube leaves of a formula, lifted to the formula: with the old literals, the
-- complements of the cube's literals, and their hints by old or lifted ids. Deletions are left out, as another cube may
-- need the clause, and steps behind the first empty clause. Rule of this project.
use Rattle.std.specs.Prelude.{
  ℕ,
  zero,
  suc,
  ◌+◌,
  ◌≡◌,
  Bool,
  if◌then◌else◌,
  ◌==◌,
  List,
  [],
  ◌∷◌,
  ◌++◌,
  ℤ,
  pos,
}
use Rattle.std.specs.Prelude.{unsigned_abs, map, slice_get, slice_index_or, Option, Some, None}
use Rattle.lrat_check.specs.declared.step.Step.{Step}
use Rattle.lrat_check.specs.declared.step.Step.TheVariants.{Add, Delete}
use Rattle.lrat_check.specs.Steps.{is_empty}

-- the id in the formula's steps of each clause of the restricted ones, if it has one
abbrev pub Ids : Type 0
Ids = ℕ → Option ℕ

-- the restricted formula's clauses have the ids from 1 on
abbrev pub first_ids : List ℕ → Ids
first_ids ids zero = None
first_ids ids (suc place) = slice_get ids place

-- one more id
abbrev pub with_id : Ids → ℕ → ℕ → Ids
with_id ids id to = λ i. if id == i then Some to else ids i

-- a list of such ids, by place
abbrev pub listed : List (Option ℕ) → Ids
listed items = λ i. slice_index_or items i None

abbrev pub with_hint : Option ℕ → List ℤ → List ℤ
with_hint None hints = hints
with_hint (Some id) hints = pos id ∷ hints

-- hints by the ids of the formula's steps
abbrev pub lifted_hints : Ids → List ℤ → List ℤ
lifted_hints ids [] = []
lifted_hints ids (h ∷ hs) = with_hint (ids (unsigned_abs h)) (lifted_hints ids hs)

-- the lifted steps, of which the first one's id is one above top; block is the complements of the cube's literals
abbrev pub lifted : (ℤ → ℤ) → List ℤ → Ids → ℕ → List Step → List Step
lifted old block ids top [] = []
lifted old block ids top (Delete id gone ∷ steps) = lifted old block ids top steps
lifted old block ids top (Add id lits hints ∷ steps) =
    Add (top + 1) (map old lits ++ block) (lifted_hints ids hints)
    ∷ (if is_empty lits then [] else lifted old block (with_id ids id (top + 1)) (top + 1) steps)
