-- Meaning: The models of clauses, read at the places of sources (rule of this project).
use Rattle.std.specs.Prelude.{◌≡◌, ℕ, ◌+◌, ◌/◌, ◌<◌, ◌≤◌, ◌^◌, ◌==◌, if◌then◌else◌, Bool, true, false}
use Rattle.std.specs.Prelude.{List, [], ◌∷◌, ◌++◌, map, ℤ, pos}
use Rattle.cnf_form.specs.Cnf.{Cnf, formula_true}
use Rattle.bb_aig.specs.Graph.{is_negated, turned}
use Rattle.bb_aig.specs.Bits.{number}
use Rattle.bb_blast.specs.declared.places.Placed.{Placed}

-- values make each clause true
abbrev pub AreTrue : List (List ℤ) → (ℕ → Bool) → Type 0
AreTrue clauses v = formula_true v clauses ≡ true

-- the value of a graph's literal: variable n is node n, and node 0 is false
abbrev pub value_in : (ℕ → Bool) → ℕ → Bool
value_in v lit = turned (is_negated lit) (if lit / 2 == 0 then false else v (lit / 2))

-- the number that literals are the bits of, the lowest first
abbrev pub number_in : (ℕ → Bool) → List ℕ → ℕ
number_in v lits = number (map (value_in v) lits)

-- the bits of a source, the lowest first: the values of the variables at its places
abbrev pub bits_at : (ℕ → Bool) → ℕ → List Placed → List Bool
bits_at v source [] = []
bits_at v source (p ∷ ps) = if p.source == source then v p.node ∷ bits_at v source ps else bits_at v source ps

-- the numbers of the sources from one on, a source for each width
abbrev pub numbers_at : (ℕ → Bool) → List Placed → ℕ → List ℕ → List ℕ
numbers_at v places source [] = []
numbers_at v places source (w ∷ ws) = number (bits_at v source places) ∷ numbers_at v places (source + 1) ws

abbrev pub read_at : List Placed → List ℕ → (ℕ → Bool) → List ℕ
read_at places widths v = numbers_at v places 0 widths

-- a number for each source, of at most its width
abbrev pub AreOfWidths : List ℕ → List ℕ → Type 0
AreOfWidths [] [] = Unit {0}
AreOfWidths (w ∷ ws) (n ∷ ns) = (n < 2 ^ w) × AreOfWidths ws ns
AreOfWidths ws ns = ⊥

-- The last clause is the verdict alone. The clauses before it have one model for each list of numbers, and no other
-- ones; in it the verdict is true exactly where the numbers hold, and words of literals are what is shown of them.
pub record ModelsAreNumbers (widths : List ℕ) (read : (ℕ → Bool) → List ℕ) (holds : List ℕ → Bool)
    (shown : List ℕ → List ℕ) (words : List (List ℕ)) (formula : Cnf) : Type 0 where
  pub before : List (List ℤ)
  pub last : formula.clauses ≡ before ++ (pos formula.vars ∷ []) ∷ []
  pub verdict : (v : ℕ → Bool) → AreTrue before v → v formula.vars ≡ holds (read v)
  pub complete : (numbers : List ℕ) → AreOfWidths widths numbers
      → (v : ℕ → Bool) × AreTrue before v × (read v ≡ numbers)
  pub unique : (v w : ℕ → Bool) → AreTrue before v → AreTrue before w → read v ≡ read w
      → (k : ℕ) → 1 ≤ k → k ≤ formula.vars → v k ≡ w k
  pub shows : (v : ℕ → Bool) → AreTrue before v → map (number_in v) words ≡ shown (read v)
