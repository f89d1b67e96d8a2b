-- Between functions: The models of clauses and the runs of a net (rule of this project).
use Rattle.std.specs.Prelude.{◌≡◌, ◌↔◌, ℕ, ◌≤◌, Bool, true, List, [], ◌∷◌, ◌++◌, map, ℤ, pos}
use Rattle.wn_net.specs.Net.{Netlist, value_at}
use Rattle.wn_run.specs.Runs.{Choices, AreChoicesOf, cycle_at, inputs_at, start_of}
use Rattle.cnf_form.specs.Cnf.{Cnf}
use Rattle.bb_clauses.specs.Models.{AreTrue, number_in}
use Rattle.bm_unroll.specs.declared.frames.Source.{Source}
use Rattle.bm_unroll.specs.Frames.{Chooses, chosen}

-- the values of nodes in a cycle of the run with these choices
abbrev pub values_in : Netlist → ℕ → List ℕ → Choices → List ℕ
values_in net cycle ids ch = map (value_at net (cycle_at net (inputs_at net ch) (start_of net ch) cycle)) ids

-- The last clause is the verdict alone. The clauses before it have one model for the choices of each run, and no other
-- ones. In it the verdict is true exactly where the run is bad, and words of literals are what is shown of the run.
pub record ModelsAreRuns (net : Netlist) (IsBad : Choices → Type 0) (shown : Choices → List ℕ) (sources : List Source)
    (read : (ℕ → Bool) → List ℕ) (words : List (List ℕ)) (formula : Cnf) : Type 0 where
  pub before : List (List ℤ)
  pub last : formula.clauses ≡ before ++ (pos formula.vars ∷ []) ∷ []
  pub choice : (v : ℕ → Bool) → AreTrue before v → Chooses net sources (read v)
  pub complete : (ch : Choices) → AreChoicesOf net ch
      → (v : ℕ → Bool) × AreTrue before v × (read v ≡ map (chosen ch) sources)
  pub unique : (v w : ℕ → Bool) → AreTrue before v → AreTrue before w → read v ≡ read w
      → (k : ℕ) → 1 ≤ k → k ≤ formula.vars → v k ≡ w k
  pub verdict : (v : ℕ → Bool) (ch : Choices) → AreTrue before v → AreChoicesOf net ch
      → map (chosen ch) sources ≡ read v → (v formula.vars ≡ true) ↔ IsBad ch
  pub shows : (v : ℕ → Bool) (ch : Choices) → AreTrue before v → AreChoicesOf net ch
      → map (chosen ch) sources ≡ read v → map (number_in v) words ≡ shown ch
