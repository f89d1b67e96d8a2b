-- Meaning: The clauses of a graph that a text in the ASCII format AIGER says (Biere, 2007), as a text in DIMACS.
-- Variable k + 1 is input k, and the last variable is the output: rules of this project.
use Rattle.std.specs.Prelude.{◌≡◌, ℕ, ◌+◌, ◌<◌, ◌≤◌, Bool, List, [], ◌∷◌, ◌++◌, length, ℤ, pos}
use Rattle.aiger_text.specs.Profile.{IsOutput}
use Rattle.aiger_text.specs.Said.{Said}
use Rattle.bb_aig.specs.declared.node.AigNode.{AigNode}
use Rattle.bb_aig.specs.Graph.{IsGraph, inputs_of}
use Rattle.bb_clauses.specs.Clauses.{Tells}
use Rattle.bb_clauses.specs.Models.{AreTrue}
use Rattle.cnf_form.specs.Cnf.{Cnf}
use Rattle.cnf_text.specs.Dimacs.{ReadsBack, dimacs_text}
use Rattle.lrat_texts.specs.Formulas.{SaysFormula}
use Rattle.rvf_graph.specs.declared.clauses.GraphClauses.{GraphClauses}

-- the values of the inputs, by those of the variables
abbrev pub inputs_in : (ℕ → Bool) → ℕ → Bool
inputs_in v k = v (k + 1)

-- so many inputs have the same values
abbrev pub AreSame : ℕ → (ℕ → Bool) → (ℕ → Bool) → Type 0
AreSame inputs x y = (k : ℕ) → k < inputs → x k ≡ y k

-- The last clause is the last variable alone. The clauses before it have exactly one model for each list of values of
-- the inputs. In it the last variable is true exactly where the output is.
pub record AreClausesOf (said : Said) (formula : Cnf) : Type 0 where
  pub vars : formula.vars ≡ length said.inputs + length said.gates + 1
  pub before : List (List ℤ)
  pub last : formula.clauses ≡ before ++ (pos formula.vars ∷ []) ∷ []
  pub complete : (x : ℕ → Bool) → (v : ℕ → Bool) × AreTrue before v × AreSame (length said.inputs) (inputs_in v) x
  pub unique : (v w : ℕ → Bool) → AreTrue before v → AreTrue before w
      → AreSame (length said.inputs) (inputs_in v) (inputs_in w)
      → (k : ℕ) → 1 ≤ k → k ≤ formula.vars → v k ≡ w k
  pub output : (v : ℕ → Bool) → AreTrue before v → IsOutput said (inputs_in v) (v formula.vars)

-- the text is that of such clauses, without a comment; within the limits of the format whoever reads it finds these
-- clauses there
pub record IsClauseText (said : Said) (text : List ℕ) : Type 0 where
  pub formula : Cnf
  pub clauses : AreClausesOf said formula
  pub text_is : text ≡ dimacs_text [] formula
  pub read_back : formula.vars ≤ 100000000 → length formula.clauses ≤ 100000000 → SaysFormula text formula

-- the numbers of inputs and gates, and the clauses
pub record AreMade (said : Said) (made : GraphClauses) : Type 0 where
  pub inputs : made.inputs ≡ length said.inputs
  pub gates : made.gates ≡ length said.gates
  pub clauses : IsClauseText said made.clauses

-- ---- between the functions

-- the same, said of a graph with a root
pub record IsEncoded (graph : List AigNode) (root : ℕ) (made : GraphClauses) : Type 0 where
  pub whole : IsGraph graph
  pub inputs : made.inputs ≡ inputs_of graph
  pub gates : 1 + made.inputs + made.gates ≡ length graph
  pub formula : Cnf
  pub tells : Tells graph root formula
  pub text_is : made.clauses ≡ dimacs_text [] formula
  pub read_back : ReadsBack [] formula made.clauses
