-- Between functions: The clauses of a graph: variable n is node n, and one more variable behind the nodes is the
-- verdict (rule of this project).
use Rattle.std.specs.Prelude.{
  ◌≡◌,
  ℕ,
  ◌+◌,
  ◌-◌,
  ◌*◌,
  ◌/◌,
  ◌%◌,
  ◌<◌,
  ◌≤◌,
  ◌==◌,
  if◌then◌else◌,
  Bool,
  true,
  false,
  not,
}
use Rattle.std.specs.Prelude.{
  ◌&&◌,
  List,
  [],
  ◌∷◌,
  ◌++◌,
  length,
  slice_get,
  slice_index_or,
  Some,
  ℤ,
  pos,
  negsuc,
}
use Rattle.bb_aig.specs.declared.node.AigNode.{AigNode}
use Rattle.bb_aig.specs.declared.node.AigNode.TheVariants as n
use Rattle.bb_aig.specs.Graph.{is_negated, complement, values_of, lit_at}
use Rattle.cnf_form.specs.Cnf.{Cnf, formula_true}

-- a literal of a node other than the first, as that of a variable
abbrev pub to_literal : ℕ → ℤ
to_literal lit = if lit % 2 == 1 then negsuc (lit / 2 - 1) else pos (lit / 2)

-- The clause of these literals behind those that are taken: without those that are false, and none where one is true.
abbrev pub clause_of : List ℤ → List ℕ → List (List ℤ)
clause_of taken [] = taken ∷ []
clause_of taken (l ∷ ls) =
    if l == 1 then [] else (if l == 0 then clause_of taken ls else clause_of (taken ++ to_literal l ∷ []) ls)

-- a literal is that of a and b
abbrev pub and_clauses : ℕ → ℕ → ℕ → List (List ℤ)
and_clauses l a b =
    (clause_of [] (complement l ∷ a ∷ []) ++ clause_of [] (complement l ∷ b ∷ []))
    ++ clause_of [] (l ∷ complement a ∷ complement b ∷ [])

abbrev pub node_clauses : ℕ → AigNode → List (List ℤ)
node_clauses k n.False = []
node_clauses k (n.Input i) = []
node_clauses k (n.And a b) = and_clauses (2 * k) a b

-- those of nodes from a number on
abbrev pub clauses_from : ℕ → List AigNode → List (List ℤ)
clauses_from k [] = []
clauses_from k (g ∷ gs) = node_clauses k g ++ clauses_from (k + 1) gs

-- the verdict is one more node, which is the root
abbrev pub with_verdict : List AigNode → ℕ → List AigNode
with_verdict graph root = graph ++ n.And root 1 ∷ []

abbrev pub clauses_before : List AigNode → ℕ → List (List ℤ)
clauses_before graph root = clauses_from 0 (with_verdict graph root)

-- variables have the values of the nodes and of the root, for these inputs
pub record IsModelOf (graph : List AigNode) (root : ℕ) (x v : ℕ → Bool) : Type 0 where
  pub nodes : (k : ℕ) → 1 ≤ k → k < length graph → v k ≡ slice_index_or (values_of graph x) k false
  pub verdict : v (length graph) ≡ lit_at graph x root

-- variables have these values at the nodes of the inputs
abbrev pub AreInputs : List AigNode → (ℕ → Bool) → (ℕ → Bool) → Type 0
AreInputs graph x v = (k i : ℕ) → slice_get graph k ≡ Some (n.Input i) → v k ≡ x i

-- The clauses before the last are true for exactly one choice of values for each choice of inputs, that of the nodes.
pub record Tells (graph : List AigNode) (root : ℕ) (formula : Cnf) : Type 0 where
  pub before : List (List ℤ)
  pub vars : formula.vars ≡ length graph
  pub last : formula.clauses ≡ before ++ (pos (length graph) ∷ []) ∷ []
  pub extends : (x v : ℕ → Bool) → IsModelOf graph root x v → formula_true v before ≡ true
  pub only : (x v : ℕ → Bool) → AreInputs graph x v → formula_true v before ≡ true
      → IsModelOf graph root x v
