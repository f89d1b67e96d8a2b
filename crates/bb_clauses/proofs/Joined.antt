-- The models of a graph's clauses before the last are the choices of inputs.
use Rattle.std.specs.Prelude.{◌≡◌, refl, ℕ, zero, suc, ◌+◌, ◌/◌, ◌<◌, ◌≤◌, ◌==◌}
use Rattle.std.specs.Prelude.{if◌then◌else◌, Bool, false, List, [], ◌∷◌, ◌++◌}
use Rattle.std.specs.Prelude.{length, slice_index_or, ℤ, pos}
use Rattle.std.proofs.Common.{ap, sym, ◌∙◌, arith, inl, inr}
use Rattle.std.proofs.lemmas.Bool.{cases_lt, eq-eqb, ne_eqb}
use Rattle.std.proofs.lemmas.Option.{slice_get_within}
use Rattle.bb_aig.specs.declared.node.AigNode.{AigNode}
use Rattle.bb_aig.specs.declared.node.AigNode.TheVariants as n
use Rattle.bb_aig.specs.Graph.{IsGraph, IsLit, inputs_of, is_negated, lit_at, turned, values_of}
use Rattle.bb_aig.proofs.AigGates.{first_value}
use Rattle.bb_aig.specs.Gates.{Meaning, IsMade}
use Rattle.bb_blast.specs.Choice.{InputsAreFirst}
use Rattle.cnf_form.specs.Cnf.{Cnf}
use Rattle.bb_clauses.specs.Clauses.{Tells, IsModelOf}
use Rattle.bb_clauses.specs.Models.{AreTrue, value_in}
use Rattle.bb_clauses.proofs.Inputs.{read_there, input_value}

-- what values of variables say of the inputs
abbrev pub inputs_in : (ℕ → Bool) → ℕ → Bool
inputs_in v i = v (i + 1)

-- two choices are the same on so many inputs
abbrev pub AreSame : ℕ → (ℕ → Bool) → (ℕ → Bool) → Type 0
AreSame inputs x y = (i : ℕ) → i < inputs → x i ≡ y i

-- the clauses before the last have one model for each choice, in which the verdict and the literals have their values
pub record ModelsAreChoices (inputs : ℕ) (holds : (ℕ → Bool) → Bool) (graph : List AigNode) (formula : Cnf)
    : Type 0 where
  pub before : List (List ℤ)
  pub last : formula.clauses ≡ before ++ (pos formula.vars ∷ []) ∷ []
  pub verdict : (v : ℕ → Bool) → AreTrue before v → v formula.vars ≡ holds (inputs_in v)
  pub complete : (x : ℕ → Bool) → (v : ℕ → Bool) × AreTrue before v × AreSame inputs (inputs_in v) x
  pub unique : (v w : ℕ → Bool) → AreTrue before v → AreTrue before w
      → AreSame inputs (inputs_in v) (inputs_in w)
      → (k : ℕ) → 1 ≤ k → k ≤ formula.vars → v k ≡ w k
  pub literal : (v : ℕ → Bool) → AreTrue before v → (l : ℕ) → IsLit graph l
      → value_in v l ≡ lit_at graph (inputs_in v) l

model_of : (graph : List AigNode) (root : ℕ) (formula : Cnf) → IsGraph graph → InputsAreFirst graph
    → (t : Tells graph root formula) (x v : ℕ → Bool) → AreSame (inputs_of graph) (inputs_in v) x
    → AreTrue t.before v
    → IsModelOf graph root x v
model_of graph root formula g first t x v same h = t.only x v (read_there graph x v g first same) h

-- the values of the nodes, and of the root behind them
abbrev values_with : List AigNode → ℕ → (ℕ → Bool) → ℕ → Bool
values_with graph root x k =
    if k == length graph then lit_at graph x root else slice_index_or (values_of graph x) k false

is_model_of : (graph : List AigNode) (root : ℕ) (x : ℕ → Bool)
    → IsModelOf graph root x (values_with graph root x)
is_model_of graph root x =
    let pick : Bool → ℕ → Bool =
    λ b k. if b then lit_at graph x root else slice_index_or (values_of graph x) k false in
    record {
      nodes = λ k some below. ap (λ b. pick b k) (ne_eqb k (length graph) (λ e. omega arith));
      verdict = ap (λ b. pick b (length graph)) (eq-eqb (length graph) (length graph) refl);
    }

literal_by : (graph : List AigNode) (root : ℕ) (x v : ℕ → Bool) → IsGraph graph → IsModelOf graph root x v
    → (l n : ℕ) → l / 2 ≡ n → n < length graph
    → turned (is_negated l) (if n == 0 then false else v n)
    ≡ turned (is_negated l) (slice_index_or (values_of graph x) n false)
literal_by graph root x v g m l zero e less = ap (turned (is_negated l)) (sym (first_value graph x g.begins))
literal_by graph root x v g m l (suc n) e less =
    let some : (suc n == 0) ≡ false = ne_eqb (suc n) 0 (λ z. omega (arith, z)) in
    ap (λ b. turned (is_negated l) (if b then false else v (suc n))) some
    ∙ ap (turned (is_negated l)) (m.nodes (suc n) (omega arith) less)

literal_value : (graph : List AigNode) (root : ℕ) (x v : ℕ → Bool) → IsGraph graph → IsModelOf graph root x v
    → (l : ℕ) → IsLit graph l → value_in v l ≡ lit_at graph x l
literal_value graph root x v g m l there = literal_by graph root x v g m l (l / 2) refl (omega arith)

pub joined : (graph : List AigNode) (root inputs : ℕ) (holds : Meaning) (formula : Cnf) → IsGraph graph
    → InputsAreFirst graph → inputs_of graph ≡ inputs → IsMade graph holds root → Tells graph root formula
    → ModelsAreChoices inputs holds graph formula
joined graph root inputs holds formula g first count made t = record {
  before = t.before;
  last = t.last ∙ ap (λ n. t.before ++ (pos n ∷ []) ∷ []) (sym t.vars);
  verdict = λ v h.
      let m = model_of graph root formula g first t (inputs_in v) v (λ i below. refl) h in
      ap v t.vars ∙ m.verdict ∙ made.value (inputs_in v);
  complete = λ x.
      let v = values_with graph root x in
      let m = is_model_of graph root x in
      let same : AreSame inputs (inputs_in v) x = λ i below.
      let less : i < inputs_of graph = omega arith in
      m.nodes (i + 1) (omega arith) (slice_get_within graph (i + 1) (n.Input i) (first.nodes i less))
      ∙ input_value graph x first i less in
      (v, t.extends x v m, same);
  unique = λ v w h k same j some below.
      let x = inputs_in v in
      let one = model_of graph root formula g first t x v (λ i less. refl) h in
      let two = model_of graph root formula g first t x w (λ i less. sym (same i (omega arith))) k in
      elim (cases_lt j (length graph)) [
        | inl lt ↦ one.nodes j some lt ∙ sym (two.nodes j some lt)
        | inr ge ↦
            let is : j ≡ length graph = omega (arith, t.vars) in
            ap v is ∙ one.verdict ∙ sym two.verdict ∙ ap w (sym is)
      ];
  literal = λ v h l there.
      literal_value graph root (inputs_in v) v g
      (model_of graph root formula g first t (inputs_in v) v (λ i below. refl) h) l there;
}
