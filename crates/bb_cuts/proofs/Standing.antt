-- Variables that have the values of their nodes: one more of them.
use Rattle.std.specs.Prelude.{◌≡◌, refl, ℕ, zero, suc, ◌+◌, ◌<◌, ◌≤◌, Bool}
use Rattle.std.specs.Prelude.{List, [], ◌∷◌, ◌++◌, length, slice_index_or, ℤ}
use Rattle.std.proofs.Common.{ap, sym, ◌∙◌, arith, subst, inl, inr}
use Rattle.std.proofs.lemmas.List.{get_or_append_left, get_or_push, length_push}
use Rattle.std.proofs.lemmas.List.Folds.{list_all-append}
use Rattle.std.proofs.lemmas.Bool.{cases_lt, and_parts, and_from}
use Rattle.cnf_form.specs.Cnf.{clause_true, formula_true}
use Rattle.bb_aig.specs.declared.node.AigNode.{AigNode}
use Rattle.bb_aig.specs.Graph.{IsGraph, inputs_of}
use Rattle.bb_aig.proofs.AigGates.{first_value}
use Rattle.bb_blast.specs.Choice.{InputsAreFirst}
use Rattle.bb_clauses.proofs.ClauseLaws.{agree}
use Rattle.bb_clauses.proofs.Inputs.{input_value}
use Rattle.bb_cuts.specs.declared.leaves.Leaves.{Leaves}
use Rattle.bb_cuts.specs.declared.cube.Cube.{Cube}
use Rattle.bb_cuts.specs.Rows.{row, row_of, has_row}
use Rattle.bb_cuts.specs.Covers.{both_clauses, IsCover}
use Rattle.bb_cuts.specs.Variables.{node_at, var_at, Stand, AreRead, AreTold, IsNamed, AreNamed, IsTable}
use Rattle.bb_cuts.proofs.CoverLaws.{var_some, both_law, agree_same, same_agree}

pub named_value : (graph : List AigNode) (x v : ℕ → Bool) (nodes : List ℕ) (k node : ℕ) → Stand graph x nodes v
    → IsNamed nodes k node → var_at v k ≡ node_at graph x node
named_value graph x v nodes k node h named = h k named.0 ∙ ap (node_at graph x) named.1

row_same : (graph : List AigNode) (x v : ℕ → Bool) (nodes : List ℕ) (vars leaves : Leaves) → Stand graph x nodes v
    → AreNamed nodes vars leaves → row_of (var_at v) vars ≡ row_of (node_at graph x) leaves
row_same graph x v nodes vars leaves h named =
    let f = var_at v in
    let g = node_at graph x in
    ap (λ a. row a (f vars.second) (f vars.third) (f vars.fourth))
    (named_value graph x v nodes vars.first leaves.first h named.first)
    ∙ ap (λ b. row (g leaves.first) b (f vars.third) (f vars.fourth))
    (named_value graph x v nodes vars.second leaves.second h named.second)
    ∙ ap (λ c. row (g leaves.first) (g leaves.second) c (f vars.fourth))
    (named_value graph x v nodes vars.third leaves.third h named.third)
    ∙ ap (λ d. row (g leaves.first) (g leaves.second) (g leaves.third) d)
    (named_value graph x v nodes vars.fourth leaves.fourth h named.fourth)

-- the clauses of a cell say that its variable has the value of its node
cell_law : (graph : List AigNode) (nodes : List ℕ) (vars leaves : Leaves) (var node table : ℕ) (on off : List Cube)
    → AreNamed nodes vars leaves → IsTable graph leaves node table
    → ((value : ℕ → Bool) (ls : Leaves) → IsCover value ls on off table)
    → (x v : ℕ → Bool) → Stand graph x nodes v
    → formula_true v (both_clauses vars var on off) ≡ agree (var_at v var) (node_at graph x node)
cell_law graph nodes vars leaves var node table on off named is cover x v h =
    both_law v vars var on off table (cover (var_at v) vars)
    ∙ ap (λ r. agree (var_at v var) (has_row table r)) (row_same graph x v nodes vars leaves h named)
    ∙ ap (agree (var_at v var)) (is x)

stand_push : (graph : List AigNode) (x v : ℕ → Bool) (nodes : List ℕ) (node : ℕ) → Stand graph x nodes v
    → var_at v (length nodes) ≡ node_at graph x node → Stand graph x (nodes ++ node ∷ []) v
stand_push graph x v nodes node h e k below = elim (cases_lt k (length nodes)) [
  | inl lt ↦ h k lt ∙ ap (node_at graph x) (sym (get_or_append_left nodes (node ∷ []) 0 k lt))
  | inr ge ↦
      let is : length nodes ≡ k = omega (arith, length_push nodes node) in
      ap (var_at v) (sym is) ∙ e ∙ ap (node_at graph x) (sym (get_or_push nodes node 0 k is))
]

stand_front : (graph : List AigNode) (x v : ℕ → Bool) (nodes : List ℕ) (node : ℕ)
    → Stand graph x (nodes ++ node ∷ []) v → Stand graph x nodes v
stand_front graph x v nodes node h k below =
    h k (omega (arith, length_push nodes node))
    ∙ ap (node_at graph x) (get_or_append_left nodes (node ∷ []) 0 k below)

stand_last : (graph : List AigNode) (x v : ℕ → Bool) (nodes : List ℕ) (node : ℕ)
    → Stand graph x (nodes ++ node ∷ []) v → var_at v (length nodes) ≡ node_at graph x node
stand_last graph x v nodes node h =
    h (length nodes) (omega (arith, length_push nodes node))
    ∙ ap (node_at graph x) (get_or_push nodes node 0 (length nodes) refl)

told_push : (graph : List AigNode) (nodes : List ℕ) (node : ℕ) (clauses more : List (List ℤ))
    → AreTold graph nodes clauses
    → ((x v : ℕ → Bool) → Stand graph x nodes v
    → formula_true v more ≡ agree (var_at v (length nodes)) (node_at graph x node))
    → AreTold graph (nodes ++ node ∷ []) (clauses ++ more)
told_push graph nodes node clauses more told law = record {
  some = omega (arith, told.some, length_push nodes node);
  first = get_or_append_left nodes (node ∷ []) 0 0 (omega (arith, told.some)) ∙ told.first;
  inputs = λ i below.
      let h = told.inputs i below in (
        omega (arith, h.0, length_push nodes node),
        get_or_append_left nodes (node ∷ []) 0 (i + 1) h.0 ∙ h.1,
      );
  extends = λ x v h.
      let front = stand_front graph x v nodes node h in
      list_all-append (clause_true v) clauses more
      ∙ and_from _ _ (told.extends x v front) (law x v front
      ∙ same_agree _ _ (stand_last graph x v nodes node h));
  only = λ x v read t.
      let both = and_parts _ _ (sym (list_all-append (clause_true v) clauses more) ∙ t) in
      let front = told.only x v read both.0 in
      stand_push graph x v nodes node front (agree_same _ _ (sym (law x v front) ∙ both.1));
}

-- one more variable, with the clauses of its cell
pub told_next : (graph : List AigNode) (nodes next : List ℕ) (clauses after : List (List ℤ)) (vars leaves : Leaves)
    (var node table : ℕ) (on off : List Cube)
    → AreNamed nodes vars leaves → IsTable graph leaves node table
    → ((value : ℕ → Bool) (ls : Leaves) → IsCover value ls on off table) → var ≡ length nodes
    → next ≡ nodes ++ node ∷ [] → after ≡ clauses ++ both_clauses vars var on off
    → AreTold graph nodes clauses → AreTold graph next after
told_next graph nodes next clauses after vars leaves var node table on off named is cover place n a told =
    let more = both_clauses vars var on off in
    let law : (x v : ℕ → Bool) → Stand graph x nodes v
    → formula_true v more ≡ agree (var_at v (length nodes)) (node_at graph x node) =
    λ x v h. cell_law graph nodes vars leaves var node table on off named is cover x v h
    ∙ ap (λ k. agree (var_at v k) (node_at graph x node)) place in
    let N : List ℕ → Type 0 = λ ns. AreTold graph ns (clauses ++ more) in
    let C : List (List ℤ) → Type 0 = λ cs. AreTold graph next cs in
    subst C (sym a) (subst N (sym n) (told_push graph nodes node clauses more told law))

first_stand : (graph : List AigNode) (x v : ℕ → Bool) (nodes : List ℕ) → IsGraph graph → InputsAreFirst graph
    → ((k : ℕ) → k ≤ inputs_of graph → slice_index_or nodes k 0 ≡ k) → AreRead graph x v
    → (k : ℕ) → k ≤ inputs_of graph → var_at v k ≡ node_at graph x (slice_index_or nodes k 0)
first_stand graph x v nodes g first each read zero below =
    sym (first_value graph x g.begins) ∙ ap (node_at graph x) (sym (each 0 below))
first_stand graph x v nodes g first each read (suc i) below =
    let e : suc i ≡ i + 1 = omega arith in
    let within : i < inputs_of graph = omega (arith, below) in
    var_some v (suc i) (omega arith) ∙ ap v e ∙ read i within ∙ sym (input_value graph x first i within)
    ∙ ap (node_at graph x) (sym e ∙ sym (each (suc i) below))

-- the variables of the inputs, with no clause
pub told_first : (graph : List AigNode) (nodes : List ℕ) (clauses : List (List ℤ)) (inputs : ℕ) → IsGraph graph
    → InputsAreFirst graph → inputs ≡ inputs_of graph → length nodes ≡ inputs + 1
    → ((k : ℕ) → k ≤ inputs → slice_index_or nodes k 0 ≡ k) → clauses ≡ [] → AreTold graph nodes clauses
told_first graph nodes clauses inputs g first is count each none =
    let made : AreTold graph nodes [] = record {
      some = omega (arith, count);
      first = each 0 (omega arith);
      inputs = λ i below. (omega (arith, count, is), each (i + 1) (omega (arith, is)));
      extends = λ x v h. refl;
      only = λ x v read t k below.
          first_stand graph x v nodes g first (λ j within. each j (omega (arith, is, within))) read k
          (omega (arith, count, is, below));
    } in
    let C : List (List ℤ) → Type 0 = λ cs. AreTold graph nodes cs in
    subst C (sym none) made

-- nodes numbered from 0 on, one more of them
pub numbered_next : (nodes next : List ℕ) (i : ℕ) → length nodes ≡ i
    → ((k : ℕ) → k < i → slice_index_or nodes k 0 ≡ k) → next ≡ nodes ++ i ∷ []
    → (k : ℕ) → k < i + 1 → slice_index_or next k 0 ≡ k
numbered_next nodes next i count each e k below = elim (cases_lt k i) [
  | inl lt ↦
      ap (λ ns. slice_index_or ns k 0) e ∙ get_or_append_left nodes (i ∷ []) 0 k (omega (arith, count, lt)) ∙ each k lt
  | inr ge ↦
      let is : i ≡ k = omega (arith, below, ge) in
      ap (λ ns. slice_index_or ns k 0) e ∙ get_or_push nodes i 0 k (count ∙ is) ∙ is
]
