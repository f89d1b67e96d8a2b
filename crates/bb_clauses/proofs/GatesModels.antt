-- The models of a graph's clauses are the values of its nodes.
use Rattle.std.specs.Prelude.{◌≡◌, refl, ℕ, zero, suc, ◌+◌, ◌-◌, ◌*◌, ◌/◌, ◌%◌, ◌<◌, ◌≤◌, ◌==◌, Bool, true, false}
use Rattle.std.specs.Prelude.{not, ◌&&◌, ◌||◌, List, [], ◌∷◌, ◌++◌, length, slice_get, slice_index_or, Some, pos}
use Rattle.std.proofs.Common.{ap, sym, ◌∙◌, arith, subst, inl, inr, ◌⊎◌}
use Rattle.std.proofs.lemmas.List.{get_or_append_left, get_or_push, length_push}
use Rattle.std.proofs.lemmas.List.Folds.{list_all-append}
use Rattle.std.proofs.lemmas.Bool.{cases_lt, and_parts, and_from}
use Rattle.bb_aig.specs.declared.node.AigNode.{AigNode}
use Rattle.bb_aig.specs.declared.node.AigNode.TheVariants as n
use Rattle.bb_aig.specs.Graph.{is_negated, turned, literal, value, values, values_of, lit_at, IsLit, IsFitting}
use Rattle.bb_aig.specs.Graph.{inputs_after, AreFitting, Begins, IsGraph, count_inputs}
use Rattle.cnf_form.specs.Cnf.{Cnf, clause_true, formula_true}
use Rattle.bb_clauses.specs.Clauses.{node_clauses, clauses_from, with_verdict, clauses_before, IsModelOf, AreInputs}
use Rattle.bb_clauses.specs.Clauses.{Tells}
use Rattle.bb_aig.proofs.AigGates.{values_begin, first_value}
use Rattle.bb_aig.proofs.Values.{values-append, length-values, length-values_of, fitting_push, some_nodes}
use Rattle.bb_clauses.proofs.ClauseLaws.{at, at_some, lit_true, agree, and_law}

-- the values of nodes are those of the variables
abbrev pub Same : (ℕ → Bool) → List Bool → Type 0
Same v vs = (k : ℕ) → k < length vs → slice_index_or vs k false ≡ at v k

same_literal : (v : ℕ → Bool) (vs : List Bool) → Same v vs → (l : ℕ) → l < 2 * length vs → literal vs l ≡ lit_true v l
same_literal v vs h l below = ap (turned (is_negated l)) (h (l / 2) (omega arith))

same_push : (v : ℕ → Bool) (vs : List Bool) (b : Bool) → Same v vs → at v (length vs) ≡ b → Same v (vs ++ b ∷ [])
same_push v vs b h e k below = elim (cases_lt k (length vs)) [
  | inl lt ↦ get_or_append_left vs (b ∷ []) false k lt ∙ h k lt
  | inr ge ↦
      let is : length vs ≡ k = omega (arith, length_push vs b) in
      get_or_push vs b false k is ∙ sym e ∙ ap (at v) is
]

same_front : (v : ℕ → Bool) (vs : List Bool) (b : Bool) → Same v (vs ++ b ∷ []) → Same v vs
same_front v vs b h k below = sym (get_or_append_left vs (b ∷ []) false k below) ∙ h k (omega (arith, length_push vs b))

same_last : (v : ℕ → Bool) (vs : List Bool) (b : Bool) → Same v (vs ++ b ∷ []) → at v (length vs) ≡ b
same_last v vs b h = sym (h (length vs) (omega (arith, length_push vs b))) ∙ get_or_push vs b false (length vs) refl

same_begin : (v x : ℕ → Bool) (vs : List Bool) (gs : List AigNode) → Same v (values x vs gs) → Same v vs
same_begin v x vs gs h k below =
    sym (values_begin x vs gs k below) ∙ h k (omega (arith, length-values x vs gs))

lit_true_even : (v : ℕ → Bool) (k : ℕ) → lit_true v (2 * k) ≡ at v k
lit_true_even v k =
    let r : 2 * k % 2 ≡ 0 = omega arith in
    let e : 2 * k / 2 ≡ k = omega arith in
    ap (λ r. turned (r == 1) (at v (2 * k / 2))) r ∙ ap (at v) e

-- inputs have their values from a node on
abbrev pub AgreesAt : (ℕ → Bool) → (ℕ → Bool) → ℕ → AigNode → Type 0
AgreesAt x v k n.False = Unit {0}
AgreesAt x v k (n.Input i) = at v k ≡ x i
AgreesAt x v k (n.And a b) = Unit {0}

abbrev pub AgreesFrom : (ℕ → Bool) → (ℕ → Bool) → ℕ → List AigNode → Type 0
AgreesFrom x v k [] = Unit {0}
AgreesFrom x v k (g ∷ gs) = AgreesAt x v k g × AgreesFrom x v (k + 1) gs

agree_same : (a b : Bool) → agree a b ≡ true → a ≡ b
agree_same true b h = sym h
agree_same false true h = h
agree_same false false h = refl

same_agree : (a b : Bool) → a ≡ b → agree a b ≡ true
same_agree true true h = refl
same_agree true false h = sym h
same_agree false true h = h
same_agree false false h = refl

node_only : (x v : ℕ → Bool) (vs : List Bool) (g : AigNode) (i : ℕ) → IsFitting (length vs) i g → Same v vs
    → AgreesAt x v (length vs) g → formula_true v (node_clauses (length vs) g) ≡ true → at v (length vs) ≡ value x vs g
node_only x v vs n.False i fits h a t = ap (at v) fits
node_only x v vs (n.Input j) i fits h a t = a
node_only x v vs (n.And l r) i fits h a t =
    sym (lit_true_even v (length vs))
    ∙ agree_same _ _ (sym (and_law v (2 * length vs) l r) ∙ t)
    ∙ ap (λ b. b && lit_true v r) (sym (same_literal v vs h l fits.0))
    ∙ ap (λ b. literal vs l && b) (sym (same_literal v vs h r fits.1))

node_extends : (x v : ℕ → Bool) (vs : List Bool) (g : AigNode) (i : ℕ) → IsFitting (length vs) i g → Same v vs
    → at v (length vs) ≡ value x vs g → formula_true v (node_clauses (length vs) g) ≡ true
node_extends x v vs n.False i fits h e = refl
node_extends x v vs (n.Input j) i fits h e = refl
node_extends x v vs (n.And l r) i fits h e =
    and_law v (2 * length vs) l r
    ∙ same_agree _ _ (lit_true_even v (length vs) ∙ e
    ∙ ap (λ b. b && literal vs r) (same_literal v vs h l fits.0)
    ∙ ap (λ b. lit_true v l && b) (same_literal v vs h r fits.1))

values_only : (x v : ℕ → Bool) (vs : List Bool) (gs : List AigNode) (i : ℕ) → AreFitting (length vs) i gs → Same v vs
    → AgreesFrom x v (length vs) gs → formula_true v (clauses_from (length vs) gs) ≡ true → Same v (values x vs gs)
values_only x v vs [] i fits h a t = h
values_only x v vs (g ∷ gs) i fits h a t =
    let k = length vs in
    let both = and_parts _ _ (sym (list_all-append (clause_true v) (node_clauses k g) (clauses_from (k + 1) gs)) ∙ t) in
    let more = vs ++ value x vs g ∷ [] in
    let e : k + 1 ≡ length more = sym (length_push vs (value x vs g)) in
    let F : ℕ → Type 0 = λ m. AreFitting m (inputs_after i g) gs in
    let A : ℕ → Type 0 = λ m. AgreesFrom x v m gs in
    let T : ℕ → Type 0 = λ m. formula_true v (clauses_from m gs) ≡ true in
    values_only x v more gs (inputs_after i g) (subst F e fits.1)
    (same_push v vs (value x vs g) h (node_only x v vs g i fits.0 h a.0 both.0)) (subst A e a.1) (subst T e both.1)

values_extend : (x v : ℕ → Bool) (vs : List Bool) (gs : List AigNode) (i : ℕ) → AreFitting (length vs) i gs
    → Same v (values x vs gs) → formula_true v (clauses_from (length vs) gs) ≡ true
values_extend x v vs [] i fits h = refl
values_extend x v vs (g ∷ gs) i fits h =
    let k = length vs in
    let more = vs ++ value x vs g ∷ [] in
    let e : length more ≡ k + 1 = length_push vs (value x vs g) in
    let F : ℕ → Type 0 = λ m. AreFitting m (inputs_after i g) gs in
    let T : ℕ → Type 0 = λ m. formula_true v (clauses_from m gs) ≡ true in
    let here : Same v more = same_begin v x more gs h in
    list_all-append (clause_true v) (node_clauses k g) (clauses_from (k + 1) gs)
    ∙ and_from _ _ (node_extends x v vs g i fits.0 (same_front v vs (value x vs g) here)
    (same_last v vs (value x vs g) here))
    (subst T e (values_extend x v more gs (inputs_after i g) (subst F (sym e) fits.1) h))

-- the verdict is the root
abbrev after : List AigNode → ℕ → (ℕ → Bool) → List Bool
after graph root x = values_of graph x ++ (lit_at graph x root && literal (values_of graph x) 1) ∷ []

verdict_value : (graph : List AigNode) (root : ℕ) (x : ℕ → Bool) → Begins graph
    → (lit_at graph x root && literal (values_of graph x) 1) ≡ lit_at graph x root
verdict_value graph root x h =
    ap (λ b. lit_at graph x root && not b) (first_value graph x h) ∙ and_true (lit_at graph x root)
  where
    and_true : (b : Bool) → (b && true) ≡ b
    and_true true = refl
    and_true false = refl

model_same : (graph : List AigNode) (root : ℕ) (x v : ℕ → Bool) → IsGraph graph → IsModelOf graph root x v
    → Same v (after graph root x)
model_same graph root x v g h =
    same_push v (values_of graph x) (lit_at graph x root && literal (values_of graph x) 1) each last
  where
    each : Same v (values_of graph x)
    each zero below = first_value graph x g.begins
    each (suc k) below = sym (h.nodes (suc k) (omega arith) (omega (arith, length-values_of graph x)))

    place : length (values_of graph x) ≡ length graph
    place = length-values_of graph x

    some : (k : ℕ) → 1 ≤ k → at v k ≡ v k
    some zero b = absurd (omega arith)
    some (suc k) b = refl

    last : at v (length (values_of graph x)) ≡ (lit_at graph x root && literal (values_of graph x) 1)
    last = ap (at v) place ∙ some (length graph) (some_nodes graph g) ∙ h.verdict
        ∙ sym (verdict_value graph root x g.begins)

same_model : (graph : List AigNode) (root : ℕ) (x v : ℕ → Bool) → IsGraph graph → Same v (after graph root x)
    → IsModelOf graph root x v
same_model graph root x v g h =
    let vs = values_of graph x in
    let b = lit_at graph x root && literal vs 1 in
    let place : length vs ≡ length graph = length-values_of graph x in
    record {
      nodes = λ k some below.
          sym (at_some v k some) ∙ sym (same_front v vs b h k (omega (arith, place)));
      verdict = sym (at_some v (length graph) (some_nodes graph g)) ∙ ap (at v) (sym place) ∙ same_last v vs b h
          ∙ verdict_value graph root x g.begins;
    }

agrees_from : (x v : ℕ → Bool) (k : ℕ) (gs : List AigNode) → 1 ≤ k
    → ((m i : ℕ) → slice_get gs m ≡ Some (n.Input i) → v (k + m) ≡ x i)
    → AgreesFrom x v k gs
agrees_from x v k [] some h = tt
agrees_from x v k (g ∷ gs) some h = (here g (λ i e. h 0 i e), agrees_from x v (k + 1) gs (omega arith) next)
  where
    here : (g : AigNode) → ((i : ℕ) → Some g ≡ Some (n.Input i) → v (k + 0) ≡ x i) → AgreesAt x v k g
    here n.False h = tt
    here (n.Input i) h = let e : k ≡ k + 0 = omega arith in at_some v k some ∙ ap v e ∙ h i refl
    here (n.And a b) h = tt

    next : (m i : ℕ) → slice_get gs m ≡ Some (n.Input i) → v (k + 1 + m) ≡ x i
    next m i e = let f : k + 1 + m ≡ k + suc m = omega arith in ap v f ∙ h (suc m) i e

agrees_push : (x v : ℕ → Bool) (k a b : ℕ) (gs : List AigNode) → AgreesFrom x v k gs
    → AgreesFrom x v k (gs ++ n.And a b ∷ [])
agrees_push x v k a b [] h = (tt, tt)
agrees_push x v k a b (g ∷ gs) h = (h.0, agrees_push x v (k + 1) a b gs h.1)

agrees_graph : (x v : ℕ → Bool) (graph : List AigNode) → Begins graph → AreInputs graph x v → AgreesFrom x v 0 graph
agrees_graph x v [] g h = absurd g
agrees_graph x v (a ∷ gs) g h =
    let P : AigNode → Type 0 = λ y. AgreesAt x v 0 y in (
      subst P (sym g) tt,
      agrees_from x v 1 gs (omega arith)
          (λ m i e. let f : 1 + m ≡ suc m = omega arith in ap v f ∙ h (suc m) i e),
    )

pub tells : (graph : List AigNode) (root : ℕ) (formula : Cnf) → IsGraph graph → IsLit graph root
    → formula.vars ≡ length graph
    → formula.clauses ≡ clauses_before graph root ++ (pos (length graph) ∷ []) ∷ [] → Tells graph root formula
tells graph root formula g r vars clauses =
    let gate = n.And root 1 in
    let whole = with_verdict graph root in
    let F : ℕ → Type 0 = λ k. IsFitting k (count_inputs 0 graph) gate in
    let z : length graph ≡ 0 + length graph = omega arith in
    let fits : AreFitting 0 0 whole = fitting_push 0 0 graph gate g.fitting
    (subst F z (r, omega (arith, some_nodes graph g))) in
    record {
      before = clauses_before graph root;
      vars = vars;
      last = clauses;
      extends = λ x v h.
          let P : List Bool → Type 0 = λ vs. Same v vs in
          values_extend x v [] whole 0 fits (subst P (sym (values-append x [] graph (gate ∷ [])))
          (model_same graph root x v g h));
      only = λ x v inputs t.
          let P : List Bool → Type 0 = λ vs. Same v vs in
          let none : Same v [] = λ k below. absurd (omega arith) in
          same_model graph root x v g (subst P (values-append x [] graph (gate ∷ []))
          (values_only x v [] whole 0 fits none (agrees_push x v 0 root 1 graph
          (agrees_graph x v graph g.begins inputs)) t));
    }
