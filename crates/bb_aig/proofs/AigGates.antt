-- What a gate that is there means.
use Rattle.std.specs.Prelude.{◌≡◌, refl, ℕ, zero, suc, ◌+◌, ◌*◌, ◌/◌, ◌%◌, ◌<◌, ◌≤◌, ◌==◌, Bool, true, false, ◌&&◌}
use Rattle.std.specs.Prelude.{List, [], ◌∷◌, ◌++◌, length, slice_get, slice_index_or, Some}
use Rattle.std.proofs.Common.{ap, sym, ◌∙◌, arith, subst}
use Rattle.std.proofs.lemmas.List.{get_or_append_left, get_or_push, length_push}
use Rattle.bb_aig.specs.declared.node.AigNode.{AigNode}
use Rattle.bb_aig.specs.declared.node.AigNode.TheVariants as n
use Rattle.bb_aig.specs.Graph.{is_negated, turned, literal, value, values, values_of, lit_at, IsFitting, inputs_after}
use Rattle.bb_aig.specs.Graph.{AreFitting, Begins, IsGraph}

-- values that were there stay
pub values_begin : (x : ℕ → Bool) (vs : List Bool) (gs : List AigNode) (k : ℕ) → k < length vs
    → slice_index_or (values x vs gs) k false ≡ slice_index_or vs k false
values_begin x vs [] k h = refl
values_begin x vs (g ∷ gs) k h =
    values_begin x (vs ++ value x vs g ∷ []) gs k (omega (arith, length_push vs (value x vs g)))
    ∙ get_or_append_left vs (value x vs g ∷ []) false k h

-- node 0 is false
pub first_value : (graph : List AigNode) (x : ℕ → Bool) → Begins graph
    → slice_index_or (values_of graph x) 0 false ≡ false
first_value [] x h = absurd h
first_value (g ∷ gs) x h =
    values_begin x (value x [] g ∷ []) gs 0 (omega arith) ∙ ap (value x []) h

literal_same : (vs us : List Bool) (l : ℕ)
    → ((k : ℕ) → k < length vs → slice_index_or us k false ≡ slice_index_or vs k false) → l < 2 * length vs
    → literal us l ≡ literal vs l
literal_same vs us l same below = ap (turned (is_negated l)) (same (l / 2) (omega arith))

gate_from : (x : ℕ → Bool) (vs : List Bool) (i j : ℕ) (gs : List AigNode) (a b : ℕ) → AreFitting (length vs) i gs
    → slice_get gs j ≡ Some (n.And a b)
    → slice_index_or (values x vs gs) (length vs + j) false ≡ (literal (values x vs gs) a && literal (values x vs gs) b)
gate_from x vs i j [] a b fits e = cc
gate_from x vs i zero (n.False ∷ gs) a b fits e = cc
gate_from x vs i zero (n.Input k ∷ gs) a b fits e = cc
gate_from x vs i zero (n.And c d ∷ gs) a b fits e =
    let ca : c ≡ a = cc in
    let db : d ≡ b = cc in
    let v = literal vs c && literal vs d in
    let more = vs ++ v ∷ [] in
    let all = values x more gs in
    let same : (k : ℕ) → k < length vs → slice_index_or all k false ≡ slice_index_or vs k false =
    λ k below. values_begin x more gs k (omega (arith, length_push vs v))
    ∙ get_or_append_left vs (v ∷ []) false k below in
    let z : length vs + 0 ≡ length vs = omega arith in
    ap (λ k. slice_index_or all k false) z ∙ values_begin x more gs (length vs) (omega (arith, length_push vs v))
    ∙ get_or_push vs v false (length vs) refl
    ∙ ap (λ t. t && literal vs d) (sym (literal_same vs all c same fits.0.0))
    ∙ ap (λ t. literal all c && t) (sym (literal_same vs all d same fits.0.1))
    ∙ ap (λ l. literal all l && literal all d) ca ∙ ap (λ l. literal all a && literal all l) db
gate_from x vs i (suc j) (g ∷ gs) a b fits e =
    let more = vs ++ value x vs g ∷ [] in
    let F : ℕ → Type 0 = λ k. AreFitting k (inputs_after i g) gs in
    let z : length vs + suc j ≡ length more + j = omega (arith, length_push vs (value x vs g)) in
    ap (λ k. slice_index_or (values x more gs) k false) z
    ∙ gate_from x more (inputs_after i g) j gs a b (subst F (sym (length_push vs (value x vs g))) fits.1) e

pub gate_value : (graph : List AigNode) (k a b : ℕ) → IsGraph graph → slice_get graph k ≡ Some (n.And a b)
    → (x : ℕ → Bool) → lit_at graph x (2 * k) ≡ (lit_at graph x a && lit_at graph x b)
gate_value graph k a b g e x =
    let r : 2 * k % 2 ≡ 0 = omega arith in
    let f : 2 * k / 2 ≡ 0 + k = omega arith in
    ap (λ r. turned (r == 1) (slice_index_or (values_of graph x) (2 * k / 2) false)) r
    ∙ ap (λ j. slice_index_or (values_of graph x) j false) f
    ∙ gate_from x [] 0 k graph a b g.fitting e
