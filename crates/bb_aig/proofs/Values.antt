-- The values of more nodes.
use Rattle.std.specs.Prelude.{◌≡◌, refl, ℕ, zero, suc, ◌+◌, ◌-◌, ◌*◌, ◌/◌, ◌%◌, ◌<◌, ◌≤◌, ◌^◌, ◌==◌, Bool, true, false}
use Rattle.std.specs.Prelude.{◌&&◌, List, [], ◌∷◌, ◌++◌, length, slice_index_or, slice_set, take, drop}
use Rattle.std.specs.Prelude.{slice_get, Some}
use Rattle.std.proofs.Common.{ap, sym, ◌∙◌, arith, subst}
use Rattle.std.proofs.lemmas.List.{get_or_append_left, get_or_push, length_push, take_more_set, drop_more, take_all}
use Rattle.bb_aig.specs.declared.node.AigNode.{AigNode}
use Rattle.bb_aig.specs.declared.node.AigNode.TheVariants as n
use Rattle.bb_aig.specs.Graph.{is_negated, turned, literal, value, values, values_of, lit_at, IsLit, IsFitting}
use Rattle.bb_aig.specs.Graph.{inputs_after, AreFitting, Begins, IsGraph, count_inputs, inputs_of, Adds, IsKept}

pub values-append : (x : ℕ → Bool) (vs : List Bool) (gs hs : List AigNode)
    → values x vs (gs ++ hs) ≡ values x (values x vs gs) hs
values-append x vs [] hs = refl
values-append x vs (g ∷ gs) hs = values-append x (vs ++ value x vs g ∷ []) gs hs

pub length-values : (x : ℕ → Bool) (vs : List Bool) (gs : List AigNode)
    → length (values x vs gs) ≡ length vs + length gs
length-values x vs [] = omega arith
length-values x vs (g ∷ gs) = omega (arith, length-values x (vs ++ value x vs g ∷ []) gs, length_push vs (value x vs g))

pub length-values_of : (graph : List AigNode) (x : ℕ → Bool) → length (values_of graph x) ≡ length graph
length-values_of graph x = omega (arith, length-values x [] graph)

two_rem : (k : ℕ) → 2 * k % 2 ≡ 0
two_rem k = omega arith

two_half : (k : ℕ) → 2 * k / 2 ≡ k
two_half k = omega arith

-- a literal among the first values, and that of the last one
pub literal_before : (vs : List Bool) (v : Bool) (l : ℕ) → l < 2 * length vs → literal (vs ++ v ∷ []) l ≡ literal vs l
literal_before vs v l h = ap (turned (is_negated l)) (get_or_append_left vs (v ∷ []) false (l / 2) (omega arith))

pub literal_last : (vs : List Bool) (v : Bool) (k : ℕ) → k ≡ length vs → literal (vs ++ v ∷ []) (2 * k) ≡ v
literal_last vs v k e =
    ap (λ r. turned (r == 1) (slice_index_or (vs ++ v ∷ []) (2 * k / 2) false)) (two_rem k)
    ∙ ap (λ j. slice_index_or (vs ++ v ∷ []) j false) (two_half k) ∙ get_or_push vs v false k (sym e)

pub adds_by : (old new : List AigNode) (node : AigNode) (lit : ℕ) → new ≡ old ++ node ∷ [] → lit ≡ 2 * length old
    → Adds old new node lit
adds_by old new node lit e f = record {
  nodes = e;
  place = f;
  kept = λ x l h.
      ap (λ g. lit_at g x l) e ∙ ap (λ vs. literal vs l) (values-append x [] old (node ∷ []))
      ∙ literal_before (values_of old x) (value x (values_of old x) node) l (omega (arith, length-values_of old x, h));
  value = λ x.
      ap (λ g. lit_at g x lit) e ∙ ap (λ l. lit_at (old ++ node ∷ []) x l) f
      ∙ ap (λ vs. literal vs (2 * length old)) (values-append x [] old (node ∷ []))
      ∙ literal_last (values_of old x) (value x (values_of old x) node) (length old) (sym (length-values_of old x));
}

pub fitting_push : (k i : ℕ) (gs : List AigNode) (node : AigNode) → AreFitting k i gs
    → IsFitting (k + length gs) (count_inputs i gs) node
    → AreFitting k i (gs ++ node ∷ [])
fitting_push k i [] node h fits =
    let e : k + length {A = AigNode} [] ≡ k = omega arith in
    let P : ℕ → Type 0 = λ j. IsFitting j i node in
    (subst P e fits, tt)
fitting_push k i (g ∷ gs) node h fits =
    let e : k + length (g ∷ gs) ≡ k + 1 + length gs = omega arith in
    let P : ℕ → Type 0 = λ j. IsFitting j (count_inputs (inputs_after i g) gs) node in
    (h.0, fitting_push (k + 1) (inputs_after i g) gs node h.1 (subst P e fits))

pub count_push : (i : ℕ) (gs : List AigNode) (node : AigNode)
    → count_inputs i (gs ++ node ∷ []) ≡ inputs_after (count_inputs i gs) node
count_push i [] node = refl
count_push i (g ∷ gs) node = count_push (inputs_after i g) gs node

begins_push : (gs : List AigNode) (node : AigNode) → Begins gs → Begins (gs ++ node ∷ [])
begins_push [] node h = absurd h
begins_push (g ∷ gs) node h = h

pub kept_push : (graph new : List AigNode) (node : AigNode) (i j : ℕ) → IsKept graph i → new ≡ graph ++ node ∷ []
    → IsFitting (length graph) (inputs_of graph) node → j ≡ inputs_after (inputs_of graph) node
    → length graph < 2 ^ 62 → IsKept new j
kept_push graph new node i j h e fits k few =
    let F : ℕ → Type 0 = λ m. IsFitting m (inputs_of graph) node in
    let z : length graph ≡ 0 + length graph = omega arith in
    let made : IsKept (graph ++ node ∷ []) j = record {
      whole = record {
        begins = begins_push graph node h.whole.begins;
        fitting = fitting_push 0 0 graph node h.whole.fitting (subst F z fits);
      };
      counted = k ∙ sym (count_push 0 graph node);
      few = omega (arith, length_push graph node, few);
    } in
    let P : List AigNode → Type 0 = λ g. IsKept g j in
    subst P (sym e) made

-- there is at least one node
pub some_nodes : (graph : List AigNode) → IsGraph graph → 1 ≤ length graph
some_nodes [] h = absurd h.begins
some_nodes (g ∷ gs) h = omega arith

-- Values that are filled in one by one: behind these nodes those that are left have all values.
pub record Leaves (x : ℕ → Bool) (vs : List Bool) (left : List AigNode) (all : List Bool) : Type 0 where
  pub inputs : ℕ
  pub fitting : AreFitting (length vs) inputs left
  pub values : values x vs left ≡ all

-- behind node 0
pub leaves_behind : (graph behind : List AigNode) (x : ℕ → Bool) (vs : List Bool) → IsGraph graph
    → graph ≡ n.False ∷ behind → vs ≡ false ∷ []
    → Leaves x vs behind (values_of graph x)
leaves_behind graph behind x vs h e is =
    let F : List AigNode → Type 0 = λ gs. AreFitting 0 0 gs in
    let all : AreFitting 0 0 (n.False ∷ behind) = subst F e h.fitting in
    let P : List Bool → Type 0 = λ us. Leaves x us behind (values_of graph x) in
    subst P (sym is) (record { inputs = 0; fitting = all.1; values = ap (λ gs. values_of gs x) (sym e) })

pub first_is : (vs us : List Bool) (v : Bool) → 1 ≤ length vs → us ≡ slice_set vs 0 v → take 1 us ≡ v ∷ []
first_is [] us v h e = absurd (omega arith)
first_is (w ∷ ws) us v h e = ap (take 1) e

pub leaves_next : (x : ℕ → Bool) (vs : List Bool) (g : AigNode) (left : List AigNode) (all : List Bool)
    → Leaves x vs (g ∷ left) all
    → Leaves x (vs ++ value x vs g ∷ []) left all
leaves_next x vs g left all h =
    let P : ℕ → Type 0 = λ k. AreFitting k (inputs_after h.inputs g) left in
    record {
      inputs = inputs_after h.inputs g;
      fitting = subst P (sym (length_push vs (value x vs g))) h.fitting.1;
      values = h.values;
    }

front : (graph items : List AigNode) (i : ℕ) (g : AigNode) → items ≡ graph → i < length items
    → g ≡ slice_index_or items i g
    → drop i graph ≡ g ∷ drop (i + 1) graph
front graph items i g e below read =
    let P : List AigNode → Type 0 = λ gs. drop i gs ≡ g ∷ drop (i + 1) gs in
    subst P e (drop_more items i g below ∙ ap (λ y. y ∷ drop (i + 1) items) (sym read))

pub fits_here : (x : ℕ → Bool) (all : List Bool) (graph items : List AigNode) (vs : List Bool) (i : ℕ) (g : AigNode)
    → items ≡ graph → i < length items
    → g ≡ slice_index_or items i g → Leaves x vs (drop i graph) all → (j : ℕ) × IsFitting (length vs) j g
fits_here x all graph items vs i g e below read h =
    let Q : List AigNode → Type 0 = λ left. Leaves x vs left all in
    let here : Leaves x vs (g ∷ drop (i + 1) graph) all = subst Q (front graph items i g e below read) h in
    (here.inputs, here.fitting.0)

-- one more value, at the place k
pub next_here : (x : ℕ → Bool) (all : List Bool) (graph items : List AigNode) (vs : List Bool) (i k : ℕ)
    (g : AigNode) (v : Bool) → items ≡ graph
    → i < length items → g ≡ slice_index_or items i g → k < length vs → v ≡ value x (take k vs) g
    → Leaves x (take k vs) (drop i graph) all → Leaves x (take (k + 1) (slice_set vs k v)) (drop (i + 1) graph) all
next_here x all graph items vs i k g v e below read room is h =
    let Q : List AigNode → Type 0 = λ left. Leaves x (take k vs) left all in
    let here : Leaves x (take k vs) (g ∷ drop (i + 1) graph) all = subst Q (front graph items i g e below read) h in
    let next = leaves_next x (take k vs) g (drop (i + 1) graph) all here in
    let same : take k vs ++ value x (take k vs) g ∷ [] ≡ take (k + 1) (slice_set vs k v) =
    ap (λ y. take k vs ++ y ∷ []) (sym is) ∙ sym (take_more_set vs k v room) in
    let P : List Bool → Type 0 = λ us. Leaves x us (drop (i + 1) graph) all in
    subst P same next

-- where nothing is left, all is there
pub leaves_none : (x : ℕ → Bool) (vs : List Bool) (left : List AigNode) (all : List Bool) (k : ℕ)
    → Leaves x (take k vs) left all → left ≡ []
    → length vs ≤ k → vs ≡ all
leaves_none x vs left all k h none long =
    let P : List AigNode → Type 0 = λ gs. Leaves x (take k vs) gs all in
    let done : Leaves x (take k vs) [] all = subst P none h in
    sym (take_all k vs long) ∙ done.values

pub kept_push_by : (shown graph new : List AigNode) (node : AigNode) (i j : ℕ) → IsKept shown i → shown ≡ graph
    → new ≡ shown ++ node ∷ []
    → IsFitting (length graph) (inputs_of graph) node → j ≡ inputs_after (inputs_of graph) node
    → length shown < 2 ^ 62 → IsKept new j
kept_push_by shown graph new node i j h e f fits k few =
    let P : List AigNode → Type 0 = λ g. IsKept g i in
    kept_push graph new node i j (subst P e h) (f ∙ ap (λ g. g ++ node ∷ []) e) fits k (omega (arith, ap length e))

-- there are at most as many inputs as nodes
counted_le : (i : ℕ) (gs : List AigNode) → count_inputs i gs ≤ i + length gs
counted_le i [] = omega arith
counted_le i (n.False ∷ gs) = omega (arith, counted_le i gs)
counted_le i (n.Input j ∷ gs) = omega (arith, counted_le (i + 1) gs)
counted_le i (n.And a b ∷ gs) = omega (arith, counted_le i gs)

pub inputs_le : (graph : List AigNode) → inputs_of graph ≤ length graph
inputs_le graph = omega (arith, counted_le 0 graph)

-- a node, by those behind node 0
pub get_first : (graph behind : List AigNode) (i : ℕ) → graph ≡ n.False ∷ behind → i ≡ 0
    → slice_get graph i ≡ Some n.False
get_first graph behind i e z = (λ j. slice_get (e j) (z j))

pub get_behind : (graph behind : List AigNode) (i : ℕ) → graph ≡ n.False ∷ behind → (i ≡ 0 → ⊥)
    → slice_get graph i ≡ slice_get behind (i - 1)
get_behind graph behind zero e some = absurd (some refl)
get_behind graph behind (suc i) e some =
    let same : suc i - 1 ≡ i = omega arith in
    ap (λ gs. slice_get gs (suc i)) e ∙ ap (slice_get behind) (sym same)
