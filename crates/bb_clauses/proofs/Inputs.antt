-- The nodes of the inputs of a graph.
use Rattle.std.specs.Prelude.{◌≡◌, refl, ℕ, zero, suc, ◌+◌, ◌*◌, ◌/◌, ◌%◌, ◌<◌, ◌≤◌}
use Rattle.std.specs.Prelude.{◌==◌, Bool, false, List, [], ◌∷◌, slice_get, slice_index_or, Some}
use Rattle.std.proofs.Common.{ap, sym, ◌∙◌, arith}
use Rattle.bb_aig.specs.declared.node.AigNode.{AigNode}
use Rattle.bb_aig.specs.declared.node.AigNode.TheVariants as n
use Rattle.bb_aig.specs.Graph.{IsGraph, AreFitting, inputs_after, count_inputs, inputs_of, values_of, lit_at, turned}
use Rattle.bb_blast.specs.Choice.{InputsAreFirst}
use Rattle.bb_clauses.specs.Clauses.{AreInputs}

counted_more : (i : ℕ) (gs : List AigNode) → i ≤ count_inputs i gs
counted_more i [] = omega arith
counted_more i (n.False ∷ gs) = counted_more i gs
counted_more i (n.Input j ∷ gs) = omega (arith, counted_more (i + 1) gs)
counted_more i (n.And a b ∷ gs) = counted_more i gs

-- the number of an input, between those before the nodes and those behind them
from_count : (m c : ℕ) (gs : List AigNode) → AreFitting m c gs → (k i : ℕ)
    → slice_get gs k ≡ Some (n.Input i) → c ≤ i
from_count m c [] h k i e = cc
from_count m c (n.False ∷ gs) h zero i e = cc
from_count m c (n.And a b ∷ gs) h zero i e = cc
from_count m c (n.Input j ∷ gs) h zero i e = let is : j ≡ i = cc in omega (arith, h.0)
from_count m c (n.False ∷ gs) h (suc k) i e = from_count (m + 1) c gs h.1 k i e
from_count m c (n.And a b ∷ gs) h (suc k) i e = from_count (m + 1) c gs h.1 k i e
from_count m c (n.Input j ∷ gs) h (suc k) i e = omega (arith, from_count (m + 1) (c + 1) gs h.1 k i e)

below_count : (m c : ℕ) (gs : List AigNode) → AreFitting m c gs → (k i : ℕ)
    → slice_get gs k ≡ Some (n.Input i) → i < count_inputs c gs
below_count m c [] h k i e = cc
below_count m c (n.False ∷ gs) h zero i e = cc
below_count m c (n.And a b ∷ gs) h zero i e = cc
below_count m c (n.Input j ∷ gs) h zero i e =
    let is : j ≡ i = cc in omega (arith, h.0, counted_more (c + 1) gs)
below_count m c (n.False ∷ gs) h (suc k) i e = below_count (m + 1) c gs h.1 k i e
below_count m c (n.And a b ∷ gs) h (suc k) i e = below_count (m + 1) c gs h.1 k i e
below_count m c (n.Input j ∷ gs) h (suc k) i e = below_count (m + 1) (c + 1) gs h.1 k i e

-- an input has one node
one_node : (m c : ℕ) (gs : List AigNode) → AreFitting m c gs → (j k i : ℕ)
    → slice_get gs j ≡ Some (n.Input i) → slice_get gs k ≡ Some (n.Input i) → j ≡ k
one_node m c [] h j k i d e = cc
one_node m c (g ∷ gs) h zero zero i d e = refl
one_node m c (n.False ∷ gs) h zero (suc k) i d e = cc
one_node m c (n.And a b ∷ gs) h zero (suc k) i d e = cc
one_node m c (n.Input l ∷ gs) h zero (suc k) i d e =
    let is : l ≡ i = cc in absurd (omega (arith, h.0, from_count (m + 1) (c + 1) gs h.1 k i e))
one_node m c (n.False ∷ gs) h (suc j) zero i d e = cc
one_node m c (n.And a b ∷ gs) h (suc j) zero i d e = cc
one_node m c (n.Input l ∷ gs) h (suc j) zero i d e =
    let is : l ≡ i = cc in absurd (omega (arith, h.0, from_count (m + 1) (c + 1) gs h.1 j i d))
one_node m c (g ∷ gs) h (suc j) (suc k) i d e = ap suc (one_node (m + 1) (inputs_after c g) gs h.1 j k i d e)

-- values of variables read at the nodes of the inputs
pub read_there : (graph : List AigNode) (x v : ℕ → Bool) → IsGraph graph → InputsAreFirst graph
    → ((i : ℕ) → i < inputs_of graph → v (i + 1) ≡ x i) → AreInputs graph x v
read_there graph x v g first h k i e =
    let within : i < inputs_of graph = below_count 0 0 graph g.fitting k i e in
    let at : k ≡ i + 1 = one_node 0 0 graph g.fitting k (i + 1) i e (first.nodes i within) in
    ap v at ∙ h i within

-- an input's value among those of the nodes
pub input_value : (graph : List AigNode) (x : ℕ → Bool) → InputsAreFirst graph
    → (i : ℕ) → i < inputs_of graph
    → slice_index_or (values_of graph x) (i + 1) false ≡ x i
input_value graph x first i below =
    let k = i + 1 in
    let even : 2 * k % 2 ≡ 0 = omega arith in
    let half : 2 * k / 2 ≡ k = omega arith in
    let read : lit_at graph x (2 * k) ≡ slice_index_or (values_of graph x) k false =
    ap (λ r. turned (r == 1) (slice_index_or (values_of graph x) (2 * k / 2) false)) even
    ∙ ap (λ j. slice_index_or (values_of graph x) j false) half in
    sym read ∙ first.value x i below
