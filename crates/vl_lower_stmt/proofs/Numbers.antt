-- The values of nodes that are there, one more after the other.
use Rattle.std.specs.Prelude.{◌≡◌, refl, ℕ, zero, suc, ◌+◌, ◌<◌, List, [], ◌∷◌, ◌++◌, length, map, take, slice_index}
use Rattle.std.proofs.Common.{ap, sym, ◌∙◌, arith}
use Rattle.std.proofs.lemmas.List.{map-append, take_more}
use Rattle.wn_net.specs.Value.{Given}
use Rattle.wn_net.specs.Net.{Netlist, AreNodes, shape_of, value_at, values_of}
use Rattle.wn_net.proofs.Sweep.{length-values}

pub node_at : (net : Netlist) (ids : List ℕ) → AreNodes net ids → (i : ℕ) → i < length ids
    → slice_index ids i < length net.nodes
node_at net [] h i less = absurd (omega (arith, less))
node_at net (id ∷ ids) h zero less = h.0
node_at net (id ∷ ids) h (suc i) less =
    let before : i < length ids = omega (arith, less) in node_at net ids h.1 i before

pub values_length : (net : Netlist) (g : Given) → length (values_of net g) ≡ length net.nodes
values_length net g = length-values (shape_of net) g [] [] net.nodes ∙ omega arith

pub value_is : (net : Netlist) (g : Given) (id : ℕ) → slice_index (values_of net g) id ≡ value_at net g id
unfolding value_at
value_is net g id = refl

pub number_more : (net : Netlist) (g : Given) (ids numbers made : List ℕ) (i x : ℕ) → i < length ids
    → numbers ≡ map (value_at net g) (take i ids) → made ≡ numbers ++ x ∷ [] → x ≡ value_at net g (slice_index ids i)
    → made ≡ map (value_at net g) (take (i + 1) ids)
number_more net g ids numbers made i x less were e is =
    e ∙ (λ j. were j ++ is j ∷ []) ∙ sym (map-append (value_at net g) (take i ids) (slice_index ids i ∷ []))
    ∙ ap (map (value_at net g)) (sym (take_more ids i 0 less))
