-- Values that are filled in one by one.
use Rattle.std.specs.Prelude.{◌≡◌, ℕ, ◌+◌, ◌<◌, ◌^◌, List, [], ◌∷◌, ◌++◌, length, slice_index, slice_index_or}
use Rattle.std.specs.Prelude.{slice_set, take, drop}
use Rattle.std.proofs.Common.{ap, sym, ◌∙◌, arith, subst}
use Rattle.std.proofs.lemmas.List.{length_push, take_more_set, drop_more, length-take-le}
use Rattle.wn_net.specs.declared.node.Node.{Node}
use Rattle.wn_net.specs.Width.{Shape, width, widths, IsFitting, AreFitting}
use Rattle.wn_net.specs.Value.{Given, value, values}
use Rattle.wn_net.specs.Net.{Netlist, IsNet, IsKept, shape_of, widths_of, values_of}
use Rattle.wn_net.specs.Given.{IsGiven}
use Rattle.wn_net.proofs.Small.{AreWidths, AreSmall, width_small, widths_push, value_fits, numbers_push, HasWidths}
use Rattle.wn_net.proofs.Small.{has_widths}
use Rattle.wn_net.proofs.Kept.{is_small, widths_first}

-- Behind nodes with these widths and values the nodes that are left have all widths and all values.
pub record Leaves (s : Shape) (g : Given) (ws vs : List ℕ) (left : List Node)
    (all_widths all_values : List ℕ) : Type 0 where
  pub fitting : AreFitting s ws left
  pub widths : widths s ws left ≡ all_widths
  pub values : values s g ws vs left ≡ all_values
  pub each : length vs ≡ length ws
  pub small : AreWidths ws
  pub below : (i : ℕ) → slice_index vs i < 2 ^ slice_index ws i

pub leaves_next : (s : Shape) (g : Given) (ws vs : List ℕ) (x : Node) (left : List Node) (aw av : List ℕ)
    → AreSmall s → HasWidths s g
    → Leaves s g ws vs (x ∷ left) aw av → Leaves s g (ws ++ width s ws x ∷ []) (vs ++ value g ws vs x ∷ []) left aw av
leaves_next s g ws vs x left aw av small given h = record {
  fitting = h.fitting.1;
  widths = h.widths;
  values = h.values;
  each = omega (arith, h.each, length_push ws (width s ws x), length_push vs (value g ws vs x));
  small = widths_push ws (width s ws x) h.small (width_small s ws x small h.small h.fitting.0);
  below = numbers_push ws vs (width s ws x) (value g ws vs x) (sym h.each) h.below
      (value_fits s g ws vs x given h.below h.fitting.0);
}

-- the widths before a node are the first ones
pub first_widths : (s : Shape) (g : Given) (ws vs : List ℕ) (left : List Node) (aw av : List ℕ)
    → Leaves s g ws vs left aw av
    → take (length ws) aw ≡ ws
first_widths s g ws vs left aw av h = ap (take (length ws)) (sym h.widths) ∙ widths_first s ws left

-- the node at a place, with those behind it
front : (net : Netlist) (items : List Node) (i : ℕ) (x : Node) → items ≡ net.nodes → i < length items
    → x ≡ slice_index_or items i x
    → drop i net.nodes ≡ x ∷ drop (i + 1) net.nodes
front net items i x e below read =
    let P : List Node → Type 0 = λ ns. drop i ns ≡ x ∷ drop (i + 1) ns in
    subst P e (drop_more items i x below ∙ ap (λ y. y ∷ drop (i + 1) items) (sym read))

pub fits_here : (net : Netlist) (g : Given) (stored vs : List ℕ) (items : List Node) (i : ℕ) (x : Node)
    → stored ≡ widths_of net
    → items ≡ net.nodes → i < length items → x ≡ slice_index_or items i x
    → Leaves (shape_of net) g (take i (widths_of net)) (take i vs) (drop i net.nodes) (widths_of net) (values_of net g)
    → (s : Shape) × IsFitting s (take i stored) x
fits_here net g stored vs items i x e f below read h =
    let P : List ℕ → Type 0 = λ ws. IsFitting (shape_of net) ws x in
    let Q : List Node → Type 0 = λ left. AreFitting (shape_of net) (take i (widths_of net)) left in
    let here : AreFitting (shape_of net) (take i (widths_of net)) (x ∷ drop (i + 1) net.nodes) = subst Q
    (front net items i x f below read) h.fitting in
    (shape_of net, subst P (ap (take i) (sym e)) here.0)

pub next_here : (net : Netlist) (g : Given) (stored vs : List ℕ) (items : List Node) (i v : ℕ) (x : Node) → IsNet net
    → IsGiven net g
    → stored ≡ widths_of net → items ≡ net.nodes → i < length items → x ≡ slice_index_or items i x → i < length vs
    → v ≡ value g (take i stored) (take i vs) x
    → Leaves (shape_of net) g (take i (widths_of net)) (take i vs) (drop i net.nodes) (widths_of net) (values_of net g)
    → Leaves (shape_of net) g (take (i + 1) (widths_of net)) (take (i + 1) (slice_set vs i v))
    (drop (i + 1) net.nodes) (widths_of net) (values_of net g)
next_here net g stored vs items i v x whole given e f below read room is h =
    let s = shape_of net in
    let aw = widths_of net in
    let av = values_of net g in
    let ws = take i aw in
    let left = drop (i + 1) net.nodes in
    let Q : List Node → Type 0 = λ ns. Leaves s g ws (take i vs) ns aw av in
    let here : Leaves s g ws (take i vs) (x ∷ left) aw av = subst Q (front net items i x f below read) h in
    let next = leaves_next s g ws (take i vs) x left aw av (is_small net whole) (has_widths net g given) here in
    let long : length ws ≡ i = sym h.each ∙ length-take-le i vs (omega arith) in
    let wide : length (ws ++ width s ws x ∷ []) ≡ i + 1 = omega (arith, length_push ws (width s ws x), long) in
    let widths_are : ws ++ width s ws x ∷ [] ≡ take (i + 1) aw =
    sym (first_widths s g _ _ left aw av next) ∙ ap (λ k. take k aw) wide in
    let values_are : take i vs ++ value g ws (take i vs) x ∷ [] ≡ take (i + 1) (slice_set vs i v) =
    ap (λ us. take i vs ++ value g (take i us) (take i vs) x ∷ []) (sym e)
    ∙ ap (λ y. take i vs ++ y ∷ []) (sym is) ∙ sym (take_more_set vs i v room) in
    let W : List ℕ → Type 0 = λ us. Leaves s g us (take i vs ++ value g ws (take i vs) x ∷ []) left aw av in
    let V : List ℕ → Type 0 = λ us. Leaves s g (take (i + 1) aw) us left aw av in
    subst V values_are (subst W widths_are next)

pub whole_of : (shown net : Netlist) (stored : List ℕ) → IsKept shown stored → shown ≡ net → IsNet net
whole_of shown net stored h e = subst IsNet e h.whole
