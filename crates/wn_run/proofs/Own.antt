-- Each node's value and width, in its own net.
use Rattle.std.specs.Prelude.{◌≡◌, refl, ℕ, zero, suc, ◌+◌, ◌<◌, List, [], ◌∷◌, ◌++◌, length, Some, slice_index}
use Rattle.std.specs.Prelude.{slice_get}
use Rattle.std.proofs.Common.{ap, sym, ◌∙◌, arith, subst}
use Rattle.std.proofs.lemmas.List.{length_push, get_or_push}
use Rattle.wn_net.specs.declared.node.Node.{Node}
use Rattle.wn_net.specs.declared.node.Node.TheVariants as n
use Rattle.wn_net.specs.Width.{Shape, width, widths, IsFitting, AreFitting}
use Rattle.wn_net.specs.Value.{Given, value, values}
use Rattle.wn_net.specs.Net.{shape_of, value_at, width_at}
use Rattle.wn_net.proofs.Sweep.{widths_begin, values_begin}
use Rattle.wn_run.specs.Laws.{EachNodeHasItsValue, EachNodeHasItsWidth}

-- the second lists begin with the first
pub record IsMore (ws vs aw av : List ℕ) : Type 0 where
  pub each : length vs ≡ length ws
  pub widths : (i : ℕ) → i < length ws → slice_index aw i ≡ slice_index ws i
  pub values : (i : ℕ) → i < length ws → slice_index av i ≡ slice_index vs i

pub value_more : (s : Shape) (g : Given) (ws vs aw av : List ℕ) (x : Node) → IsMore ws vs aw av → IsFitting s ws x
    → value g aw av x ≡ value g ws vs x
value_more s g ws vs aw av (n.Konst word) m fits = refl
value_more s g ws vs aw av (n.Input i) m fits = refl
value_more s g ws vs aw av (n.Reg i) m fits = refl
value_more s g ws vs aw av (n.Read k a) m fits = rw (m.values a fits.1) refl
value_more s g ws vs aw av (n.Not a) m fits = rw (m.values a fits, m.widths a fits) refl
value_more s g ws vs aw av (n.And a b) m fits = rw (m.values a fits.0, m.values b fits.1) refl
value_more s g ws vs aw av (n.Or a b) m fits = rw (m.values a fits.0, m.values b fits.1) refl
value_more s g ws vs aw av (n.Xor a b) m fits = rw (m.values a fits.0, m.values b fits.1) refl
value_more s g ws vs aw av (n.Add a b) m fits = rw (m.widths a fits.0, m.values a fits.0, m.values b fits.1) refl
value_more s g ws vs aw av (n.Sub a b) m fits = rw (m.widths a fits.0, m.values a fits.0, m.values b fits.1) refl
value_more s g ws vs aw av (n.Mul a b) m fits = rw (m.widths a fits.0, m.values a fits.0, m.values b fits.1) refl
value_more s g ws vs aw av (n.Eq a b) m fits = rw (m.values a fits.0, m.values b fits.1) refl
value_more s g ws vs aw av (n.Ult a b) m fits = rw (m.values a fits.0, m.values b fits.1) refl
value_more s g ws vs aw av (n.Slt a b) m fits = rw (m.widths a fits.0, m.values a fits.0, m.values b fits.1) refl
value_more s g ws vs aw av (n.Shl a b) m fits = rw (m.widths a fits.0, m.values a fits.0, m.values b fits.1) refl
value_more s g ws vs aw av (n.Lshr a b) m fits = rw (m.values a fits.0, m.values b fits.1) refl
value_more s g ws vs aw av (n.Ashr a b) m fits = rw (m.widths a fits.0, m.values a fits.0, m.values b fits.1) refl
value_more s g ws vs aw av (n.Concat a b) m fits = rw (m.widths b fits.1, m.values a fits.0, m.values b fits.1) refl
value_more s g ws vs aw av (n.Mux c a b) m fits = rw (m.values c fits.0, m.values a fits.2.0, m.values b fits.2.1) refl
value_more s g ws vs aw av (n.Slice a at w) m fits = rw (m.values a fits.0) refl
value_more s g ws vs aw av (n.Zext a w) m fits = rw (m.values a fits.0) refl
value_more s g ws vs aw av (n.Sext a w) m fits = rw (m.widths a fits.0, m.values a fits.0) refl

node_value : (s : Shape) (g : Given) (ws vs : List ℕ) (xs : List Node) (i : ℕ) (x : Node) → length vs ≡ length ws
    → AreFitting s ws xs → slice_get xs i ≡ Some x
    → slice_index (values s g ws vs xs) (length vs + i) ≡ value g (widths s ws xs) (values s g ws vs xs) x
node_value s g ws vs [] zero x each fits at = absurd (ne at)
  where
    ne : slice_get {X = Node} [] 0 ≡ Some x → ⊥
    ne e = cc
node_value s g ws vs [] (suc i) x each fits at = absurd (ne at)
  where
    ne : slice_get {X = Node} [] (suc i) ≡ Some x → ⊥
    ne e = cc
node_value s g ws vs (y ∷ ys) zero x each fits at =
    let ws2 = ws ++ width s ws y ∷ [] in
    let vs2 = vs ++ value g ws vs y ∷ [] in
    let long : length vs < length vs2 = omega (arith, length_push vs (value g ws vs y)) in
    let P : Node → Type 0 = λ z. slice_index (values s g ws vs (y ∷ ys)) (length vs)
    ≡ value g (widths s ws (y ∷ ys)) (values s g ws vs (y ∷ ys)) z in
    let e : length vs + 0 ≡ length vs = omega arith in
    ap (slice_index (values s g ws vs (y ∷ ys))) e ∙ subst P (inj at) (values_begin s g ws2 vs2 ys (length vs) long
    ∙ get_or_push vs (value g ws vs y) 0 (length vs) refl
    ∙ sym (value_more s g ws vs (widths s ws (y ∷ ys)) (values s g ws vs (y ∷ ys)) y (record {
      each = each;
      widths = λ i h. widths_begin s ws (y ∷ ys) i h;
      values = λ i h. values_begin s g ws vs (y ∷ ys) i (omega arith);
    }) fits.0))
  where
    inj : Some y ≡ Some x → y ≡ x
    inj e = cc
node_value s g ws vs (y ∷ ys) (suc i) x each fits at =
    let ws2 = ws ++ width s ws y ∷ [] in
    let vs2 = vs ++ value g ws vs y ∷ [] in
    let long : length vs2 ≡ length ws2 = omega
    (arith, each, length_push vs (value g ws vs y), length_push ws (width s ws y)) in
    let e : length vs2 + i ≡ length vs + suc i = omega (arith, length_push vs (value g ws vs y)) in
    ap (slice_index (values s g ws vs (y ∷ ys))) (sym e) ∙ node_value s g ws2 vs2 ys i x long fits.1 at

pub each_value : EachNodeHasItsValue
unfolding value_at
each_value net g id x whole at =
    let e : id ≡ length {A = ℕ} [] + id = omega arith in
    ap (slice_index (values (shape_of net) g [] [] net.nodes)) e
    ∙ node_value (shape_of net) g [] [] net.nodes id x refl whole.nodes at

-- widths, where more stand behind
width_more : (s : Shape) (ws aw : List ℕ) (x : Node)
    → ((i : ℕ) → i < length ws → slice_index aw i ≡ slice_index ws i) → IsFitting s ws x
    → width s aw x ≡ width s ws x
width_more s ws aw (n.Konst word) m fits = refl
width_more s ws aw (n.Input i) m fits = refl
width_more s ws aw (n.Reg i) m fits = refl
width_more s ws aw (n.Read k a) m fits = refl
width_more s ws aw (n.Not a) m fits = m a fits
width_more s ws aw (n.And a b) m fits = m a fits.0
width_more s ws aw (n.Or a b) m fits = m a fits.0
width_more s ws aw (n.Xor a b) m fits = m a fits.0
width_more s ws aw (n.Add a b) m fits = m a fits.0
width_more s ws aw (n.Sub a b) m fits = m a fits.0
width_more s ws aw (n.Mul a b) m fits = m a fits.0
width_more s ws aw (n.Eq a b) m fits = refl
width_more s ws aw (n.Ult a b) m fits = refl
width_more s ws aw (n.Slt a b) m fits = refl
width_more s ws aw (n.Shl a b) m fits = m a fits.0
width_more s ws aw (n.Lshr a b) m fits = m a fits.0
width_more s ws aw (n.Ashr a b) m fits = m a fits.0
width_more s ws aw (n.Concat a b) m fits = rw (m a fits.0, m b fits.1) refl
width_more s ws aw (n.Mux c a b) m fits = m a fits.2.0
width_more s ws aw (n.Slice a at w) m fits = refl
width_more s ws aw (n.Zext a w) m fits = refl
width_more s ws aw (n.Sext a w) m fits = refl

node_width : (s : Shape) (ws : List ℕ) (xs : List Node) (i : ℕ) (x : Node) → AreFitting s ws xs
    → slice_get xs i ≡ Some x
    → slice_index (widths s ws xs) (length ws + i) ≡ width s (widths s ws xs) x
node_width s ws [] zero x fits at = absurd (ne at)
  where
    ne : slice_get {X = Node} [] 0 ≡ Some x → ⊥
    ne e = cc
node_width s ws [] (suc i) x fits at = absurd (ne at)
  where
    ne : slice_get {X = Node} [] (suc i) ≡ Some x → ⊥
    ne e = cc
node_width s ws (y ∷ ys) zero x fits at =
    let ws2 = ws ++ width s ws y ∷ [] in
    let long : length ws < length ws2 = omega (arith, length_push ws (width s ws y)) in
    let P : Node → Type 0 = λ z. slice_index (widths s ws (y ∷ ys)) (length ws) ≡ width s (widths s ws (y ∷ ys)) z in
    let e : length ws + 0 ≡ length ws = omega arith in
    ap (slice_index (widths s ws (y ∷ ys))) e ∙ subst P (inj at) (widths_begin s ws2 ys (length ws) long
    ∙ get_or_push ws (width s ws y) 0 (length ws) refl
    ∙ sym (width_more s ws (widths s ws (y ∷ ys)) y (λ i h. widths_begin s ws (y ∷ ys) i h) fits.0))
  where
    inj : Some y ≡ Some x → y ≡ x
    inj e = cc
node_width s ws (y ∷ ys) (suc i) x fits at =
    let ws2 = ws ++ width s ws y ∷ [] in
    let e : length ws2 + i ≡ length ws + suc i = omega (arith, length_push ws (width s ws y)) in
    ap (slice_index (widths s ws (y ∷ ys))) (sym e) ∙ node_width s ws2 ys i x fits.1 at

pub each_width : EachNodeHasItsWidth
unfolding width_at
each_width net id x whole at =
    let e : id ≡ length {A = ℕ} [] + id = omega arith in
    ap (slice_index (widths (shape_of net) [] net.nodes)) e ∙ node_width (shape_of net) [] net.nodes id x whole.nodes at
