-- What a net keeps beside what it shows, and what it hands out.
use Rattle.std.specs.Prelude.{◌≡◌, refl, ℕ, zero, suc, ◌<◌, ◌≤◌, List, [], ◌∷◌, ◌++◌, length, slice_index}
use Rattle.std.specs.Prelude.{slice_index_or, map, take, drop}
use Rattle.std.specs.List.{AllByRecursion}
use Rattle.std.proofs.Common.{ap, sym, ◌∙◌, arith, subst}
use Rattle.std.proofs.lemmas.List.{length_push, take_at, take_all, take-take, take-append-drop, take-map}
use Rattle.std.proofs.lemmas.List.{length-take-le, get_or_default}
use Rattle.wn_net.specs.declared.node.Node.{Node}
use Rattle.wn_net.specs.Width.{Shape, IsWidth, width, widths, IsFitting}
use Rattle.wn_net.specs.Net.{Netlist, IsNet, IsKept, shape_of, widths_of, width_at}
use Rattle.wn_net.specs.Changes.{width_in, with_node, cut_to}
use Rattle.wn_net.proofs.Sweep.{widths-append, length-widths}
use Rattle.wn_net.proofs.Grows.{Extends, IsWider, extends_self, widths_wider}
use Rattle.wn_net.proofs.Small.{AreWidths, AreSmall, widths_small}
use Rattle.wn_net.proofs.Stays.{with_node_whole, widths_of-with_node, length-widths_of}

-- the widths of a net are from 1 to 128
pub each : {A : Type 0} (P Q : A → Type 0) (xs : List A) → ((x : A) → P x → Q x) → AllByRecursion P xs
    → AllByRecursion Q xs
each P Q [] f h = tt
each P Q (x ∷ xs) f h = (f x h.0, each P Q xs f h.1)

pub are_widths : {A : Type 0} (f : A → ℕ) (xs : List A) → AllByRecursion (λ x. IsWidth (f x)) xs → AreWidths (map f xs)
are_widths f [] h i below = absurd (omega arith)
are_widths f (x ∷ xs) h zero below = h.0
are_widths f (x ∷ xs) h (suc i) below = are_widths f xs h.1 i (omega arith)

pub is_small : (net : Netlist) → IsNet net → AreSmall (shape_of net)
is_small net h = record {
  inputs = are_widths (λ i. i.width) net.inputs h.inputs;
  regs = are_widths (λ r. r.width) net.regs (each _ _ net.regs (λ r k. k.width) h.regs);
  mems = are_widths (λ m. m.width) net.mems (each _ _ net.mems (λ m k. k.width) h.mems);
}

pub no_widths : AreWidths []
no_widths i below = absurd (omega arith)

pub widths_of_small : (net : Netlist) → IsNet net → AreWidths (widths_of net)
widths_of_small net h = widths_small (shape_of net) [] net.nodes (is_small net h) no_widths h.nodes

-- what is stored for a node is its width
pub stored_width : (shown net : Netlist) (stored : List ℕ) (id r : ℕ) → IsKept shown stored → shown ≡ net
    → id < length net.nodes → r ≡ slice_index_or stored id r → r ≡ width_at net id
unfolding width_at
stored_width shown net stored id r h e below read =
    let long : id < length stored = omega (
      arith,
      ap length h.widths,
      length-widths_of shown,
      ap
          (λ n. length n.nodes) e,
    ) in
    read ∙ get_or_default stored id r 0 long ∙ ap (λ ws. slice_index ws id) h.widths ∙ ap (λ n. width_at n id) e

pub stored_long : (shown net : Netlist) (stored : List ℕ) → IsKept shown stored → shown ≡ net
    → length stored ≡ length net.nodes
stored_long shown net stored h e = ap length h.widths ∙ length-widths_of shown ∙ ap (λ n. length n.nodes) e

pub width_at_small : (shown net : Netlist) (stored : List ℕ) (id : ℕ) → IsKept shown stored → shown ≡ net
    → id < length net.nodes → IsWidth (width_at net id)
unfolding width_at
width_at_small shown net stored id h e below =
    let P : Netlist → Type 0 = λ n. IsWidth (width_at n id) in
    subst P e (widths_of_small shown h.whole id (omega (arith, length-widths_of shown, ap (λ n. length n.nodes) e)))

-- one more node
pub kept_with_node : (shown net : Netlist) (x : Node) (w : ℕ) (ns : List Node) (ws stored : List ℕ)
    → IsKept shown stored → shown ≡ net
    → IsFitting (shape_of net) (widths_of net) x → w ≡ width_in net x → ns ≡ shown.nodes ++ x ∷ []
    → ws ≡ stored ++ w ∷ []
    → IsKept (record shown { nodes = ns }) ws
kept_with_node shown net x w ns ws stored h e fits wide nodes_are widths_are =
    let P : List Node → Type 0 = λ ns. IsKept (record shown { nodes = ns }) ws in
    let F : Netlist → Type 0 = λ n. IsFitting (shape_of n) (widths_of n) x in
    subst P (sym nodes_are) (record {
      whole = with_node_whole shown x h.whole (subst F (sym e) fits);
      widths =
          widths_are ∙ ap (λ us. us ++ w ∷ []) h.widths
          ∙ ap (λ v. widths_of shown ++ v ∷ []) (wide ∙ ap (λ n. width_in n x) (sym e))
          ∙ sym (widths_of-with_node shown x);
    })

-- the first nodes and registers
pub widths_first : (s : Shape) (ws : List ℕ) (xs : List Node) → take (length ws) (widths s ws xs) ≡ ws
widths_first s ws [] = take_all (length ws) ws (omega arith)
widths_first s ws (x ∷ xs) =
    let longer = ws ++ width s ws x ∷ [] in
    sym (take-take (length ws) (length longer) (widths s longer xs) (omega (arith, length_push ws (width s ws x))))
    ∙ ap (take (length ws)) (widths_first s longer xs) ∙ take_at ws (width s ws x ∷ []) (length ws) refl

extends_one : (x : ℕ) (xs ys : List ℕ) → Extends xs ys → Extends (x ∷ xs) (x ∷ ys)
extends_one x xs ys e = record { longer = omega (arith, e.longer); same = same }
  where
    same : (i : ℕ) → i < length (x ∷ xs) → slice_index (x ∷ ys) i ≡ slice_index (x ∷ xs) i
    same zero h = refl
    same (suc i) h = e.same i (omega arith)

pub extends_first : (k : ℕ) (xs : List ℕ) → Extends (take k xs) xs
extends_first zero xs = record { longer = omega arith; same = λ i h. absurd (omega arith) }
extends_first (suc k) [] = extends_self []
extends_first (suc k) (x ∷ xs) = extends_one x (take k xs) xs (extends_first k xs)

pub kept_cut : (nodes regs : ℕ) (net : Netlist) (stored : List ℕ) → IsKept net stored → nodes ≤ length net.nodes
    → IsNet (cut_to nodes regs net) → IsKept (cut_to nodes regs net) (take nodes stored)
kept_cut nodes regs net stored h within whole =
    let wider : IsWider (shape_of (cut_to nodes regs net)) (shape_of net) = record {
      inputs = extends_self (map (λ i. i.width) net.inputs);
      regs =
          let P : List ℕ → Type 0 = λ xs. Extends xs (map (λ r. r.width) net.regs) in
          subst P (take-map (λ r. r.width) regs net.regs) (extends_first regs (map (λ r. r.width) net.regs));
      mems = extends_self (map (λ m. m.width) net.mems);
    } in
    let front = widths (shape_of net) [] (take nodes net.nodes) in
    let long : length front ≡ nodes =
    length-widths (shape_of net) [] (take nodes net.nodes) ∙ omega (arith, length-take-le nodes net.nodes within) in
    record {
      whole = whole;
      widths =
          ap (take nodes) (h.widths
          ∙ ap (widths (shape_of net) []) (sym (take-append-drop nodes net.nodes))
          ∙ widths-append (shape_of net) [] (take nodes net.nodes) (drop nodes net.nodes))
          ∙ ap (λ k. take k (widths (shape_of net) front (drop nodes net.nodes))) (sym long)
          ∙ widths_first (shape_of net) front (drop nodes net.nodes)
          ∙ widths_wider (shape_of (cut_to nodes regs net)) (shape_of net) [] (take nodes net.nodes) wider whole.nodes;
    }

pub kept_cut_by : (nodes regs : ℕ) (shown net : Netlist) (stored : List ℕ) → IsKept shown stored → shown ≡ net
    → nodes ≤ length net.nodes
    → IsNet (cut_to nodes regs net) → IsKept (cut_to nodes regs shown) (take nodes stored)
kept_cut_by nodes regs shown net stored h e within whole =
    let P : Netlist → Type 0 = λ n. (nodes ≤ length n.nodes) × IsNet (cut_to nodes regs n) in
    let both = subst P (sym e) (within, whole) in
    kept_cut nodes regs shown stored h both.0 both.1

pub shown_with_node : (shown net : Netlist) (x : Node) (ns : List Node) → shown ≡ net → ns ≡ shown.nodes ++ x ∷ []
    → record shown { nodes = ns } ≡ with_node net x
shown_with_node shown net x ns e nodes_are =
    ap (λ us. record shown { nodes = us }) nodes_are ∙ ap (λ n. with_node n x) e
