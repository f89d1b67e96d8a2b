-- The nodes that stand in front: one for each input and each register.
use Rattle.std.specs.Prelude.{◌≡◌, refl, ℕ, zero, suc, ◌+◌, ◌<◌, List, [], ◌∷◌, ◌++◌, length, slice_index}
use Rattle.std.proofs.Common.{ap, sym, ◌∙◌, arith}
use Rattle.std.proofs.lemmas.List.{append-nil, append_assoc, length-append, get_or-append-add}
use Rattle.wn_net.specs.declared.node.Node.{Node}
use Rattle.wn_net.specs.declared.node.Node.TheVariants as n
use Rattle.wn_net.specs.Width.{Shape, width, widths}
use Rattle.wn_net.specs.Value.{Given, value, values}
use Rattle.wn_net.specs.Net.{Netlist, shape_of}
use Rattle.wn_net.proofs.Sweep.{widths-append, values-append}
use Rattle.bm_induct.specs.Rebuilt.{offset}
use Rattle.bm_induct.specs.Stages.{counted}
use Rattle.bm_induct.proofs.Items.{length-counted, counted_at, before}

-- two counted rows, one behind the other
abbrev pub rows : (ℕ → ℕ) → ℕ → (ℕ → ℕ) → ℕ → List ℕ
rows f m h k = counted f m ++ counted h k

pub length-rows : (f h : ℕ → ℕ) (m k : ℕ) → length (rows f m h k) ≡ m + k
length-rows f h m k =
    omega (arith, length-append (counted f m) (counted h k), length-counted f m, length-counted h k)

pub first_row : (f h : ℕ → ℕ) (m k i : ℕ) → i < m → slice_index (rows f m h k) i ≡ f i
first_row f h m k i below =
    before (counted f m) (counted h k) i (omega (arith, below, length-counted f m)) ∙ counted_at f m i below

pub second_row : (f h : ℕ → ℕ) (m k i : ℕ) → i < k → slice_index (rows f m h k) (m + i) ≡ h i
second_row f h m k i below =
    let e : m + i ≡ length (counted f m) + i = omega (arith, length-counted f m) in
    ap (slice_index (rows f m h k)) e ∙ get_or-append-add (counted f m) (counted h k) i 0 ∙ counted_at h k i below

-- the widths and the values of a row of nodes
pub widths_counted : (s : Shape) (ws : List ℕ) (x : ℕ → Node) (w : ℕ → ℕ) (k : ℕ)
    → ((us : List ℕ) (i : ℕ) → width s us (x i) ≡ w i) → widths s ws (counted x k) ≡ ws ++ counted w k
widths_counted s ws x w zero is = sym (append-nil ws)
widths_counted s ws x w (suc k) is =
    widths-append s ws (counted x k) (x k ∷ [])
    ∙ ap (λ u. widths s ws (counted x k) ++ u ∷ []) (is (widths s ws (counted x k)) k)
    ∙ ap (λ us. us ++ w k ∷ []) (widths_counted s ws x w k is)
    ∙ append_assoc ws (counted w k) (w k ∷ [])

pub values_counted : (s : Shape) (g : Given) (ws vs : List ℕ) (x : ℕ → Node) (v : ℕ → ℕ) (k : ℕ)
    → ((us ns : List ℕ) (i : ℕ) → value g us ns (x i) ≡ v i) → values s g ws vs (counted x k) ≡ vs ++ counted v k
values_counted s g ws vs x v zero is = sym (append-nil vs)
values_counted s g ws vs x v (suc k) is =
    values-append s g ws vs (counted x k) (x k ∷ [])
    ∙ ap (λ u. values s g ws vs (counted x k) ++ u ∷ [])
    (is (widths s ws (counted x k)) (values s g ws vs (counted x k)) k)
    ∙ ap (λ us. us ++ v k ∷ []) (values_counted s g ws vs x v k is)
    ∙ append_assoc vs (counted v k) (v k ∷ [])

-- those of the nodes in front
abbrev pub lead_nodes : Netlist → List Node
lead_nodes net = counted n.Input (length net.inputs) ++ counted n.Reg (length net.regs)

abbrev pub lead_widths : Netlist → List ℕ
lead_widths net =
    rows (slice_index (shape_of net).inputs) (length net.inputs) (slice_index (shape_of net).regs) (length net.regs)

abbrev pub lead_values : Netlist → Given → List ℕ
lead_values net g =
    rows (slice_index g.inputs) (length net.inputs) (slice_index g.state.regs) (length net.regs)

pub widths_lead : (net : Netlist) → widths (shape_of net) [] (lead_nodes net) ≡ lead_widths net
widths_lead net =
    let s = shape_of net in
    widths-append s [] (counted n.Input (length net.inputs)) (counted n.Reg (length net.regs))
    ∙ ap (λ us. widths s us (counted n.Reg (length net.regs)))
    (widths_counted s [] n.Input (slice_index s.inputs) (length net.inputs) (λ us i. refl))
    ∙ widths_counted s (counted (slice_index s.inputs) (length net.inputs)) n.Reg (slice_index s.regs)
    (length net.regs) (λ us i. refl)

pub values_lead : (net : Netlist) (g : Given) → values (shape_of net) g [] [] (lead_nodes net) ≡ lead_values net g
values_lead net g =
    let s = shape_of net in
    values-append s g [] [] (counted n.Input (length net.inputs)) (counted n.Reg (length net.regs))
    ∙ ap (λ us. values s g (widths s [] (counted n.Input (length net.inputs))) us
    (counted n.Reg (length net.regs)))
    (values_counted s g [] [] n.Input (slice_index g.inputs) (length net.inputs) (λ us ns i. refl))
    ∙ values_counted s g (widths s [] (counted n.Input (length net.inputs)))
    (counted (slice_index g.inputs) (length net.inputs)) n.Reg (slice_index g.state.regs) (length net.regs)
    (λ us ns i. refl)

pub long_widths : (net : Netlist) → length (lead_widths net) ≡ offset net
long_widths net =
    length-rows (slice_index (shape_of net).inputs) (slice_index (shape_of net).regs) (length net.inputs)
    (length net.regs)

pub long_values : (net : Netlist) (g : Given) → length (lead_values net g) ≡ offset net
long_values net g =
    length-rows (slice_index g.inputs) (slice_index g.state.regs) (length net.inputs) (length net.regs)
