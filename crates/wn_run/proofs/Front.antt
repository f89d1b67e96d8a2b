-- A net with its first nodes alone.
use Rattle.std.specs.Prelude.{◌≡◌, refl, ℕ, suc, ◌<◌, ◌≤◌, List, [], ◌∷◌, length, take, drop, map}
use Rattle.std.specs.Prelude.{slice_index}
use Rattle.std.specs.List.{AllByRecursion}
use Rattle.std.proofs.Common.{ap, sym, ◌∙◌, arith, subst}
use Rattle.std.proofs.lemmas.List.{take-append-drop, length-take-le, take_all}
use Rattle.wn_net.specs.declared.node.Node.{Node}
use Rattle.wn_net.specs.declared.parts.Reg.{Reg}
use Rattle.wn_net.specs.declared.parts.Mem.{Mem}
use Rattle.wn_net.specs.declared.parts.MemWrite.{MemWrite}
use Rattle.wn_net.specs.Width.{widths, AreFitting}
use Rattle.wn_net.specs.Value.{Given, values}
use Rattle.wn_net.specs.Net.{Netlist, IsNet, IsNodeOf, AreNodes, IsRegOf, IsWriteOf, IsMemOf, shape_of}
use Rattle.wn_net.specs.Net.{width_at, value_at}
use Rattle.wn_net.specs.Changes.{AddsNodes, cut_to}
use Rattle.wn_net.proofs.Sweep.{widths-append, values-append, length-widths, length-values, widths_begin}
use Rattle.wn_net.proofs.Sweep.{values_begin, fitting_first}
use Rattle.wn_run.specs.Named.{AreBelow, AreRegsBelow, AreWritesBelow, AreMemsBelow}

abbrev pub front : ℕ → Netlist → Netlist
front n net = record net { nodes = take n net.nodes }

front_width : (n id : ℕ) (net : Netlist) → id < length (take n net.nodes)
    → width_at net id ≡ width_at (front n net) id
unfolding width_at
front_width n id net below =
    let s = shape_of net in
    let xs = take n net.nodes in
    let less : id < length (widths s [] xs) = omega (arith, length-widths s [] xs, below) in
    ap (λ ns. slice_index (widths s [] ns) id) (sym (take-append-drop n net.nodes))
    ∙ ap (λ ws. slice_index ws id) (widths-append s [] xs (drop n net.nodes))
    ∙ widths_begin s (widths s [] xs) (drop n net.nodes) id less

front_value : (n id : ℕ) (net : Netlist) (g : Given) → id < length (take n net.nodes)
    → value_at net g id ≡ value_at (front n net) g id
unfolding value_at
front_value n id net g below =
    let s = shape_of net in
    let xs = take n net.nodes in
    let less : id < length (values s g [] [] xs) = omega (arith, length-values s g [] [] xs, below) in
    ap (λ ns. slice_index (values s g [] [] ns) id) (sym (take-append-drop n net.nodes))
    ∙ ap (λ vs. slice_index vs id) (values-append s g [] [] xs (drop n net.nodes))
    ∙ values_begin s g (widths s [] xs) (values s g [] [] xs) (drop n net.nodes) id less

pub front_adds : (n : ℕ) (net : Netlist) → n ≤ length net.nodes → AddsNodes (front n net) net
front_adds n net within =
    let long = length-take-le n net.nodes within in
    record {
      nodes = ap (λ k. take k net.nodes) long;
      regs = refl;
      mems = refl;
      inputs = refl;
      assumes = refl;
      keeps = record {
        longer = omega (arith, long, within);
        widths = λ id below. front_width n id net below;
        values = λ g id below. front_value n id net g below;
        given = λ g h. record { inputs = h.inputs; state = record { regs = h.state.regs; mems = h.state.mems } };
      };
    }

-- ---- what a net names below the bound is there

node_left : (n w id : ℕ) (net : Netlist) → n ≤ length net.nodes → IsNodeOf net w id → id < n
    → IsNodeOf (front n net) w id
node_left n w id net within own low =
    let here : id < length (take n net.nodes) = omega (arith, length-take-le n net.nodes within, low) in
    (here, sym (front_width n id net here) ∙ own.1)

nodes_left : (n : ℕ) (net : Netlist) (ids : List ℕ) → n ≤ length net.nodes → AreBelow ids n → AreNodes (front n net) ids
nodes_left n net [] within low = tt
nodes_left n net (id ∷ ids) within low = (
  omega (arith, length-take-le n net.nodes within, low 0 (omega arith)),
  nodes_left n net ids within (λ k below. low (suc k) (omega arith)),
)

regs_left : (n : ℕ) (net : Netlist) (rs : List Reg) → n ≤ length net.nodes → AllByRecursion (IsRegOf net) rs
    → AreRegsBelow rs n → AllByRecursion (IsRegOf (front n net)) rs
regs_left n net [] within h low = tt
regs_left n net (r ∷ rs) within h low = (
  record {
    width = h.0.width;
    init = h.0.init;
    next = node_left n r.width r.next net within h.0.next (low 0 (omega arith));
  },
  regs_left n net rs within h.1 (λ k below. low (suc k) (omega arith)),
)

writes_left : (n w : ℕ) (net : Netlist) (ws : List MemWrite) → n ≤ length net.nodes
    → AllByRecursion (IsWriteOf net w) ws → AreWritesBelow ws n → AllByRecursion (IsWriteOf (front n net) w) ws
writes_left n w net [] within h low = tt
writes_left n w net (x ∷ xs) within h low = (
  record {
    enable = node_left n 1 x.enable net within h.0.enable (low.enable 0 (omega arith));
    addr = omega (arith, length-take-le n net.nodes within, low.addr 0 (omega arith));
    mask = node_left n w x.mask net within h.0.mask (low.mask 0 (omega arith));
    value = node_left n w x.value net within h.0.value (low.value 0 (omega arith));
  },
  writes_left n w net xs within h.1 (record {
    enable = λ k below. low.enable (suc k) (omega arith);
    addr = λ k below. low.addr (suc k) (omega arith);
    mask = λ k below. low.mask (suc k) (omega arith);
    value = λ k below. low.value (suc k) (omega arith);
  }),
)

mems_left : (n : ℕ) (net : Netlist) (ms : List Mem) → n ≤ length net.nodes → AllByRecursion (IsMemOf net) ms
    → AreMemsBelow ms n → AllByRecursion (IsMemOf (front n net)) ms
mems_left n net [] within h low = tt
mems_left n net (m ∷ ms) within h low = (
  record {
    width = h.0.width;
    words = h.0.words;
    each = h.0.each;
    init = h.0.init;
    writes = writes_left n m.width net m.writes within h.0.writes (low 0 (omega arith));
  },
  mems_left n net ms within h.1 (λ k below. low (suc k) (omega arith)),
)

pub front_whole : (n : ℕ) (net : Netlist) → n ≤ length net.nodes → IsNet net → AreRegsBelow net.regs n
    → AreMemsBelow net.mems n → AreBelow net.assumes n → IsNet (front n net)
front_whole n net within h regs mems assumes =
    let P : List Node → Type 0 = λ ns. AreFitting (shape_of net) [] ns in
    record {
      nodes =
          fitting_first (shape_of net) [] (take n net.nodes) (drop n net.nodes)
          (subst P (sym (take-append-drop n net.nodes)) h.nodes);
      regs = regs_left n net net.regs within h.regs regs;
      mems = mems_left n net net.mems within h.mems mems;
      inputs = h.inputs;
      assumes = nodes_left n net net.assumes within assumes;
      few_regs = h.few_regs;
      few_mems = h.few_mems;
      few_inputs = h.few_inputs;
    }

-- all registers stay where so many are cut to as there are
pub cut_is_front : (n : ℕ) (net : Netlist) → cut_to n (length net.regs) net ≡ front n net
cut_is_front n net =
    λ i. record net { nodes = take n net.nodes; regs = take_all (length net.regs) net.regs (omega arith) i }

pub cut_whole : (n k : ℕ) (net : Netlist) → k ≡ length net.regs → n ≤ length net.nodes → IsNet net
    → AreRegsBelow net.regs n → AreMemsBelow net.mems n → AreBelow net.assumes n → IsNet (cut_to n k net)
cut_whole n k net all within h regs mems assumes =
    let P : Netlist → Type 0 = λ m. IsNet m in
    let Q : ℕ → Type 0 = λ j. IsNet (cut_to n j net) in
    subst Q (sym all) (subst P (sym (cut_is_front n net)) (front_whole n net within h regs mems assumes))

pub cut_adds : (n k : ℕ) (net : Netlist) → k ≡ length net.regs → n ≤ length net.nodes → AddsNodes (cut_to n k net) net
cut_adds n k net all within =
    let P : Netlist → Type 0 = λ m. AddsNodes m net in
    let Q : ℕ → Type 0 = λ j. AddsNodes (cut_to n j net) net in
    subst Q (sym all) (subst P (sym (cut_is_front n net)) (front_adds n net within))

-- a bound stays one where it grows
pub below_more : (ids : List ℕ) (n m : ℕ) → n ≤ m → AreBelow ids n → AreBelow ids m
below_more ids n m more h = λ k below. omega (arith, h k below, more)

pub writes_more : (ws : List MemWrite) (n m : ℕ) → n ≤ m → AreWritesBelow ws n → AreWritesBelow ws m
writes_more ws n m more h = record {
  enable = below_more (map (λ w. w.enable) ws) n m more h.enable;
  addr = below_more (map (λ w. w.addr) ws) n m more h.addr;
  mask = below_more (map (λ w. w.mask) ws) n m more h.mask;
  value = below_more (map (λ w. w.value) ws) n m more h.value;
}

pub mems_more : (ms : List Mem) (n m : ℕ) → n ≤ m → AreMemsBelow ms n → AreMemsBelow ms m
mems_more ms n m more h = λ k below. writes_more _ n m more (h k below)
