-- What was of a net is of one that has more nodes.
use Rattle.std.specs.Prelude.{◌≡◌, refl, ℕ, ◌<◌, ◌≤◌, List, [], ◌∷◌, ◌++◌, length, slice_index}
use Rattle.std.specs.List.{AllByRecursion}
use Rattle.std.proofs.Common.{ap, sym, ◌∙◌, arith, subst}
use Rattle.std.proofs.lemmas.List.{length_push, get_or_push, take_at}
use Rattle.wn_net.specs.declared.node.Node.{Node}
use Rattle.wn_net.specs.declared.parts.Reg.{Reg}
use Rattle.wn_net.specs.declared.parts.Mem.{Mem}
use Rattle.wn_net.specs.declared.parts.MemWrite.{MemWrite}
use Rattle.wn_net.specs.Width.{width, IsFitting}
use Rattle.wn_net.specs.Value.{Given}
use Rattle.wn_net.specs.Net.{Netlist, IsNet, IsNodeOf, IsRegOf, IsWriteOf, IsMemOf, AreNodes, shape_of, widths_of}
use Rattle.wn_net.specs.Net.{values_of, width_at, value_at}
use Rattle.wn_net.specs.Changes.{Keeps, Builds, width_in, value_in, with_node}
use Rattle.wn_net.proofs.Sweep.{widths-append, values-append, length-widths, length-values, widths_begin}
use Rattle.wn_net.proofs.Sweep.{values_begin, fitting_both}

-- there are as many nodes or more, and those that were there have kept their widths
pub record HasMore (old new : Netlist) : Type 0 where
  pub longer : length old.nodes ≤ length new.nodes
  pub widths : (id : ℕ) → id < length old.nodes → width_at new id ≡ width_at old id

pub node_stays : (old new : Netlist) (w id : ℕ) → HasMore old new → IsNodeOf old w id → IsNodeOf new w id
node_stays old new w id more h = (omega (arith, more.longer, h.0), more.widths id h.0 ∙ h.1)

pub nodes_stay : (old new : Netlist) (ids : List ℕ) → HasMore old new → AreNodes old ids → AreNodes new ids
nodes_stay old new [] more h = tt
nodes_stay old new (id ∷ ids) more h = (omega (arith, more.longer, h.0), nodes_stay old new ids more h.1)

pub reg_stays : (old new : Netlist) (r : Reg) → HasMore old new → IsRegOf old r → IsRegOf new r
reg_stays old new r more h =
    record { width = h.width; init = h.init; next = node_stays old new r.width r.next more h.next }

pub regs_stay : (old new : Netlist) (rs : List Reg) → HasMore old new → AllByRecursion (IsRegOf old) rs
    → AllByRecursion (IsRegOf new) rs
regs_stay old new [] more h = tt
regs_stay old new (r ∷ rs) more h = (reg_stays old new r more h.0, regs_stay old new rs more h.1)

pub write_stays : (old new : Netlist) (width : ℕ) (w : MemWrite) → HasMore old new → IsWriteOf old width w
    → IsWriteOf new width w
write_stays old new width w more h = record {
  enable = node_stays old new 1 w.enable more h.enable;
  addr = omega (arith, more.longer, h.addr);
  mask = node_stays old new width w.mask more h.mask;
  value = node_stays old new width w.value more h.value;
}

pub writes_stay : (old new : Netlist) (width : ℕ) (ws : List MemWrite) → HasMore old new
    → AllByRecursion (IsWriteOf old width) ws
    → AllByRecursion (IsWriteOf new width) ws
writes_stay old new width [] more h = tt
writes_stay old new width (w ∷ ws) more h =
    (write_stays old new width w more h.0, writes_stay old new width ws more h.1)

pub mem_stays : (old new : Netlist) (m : Mem) → HasMore old new → IsMemOf old m → IsMemOf new m
mem_stays old new m more h = record {
  width = h.width;
  words = h.words;
  each = h.each;
  init = h.init;
  writes = writes_stay old new m.width m.writes more h.writes;
}

pub mems_stay : (old new : Netlist) (ms : List Mem) → HasMore old new → AllByRecursion (IsMemOf old) ms
    → AllByRecursion (IsMemOf new) ms
mems_stay old new [] more h = tt
mems_stay old new (m ∷ ms) more h = (mem_stays old new m more h.0, mems_stay old new ms more h.1)

-- one more node
pub length-widths_of : (net : Netlist) → length (widths_of net) ≡ length net.nodes
length-widths_of net = omega (arith, length-widths (shape_of net) [] net.nodes)

pub length-values_of : (net : Netlist) (g : Given) → length (values_of net g) ≡ length net.nodes
length-values_of net g = omega (arith, length-values (shape_of net) g [] [] net.nodes)

pub widths_of-with_node : (net : Netlist) (x : Node)
    → widths_of (with_node net x) ≡ widths_of net ++ width_in net x ∷ []
widths_of-with_node net x = widths-append (shape_of net) [] net.nodes (x ∷ [])

pub values_of-with_node : (net : Netlist) (g : Given) (x : Node)
    → values_of (with_node net x) g ≡ values_of net g ++ value_in net g x ∷ []
values_of-with_node net g x = values-append (shape_of net) g [] [] net.nodes (x ∷ [])

pub with_node_has_more : (net : Netlist) (x : Node) → HasMore net (with_node net x)
unfolding width_at
with_node_has_more net x = record {
  longer = omega (arith, length_push net.nodes x);
  widths = λ id h.
      let less : id < length (widths_of net) = omega (arith, length-widths_of net, h) in
      ap (λ ws. slice_index ws id) (widths-append (shape_of net) [] net.nodes (x ∷ []))
      ∙ widths_begin (shape_of net) (widths_of net) (x ∷ []) id less;
}

pub with_node_keeps : (net : Netlist) (x : Node) → Keeps net (with_node net x)
unfolding value_at
with_node_keeps net x = record {
  longer = (with_node_has_more net x).longer;
  widths = (with_node_has_more net x).widths;
  given = λ g h. record { inputs = h.inputs; state = record { regs = h.state.regs; mems = h.state.mems } };
  values = λ g id h.
      let less : id < length (values_of net g) = omega (arith, length-values_of net g, h) in
      ap (λ vs. slice_index vs id) (values-append (shape_of net) g [] [] net.nodes (x ∷ []))
      ∙ values_begin (shape_of net) g (widths_of net) (values_of net g) (x ∷ []) id less;
}

pub with_node_whole : (net : Netlist) (x : Node) → IsNet net → IsFitting (shape_of net) (widths_of net) x
    → IsNet (with_node net x)
with_node_whole net x h fits =
    let more = with_node_has_more net x in
    record {
      nodes = fitting_both (shape_of net) [] net.nodes (x ∷ []) h.nodes (fits, tt);
      regs = regs_stay net (with_node net x) net.regs more h.regs;
      mems = mems_stay net (with_node net x) net.mems more h.mems;
      inputs = h.inputs;
      assumes = nodes_stay net (with_node net x) net.assumes more h.assumes;
      few_regs = h.few_regs;
      few_mems = h.few_mems;
      few_inputs = h.few_inputs;
    }

pub with_node_builds : (net : Netlist) (x : Node)
    → Builds net (with_node net x) x (width_in net x) (λ g. value_in net g x) (length net.nodes)
unfolding width_at value_at
with_node_builds net x = record {
  last = refl;
  nodes = refl;
  width =
      ap (λ ws. slice_index ws (length net.nodes)) (widths_of-with_node net x)
      ∙ get_or_push (widths_of net) (width_in net x) 0 (length net.nodes) (length-widths_of net);
  value = λ g.
      ap (λ vs. slice_index vs (length net.nodes)) (values_of-with_node net g x)
      ∙ get_or_push (values_of net g) (value_in net g x) 0 (length net.nodes) (length-values_of net g);
  adds = record {
    nodes = take_at net.nodes (x ∷ []) (length net.nodes) refl;
    regs = refl;
    mems = refl;
    inputs = refl;
    assumes = refl;
    keeps = with_node_keeps net x;
  };
}

-- with equations for what is there before and after
pub builds_by : (old new : Netlist) (x : Node) (id : ℕ) → new ≡ with_node old x → id ≡ length old.nodes
    → Builds old new x (width_in old x) (λ g. value_in old g x) id
builds_by old new x id e at =
    let P : Netlist → Type 0 = λ net. Builds old net x (width_in old x) (λ g. value_in old g x) id in
    let Q : ℕ → Type 0 = λ k. Builds old (with_node old x) x (width_in old x) (λ g. value_in old g x) k in
    subst P (sym e) (subst Q (sym at) (with_node_builds old x))

-- a node of a net is among those with widths
pub is_there : (net : Netlist) (id : ℕ) → id < length net.nodes → id < length (widths_of net)
is_there net id h = omega (arith, length-widths_of net)

pub ruleset theres = (is_there)
