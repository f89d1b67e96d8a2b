-- What a caller of several builders needs: nodes that were there stay, and one change follows another.
use Rattle.std.specs.Prelude.{◌≡◌, refl, ℕ, zero, suc, ◌<◌, ◌≤◌, List, [], ◌∷◌, length, take, map, slice_index, Bool}
use Rattle.std.specs.Prelude.{Option, MatchOption, ℤ}
use Rattle.std.specs.List.{AllByRecursion}
use Rattle.std.proofs.Common.{ap, sym, ◌∙◌, arith, subst}
use Rattle.std.proofs.lemmas.List.{length_push, length-map}
use Rattle.wn_net.specs.declared.node.Node.{Node}
use Rattle.wn_net.specs.declared.node.Node.TheVariants as n
use Rattle.wn_net.specs.declared.parts.Reg.{Reg}
use Rattle.wn_net.specs.declared.parts.Mem.{Mem}
use Rattle.wn_net.specs.declared.parts.Input.{Input}
use Rattle.wn_net.specs.declared.names.Place.{Place}
use Rattle.wn_net.specs.declared.names.Place.TheVariants as place
use Rattle.wn_net.specs.declared.names.NetName.{NetName}
use Rattle.wn_net.specs.declared.names.Names.{Names}
use Rattle.wn_net.specs.declared.names.Spot.{Spot}
use Rattle.wn_net.specs.Value.{Given}
use Rattle.wn_net.specs.Net.{Netlist, IsNode, IsNodeOf, AreNodesOf, value_at}
use Rattle.wn_net.specs.Given.{IsGiven}
use Rattle.wn_net.specs.Changes.{IsBegun, Keeps, Grows, AddsNodes, AddsRegs, Builds, BuildsInput, BuildsReg}
use Rattle.wn_net.specs.Changes.{with_next, cut_to}
use Rattle.wn_net.specs.Names.{IsRangeOf, IsPlaced, IsNameOf, AreSpotsOf, AreNamesOf}
use Rattle.wn_net.proofs.Begun.{begun_self, begun_more, begun_on, begun_map, begun_at, longer_begun, begun_same}

-- ---- nodes alone

-- a net that has at most more nodes has as many, or more
pub longer : (old new : Netlist) → AddsNodes old new → length old.nodes ≤ length new.nodes
longer old new h = h.keeps.longer

-- nothing is added
pub adds_none : (net : Netlist) → AddsNodes net net
adds_none net = record {
  nodes = begun_self net.nodes;
  regs = refl;
  mems = refl;
  inputs = refl;
  assumes = refl;
  keeps = record { longer = omega arith; widths = λ id below. refl; values = λ g id below. refl; given = λ g h. h };
}

pub keeps_on : (a b c : Netlist) → Keeps a b → Keeps b c → Keeps a c
keeps_on a b c h k = record {
  longer = omega (arith, h.longer, k.longer);
  widths = λ id below. k.widths id (omega (arith, h.longer)) ∙ h.widths id below;
  values = λ g id below. k.values g id (omega (arith, h.longer)) ∙ h.values g id below;
  given = λ g x. k.given g (h.given g x);
}

-- nodes are added, and then more
pub adds_on : (a b c : Netlist) → AddsNodes a b → AddsNodes b c → AddsNodes a c
adds_on a b c h k = record {
  nodes = begun_on a.nodes b.nodes c.nodes h.nodes k.nodes;
  regs = k.regs ∙ h.regs;
  mems = k.mems ∙ h.mems;
  inputs = k.inputs ∙ h.inputs;
  assumes = k.assumes ∙ h.assumes;
  keeps = keeps_on a b c h.keeps k.keeps;
}

-- a node that was there is there, with its width and its value
pub node_on : (old new : Netlist) (w id : ℕ) → AddsNodes old new → IsNodeOf old w id → IsNodeOf new w id
node_on old new w id h own = (omega (arith, h.keeps.longer, own.0), h.keeps.widths id own.0 ∙ own.1)

pub there_on : (old new : Netlist) (id : ℕ) → AddsNodes old new → IsNode old id → IsNode new id
there_on old new id h own = omega (arith, h.keeps.longer, own)

pub nodes_on : (old new : Netlist) (w : ℕ) (ids : List ℕ) → AddsNodes old new → AreNodesOf old w ids
    → AreNodesOf new w ids
nodes_on old new w [] h own = tt
nodes_on old new w (id ∷ ids) h own = (node_on old new w id h own.0, nodes_on old new w ids h own.1)

pub value_on : (old new : Netlist) (g : Given) (id : ℕ) → AddsNodes old new → IsNode old id
    → value_at new g id ≡ value_at old g id
value_on old new g id h own = h.keeps.values g id own

-- the node that is built is there
pub built_node : (old new : Netlist) (x : Node) (w : ℕ) (m : Given → ℕ) (id : ℕ) → Builds old new x w m id
    → IsNodeOf new w id
built_node old new x w m id h = (omega (arith, ap length h.nodes, length_push old.nodes x, h.last), h.width)

-- the numbers of a cycle stay those of a cycle
pub given_on : (old new : Netlist) (g : Given) → AddsNodes old new → IsGiven old g → IsGiven new g
given_on old new g h given = h.keeps.given g given

-- ---- nodes and registers

pub adds_regs : (old new : Netlist) → AddsNodes old new → AddsRegs old new
adds_regs old new h = record {
  nodes = h.nodes;
  regs = begun_same old.regs new.regs h.regs;
  mems = h.mems;
  inputs = h.inputs;
  assumes = h.assumes;
  widths = h.keeps.widths;
  values = h.keeps.values;
}

pub regs_none : (net : Netlist) → AddsRegs net net
regs_none net = adds_regs net net (adds_none net)

pub regs_on : (a b c : Netlist) → AddsRegs a b → AddsRegs b c → AddsRegs a c
regs_on a b c h k =
    let more = longer_begun a.nodes b.nodes h.nodes in
    record {
      nodes = begun_on a.nodes b.nodes c.nodes h.nodes k.nodes;
      regs = begun_on a.regs b.regs c.regs h.regs k.regs;
      mems = k.mems ∙ h.mems;
      inputs = k.inputs ∙ h.inputs;
      assumes = k.assumes ∙ h.assumes;
      widths = λ id below. k.widths id (omega (arith, more)) ∙ h.widths id below;
      values = λ g id below. k.values g id (omega (arith, more)) ∙ h.values g id below;
    }

pub built_reg : (old new : Netlist) (r : Reg) (id : ℕ) → BuildsReg old new r id → AddsRegs old new
built_reg old new r id h =
    let P : List Node → Type 0 = λ xs. IsBegun old.nodes xs in
    let Q : List Reg → Type 0 = λ rs. IsBegun old.regs rs in
    record {
      nodes = subst P (sym h.nodes) (begun_more old.nodes (n.Reg (length old.regs) ∷ []));
      regs = subst Q (sym h.regs) (begun_more old.regs (r ∷ []));
      mems = h.mems;
      inputs = h.inputs;
      assumes = h.assumes;
      widths = h.grows.widths;
      values = h.grows.values;
    }

pub built_reg_node : (old new : Netlist) (r : Reg) (id : ℕ) → BuildsReg old new r id → IsNodeOf new r.width id
built_reg_node old new r id h =
    (omega (arith, ap length h.nodes, length_push old.nodes (n.Reg (length old.regs)), h.last), h.width)

pub built_input_node : (old new : Netlist) (i : Input) (id : ℕ) → BuildsInput old new i id → IsNodeOf new i.width id
built_input_node old new i id h =
    (omega (arith, ap length h.nodes, length_push old.nodes (n.Input (length old.inputs)), h.last), h.width)

first_regs : (i next k : ℕ) (rs : List Reg) → k ≤ i → take k (with_next i next rs) ≡ take k rs
first_regs i next k [] h = refl
first_regs i next zero (r ∷ rs) h = refl
first_regs zero next (suc k) (r ∷ rs) h = absurd (omega arith)
first_regs (suc i) next (suc k) (r ∷ rs) h = ap (λ us. r ∷ us) (first_regs i next k rs (omega arith))

-- a register that was added gets another next node
pub next_on : (a b c : Netlist) (i next : ℕ) → AddsRegs a b → length a.regs ≤ i
    → c ≡ record b { regs = with_next i next b.regs } → Keeps b c
    → AddsRegs a c
next_on a b c i next h new e k =
    let more = longer_begun a.nodes b.nodes h.nodes in
    let P : Netlist → Type 0 = λ m. IsBegun a.nodes m.nodes in
    record {
      nodes = subst P (sym e) h.nodes;
      regs = ap (λ m. take (length a.regs) m.regs) e ∙ first_regs i next (length a.regs) b.regs new ∙ h.regs;
      mems = ap (λ m. m.mems) e ∙ h.mems;
      inputs = ap (λ m. m.inputs) e ∙ h.inputs;
      assumes = ap (λ m. m.assumes) e ∙ h.assumes;
      widths = λ id below. k.widths id (omega (arith, more)) ∙ h.widths id below;
      values = λ g id below. k.values g id (omega (arith, more)) ∙ h.values g id below;
    }

pub regs_node_on : (old new : Netlist) (w id : ℕ) → AddsRegs old new → IsNodeOf old w id → IsNodeOf new w id
regs_node_on old new w id h own =
    (omega (arith, longer_begun old.nodes new.nodes h.nodes, own.0), h.widths id own.0 ∙ own.1)

-- cut to the nodes and registers that were there, the net is as it was
pub cut_back : (old new : Netlist) → AddsRegs old new → cut_to (length old.nodes) (length old.regs) new ≡ old
cut_back old new h = λ i. record {
  nodes = h.nodes i;
  regs = h.regs i;
  mems = h.mems i;
  inputs = h.inputs i;
  assumes = h.assumes i;
}

-- and without registers
pub cut_nodes_back : (old new : Netlist) → AddsNodes old new → cut_to (length old.nodes) (length old.regs) new ≡ old
cut_nodes_back old new h = cut_back old new (adds_regs old new h)

-- ---- all additions

pub regs_grow : (old new : Netlist) → AddsRegs old new → Grows old new
regs_grow old new h = record {
  nodes = h.nodes;
  inputs = begun_same old.inputs new.inputs h.inputs;
  assumes = begun_same old.assumes new.assumes h.assumes;
  reg_widths = begun_map (λ r. r.width) old.regs new.regs h.regs;
  reg_starts = begun_map (λ r. r.init) old.regs new.regs h.regs;
  mem_widths = begun_same _ _ (ap (λ ms. map (λ m. m.width) ms) h.mems);
  mem_words = begun_same _ _ (ap (λ ms. map (λ m. m.words) ms) h.mems);
  mem_starts = begun_same _ _ (ap (λ ms. map (λ m. m.init) ms) h.mems);
  widths = h.widths;
  values = h.values;
}

pub nodes_grow : (old new : Netlist) → AddsNodes old new → Grows old new
nodes_grow old new h = regs_grow old new (adds_regs old new h)

pub grows_on : (a b c : Netlist) → Grows a b → Grows b c → Grows a c
grows_on a b c h k =
    let more = longer_begun a.nodes b.nodes h.nodes in
    record {
      nodes = begun_on a.nodes b.nodes c.nodes h.nodes k.nodes;
      inputs = begun_on a.inputs b.inputs c.inputs h.inputs k.inputs;
      assumes = begun_on a.assumes b.assumes c.assumes h.assumes k.assumes;
      reg_widths = begun_on _ _ _ h.reg_widths k.reg_widths;
      reg_starts = begun_on _ _ _ h.reg_starts k.reg_starts;
      mem_widths = begun_on _ _ _ h.mem_widths k.mem_widths;
      mem_words = begun_on _ _ _ h.mem_words k.mem_words;
      mem_starts = begun_on _ _ _ h.mem_starts k.mem_starts;
      widths = λ id below. k.widths id (omega (arith, more)) ∙ h.widths id below;
      values = λ g id below. k.values g id (omega (arith, more)) ∙ h.values g id below;
    }

pub grown_node : (old new : Netlist) (w id : ℕ) → Grows old new → IsNodeOf old w id → IsNodeOf new w id
grown_node old new w id h own =
    (omega (arith, longer_begun old.nodes new.nodes h.nodes, own.0), h.widths id own.0 ∙ own.1)

pub grown_there : (old new : Netlist) (id : ℕ) → Grows old new → IsNode old id → IsNode new id
grown_there old new id h own = omega (arith, longer_begun old.nodes new.nodes h.nodes, own)

pub grown_nodes : (old new : Netlist) (w : ℕ) (ids : List ℕ) → Grows old new → AreNodesOf old w ids
    → AreNodesOf new w ids
grown_nodes old new w [] h own = tt
grown_nodes old new w (id ∷ ids) h own = (grown_node old new w id h own.0, grown_nodes old new w ids h own.1)

pub grown_value : (old new : Netlist) (g : Given) (id : ℕ) → Grows old new → IsNode old id
    → value_at new g id ≡ value_at old g id
grown_value old new g id h own = h.values g id own

-- ---- names

-- names of a net are names of one with more
place_on : (old new : Netlist) (w : ℕ) (output : Bool) (words : Option (ℤ × ℤ)) (at : Place) → Grows old new
    → IsPlaced old w output words at → IsPlaced new w output words at
place_on old new w output words (place.Node id) h own = (grown_node old new w id h own.0, own.1)
place_on old new w output words (place.Mem m) h own =
    let few : m < length (map (λ m. m.width) old.mems) = omega
    (arith, length-map old.mems (λ (m : Mem). m.width), own.0) in
    let some : m < length (map (λ m. m.words) old.mems) = omega
    (arith, length-map old.mems (λ (m : Mem). m.words), own.0) in
    let more = longer_begun (map (λ m. m.width) old.mems) (map (λ m. m.width) new.mems) h.mem_widths in
    let P : ℕ → Type 0 = λ count. MatchOption words ⊥ (IsRangeOf count) in (
      omega (arith, few, more, length-map new.mems (λ (m : Mem). m.width)),
      begun_at _ _ m h.mem_widths few ∙ own.1,
      own.2,
      subst P (sym (begun_at _ _ m h.mem_words some)) own.3,
    )

placed_on : (old new : Netlist) (list : List NetName) → Grows old new → AllByRecursion (IsNameOf old) list
    → AllByRecursion (IsNameOf new) list
placed_on old new [] h own = tt
placed_on old new (x ∷ xs) h own =
    (place_on old new x.width x.output x.words x.place h own.0, placed_on old new xs h own.1)

spots_on : (names : Names) (ws vs : List ℕ) (spots : List Spot) → IsBegun ws vs → AreSpotsOf names ws spots
    → AreSpotsOf names vs spots
spots_on names ws vs [] h own = tt
spots_on names [] vs (s ∷ ss) h own = absurd own
spots_on names (w ∷ ws) [] (s ∷ ss) h own = absurd (omega (arith, longer_begun (w ∷ ws) [] h))
spots_on names (w ∷ ws) (v ∷ vs) (s ∷ ss) h own =
    let P : ℕ → Type 0 = λ u. AreSpotsOf names (u ∷ vs) (s ∷ ss) in
    subst P (sym (ap (λ us. slice_index us 0) h)) (own.0, spots_on names ws vs ss (tail h) own.1)
  where
    tail : (v ∷ take (length ws) vs) ≡ (w ∷ ws) → take (length ws) vs ≡ ws
    tail e = cc

pub names_grow : (old new : Netlist) (names : Names) → Grows old new → AreNamesOf old names → AreNamesOf new names
names_grow old new names h own = record {
  placed = placed_on old new names.list h own.placed;
  differ = own.differ;
  inputs = spots_on names _ _ names.inputs (begun_map (λ i. i.width) old.inputs new.inputs h.inputs) own.inputs;
  regs = spots_on names _ _ names.regs h.reg_widths own.regs;
  mems = own.mems;
  few_mems =
      omega (
        arith,
        own.few_mems,
        longer_begun _ _ h.mem_widths,
        length-map old.mems
            (λ (m : Mem). m.width),
        length-map new.mems (λ (m : Mem). m.width),
      );
}

pub names_on : (old new : Netlist) (names : Names) → AddsNodes old new → AreNamesOf old names → AreNamesOf new names
names_on old new names h own = names_grow old new names (nodes_grow old new h) own

-- ---- what a caller's tactic takes

pub ruleset additions = (adds_on, adds_none, node_on, there_on, built_node, given_on)
