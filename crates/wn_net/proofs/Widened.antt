-- Nets with one more input, register or memory, or with a register or a memory changed.
use Rattle.std.specs.Prelude.{◌≡◌, refl, ℕ, zero, suc, ◌-◌, ◌<◌, ◌≤◌, ◌^◌, List, [], ◌∷◌, ◌++◌, length, map}
use Rattle.std.specs.Prelude.{slice_index}
use Rattle.std.specs.List.{AllByRecursion}
use Rattle.std.proofs.Common.{ap, sym, ◌∙◌, arith, subst}
use Rattle.std.proofs.lemmas.List.{length_push, get_or_push, map_push, length-map}
use Rattle.wn_net.specs.declared.node.Node.{Node}
use Rattle.wn_net.specs.declared.node.Node.TheVariants as n
use Rattle.wn_net.specs.declared.parts.Reg.{Reg}
use Rattle.wn_net.specs.declared.parts.Mem.{Mem}
use Rattle.wn_net.specs.declared.parts.MemWrite.{MemWrite}
use Rattle.wn_net.specs.declared.parts.Input.{Input}
use Rattle.wn_net.specs.Width.{IsWidth, widths, AreFitting}
use Rattle.wn_net.specs.Value.{Given, values}
use Rattle.wn_net.specs.Net.{Netlist, IsNet, IsNode, IsNodeOf, IsInitOf, IsRegOf, IsWriteOf, IsMemOf, shape_of}
use Rattle.wn_net.specs.Net.{widths_of, values_of, width_at, value_at}
use Rattle.wn_net.specs.Given.{AreNumbersOf, AreMemsOf}
use Rattle.wn_net.specs.Changes.{Keeps, Grows, BuildsInput, BuildsReg, with_node, with_mem, with_next, with_write}
use Rattle.wn_net.proofs.Begun.{begun_self, begun_more, begun_same, begun_map}
use Rattle.wn_net.proofs.Sweep.{fitting_both}
use Rattle.wn_net.proofs.Grows.{Extends, IsWider, extends_self, extends_more, all_wider, widths_wider, values_wider}
use Rattle.wn_net.proofs.Stays.{HasMore, regs_stay, mems_stay, nodes_stay, with_node_has_more, with_node_whole}
use Rattle.wn_net.proofs.Stays.{with_node_builds}

-- the same nodes over more inputs, registers or memories
pub record IsWidened (old new : Netlist) : Type 0 where
  pub nodes : new.nodes ≡ old.nodes
  pub shape : IsWider (shape_of old) (shape_of new)

pub widened_fitting : (old new : Netlist) → IsWidened old new → IsNet old → AreFitting (shape_of new) [] new.nodes
widened_fitting old new w h =
    let P : List Node → Type 0 = λ xs. AreFitting (shape_of new) [] xs in
    subst P (sym w.nodes) (all_wider (shape_of old) (shape_of new) [] old.nodes w.shape h.nodes)

pub widened_widths : (old new : Netlist) → IsWidened old new → IsNet old → widths_of new ≡ widths_of old
widened_widths old new w h =
    ap (widths (shape_of new) []) w.nodes ∙ widths_wider (shape_of old) (shape_of new) [] old.nodes w.shape h.nodes

pub widened_values : (old new : Netlist) (g : Given) → IsWidened old new → IsNet old → values_of new g ≡ values_of old g
widened_values old new g w h =
    ap (values (shape_of new) g [] []) w.nodes
    ∙ values_wider (shape_of old) (shape_of new) g [] [] old.nodes w.shape h.nodes

-- there are as many nodes or more, and those that were there have kept their widths and values
pub record NodesStay (old new : Netlist) : Type 0 where
  pub longer : length old.nodes ≤ length new.nodes
  pub widths : (id : ℕ) → id < length old.nodes → width_at new id ≡ width_at old id
  pub values : (g : Given) (id : ℕ) → id < length old.nodes → value_at new g id ≡ value_at old g id

pub widened_stay : (old new : Netlist) → IsWidened old new → IsNet old → NodesStay old new
unfolding width_at value_at
widened_stay old new w h = record {
  longer = omega (arith, ap length w.nodes);
  widths = λ id below. ap (λ ws. slice_index ws id) (widened_widths old new w h);
  values = λ g id below. ap (λ vs. slice_index vs id) (widened_values old new g w h);
}

pub widened_has_more : (old new : Netlist) → IsWidened old new → IsNet old → HasMore old new
widened_has_more old new w h = let s = widened_stay old new w h in record { longer = s.longer; widths = s.widths }

extends_push : {A : Type 0} (f : A → ℕ) (xs : List A) (x : A) → Extends (map f xs) (map f (xs ++ x ∷ []))
extends_push f xs x =
    let P : List ℕ → Type 0 = λ ys. Extends (map f xs) ys in
    subst P (sym (map_push f xs x)) (extends_more (map f xs) (f x ∷ []))

extends_same : (xs ys : List ℕ) → ys ≡ xs → Extends xs ys
extends_same xs ys e = let P : List ℕ → Type 0 = λ zs. Extends xs zs in subst P (sym e) (extends_self xs)

all_push : {A : Type 0} (P : A → Type 0) (xs : List A) (x : A) → AllByRecursion P xs → P x
    → AllByRecursion P (xs ++ x ∷ [])
all_push P [] x h k = (k, tt)
all_push P (y ∷ ys) x h k = (h.0, all_push P ys x h.1 k)

-- and then more nodes
stay_on : (a b c : Netlist) → NodesStay a b → Keeps b c → NodesStay a c
stay_on a b c h k = record {
  longer = omega (arith, h.longer, k.longer);
  widths = λ id below. k.widths id (omega (arith, h.longer)) ∙ h.widths id below;
  values = λ g id below. k.values g id (omega (arith, h.longer)) ∙ h.values g id below;
}

more_on : (a b c : Netlist) → HasMore a b → HasMore b c → HasMore a c
more_on a b c h k = record {
  longer = omega (arith, h.longer, k.longer);
  widths = λ id below. k.widths id (omega (arith, h.longer)) ∙ h.widths id below;
}

-- an input
abbrev pub more_inputs : Netlist → Input → Netlist
more_inputs net i = record net { inputs = net.inputs ++ i ∷ [] }

abbrev pub with_input : Netlist → Input → Netlist
with_input net i = with_node (more_inputs net i) (n.Input (length net.inputs))

pub inputs_widened : (net : Netlist) (i : Input) → IsWidened net (more_inputs net i)
inputs_widened net i = record {
  nodes = refl;
  shape = record {
    inputs = extends_push (λ i. i.width) net.inputs i;
    regs = extends_self (map (λ r. r.width) net.regs);
    mems = extends_self (map (λ m. m.width) net.mems);
  };
}

more_inputs_whole : (net : Netlist) (i : Input) → IsNet net → IsWidth i.width → length net.inputs < 2 ^ 32 - 1
    → IsNet (more_inputs net i)
more_inputs_whole net i h wide few =
    let more = widened_has_more net (more_inputs net i) (inputs_widened net i) h in
    record {
      nodes = widened_fitting net (more_inputs net i) (inputs_widened net i) h;
      regs = regs_stay net (more_inputs net i) net.regs more h.regs;
      mems = mems_stay net (more_inputs net i) net.mems more h.mems;
      inputs = all_push (λ i. IsWidth i.width) net.inputs i h.inputs wide;
      assumes = nodes_stay net (more_inputs net i) net.assumes more h.assumes;
      few_regs = h.few_regs;
      few_mems = h.few_mems;
      few_inputs = omega (arith, length_push net.inputs i, few);
    }

pub last_mapped : {A : Type 0} (f : A → ℕ) (xs : List A) (x : A) → slice_index (map f (xs ++ x ∷ [])) (length xs) ≡ f x
last_mapped f xs x =
    ap (λ ys. slice_index ys (length xs)) (map_push f xs x)
    ∙ get_or_push (map f xs) (f x) 0 (length xs) (length-map xs f)

pub with_input_whole : (net : Netlist) (i : Input) → IsNet net → IsWidth i.width → length net.inputs < 2 ^ 32 - 1
    → IsNet (with_input net i)
with_input_whole net i h wide few =
    with_node_whole (more_inputs net i) (n.Input (length net.inputs)) (more_inputs_whole net i h wide few)
    (omega (arith, length-map (net.inputs ++ i ∷ []) (λ (i : Input). i.width), length_push net.inputs i))

pub with_input_builds : (net : Netlist) (i : Input) → IsNet net
    → BuildsInput net (with_input net i) i (length net.nodes)
with_input_builds net i h =
    let mid = more_inputs net i in
    let built = with_node_builds mid (n.Input (length net.inputs)) in
    let stay = stay_on net mid (with_input net i) (widened_stay net mid (inputs_widened net i) h) built.adds.keeps in
    record {
      last = refl;
      nodes = refl;
      inputs = refl;
      regs = refl;
      mems = refl;
      assumes = refl;
      width = built.width ∙ last_mapped (λ i. i.width) net.inputs i;
      value = built.value;
      grows = record {
        nodes = begun_more net.nodes (n.Input (length net.inputs) ∷ []);
        inputs = begun_more net.inputs (i ∷ []);
        assumes = begun_self net.assumes;
        reg_widths = begun_self (map (λ r. r.width) net.regs);
        reg_starts = begun_self (map (λ r. r.init) net.regs);
        mem_widths = begun_self (map (λ m. m.width) net.mems);
        mem_words = begun_self (map (λ m. m.words) net.mems);
        mem_starts = begun_self (map (λ m. m.init) net.mems);
        widths = stay.widths;
        values = stay.values;
      };
    }

-- a register
abbrev pub more_regs : Netlist → Reg → Netlist
more_regs net r = record net { regs = net.regs ++ r ∷ [] }

abbrev pub with_reg : Netlist → Reg → Netlist
with_reg net r = with_node (more_regs net r) (n.Reg (length net.regs))

pub regs_widened : (net : Netlist) (r : Reg) → IsWidened net (more_regs net r)
regs_widened net r = record {
  nodes = refl;
  shape = record {
    inputs = extends_self (map (λ i. i.width) net.inputs);
    regs = extends_push (λ r. r.width) net.regs r;
    mems = extends_self (map (λ m. m.width) net.mems);
  };
}

pub with_reg_whole : (net : Netlist) (r : Reg) → IsNet net → IsWidth r.width → IsInitOf r.width r.init
    → r.next ≡ length net.nodes
    → length net.regs < 2 ^ 32 - 1 → IsNet (with_reg net r)
with_reg_whole net r h wide init next few =
    let mid = more_regs net r in
    let new = with_reg net r in
    let node = n.Reg (length net.regs) in
    let widened = regs_widened net r in
    let built = with_node_builds mid node in
    let more = more_on net mid new (widened_has_more net mid widened h) (with_node_has_more mid node) in
    let P : ℕ → Type 0 = λ id. IsNodeOf new r.width id in
    let own : IsNodeOf new r.width (length net.nodes) =
    (omega (arith, length_push net.nodes node), built.width ∙ last_mapped (λ r. r.width) net.regs r) in
    record {
      nodes =
          fitting_both (shape_of mid) [] net.nodes (node ∷ []) (widened_fitting net mid widened h)
          (omega (arith, length-map (net.regs ++ r ∷ []) (λ (r : Reg). r.width), length_push net.regs r), tt);
      regs =
          all_push (IsRegOf new) net.regs r (regs_stay net new net.regs more h.regs)
          (record { width = wide; init = init; next = subst P (sym next) own });
      mems = mems_stay net new net.mems more h.mems;
      inputs = h.inputs;
      assumes = nodes_stay net new net.assumes more h.assumes;
      few_regs = omega (arith, length_push net.regs r, few);
      few_mems = h.few_mems;
      few_inputs = h.few_inputs;
    }

pub with_reg_builds : (net : Netlist) (r : Reg) → IsNet net → BuildsReg net (with_reg net r) r (length net.nodes)
with_reg_builds net r h =
    let mid = more_regs net r in
    let built = with_node_builds mid (n.Reg (length net.regs)) in
    let stay = stay_on net mid (with_reg net r) (widened_stay net mid (regs_widened net r) h) built.adds.keeps in
    record {
      last = refl;
      nodes = refl;
      inputs = refl;
      regs = refl;
      mems = refl;
      assumes = refl;
      width = built.width ∙ last_mapped (λ r. r.width) net.regs r;
      value = built.value;
      grows = record {
        nodes = begun_more net.nodes (n.Reg (length net.regs) ∷ []);
        inputs = begun_self net.inputs;
        assumes = begun_self net.assumes;
        reg_widths = begun_map (λ r. r.width) net.regs (net.regs ++ r ∷ []) (begun_more net.regs (r ∷ []));
        reg_starts = begun_map (λ r. r.init) net.regs (net.regs ++ r ∷ []) (begun_more net.regs (r ∷ []));
        mem_widths = begun_self (map (λ m. m.width) net.mems);
        mem_words = begun_self (map (λ m. m.words) net.mems);
        mem_starts = begun_self (map (λ m. m.init) net.mems);
        widths = stay.widths;
        values = stay.values;
      };
    }

-- a memory
pub mems_widened : (net : Netlist) (m : Mem) → IsWidened net (with_mem net m)
mems_widened net m = record {
  nodes = refl;
  shape = record {
    inputs = extends_self (map (λ i. i.width) net.inputs);
    regs = extends_self (map (λ r. r.width) net.regs);
    mems = extends_push (λ m. m.width) net.mems m;
  };
}

pub with_mem_grows : (net : Netlist) (m : Mem) → IsNet net → Grows net (with_mem net m)
with_mem_grows net m h =
    let stay = widened_stay net (with_mem net m) (mems_widened net m) h in
    let more = begun_more net.mems (m ∷ []) in
    record {
      nodes = begun_self net.nodes;
      inputs = begun_self net.inputs;
      assumes = begun_self net.assumes;
      reg_widths = begun_self (map (λ r. r.width) net.regs);
      reg_starts = begun_self (map (λ r. r.init) net.regs);
      mem_widths = begun_map (λ m. m.width) net.mems (net.mems ++ m ∷ []) more;
      mem_words = begun_map (λ m. m.words) net.mems (net.mems ++ m ∷ []) more;
      mem_starts = begun_map (λ m. m.init) net.mems (net.mems ++ m ∷ []) more;
      widths = stay.widths;
      values = stay.values;
    }

pub with_mem_whole : (net : Netlist) (m : Mem) → IsNet net → IsMemOf (with_mem net m) m
    → length net.mems < 2 ^ 32 - 1 → IsNet (with_mem net m)
with_mem_whole net m h own few =
    let new = with_mem net m in
    let more = widened_has_more net new (mems_widened net m) h in
    record {
      nodes = widened_fitting net new (mems_widened net m) h;
      regs = regs_stay net new net.regs more h.regs;
      mems = all_push (IsMemOf new) net.mems m (mems_stay net new net.mems more h.mems) own;
      inputs = h.inputs;
      assumes = nodes_stay net new net.assumes more h.assumes;
      few_regs = h.few_regs;
      few_mems = omega (arith, length_push net.mems m, few);
      few_inputs = h.few_inputs;
    }

-- the next value of a register
abbrev pub next_set : Netlist → ℕ → ℕ → Netlist
next_set net i next = record net { regs = with_next i next net.regs }

widths-with_next : (i next : ℕ) (rs : List Reg) → map (λ r. r.width) (with_next i next rs) ≡ map (λ r. r.width) rs
widths-with_next i next [] = refl
widths-with_next zero next (r ∷ rs) = refl
widths-with_next (suc i) next (r ∷ rs) = ap (λ ws. r.width ∷ ws) (widths-with_next i next rs)

length-with_next : (i next : ℕ) (rs : List Reg) → length (with_next i next rs) ≡ length rs
length-with_next i next [] = refl
length-with_next zero next (r ∷ rs) = refl
length-with_next (suc i) next (r ∷ rs) = ap suc (length-with_next i next rs)

pub next_widened : (net : Netlist) (i next : ℕ) → IsWidened net (next_set net i next)
next_widened net i next = record {
  nodes = refl;
  shape = record {
    inputs = extends_self (map (λ i. i.width) net.inputs);
    regs = extends_same (map (λ r. r.width) net.regs) (map (λ r. r.width) (with_next i next net.regs))
        (widths-with_next i next net.regs);
    mems = extends_self (map (λ m. m.width) net.mems);
  };
}

regs_with_next : (net : Netlist) (i next : ℕ) (rs : List Reg) → AllByRecursion (IsRegOf net) rs
    → IsNodeOf net (slice_index (map (λ r. r.width) rs) i) next → AllByRecursion (IsRegOf net) (with_next i next rs)
regs_with_next net i next [] h k = tt
regs_with_next net zero next (r ∷ rs) h k = (record { width = h.0.width; init = h.0.init; next = k }, h.1)
regs_with_next net (suc i) next (r ∷ rs) h k = (h.0, regs_with_next net i next rs h.1 k)

starts-with_next : (i next : ℕ) (rs : List Reg) → map (λ r. r.init) (with_next i next rs) ≡ map (λ r. r.init) rs
starts-with_next i next [] = refl
starts-with_next zero next (r ∷ rs) = refl
starts-with_next (suc i) next (r ∷ rs) = ap (λ ws. r.init ∷ ws) (starts-with_next i next rs)

pub next_set_keeps : (net : Netlist) (i next : ℕ) → IsNet net → Keeps net (next_set net i next)
next_set_keeps net i next h =
    let stay = widened_stay net (next_set net i next) (next_widened net i next) h in
    record {
      longer = stay.longer;
      widths = stay.widths;
      values = stay.values;
      given = λ g k.
          let P : List ℕ → Type 0 = λ ws. AreNumbersOf ws g.state.regs in
          record {
            inputs = k.inputs;
            state =
                record { regs = subst P (sym (widths-with_next i next net.regs)) k.state.regs; mems = k.state.mems };
          };
    }

pub next_set_grows : (net : Netlist) (i next : ℕ) → IsNet net → Grows net (next_set net i next)
next_set_grows net i next h =
    let stay = widened_stay net (next_set net i next) (next_widened net i next) h in
    record {
      nodes = begun_self net.nodes;
      inputs = begun_self net.inputs;
      assumes = begun_self net.assumes;
      reg_widths = begun_same _ _ (widths-with_next i next net.regs);
      reg_starts = begun_same _ _ (starts-with_next i next net.regs);
      mem_widths = begun_self (map (λ m. m.width) net.mems);
      mem_words = begun_self (map (λ m. m.words) net.mems);
      mem_starts = begun_self (map (λ m. m.init) net.mems);
      widths = stay.widths;
      values = stay.values;
    }

pub next_set_whole : (net : Netlist) (i next : ℕ) → IsNet net
    → IsNodeOf net (slice_index (map (λ r. r.width) net.regs) i) next
    → IsNet (next_set net i next)
next_set_whole net i next h own =
    let new = next_set net i next in
    let more = widened_has_more net new (next_widened net i next) h in
    record {
      nodes = widened_fitting net new (next_widened net i next) h;
      regs = regs_stay net new (with_next i next net.regs) more (regs_with_next net i next net.regs h.regs own);
      mems = mems_stay net new net.mems more h.mems;
      inputs = h.inputs;
      assumes = nodes_stay net new net.assumes more h.assumes;
      few_regs = omega (arith, length-with_next i next net.regs, h.few_regs);
      few_mems = h.few_mems;
      few_inputs = h.few_inputs;
    }

-- one more write of a memory
abbrev pub write_added : Netlist → ℕ → MemWrite → Netlist
write_added net i w = record net { mems = with_write i w net.mems }

widths-with_write : (i : ℕ) (w : MemWrite) (ms : List Mem)
    → map (λ m. m.width) (with_write i w ms) ≡ map (λ m. m.width) ms
widths-with_write i w [] = refl
widths-with_write zero w (m ∷ ms) = refl
widths-with_write (suc i) w (m ∷ ms) = ap (λ ws. m.width ∷ ws) (widths-with_write i w ms)

length-with_write : (i : ℕ) (w : MemWrite) (ms : List Mem) → length (with_write i w ms) ≡ length ms
length-with_write i w [] = refl
length-with_write zero w (m ∷ ms) = refl
length-with_write (suc i) w (m ∷ ms) = ap suc (length-with_write i w ms)

pub write_widened : (net : Netlist) (i : ℕ) (w : MemWrite) → IsWidened net (write_added net i w)
write_widened net i w = record {
  nodes = refl;
  shape = record {
    inputs = extends_self (map (λ i. i.width) net.inputs);
    regs = extends_self (map (λ r. r.width) net.regs);
    mems = extends_same (map (λ m. m.width) net.mems) (map (λ m. m.width) (with_write i w net.mems))
        (widths-with_write i w net.mems);
  };
}

mems_with_write : (net : Netlist) (i : ℕ) (w : MemWrite) (ms : List Mem) → AllByRecursion (IsMemOf net) ms
    → IsWriteOf net (slice_index (map (λ m. m.width) ms) i) w → AllByRecursion (IsMemOf net) (with_write i w ms)
mems_with_write net i w [] h k = tt
mems_with_write net zero w (m ∷ ms) h k = (
  record {
    width = h.0.width;
    words = h.0.words;
    each = h.0.each;
    init = h.0.init;
    writes = all_push (IsWriteOf net m.width) m.writes w h.0.writes k;
  },
  h.1,
)
mems_with_write net (suc i) w (m ∷ ms) h k = (h.0, mems_with_write net i w ms h.1 k)

words-with_write : (i : ℕ) (w : MemWrite) (ms : List Mem)
    → map (λ m. m.words) (with_write i w ms) ≡ map (λ m. m.words) ms
words-with_write i w [] = refl
words-with_write zero w (m ∷ ms) = refl
words-with_write (suc i) w (m ∷ ms) = ap (λ ws. m.words ∷ ws) (words-with_write i w ms)

starts-with_write : (i : ℕ) (w : MemWrite) (ms : List Mem)
    → map (λ m. m.init) (with_write i w ms) ≡ map (λ m. m.init) ms
starts-with_write i w [] = refl
starts-with_write zero w (m ∷ ms) = refl
starts-with_write (suc i) w (m ∷ ms) = ap (λ ws. m.init ∷ ws) (starts-with_write i w ms)

mems_of-with_write : (i : ℕ) (w : MemWrite) (ms : List Mem) (ns : List (List ℕ)) → AreMemsOf ms ns
    → AreMemsOf (with_write i w ms) ns
mems_of-with_write i w [] [] h = tt
mems_of-with_write zero w (m ∷ ms) (n ∷ ns) h = (record { each = h.0.each; below = h.0.below }, h.1)
mems_of-with_write (suc i) w (m ∷ ms) (n ∷ ns) h = (h.0, mems_of-with_write i w ms ns h.1)
mems_of-with_write i w [] (n ∷ ns) h = absurd h
mems_of-with_write i w (m ∷ ms) [] h = absurd h

pub write_added_keeps : (net : Netlist) (i : ℕ) (w : MemWrite) → IsNet net → Keeps net (write_added net i w)
write_added_keeps net i w h =
    let stay = widened_stay net (write_added net i w) (write_widened net i w) h in
    record {
      longer = stay.longer;
      widths = stay.widths;
      values = stay.values;
      given = λ g k.
          record {
            inputs = k.inputs;
            state = record { regs = k.state.regs; mems = mems_of-with_write i w net.mems g.state.mems k.state.mems };
          };
    }

pub write_added_grows : (net : Netlist) (i : ℕ) (w : MemWrite) → IsNet net → Grows net (write_added net i w)
write_added_grows net i w h =
    let stay = widened_stay net (write_added net i w) (write_widened net i w) h in
    record {
      nodes = begun_self net.nodes;
      inputs = begun_self net.inputs;
      assumes = begun_self net.assumes;
      reg_widths = begun_self (map (λ r. r.width) net.regs);
      reg_starts = begun_self (map (λ r. r.init) net.regs);
      mem_widths = begun_same _ _ (widths-with_write i w net.mems);
      mem_words = begun_same _ _ (words-with_write i w net.mems);
      mem_starts = begun_same _ _ (starts-with_write i w net.mems);
      widths = stay.widths;
      values = stay.values;
    }

pub write_added_whole : (net : Netlist) (i : ℕ) (w : MemWrite) → IsNet net
    → IsWriteOf net (slice_index (map (λ m. m.width) net.mems) i) w
    → IsNet (write_added net i w)
write_added_whole net i w h own =
    let new = write_added net i w in
    let more = widened_has_more net new (write_widened net i w) h in
    record {
      nodes = widened_fitting net new (write_widened net i w) h;
      regs = regs_stay net new net.regs more h.regs;
      mems = mems_stay net new (with_write i w net.mems) more (mems_with_write net i w net.mems h.mems own);
      inputs = h.inputs;
      assumes = nodes_stay net new net.assumes more h.assumes;
      few_regs = h.few_regs;
      few_mems = omega (arith, length-with_write i w net.mems, h.few_mems);
      few_inputs = h.few_inputs;
    }

-- one more assumption
abbrev pub assumed : Netlist → ℕ → Netlist
assumed net id = record net { assumes = net.assumes ++ id ∷ [] }

assumed_more : (net : Netlist) (id : ℕ) → HasMore net (assumed net id)
unfolding width_at
assumed_more net id = record { longer = omega arith; widths = λ i below. refl }

pub assumed_whole : (net : Netlist) (id : ℕ) → IsNet net → IsNode net id → IsNet (assumed net id)
assumed_whole net id h own =
    let more = assumed_more net id in
    record {
      nodes = h.nodes;
      regs = regs_stay net (assumed net id) net.regs more h.regs;
      mems = mems_stay net (assumed net id) net.mems more h.mems;
      inputs = h.inputs;
      assumes = nodes_stay net (assumed net id) (net.assumes ++ id ∷ []) more
          (all_push (IsNode net) net.assumes id h.assumes own);
      few_regs = h.few_regs;
      few_mems = h.few_mems;
      few_inputs = h.few_inputs;
    }

pub assumed_keeps : (net : Netlist) (id : ℕ) → Keeps net (assumed net id)
unfolding width_at value_at
assumed_keeps net id = record {
  longer = omega arith;
  widths = λ i below. refl;
  values = λ g i below. refl;
  given = λ g h. record { inputs = h.inputs; state = record { regs = h.state.regs; mems = h.state.mems } };
}

pub assumed_grows : (net : Netlist) (id : ℕ) → Grows net (assumed net id)
assumed_grows net id =
    let keeps = assumed_keeps net id in
    record {
      nodes = begun_self net.nodes;
      inputs = begun_self net.inputs;
      assumes = begun_more net.assumes (id ∷ []);
      reg_widths = begun_self (map (λ r. r.width) net.regs);
      reg_starts = begun_self (map (λ r. r.init) net.regs);
      mem_widths = begun_self (map (λ m. m.width) net.mems);
      mem_words = begun_self (map (λ m. m.words) net.mems);
      mem_starts = begun_self (map (λ m. m.init) net.mems);
      widths = keeps.widths;
      values = keeps.values;
    }
