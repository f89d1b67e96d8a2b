-- What stays as a net grows: constants, writes of words, and memories that may be written.
use Rattle.std.specs.Prelude.{◌≡◌, refl, ℕ, zero, suc, ◌+◌, List, [], ◌∷◌, ◌++◌, map, slice_index, Option, Some, None, IfSome}
use Rattle.std.proofs.Common.{ap, ◌∙◌, arith, subst}
use Rattle.fv_bits.specs.Bits.{ones}
use Rattle.wn_net.specs.declared.parts.Mem.{Mem}
use Rattle.wn_net.specs.declared.parts.MemWrite.{MemWrite}
use Rattle.wn_net.specs.Changes.{AddsNodes, Keeps, with_write}
use Rattle.std.specs.List.{AllByRecursion}
use Rattle.wn_net.specs.Net.{IsNodeOf, IsWriteOf, Netlist}
use Rattle.vl_lower_state.specs.Stores.{AddsWrites, IsConstant, MayStore, PutNodes, PutsNode}

pub keeps_same : (net : Netlist) → Keeps net net
keeps_same net = record {
  longer = omega arith;
  widths = λ id less. refl;
  values = λ g id less. refl;
  given = λ g h. h;
}

module _ (old new : Netlist) (keeps : Keeps old new) where
  pub node_kept : (w id : ℕ) → IsNodeOf old w id → IsNodeOf new w id
  node_kept w id n = (omega (arith, n.0, keeps.longer), keeps.widths id n.0 ∙ n.1)

  pub constant_kept : (w n id : ℕ) → IsConstant old w n id → IsConstant new w n id
  constant_kept w n id h =
      record { node = node_kept w id h.node; value = λ g. keeps.values g id h.node.0 ∙ h.value g }

  puts_kept : (w address id : ℕ) (x : MemWrite) → PutsNode old w address id x → PutsNode new w address id x
  puts_kept w address id x h = record {
    acts = constant_kept 1 1 x.enable h.acts;
    at = constant_kept 32 address x.addr h.at;
    whole = constant_kept w (ones w) x.mask h.whole;
    is = h.is;
    there = node_kept w id h.there;
  }

  pub put_nodes_kept : (w address : ℕ) (xs : List MemWrite) (ns : List ℕ) → PutNodes old w address xs ns
      → PutNodes new w address xs ns
  put_nodes_kept w address [] [] h = tt
  put_nodes_kept w address [] (n ∷ ns) h = h
  put_nodes_kept w address (x ∷ xs) [] h = h
  put_nodes_kept w address (x ∷ xs) (n ∷ ns) h =
      (puts_kept w address n x h.0, put_nodes_kept w (address + 1) xs ns h.1)

  pub may_kept : (cells : List ℕ) (m : Mem) (first : ℕ) → MayStore old cells m first → MayStore new cells m first
  may_kept cells m first h = record {
    none = h.none;
    there = h.there;
    node = λ k less. node_kept m.width (slice_index cells (first + k)) (h.node k less);
  }

  pub write_kept : (w : ℕ) (x : MemWrite) → IsWriteOf old w x → IsWriteOf new w x
  write_kept w x h = record {
    enable = node_kept 1 x.enable h.enable;
    addr = omega (arith, h.addr, keeps.longer);
    mask = node_kept w x.mask h.mask;
    value = node_kept w x.value h.value;
  }

  pub all_writes_kept : (w : ℕ) (xs : List MemWrite) → AllByRecursion (IsWriteOf old w) xs
      → AllByRecursion (IsWriteOf new w) xs
  all_writes_kept w [] h = tt
  all_writes_kept w (x ∷ xs) h = (write_kept w x h.0, all_writes_kept w xs h.1)

  pub fit_kept : (o : Option (List MemWrite)) (w u : ℕ) → w ≡ u → IfSome o (AllByRecursion (IsWriteOf old w))
      → IfSome o (AllByRecursion (IsWriteOf new u))
  fit_kept None w u e h = tt
  fit_kept (Some xs) w u e h = subst (λ n. AllByRecursion (IsWriteOf new n) xs) e (all_writes_kept w xs h)

-- ---- nodes and writes that are added

pub writes_none : (old new : Netlist) → AddsNodes old new → AddsWrites old new
writes_none old new h = record {
  regs = h.regs;
  inputs = h.inputs;
  assumes = h.assumes;
  widths = ap (map (λ m. m.width)) h.mems;
  words = ap (map (λ m. m.words)) h.mems;
  starts = ap (map (λ m. m.init)) h.mems;
}

pub same_writes : (net : Netlist) → AddsWrites net net
same_writes net = record { regs = refl; inputs = refl; assumes = refl; widths = refl; words = refl; starts = refl }

pub writes_on : (a b c : Netlist) → AddsWrites a b → AddsWrites b c → AddsWrites a c
writes_on a b c f g = record {
  regs = g.regs ∙ f.regs;
  inputs = g.inputs ∙ f.inputs;
  assumes = g.assumes ∙ f.assumes;
  widths = g.widths ∙ f.widths;
  words = g.words ∙ f.words;
  starts = g.starts ∙ f.starts;
}

-- a write changes nothing that doesn't depend on writes
map_write : {B : Type 0} (f : Mem → B) → ((m : Mem) (xs : List MemWrite) → f (record m { writes = xs }) ≡ f m) → (i : ℕ)
    → (x : MemWrite) (ms : List Mem) → map f (with_write i x ms) ≡ map f ms
map_write f same i x [] = refl
map_write f same zero x (m ∷ ms) = (λ j. same m (m.writes ++ x ∷ []) j ∷ map f ms)
map_write f same (suc i) x (m ∷ ms) = (λ j. f m ∷ map_write f same i x ms j)

pub one_write : (net : Netlist) (i : ℕ) (x : MemWrite)
    → AddsWrites net (record net { mems = with_write i x net.mems })
one_write net i x = record {
  regs = refl;
  inputs = refl;
  assumes = refl;
  widths = map_write (λ m. m.width) (λ m xs. refl) i x net.mems;
  words = map_write (λ m. m.words) (λ m xs. refl) i x net.mems;
  starts = map_write (λ m. m.init) (λ m xs. refl) i x net.mems;
}
