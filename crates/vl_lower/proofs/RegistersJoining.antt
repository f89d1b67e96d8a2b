-- The node of some bits of a cell, from the highest one on, and the registers that are left to it.
use Rattle.std.specs.Prelude.{◌≡◌, ℕ, suc, ◌+◌, ◌-◌, ◌*◌, ◌<◌, ◌≤◌, ◌^◌, List, ◌++◌, length, map}
use Rattle.std.proofs.Common.{ap, append-nil, append_assoc, arith, subst, sym, ◌∙◌}
use Rattle.std.proofs.lemmas.List.{length-append, length-map, map-append}
use Rattle.fv_bits.specs.Bits.{joined}
use Rattle.vl_lower_cell_laws.specs.declared.keep.Keep.{Keep}
use Rattle.vl_lower_cell_laws.specs.Keeps.{Kept, bits_number, kept_bits}
use Rattle.wn_net.specs.declared.node.Node.{Node}
use Rattle.wn_net.specs.declared.parts.Reg.{Reg}
use Rattle.wn_net.specs.Value.{Given}
use Rattle.wn_net.specs.Net.{IsNodeOf, Netlist, value_at, width_at}
use Rattle.wn_net.specs.Changes.{AddsRegs, Builds}
use Rattle.wn_net.proofs.Laws.{adds_regs, built_node, regs_node_on, regs_on}
use Rattle.vl_lower.specs.Held.{Holds, bit_number, bit_registers}
use Rattle.vl_lower.proofs.Bits.{bits_more, few_bits, joined_more, number_more, number_none}

pub record IsJoined (old new : Netlist) (keep : Keep) (width left id : ℕ) : Type 0 where
  pub within : left < width
  pub adds : AddsRegs old new
  pub widths : map (λ r. r.width) new.regs ++ map (λ x. x.width) (kept_bits keep left)
      ≡ map (λ r. r.width) old.regs ++ map (λ x. x.width) (kept_bits keep width)
  pub starts : map (λ r. r.init) new.regs ++ map (λ x. x.init) (kept_bits keep left)
      ≡ map (λ r. r.init) old.regs ++ map (λ x. x.init) (kept_bits keep width)
  pub node : IsNodeOf new (width - left) id
  pub value : (g : Given)
      → value_at new g id * 2 ^ left + bits_number keep left g.state.regs (length new.regs)
      ≡ bits_number keep width g.state.regs (length old.regs)

-- the registers of a bit stand in front of those of the bits below
in_front : {B : Type 0} (f : Kept → B) (keep : Keep) (k : ℕ) (xs ys : List B)
    → ys ≡ xs ++ map f (bit_registers keep k) → ys ++ map f (kept_bits keep k) ≡ xs ++ map f (kept_bits keep (suc k))
in_front f keep k xs ys e =
    ap (λ zs. zs ++ map f (kept_bits keep k)) e
    ∙ append_assoc xs (map f (bit_registers keep k)) (map f (kept_bits keep k))
    ∙ ap (λ zs. xs ++ zs) (sym (map-append f (bit_registers keep k) (kept_bits keep k)))
    ∙ ap (λ zs. xs ++ map f zs) (sym (bits_more keep k))

pub many_regs : (old new : Netlist) (xs : List Kept)
    → map (λ r. r.width) new.regs ≡ map (λ r. r.width) old.regs ++ map (λ x. x.width) xs
    → length new.regs ≡ length old.regs + length xs
many_regs old new xs e =
    sym (length-map new.regs (λ (r : Reg). r.width)) ∙ ap length e
    ∙ length-append (map (λ (r : Reg). r.width) old.regs) (map (λ (x : Kept). x.width) xs)
    ∙ (λ i. length-map old.regs (λ (r : Reg). r.width) i + length-map xs (λ (x : Kept). x.width) i)

-- of a cell there are no more registers than bits
pub regs_few : (old new : Netlist) (keep : Keep) (width left : ℕ)
    → map (λ r. r.width) new.regs ++ map (λ x. x.width) (kept_bits keep left)
    ≡ map (λ r. r.width) old.regs ++ map (λ x. x.width) (kept_bits keep width)
    → length new.regs ≤ length old.regs + width
regs_few old new keep width left e =
    omega (
      arith,
      ap length e,
      length-append (map (λ (r : Reg). r.width) new.regs) (map (λ (x : Kept). x.width) (kept_bits keep left)),
      length-append (map (λ (r : Reg). r.width) old.regs) (map (λ (x : Kept). x.width) (kept_bits keep width)),
      length-map new.regs (λ (r : Reg). r.width),
      length-map old.regs (λ (r : Reg). r.width),
      length-map (kept_bits keep width) (λ (x : Kept). x.width),
      few_bits keep width,
    )

-- the highest bit alone
pub begun : (old new : Netlist) (keep : Keep) (width k id : ℕ) → width ≡ suc k → AddsRegs old new
    → Holds old new (bit_registers keep k) 1 (bit_number keep k) id → IsJoined old new keep width k id
begun old new keep width k id e adds h =
    let one : 1 ≡ suc k - k = omega arith in
    let own : IsJoined old new keep (suc k) k id = record {
      within = omega arith;
      adds = adds;
      widths = in_front (λ x. x.width) keep k (map (λ r. r.width) old.regs) (map (λ r. r.width) new.regs) h.widths;
      starts = in_front (λ x. x.init) keep k (map (λ r. r.init) old.regs) (map (λ r. r.init) new.regs) h.starts;
      node = subst (λ w. IsNodeOf new w id) one h.node;
      value = λ g.
          let many = many_regs old new (bit_registers keep k) h.widths in
          (λ i. h.value g i * 2 ^ k + bits_number keep k g.state.regs (many i))
          ∙ number_more keep k g.state.regs (length old.regs);
    } in
    subst (λ w. IsJoined old new keep w k id) (sym e) own

-- one bit more behind it
pub more : (old mid last new : Netlist) (keep : Keep) (width left k node bit id : ℕ) (x : Node) → left ≡ suc k
    → IsJoined old mid keep width left node → AddsRegs mid last
    → Holds mid last (bit_registers keep k) 1 (bit_number keep k) bit
    → Builds last new x (width_at last node + width_at last bit)
    (λ g. joined (width_at last bit) (value_at last g node) (value_at last g bit)) id
    → IsJoined old new keep width k id
more old mid last new keep width left k node bit id x e j adds h built =
    let s : IsJoined old mid keep width (suc k) node = subst (λ m. IsJoined old mid keep width m node) e j in
    let front = regs_node_on mid last (width - suc k) node adds s.node in
    let same : new.regs ≡ last.regs = built.adds.regs in
    let count : width - suc k + 1 ≡ width - k = omega (arith, s.within) in
    let many : length new.regs ≡ length mid.regs + length (bit_registers keep k) =
    ap length same ∙ many_regs mid last (bit_registers keep k) h.widths in
    record {
      within = omega (arith, s.within);
      adds = regs_on old last new (regs_on old mid last s.adds adds) (adds_regs last new built.adds);
      widths =
          in_front (λ x. x.width) keep k (map (λ r. r.width) mid.regs) (map (λ r. r.width) new.regs)
          (ap (λ (rs : List Reg). map (λ r. r.width) rs) same ∙ h.widths) ∙ s.widths;
      starts =
          in_front (λ x. x.init) keep k (map (λ r. r.init) mid.regs) (map (λ r. r.init) new.regs)
          (ap (λ (rs : List Reg). map (λ r. r.init) rs) same ∙ h.starts) ∙ s.starts;
      node = (
        (built_node last new x (width_at last node + width_at last bit)
            (λ g. joined (width_at last bit) (value_at last g node) (value_at last g bit)) id built).0,
        built.width ∙ (λ i. front.1 i + h.node.1 i) ∙ count,
      );
      value = λ g.
          let own : value_at new g id
          ≡ joined 1 (value_at mid g node) (bit_number keep k g.state.regs (length mid.regs))
          = built.value g
          ∙ (λ i. joined (h.node.1 i) (adds.values g node s.node.0 i) (h.value g i)) in
          (λ i. own i * 2 ^ k + bits_number keep k g.state.regs (many i))
          ∙ joined_more keep k (value_at mid g node) g.state.regs (length mid.regs)
          (bits_number keep width g.state.regs (length old.regs)) (s.value g);
    }

-- all bits
pub done : (old new : Netlist) (keep : Keep) (width left id : ℕ) → left ≡ 0 → IsJoined old new keep width left id
    → Holds old new (kept_bits keep width) width (bits_number keep width) id
done old new keep width left id e j =
    let s : IsJoined old new keep width 0 id = subst (λ m. IsJoined old new keep width m id) e j in
    let whole : width - 0 ≡ width = omega arith in
    record {
      widths = sym (append-nil (map (λ (r : Reg). r.width) new.regs)) ∙ s.widths;
      starts = sym (append-nil (map (λ (r : Reg). r.init) new.regs)) ∙ s.starts;
      node = subst (λ w. IsNodeOf new w id) whole s.node;
      value = λ g.
          number_none keep (value_at new g id) g.state.regs (length new.regs)
          (bits_number keep width g.state.regs (length old.regs)) (s.value g);
    }
