-- The inputs, registers and memories of a net, one after the other.
use Rattle.std.specs.Prelude.{◌≡◌, refl, ℕ, zero, suc, ◌+◌, ◌-◌, ◌^◌, ◌<◌, ◌≤◌, List, [], ◌∷◌, ◌++◌, length, map, take, Some}
use Rattle.std.specs.Prelude.{is_none, slice_get}
use Rattle.std.proofs.Common.{ap, sym, ◌∙◌, arith, subst, true≢false, ◌⊎◌, inl, inr}
use Rattle.std.proofs.lemmas.List.{length-take-le, take_all, length-map}
use Rattle.std.proofs.lemmas.Option.{same_Some}
use Rattle.fv_graph.proofs.Lists.{get_less, get_front, get_last, length_more}
use Rattle.fv_graph.proofs.Moves.{same_or_not}
use Rattle.wn_net.specs.declared.node.Node.TheVariants as n
use Rattle.wn_net.specs.declared.parts.Input.{Input}
use Rattle.wn_net.specs.declared.parts.Reg.{Reg}
use Rattle.wn_net.specs.declared.parts.Mem.{Mem}
use Rattle.wn_net.specs.Width.{IsWidth}
use Rattle.wn_net.specs.Net.{Netlist, IsNet, IsNodeOf, IsRegOf, IsMemOf}
use Rattle.wn_net.specs.Changes.{BuildsInput, BuildsReg, Grows, with_mem}
use Rattle.wn_net.proofs.Laws.{built_input_node, built_reg_node, grown_node}
use Rattle.wn_opt.specs.Parts.{AddsBehind, HasParts, IsFrame, IsFront, without_writes, with_next_node}
use Rattle.wn_opt.proofs.Before.{all_in}

pub take_suc : {A : Type 0} (xs : List A) (k : ℕ) (x : A) → slice_get xs k ≡ Some x
    → take (suc k) xs ≡ take k xs ++ x ∷ []
take_suc [] k x e = absurd (true≢false (ap is_none e))
take_suc (y ∷ ys) zero x e = ap (λ z. z ∷ []) (same_Some y x e)
take_suc (y ∷ ys) (suc k) x e = ap (λ zs. y ∷ zs) (take_suc ys k x e)

pub take_more : {A : Type 0} (xs : List A) (k : ℕ) (x : A) → slice_get xs k ≡ Some x
    → take (k + 1) xs ≡ take k xs ++ x ∷ []
take_more xs k x e = let one : k + 1 ≡ suc k = omega arith in ap (λ j. take j xs) one ∙ take_suc xs k x e

pub map_more : {A B : Type 0} (f : A → B) (xs : List A) (x : A) → map f (xs ++ x ∷ []) ≡ map f xs ++ f x ∷ []
map_more f [] x = refl
map_more f (y ∷ ys) x = ap (λ zs. f y ∷ zs) (map_more f ys x)

length_taken : {A : Type 0} (xs : List A) (k : ℕ) (x : A) → slice_get xs k ≡ Some x → length (take k xs) ≡ k
length_taken xs k x e =
    let less = get_less xs k x e in
    let long : k ≤ length xs = omega (arith, less) in length-take-le k xs long

-- ---- what builders want

pub input_wide : (net : Netlist) (k : ℕ) (x : Input) → IsNet net → slice_get net.inputs k ≡ Some x → IsWidth x.width
input_wide net k x whole at = all_in (λ (i : Input). IsWidth i.width) net.inputs x whole.inputs (k, at)

pub input_room : (net a : Netlist) (k : ℕ) (x : Input) → IsNet net → HasParts net a k 0 0
    → slice_get net.inputs k ≡ Some x → length a.inputs < 2 ^ 32 - 1
input_room net a k x whole h at =
    let counted : length a.inputs ≡ k = ap length h.inputs_are ∙ length_taken net.inputs k x at in
    let less = get_less net.inputs k x at in
    omega (arith, counted, less, whole.few_inputs)

pub reg_own : (net : Netlist) (k : ℕ) (r : Reg) → IsNet net → slice_get net.regs k ≡ Some r → IsRegOf net r
reg_own net k r whole at = all_in (IsRegOf net) net.regs r whole.regs (k, at)

pub reg_room : (net a : Netlist) (i k m : ℕ) (r : Reg) → IsNet net → HasParts net a i k m
    → slice_get net.regs k ≡ Some r → length a.regs < 2 ^ 32 - 1
reg_room net a i k m r whole h at =
    let less = get_less net.regs k r at in
    omega (arith, h.regs_each, less, whole.few_regs)

pub mem_own : (net : Netlist) (k : ℕ) (m : Mem) → IsNet net → slice_get net.mems k ≡ Some m → IsMemOf net m
mem_own net k m whole at = all_in (IsMemOf net) net.mems m whole.mems (k, at)

pub mem_room : (net a : Netlist) (i r k : ℕ) (m : Mem) → IsNet net → HasParts net a i r k
    → slice_get net.mems k ≡ Some m → length a.mems < 2 ^ 32 - 1
mem_room net a i r k m whole h at =
    let counted : length a.mems ≡ k =
    ap length h.mems_are ∙ length-map (take k net.mems) without_writes ∙ length_taken net.mems k m at in
    let less = get_less net.mems k m at in
    omega (arith, counted, less, whole.few_mems)

-- ---- the steps

-- nothing yet
pub parts_none : (net part : Netlist) → part.nodes ≡ [] → part.regs ≡ [] → part.mems ≡ [] → part.inputs ≡ []
    → part.assumes ≡ [] → HasParts net part 0 0 0
parts_none net part en er em ei ea = record {
  nodes_each = ap length en;
  input_nodes = λ i low. absurd (omega (arith, low));
  reg_nodes = λ i low. absurd (omega (arith, low));
  input_widths = λ i x low e. absurd (omega (arith, low));
  reg_widths = λ i r low e. absurd (omega (arith, low));
  inputs_are = ei;
  regs_each = ap length er;
  regs_are = λ i r low e. absurd (omega (arith, low));
  mems_are = em;
  assumes_are = ea;
}

-- one more input
pub parts_input : (net a b : Netlist) (k : ℕ) (x : Input) (id : ℕ) → HasParts net a k 0 0
    → slice_get net.inputs k ≡ Some x → BuildsInput a b x id → HasParts net b (k + 1) 0 0
parts_input net a b k x id h at built =
    let counted : length a.inputs ≡ k = ap length h.inputs_are ∙ length_taken net.inputs k x at in
    let long : length a.nodes ≡ k = omega (arith, h.nodes_each) in
    record {
      nodes_each =
          omega (arith, ap length built.nodes, length_more a.nodes (n.Input (length a.inputs)), h.nodes_each);
      input_nodes = λ i low. node i low counted long (same_or_not i k);
      reg_nodes = λ i low. absurd (omega (arith, low));
      input_widths = λ i y low e. wide i y low e long (same_or_not i k);
      reg_widths = λ i r low e. absurd (omega (arith, low));
      inputs_are = built.inputs ∙ ap (λ xs. xs ++ x ∷ []) h.inputs_are ∙ sym (take_more net.inputs k x at);
      regs_each = ap length built.regs ∙ h.regs_each;
      regs_are = λ i r low e. absurd (omega (arith, low));
      mems_are = built.mems ∙ h.mems_are;
      assumes_are = built.assumes ∙ h.assumes_are;
    }
  where
    node : (i : ℕ) → i < k + 1 → length a.inputs ≡ k → length a.nodes ≡ k → (i ≡ k) ⊎ (i ≡ k → ⊥)
        → slice_get b.nodes i ≡ Some (n.Input i)
    node i low counted long (inl is) =
        ap (λ xs. slice_get xs i) built.nodes
        ∙ ap (slice_get (a.nodes ++ n.Input (length a.inputs) ∷ [])) (is ∙ sym long)
        ∙ get_last a.nodes (n.Input (length a.inputs))
        ∙ ap (λ j. Some (n.Input j)) (counted ∙ sym is)
    node i low counted long (inr other) =
        let less : i < k = omega (arith, low, other) in
        ap (λ xs. slice_get xs i) built.nodes
        ∙ get_front a.nodes (n.Input (length a.inputs)) i (n.Input i) (h.input_nodes i less)

    wide : (i : ℕ) (y : Input) → i < k + 1 → slice_get net.inputs i ≡ Some y → length a.nodes ≡ k
        → (i ≡ k) ⊎ (i ≡ k → ⊥) → IsNodeOf b y.width i
    wide i y low e long (inl is) =
        let same : x ≡ y = same_Some x y (sym at ∙ ap (slice_get net.inputs) (sym is) ∙ e) in
        let own : IsNodeOf b x.width id = built_input_node a b x id built in
        let place : id ≡ i = built.last ∙ long ∙ sym is in
        subst (λ z. IsNodeOf b z.width i) same (subst (λ j. IsNodeOf b x.width j) place own)
    wide i y low e long (inr other) =
        let less : i < k = omega (arith, low, other) in
        grown_node a b y.width i built.grows (h.input_widths i y less e)

-- one more register
pub parts_reg : (net a b : Netlist) (k : ℕ) (r : Reg) (id : ℕ) → HasParts net a (length net.inputs) k 0
    → slice_get net.regs k ≡ Some r → BuildsReg a b (with_next_node (length a.nodes) r) id
    → HasParts net b (length net.inputs) (k + 1) 0
parts_reg net a b k r id h at built =
    record {
      nodes_each = omega (arith, ap length built.nodes, length_more a.nodes (n.Reg (length a.regs)), h.nodes_each);
      input_nodes = λ i low.
          ap (λ xs. slice_get xs i) built.nodes
          ∙ get_front a.nodes (n.Reg (length a.regs)) i (n.Input i) (h.input_nodes i low);
      reg_nodes = λ i low. node i low (same_or_not i k);
      input_widths = λ i y low e. grown_node a b y.width i built.grows (h.input_widths i y low e);
      reg_widths = λ i q low e. wide i q low e (same_or_not i k);
      inputs_are = built.inputs ∙ h.inputs_are;
      regs_each =
          omega (arith, ap length built.regs, length_more a.regs (with_next_node (length a.nodes) r), h.regs_each);
      regs_are = λ i q low e. reg i q low e (same_or_not i k);
      mems_are = built.mems ∙ h.mems_are;
      assumes_are = built.assumes ∙ h.assumes_are;
    }
  where
    node : (i : ℕ) → i < k + 1 → (i ≡ k) ⊎ (i ≡ k → ⊥)
        → slice_get b.nodes (length net.inputs + i) ≡ Some (n.Reg i)
    node i low (inl is) =
        let place : length net.inputs + i ≡ length a.nodes = omega (arith, is, h.nodes_each) in
        ap (λ xs. slice_get xs (length net.inputs + i)) built.nodes
        ∙ ap (slice_get (a.nodes ++ n.Reg (length a.regs) ∷ [])) place
        ∙ get_last a.nodes (n.Reg (length a.regs))
        ∙ ap (λ j. Some (n.Reg j)) (h.regs_each ∙ sym is)
    node i low (inr other) =
        let less : i < k = omega (arith, low, other) in
        ap (λ xs. slice_get xs (length net.inputs + i)) built.nodes
        ∙ get_front a.nodes (n.Reg (length a.regs)) (length net.inputs + i) (n.Reg i) (h.reg_nodes i less)

    reg : (i : ℕ) (q : Reg) → i < k + 1 → slice_get net.regs i ≡ Some q → (i ≡ k) ⊎ (i ≡ k → ⊥)
        → slice_get b.regs i ≡ Some (with_next_node (length net.inputs + i) q)
    reg i q low e (inl is) =
        let same : r ≡ q = same_Some r q (sym at ∙ ap (slice_get net.regs) (sym is) ∙ e) in
        let place : length a.nodes ≡ length net.inputs + i = omega (arith, is, h.nodes_each) in
        ap (λ xs. slice_get xs i) built.regs
        ∙ ap (slice_get (a.regs ++ with_next_node (length a.nodes) r ∷ [])) (is ∙ sym h.regs_each)
        ∙ get_last a.regs (with_next_node (length a.nodes) r)
        ∙ (λ j. Some (with_next_node (place j) (same j)))
    reg i q low e (inr other) =
        let less : i < k = omega (arith, low, other) in
        ap (λ xs. slice_get xs i) built.regs
        ∙ get_front a.regs (with_next_node (length a.nodes) r) i (with_next_node (length net.inputs + i) q)
        (h.regs_are i q less e)

    wide : (i : ℕ) (q : Reg) → i < k + 1 → slice_get net.regs i ≡ Some q → (i ≡ k) ⊎ (i ≡ k → ⊥)
        → IsNodeOf b q.width (length net.inputs + i)
    wide i q low e (inl is) =
        let same : r ≡ q = same_Some r q (sym at ∙ ap (slice_get net.regs) (sym is) ∙ e) in
        let own : IsNodeOf b r.width id = built_reg_node a b (with_next_node (length a.nodes) r) id built in
        let place : id ≡ length net.inputs + i = omega (arith, built.last, is, h.nodes_each) in
        subst (λ z. IsNodeOf b z.width (length net.inputs + i)) same
        (subst (λ j. IsNodeOf b r.width j) place own)
    wide i q low e (inr other) =
        let less : i < k = omega (arith, low, other) in
        grown_node a b q.width (length net.inputs + i) built.grows (h.reg_widths i q less e)

-- one more memory
pub parts_mem : (net a b : Netlist) (k : ℕ) (m : Mem) → Grows a b
    → HasParts net a (length net.inputs) (length net.regs) k → slice_get net.mems k ≡ Some m
    → b ≡ with_mem a (without_writes m) → HasParts net b (length net.inputs) (length net.regs) (k + 1)
parts_mem net a b k m grows h at e = record {
  nodes_each = ap (λ x. length x.nodes) e ∙ h.nodes_each;
  input_nodes = λ i low. ap (λ x. slice_get x.nodes i) e ∙ h.input_nodes i low;
  reg_nodes = λ i low. ap (λ x. slice_get x.nodes (length net.inputs + i)) e ∙ h.reg_nodes i low;
  input_widths = λ i x low f. grown_node a b x.width i grows (h.input_widths i x low f);
  reg_widths = λ i r low f. grown_node a b r.width (length net.inputs + i) grows (h.reg_widths i r low f);
  inputs_are = ap (λ x. x.inputs) e ∙ h.inputs_are;
  regs_each = ap (λ x. length x.regs) e ∙ h.regs_each;
  regs_are = λ i r low f. ap (λ x. slice_get x.regs i) e ∙ h.regs_are i r low f;
  mems_are =
      ap (λ x. x.mems) e ∙ ap (λ xs. xs ++ without_writes m ∷ []) h.mems_are
      ∙ sym (ap (map without_writes) (take_more net.mems k m at) ∙ map_more without_writes (take k net.mems) m);
  assumes_are = ap (λ x. x.assumes) e ∙ h.assumes_are;
}

pub frame_of : (net part : Netlist) → HasParts net part (length net.inputs) (length net.regs) (length net.mems)
    → IsFrame net part
frame_of net part h = record {
  input_nodes = h.input_nodes;
  reg_nodes = h.reg_nodes;
  input_widths = λ i x e. h.input_widths i x (get_less net.inputs i x e) e;
  reg_widths = λ i r e. h.reg_widths i r (get_less net.regs i r e) e;
  inputs = h.inputs_are ∙ take_all (length net.inputs) net.inputs (omega arith);
  regs_each = h.regs_each;
  regs = λ i r e. h.regs_are i r (get_less net.regs i r e) e;
  mems = h.mems_are ∙ ap (map without_writes) (take_all (length net.mems) net.mems (omega arith));
  assumes = h.assumes_are;
}

-- and with more nodes behind the others
frame_on : (net a b : Netlist) → IsFrame net a → AddsBehind a b → IsFrame net b
frame_on net a b h adds = record {
  input_nodes = λ i low. adds.front i (n.Input i) (h.input_nodes i low);
  reg_nodes = λ i low. adds.front (length net.inputs + i) (n.Reg i) (h.reg_nodes i low);
  input_widths = λ i x f. adds.widths x.width i (h.input_widths i x f);
  reg_widths = λ i r f. adds.widths r.width (length net.inputs + i) (h.reg_widths i r f);
  inputs = adds.inputs ∙ h.inputs;
  regs_each = ap length adds.regs ∙ h.regs_each;
  regs = λ i r f. ap (λ rs. slice_get rs i) adds.regs ∙ h.regs i r f;
  mems = adds.mems ∙ h.mems;
  assumes = adds.assumes ∙ h.assumes;
}

pub framed : (net a b : Netlist) → HasParts net a (length net.inputs) (length net.regs) (length net.mems)
    → AddsBehind a b → IsFrame net b
framed net a b h adds = frame_on net a b (frame_of net a h) adds

bare_widths : (ms : List Mem) → map (λ m. m.width) (map without_writes ms) ≡ map (λ m. m.width) ms
bare_widths [] = refl
bare_widths (m ∷ ms) = ap (λ ws. m.width ∷ ws) (bare_widths ms)

pub front_of : (net part : Netlist) → IsFrame net part → IsFront net part
front_of net part h = record {
  input_nodes = h.input_nodes;
  reg_nodes = h.reg_nodes;
  input_widths = h.input_widths;
  reg_widths = h.reg_widths;
  mem_widths = ap (map (λ m. m.width)) h.mems ∙ bare_widths net.mems;
}

pub front_on : (net a b : Netlist) → IsFront net a → AddsBehind a b → IsFront net b
front_on net a b h adds = record {
  input_nodes = λ i low. adds.front i (n.Input i) (h.input_nodes i low);
  reg_nodes = λ i low. adds.front (length net.inputs + i) (n.Reg i) (h.reg_nodes i low);
  input_widths = λ i x f. adds.widths x.width i (h.input_widths i x f);
  reg_widths = λ i r f. adds.widths r.width (length net.inputs + i) (h.reg_widths i r f);
  mem_widths = ap (map (λ m. m.width)) adds.mems ∙ h.mem_widths;
}
