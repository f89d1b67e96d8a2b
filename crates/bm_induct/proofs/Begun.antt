-- One input, register, memory or node more.
use Rattle.std.specs.Prelude.{◌≡◌, refl, ℕ, suc, ◌+◌, ◌-◌, List, [], ◌∷◌, ◌++◌, length, map, take}
use Rattle.std.specs.Prelude.{Some, slice_get}
use Rattle.std.specs.List.{AllByRecursion}
use Rattle.std.proofs.Common.{ap, sym, ◌∙◌, arith, subst}
use Rattle.std.proofs.lemmas.List.{append_assoc, append-nil, take_all, map_push, length-map, length-append}
use Rattle.wn_net.specs.declared.node.Node.{Node}
use Rattle.wn_net.specs.declared.node.Node.TheVariants as n
use Rattle.wn_net.specs.declared.parts.Input.{Input}
use Rattle.wn_net.specs.declared.parts.Init.{Init}
use Rattle.wn_net.specs.declared.parts.Reg.{Reg}
use Rattle.wn_net.specs.declared.parts.Mem.{Mem}
use Rattle.wn_net.specs.Width.{Shape, widths, IsFitting}
use Rattle.wn_net.specs.Value.{Given}
use Rattle.wn_net.specs.Net.{Netlist, IsNet, IsInitOf, shape_of, widths_of}
use Rattle.wn_net.specs.Changes.{Builds, BuildsInput, BuildsReg, with_mem}
use Rattle.bm_induct.specs.declared.how.Rebuild.{Rebuild}
use Rattle.bm_induct.specs.declared.how.Rebuild.TheVariants.{Waived, Freed}
use Rattle.bm_induct.specs.Rebuilt.{start_for}
use Rattle.bm_induct.specs.Stages.{counted, moved, begun_reg, begun_regs, begun_mem, with_inputs, with_regs}
use Rattle.bm_induct.specs.Stages.{with_mems, with_nodes}
use Rattle.bm_induct.proofs.Items.{take_next, take_long, length-counted}
use Rattle.bm_induct.proofs.Leads.{lead_nodes, lead_widths}
use Rattle.bm_induct.proofs.Higher.{fits_moved}
use Rattle.bm_induct.proofs.Sweeps.{all_widths, fits_at, fitting_taken, leads, small}

-- a net by its parts
pub same_net : (a b : Netlist) → a.nodes ≡ b.nodes → a.regs ≡ b.regs → a.mems ≡ b.mems → a.inputs ≡ b.inputs
    → a.assumes ≡ b.assumes → a ≡ b
same_net a b nodes regs mems inputs assumes = λ j. record {
  nodes = nodes j;
  regs = regs j;
  mems = mems j;
  inputs = inputs j;
  assumes = assumes j;
}

-- ---- inputs

pub no_inputs : (net made : Netlist) → made.nodes ≡ [] → made.regs ≡ [] → made.mems ≡ [] → made.inputs ≡ []
    → made.assumes ≡ [] → made ≡ with_inputs net 0
no_inputs net made nodes regs mems inputs assumes =
    same_net made (with_inputs net 0) nodes regs mems inputs assumes

pub inputs_next : (net made new : Netlist) (i id : ℕ) (x : Input) → made ≡ with_inputs net i
    → slice_get net.inputs i ≡ Some x → BuildsInput made new x id → new ≡ with_inputs net (i + 1)
inputs_next net made new i id x is at built =
    let one : suc i ≡ i + 1 = omega arith in
    let inputs : made.inputs ≡ take i net.inputs = ap (λ m. m.inputs) is in
    let many : length made.inputs ≡ i = ap length inputs ∙ take_long net.inputs i x at in
    same_net new (with_inputs net (suc i))
    (built.nodes ∙ (λ j. (is j).nodes ++ n.Input (many j) ∷ []))
    (built.regs ∙ ap (λ m. m.regs) is)
    (built.mems ∙ ap (λ m. m.mems) is)
    (built.inputs ∙ ap (λ xs. xs ++ x ∷ []) inputs ∙ sym (take_next net.inputs i x at))
    (built.assumes ∙ ap (λ m. m.assumes) is)
    ∙ ap (with_inputs net) one

-- where all inputs are there, no register is
pub no_regs : (how : Rebuild) (net made : Netlist) (i : ℕ) → made ≡ with_inputs net i → i ≡ length net.inputs
    → made ≡ with_regs how net 0
no_regs how net made i is all =
    is ∙ ap (with_inputs net) all
    ∙ same_net (with_inputs net (length net.inputs)) (with_regs how net 0)
    (sym (append-nil (counted n.Input (length net.inputs)))) refl refl
    (take_all (length net.inputs) net.inputs (omega arith)) refl

-- ---- registers

regs_push : (how : Rebuild) (at : ℕ) (rs : List Reg) (r : Reg)
    → begun_regs how at (rs ++ r ∷ []) ≡ begun_regs how at rs ++ begun_reg how (at + length rs) r ∷ []
regs_push how at [] r =
    let e : at ≡ at + 0 = omega arith in
    ap (λ k. begun_reg how k r ∷ []) e
regs_push how at (x ∷ xs) r =
    let e : at + 1 + length xs ≡ at + length (x ∷ xs) = omega arith in
    ap (λ us. begun_reg how at x ∷ us)
    (regs_push how (at + 1) xs r ∙ ap (λ k. begun_regs how (at + 1) xs ++ begun_reg how k r ∷ []) e)

pub length-begun : (how : Rebuild) (at : ℕ) (rs : List Reg) → length (begun_regs how at rs) ≡ length rs
length-begun how at [] = refl
length-begun how at (r ∷ rs) = omega (arith, length-begun how (at + 1) rs)

pub regs_many : (how : Rebuild) (net made : Netlist) (i : ℕ) (r : Reg) → made ≡ with_regs how net i
    → slice_get net.regs i ≡ Some r → length made.regs ≡ i
regs_many how net made i r is at =
    ap (λ m. length m.regs) is ∙ length-begun how (length net.inputs) (take i net.regs) ∙ take_long net.regs i r at

pub regs_next : (how : Rebuild) (net made new : Netlist) (i id : ℕ) (r : Reg) → made ≡ with_regs how net i
    → slice_get net.regs i ≡ Some r → BuildsReg made new (begun_reg how (length made.nodes) r) id
    → new ≡ with_regs how net (i + 1)
regs_next how net made new i id r is at built =
    let one : suc i ≡ i + 1 = omega arith in
    let I = length net.inputs in
    let many = regs_many how net made i r is at in
    let own : length made.nodes ≡ I + length (take i net.regs) =
    ap (λ m. length m.nodes) is ∙ long_nodes I i ∙ ap (λ k. I + k) (sym (take_long net.regs i r at)) in
    same_net new (with_regs how net (suc i))
    (built.nodes ∙ (λ j. (is j).nodes ++ n.Reg (many j) ∷ [])
    ∙ append_assoc (counted n.Input I) (counted n.Reg i) (n.Reg i ∷ []))
    (built.regs ∙ (λ j. (is j).regs ++ begun_reg how (own j) r ∷ [])
    ∙ sym (regs_push how I (take i net.regs) r) ∙ ap (begun_regs how I) (sym (take_next net.regs i r at)))
    (built.mems ∙ ap (λ m. m.mems) is)
    (built.inputs ∙ ap (λ m. m.inputs) is)
    (built.assumes ∙ ap (λ m. m.assumes) is)
    ∙ ap (with_regs how net) one
  where
    long_nodes : (k l : ℕ) → length (counted n.Input k ++ counted n.Reg l) ≡ k + l
    long_nodes k l =
        omega (
          arith,
          length-append (counted n.Input k) (counted n.Reg l),
          length-counted n.Input k,
          length-counted n.Reg l,
        )

pub start_fits : (how : Rebuild) (w : ℕ) (x : Init) → IsInitOf w x → IsInitOf w (start_for how x)
start_fits Waived w x own = own
start_fits Freed w x own = tt

pub starts_fit : (how : Rebuild) (w : ℕ) (xs : List Init) → AllByRecursion (IsInitOf w) xs
    → AllByRecursion (IsInitOf w) (map (start_for how) xs)
starts_fit how w [] own = tt
starts_fit how w (x ∷ xs) own = (start_fits how w x own.0, starts_fit how w xs own.1)

-- ---- memories

pub no_mems : (how : Rebuild) (net made : Netlist) (i : ℕ) → made ≡ with_regs how net i → i ≡ length net.regs
    → made ≡ with_mems how net 0
no_mems how net made i is all = is ∙ ap (with_regs how net) all

pub mems_many : (how : Rebuild) (net made : Netlist) (i : ℕ) (m : Mem) → made ≡ with_mems how net i
    → slice_get net.mems i ≡ Some m → length made.mems ≡ i
mems_many how net made i m is at =
    ap (λ m. length m.mems) is ∙ length-map (take i net.mems) (begun_mem how) ∙ take_long net.mems i m at

pub mems_next : (how : Rebuild) (net made new : Netlist) (i : ℕ) (m : Mem) → made ≡ with_mems how net i
    → slice_get net.mems i ≡ Some m → new ≡ with_mem made (begun_mem how m) → new ≡ with_mems how net (i + 1)
mems_next how net made new i m is at e =
    let one : suc i ≡ i + 1 = omega arith in
    e ∙ ap (λ b. with_mem b (begun_mem how m)) is
    ∙ same_net (with_mem (with_mems how net i) (begun_mem how m)) (with_mems how net (suc i)) refl refl
    (sym (map_push (begun_mem how) (take i net.mems) m) ∙ ap (map (begun_mem how)) (sym (take_next net.mems i m at)))
    refl refl
    ∙ ap (with_mems how net) one

-- ---- nodes

pub no_nodes : (how : Rebuild) (net made : Netlist) (i : ℕ) → made ≡ with_mems how net i → i ≡ length net.mems
    → made ≡ with_nodes how net 0
no_nodes how net made i is all =
    is ∙ ap (with_mems how net) all
    ∙ same_net (with_mems how net (length net.mems)) (with_nodes how net 0)
    (sym (append-nil (lead_nodes net))) refl refl refl refl

begun_widths : (how : Rebuild) (at : ℕ) (rs : List Reg)
    → map (λ r. r.width) (begun_regs how at rs) ≡ map (λ r. r.width) rs
begun_widths how at [] = refl
begun_widths how at (r ∷ rs) = ap (λ us. r.width ∷ us) (begun_widths how (at + 1) rs)

mem_widths : (how : Rebuild) (ms : List Mem) → map (λ m. m.width) (map (begun_mem how) ms) ≡ map (λ m. m.width) ms
mem_widths how [] = refl
mem_widths how (m ∷ ms) = ap (λ us. m.width ∷ us) (mem_widths how ms)

pub shape_same : (how : Rebuild) (net : Netlist) (i : ℕ) → shape_of (with_nodes how net i) ≡ shape_of net
shape_same how net i = λ j. record {
  inputs = map (λ x. x.width) net.inputs;
  regs =
      (begun_widths how (length net.inputs) (take (length net.regs) net.regs)
      ∙ ap (map (λ r. r.width)) (take_all (length net.regs) net.regs (omega arith))) j;
  mems =
      (mem_widths how (take (length net.mems) net.mems)
      ∙ ap (map (λ m. m.width)) (take_all (length net.mems) net.mems (omega arith))) j;
}

-- the next node fits
pub next_fits : (how : Rebuild) (net made : Netlist) (i : ℕ) (x : Node) → IsNet net → made ≡ with_nodes how net i
    → slice_get net.nodes i ≡ Some x → IsFitting (shape_of made) (widths_of made) (moved how net x)
next_fits how net made i x whole is at =
    let s = shape_of net in
    let now = with_nodes how net i in
    let taken = fitting_taken s [] net.nodes i whole.nodes in
    let wide = all_widths how net now (take i net.nodes) (shape_same how net i) refl taken in
    let P : Netlist → Type 0 = λ m. IsFitting (shape_of m) (widths_of m) (moved how net x) in
    let Q : Shape → Type 0 = λ t. IsFitting t (widths_of now) (moved how net x) in
    let R : List ℕ → Type 0 = λ us. IsFitting s us (moved how net x) in
    subst P (sym is) (subst Q (sym (shape_same how net i)) (subst R (sym wide)
    (fits_moved how net (lead_widths net) (widths s [] (take i net.nodes)) x (small how net whole) (leads how net)
    (fits_at s [] net.nodes i x whole.nodes at))))

pub nodes_next : (how : Rebuild) (net made new : Netlist) (i id w : ℕ) (x : Node) (m : Given → ℕ)
    → made ≡ with_nodes how net i → slice_get net.nodes i ≡ Some x → Builds made new (moved how net x) w m id
    → new ≡ with_nodes how net (i + 1)
nodes_next how net made new i id w x m is at built =
    let one : suc i ≡ i + 1 = omega arith in
    same_net new (with_nodes how net (suc i))
    (built.nodes ∙ ap (λ b. b.nodes ++ moved how net x ∷ []) is
    ∙ append_assoc (lead_nodes net) (map (moved how net) (take i net.nodes)) (moved how net x ∷ [])
    ∙ ap (λ us. lead_nodes net ++ us) (sym (map_push (moved how net) (take i net.nodes) x)
    ∙ ap (map (moved how net)) (sym (take_next net.nodes i x at))))
    (built.adds.regs ∙ ap (λ b. b.regs) is)
    (built.adds.mems ∙ ap (λ b. b.mems) is)
    (built.adds.inputs ∙ ap (λ b. b.inputs) is)
    (built.adds.assumes ∙ ap (λ b. b.assumes) is)
    ∙ ap (with_nodes how net) one
