-- Runs of a net and of the part of it that some nodes need.
use Rattle.std.specs.Prelude.{◌≡◌, refl, ℕ, zero, suc, ◌<◌, List, [], ◌∷◌, length, map, Some, None, Option}
use Rattle.std.specs.Prelude.{slice_get, slice_index}
use Rattle.std.proofs.Common.{ap, sym, ◌∙◌, arith}
use Rattle.std.proofs.lemmas.List.{length-map}
use Rattle.fv_graph.proofs.Lists.{get_some}
use Rattle.wn_net.specs.declared.node.Node.TheVariants as n
use Rattle.wn_net.specs.declared.parts.Reg.{Reg}
use Rattle.wn_net.specs.declared.parts.Mem.{Mem}
use Rattle.wn_net.specs.declared.parts.MemWrite.{MemWrite}
use Rattle.wn_net.specs.declared.parts.State.{State}
use Rattle.wn_net.specs.Given.{given}
use Rattle.wn_net.specs.Net.{Netlist, IsNet, values_of, value_at}
use Rattle.wn_net.specs.Next.{written, write, write_each, next_mems, next_state}
use Rattle.wn_run.specs.Runs.{state_at, cycle_at}
use Rattle.wn_opt.specs.Needed.{IsIn, write_nodes}
use Rattle.wn_opt.specs.Cone.{IsPlace, HasPlace, or_zero, place, renamed_write}
use Rattle.wn_opt.proofs.Begun.{index_map, index_like}
use Rattle.wn_opt.proofs.Before.{fits_in}
use Rattle.wn_opt.proofs.Same.{IsCopy, ReadSame, same_values}

-- ---- memories

abbrev pub stepped : List ℕ → Option Mem → Option (List ℕ) → Option (List ℕ)
stepped vs None words = None
stepped vs (Some m) None = None
stepped vs (Some m) (Some words) = Some (write_each vs m.width words m.writes)

no_words : (vs : List ℕ) (o : Option Mem) → None ≡ stepped vs o None
no_words vs None = refl
no_words vs (Some m) = refl

next_get : (vs : List ℕ) (ms : List Mem) (ns : List (List ℕ)) (m : ℕ)
    → slice_get (next_mems vs ms ns) m ≡ stepped vs (slice_get ms m) (slice_get ns m)
next_get vs [] ns m = refl
next_get vs (x ∷ ms) [] m = no_words vs (slice_get (x ∷ ms) m)
next_get vs (x ∷ ms) (w ∷ ns) zero = refl
next_get vs (x ∷ ms) (w ∷ ns) (suc m) = next_get vs ms ns m

writes_same : (us vs : List ℕ) (t : List (Option ℕ)) (width : ℕ) (words : List ℕ) (ws : List MemWrite)
    → ((w : MemWrite) (p : ℕ) → IsIn ws w → IsIn (write_nodes w) p → slice_index us (place t p) ≡ slice_index vs p)
    → write_each us width words (map (renamed_write t) ws) ≡ write_each vs width words ws
writes_same us vs t width words [] same = refl
writes_same us vs t width words (w ∷ ws) same =
    let one : write us width words (renamed_write t w) ≡ write vs width words w = λ i.
    written width words (same w w.enable (0, refl) (0, refl) i) (same w w.addr (0, refl) (1, refl) i)
    (same w w.mask (0, refl) (2, refl) i) (same w w.value (0, refl) (3, refl) i) in
    ap (λ ns. write_each us width ns (map (renamed_write t) ws)) one
    ∙ writes_same us vs t width (write vs width words w) ws (λ v p h i. same v p (suc h.0, h.1) i)

-- ---- one cycle

-- what placed nodes read of two states is the same
pub record AreAlike (net : Netlist) (t : List (Option ℕ)) (a b : State) : Type 0 where
  pub regs : (i id : ℕ) → HasPlace t id → slice_get net.nodes id ≡ Some (n.Reg i)
      → slice_index b.regs i ≡ slice_index a.regs i
  pub mems : (m x id : ℕ) → HasPlace t id → slice_get net.nodes id ≡ Some (n.Read m x)
      → slice_get b.mems m ≡ slice_get a.mems m

pub record IsSameReg (part : Netlist) (t : List (Option ℕ)) (i : ℕ) (r : Reg) : Type 0 where
  pub reg : Reg
  pub there : slice_get part.regs i ≡ Some reg
  pub next : IsPlace t r.next reg.next

pub record IsSameMem (part : Netlist) (t : List (Option ℕ)) (m : ℕ) (x : Mem) : Type 0 where
  pub mem : Mem
  pub there : slice_get part.mems m ≡ Some mem
  pub width : mem.width ≡ x.width
  pub writes : mem.writes ≡ map (renamed_write t) x.writes

-- the registers and memories that placed nodes read do in the part what they do in the net
pub record HasNexts (net part : Netlist) (t : List (Option ℕ)) : Type 0 where
  pub regs : (i id : ℕ) (r : Reg) → HasPlace t id → slice_get net.nodes id ≡ Some (n.Reg i)
      → slice_get net.regs i ≡ Some r → IsSameReg part t i r
  pub mems : (m a id : ℕ) (x : Mem) → HasPlace t id → slice_get net.nodes id ≡ Some (n.Read m a)
      → slice_get net.mems m ≡ Some x → IsSameMem part t m x
  pub written : (m a id p : ℕ) (x : Mem) (w : MemWrite) → HasPlace t id → slice_get net.nodes id ≡ Some (n.Read m a)
      → slice_get net.mems m ≡ Some x → IsIn x.writes w → IsIn (write_nodes w) p → HasPlace t p

read_same : (net : Netlist) (t : List (Option ℕ)) (inputs : List ℕ) (a b : State) → AreAlike net t a b
    → ReadSame net t (given inputs a) (given inputs b)
read_same net t inputs a b alike id x p e = record {
  input = λ i is. refl;
  reg = λ i is. alike.regs i id p (e ∙ ap Some is);
  mem = λ m at is. index_like a.mems b.mems m [] (alike.mems m at id p (e ∙ ap Some is));
}

module _ (net part : Netlist) (t : List (Option ℕ)) (whole : IsNet net) (own : IsNet part) (copy : IsCopy net part t)
    (nexts : HasNexts net part t) (inputs : List ℕ) (a b : State) (alike : AreAlike net t a b) where
  same : (id at : ℕ) → IsPlace t id at → value_at part (given inputs b) at ≡ value_at net (given inputs a) id
  same = same_values net part t (given inputs a) (given inputs b) whole own copy (read_same net t inputs a b alike)

  next_reg : (i id : ℕ) → HasPlace t id → slice_get net.nodes id ≡ Some (n.Reg i)
      → slice_index (next_state part (given inputs b)).regs i ≡ slice_index (next_state net (given inputs a)).regs i
  unfolding value_at
  next_reg i id p e =
      let few : i < length net.regs = omega
      (arith, fits_in net id (n.Reg i) whole e, length-map net.regs (λ (r : Reg). r.width)) in
      let found = get_some net.regs i few in
      let r = found.0 in
      let q = nexts.regs i id r p e found.1 in
      index_map (λ (y : Reg). slice_index (values_of part (given inputs b)) y.next) part.regs i q.reg q.there
      ∙ same r.next q.reg.next q.next
      ∙ sym (index_map (λ (y : Reg). slice_index (values_of net (given inputs a)) y.next) net.regs i r found.1)

  stepped_same : (m x id : ℕ) (mem : Mem) (o : Option (List ℕ)) → HasPlace t id
      → slice_get net.nodes id ≡ Some (n.Read m x) → slice_get net.mems m ≡ Some mem
      → stepped (values_of part (given inputs b)) (slice_get part.mems m) o
      ≡ stepped (values_of net (given inputs a)) (Some mem) o
  unfolding value_at
  stepped_same m x id mem None p e f =
      let q = nexts.mems m x id mem p e f in ap (λ k. stepped (values_of part (given inputs b)) k None) q.there
  stepped_same m x id mem (Some words) p e f =
      let q = nexts.mems m x id mem p e f in
      let us = values_of part (given inputs b) in
      let vs = values_of net (given inputs a) in
      let nodes : (w : MemWrite) (k : ℕ) → IsIn mem.writes w → IsIn (write_nodes w) k
      → slice_index us (place t k) ≡ slice_index vs k =
      λ w k h i.
      let at = nexts.written m x id k mem w p e f h i in
      ap (λ o. slice_index us (or_zero o)) at.1 ∙ same k at.0 at.1 in
      ap (λ k. stepped us k (Some words)) q.there
      ∙ ap Some ((λ i. write_each us (q.width i) words (q.writes i))
      ∙ writes_same us vs t mem.width words mem.writes nodes)

  next_mem : (m x id : ℕ) → HasPlace t id → slice_get net.nodes id ≡ Some (n.Read m x)
      → slice_get (next_state part (given inputs b)).mems m ≡ slice_get (next_state net (given inputs a)).mems m
  next_mem m x id p e =
      let few : m < length net.mems = omega
      (arith, (fits_in net id (n.Read m x) whole e).0, length-map net.mems (λ (y : Mem). y.width)) in
      let found = get_some net.mems m few in
      let us = values_of part (given inputs b) in
      let vs = values_of net (given inputs a) in
      next_get us part.mems b.mems m
      ∙ ap (stepped us (slice_get part.mems m)) (alike.mems m x id p e)
      ∙ stepped_same m x id found.0 (slice_get a.mems m) p e found.1
      ∙ ap (λ o. stepped vs o (slice_get a.mems m)) (sym found.1)
      ∙ sym (next_get vs net.mems a.mems m)

  pub next_alike : AreAlike net t (next_state net (given inputs a)) (next_state part (given inputs b))
  next_alike = record { regs = next_reg; mems = next_mem }

-- ---- runs

pub run_alike : (net part : Netlist) (t : List (Option ℕ)) → IsNet net → IsNet part → IsCopy net part t
    → HasNexts net part t → (inputs : ℕ → List ℕ) (start : State) (k : ℕ)
    → AreAlike net t (state_at net inputs start k) (state_at part inputs start k)
run_alike net part t whole own copy nexts inputs start zero =
    record { regs = λ i id p e. refl; mems = λ m x id p e. refl }
run_alike net part t whole own copy nexts inputs start (suc k) =
    next_alike net part t whole own copy nexts (inputs k) (state_at net inputs start k) (state_at part inputs start k)
    (run_alike net part t whole own copy nexts inputs start k)

pub run_values : (net part : Netlist) (t : List (Option ℕ)) → IsNet net → IsNet part → IsCopy net part t
    → HasNexts net part t → (inputs : ℕ → List ℕ) (start : State) (k id at : ℕ) → IsPlace t id at
    → value_at part (cycle_at part inputs start k) at ≡ value_at net (cycle_at net inputs start k) id
run_values net part t whole own copy nexts inputs start k id at p =
    let alike = run_alike net part t whole own copy nexts inputs start k in
    same net part t whole own copy nexts (inputs k) (state_at net inputs start k) (state_at part inputs start k) alike
    id at p
