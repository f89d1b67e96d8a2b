-- A node has its old value where what it reads has.
use Rattle.std.specs.Prelude.{◌≡◌, refl, ℕ, zero, suc, ◌<◌, List, length, Some, Option, slice_get}
use Rattle.std.specs.Prelude.{slice_index}
use Rattle.std.proofs.Common.{ap, sym, ◌∙◌, arith}
use Rattle.fv_graph.proofs.Lists.{get_some}
use Rattle.wn_net.specs.declared.node.Node.{Node}
use Rattle.wn_net.specs.declared.node.Node.TheVariants as n
use Rattle.wn_net.specs.Value.{Given, value, words_of}
use Rattle.wn_net.specs.Net.{Netlist, IsNet, widths_of, values_of, width_at, value_at}
use Rattle.wn_run.proofs.Own.{each_value}
use Rattle.wn_opt.specs.Needed.{IsIn, operands}
use Rattle.wn_opt.specs.Cone.{IsPlace, HasPlace, or_zero, place, renamed}
use Rattle.wn_opt.proofs.Before.{operands_before}

-- ---- one node

-- what a node reads of inputs, registers and memories is the same in two cycles
pub record HasSame (g h : Given) (x : Node) : Type 0 where
  pub input : (i : ℕ) → x ≡ n.Input i → slice_index h.inputs i ≡ slice_index g.inputs i
  pub reg : (i : ℕ) → x ≡ n.Reg i → slice_index h.state.regs i ≡ slice_index g.state.regs i
  pub mem : (m a : ℕ) → x ≡ n.Read m a → words_of h m ≡ words_of g m

-- what it reads of nodes has the same widths, and the same values
pub record ReadsSame (t : List (Option ℕ)) (ws vs us ts : List ℕ) (a : ℕ) : Type 0 where
  pub width : slice_index us (place t a) ≡ slice_index ws a
  pub value : slice_index ts (place t a) ≡ slice_index vs a

module _ (g h : Given) (t : List (Option ℕ)) (ws vs us ts : List ℕ) where
  abbrev pub ReadAll : Node → Type 0
  ReadAll x = (a : ℕ) → IsIn (operands x) a → ReadsSame t ws vs us ts a

  pub value_renamed : (x : Node) → HasSame g h x → ReadAll x → value h us ts (renamed t x) ≡ value g ws vs x
  value_renamed (n.Konst word) same r = refl
  value_renamed (n.Input i) same r = same.input i refl
  value_renamed (n.Reg i) same r = same.reg i refl
  value_renamed (n.Read m a) same r = rw ((r a (0, refl)).value, same.mem m a refl) refl
  value_renamed (n.Not a) same r = rw ((r a (0, refl)).width, (r a (0, refl)).value) refl
  value_renamed (n.And a b) same r = rw ((r a (0, refl)).value, (r b (1, refl)).value) refl
  value_renamed (n.Or a b) same r = rw ((r a (0, refl)).value, (r b (1, refl)).value) refl
  value_renamed (n.Xor a b) same r = rw ((r a (0, refl)).value, (r b (1, refl)).value) refl
  value_renamed (n.Add a b) same r = rw ((r a (0, refl)).width, (r a (0, refl)).value, (r b (1, refl)).value) refl
  value_renamed (n.Sub a b) same r = rw ((r a (0, refl)).width, (r a (0, refl)).value, (r b (1, refl)).value) refl
  value_renamed (n.Mul a b) same r = rw ((r a (0, refl)).width, (r a (0, refl)).value, (r b (1, refl)).value) refl
  value_renamed (n.Eq a b) same r = rw ((r a (0, refl)).value, (r b (1, refl)).value) refl
  value_renamed (n.Ult a b) same r = rw ((r a (0, refl)).value, (r b (1, refl)).value) refl
  value_renamed (n.Slt a b) same r = rw ((r a (0, refl)).width, (r a (0, refl)).value, (r b (1, refl)).value) refl
  value_renamed (n.Shl a b) same r = rw ((r a (0, refl)).width, (r a (0, refl)).value, (r b (1, refl)).value) refl
  value_renamed (n.Lshr a b) same r = rw ((r a (0, refl)).value, (r b (1, refl)).value) refl
  value_renamed (n.Ashr a b) same r = rw ((r a (0, refl)).width, (r a (0, refl)).value, (r b (1, refl)).value) refl
  value_renamed (n.Concat a b) same r =
      rw ((r b (1, refl)).width, (r a (0, refl)).value, (r b (1, refl)).value) refl
  value_renamed (n.Mux c a b) same r =
      rw ((r c (0, refl)).value, (r a (1, refl)).value, (r b (2, refl)).value) refl
  value_renamed (n.Slice a at w) same r = rw ((r a (0, refl)).value) refl
  value_renamed (n.Zext a w) same r = (r a (0, refl)).value
  value_renamed (n.Sext a w) same r = rw ((r a (0, refl)).width, (r a (0, refl)).value) refl

-- ---- all of them

-- the placed nodes stand in the part as the table says, with all that they read
pub record IsCopy (net part : Netlist) (t : List (Option ℕ)) : Type 0 where
  pub there : (id : ℕ) → HasPlace t id → id < length net.nodes
  pub nodes : (id at : ℕ) (x : Node) → IsPlace t id at → slice_get net.nodes id ≡ Some x
      → slice_get part.nodes at ≡ Some (renamed t x)
  pub widths : (id at : ℕ) → IsPlace t id at → width_at part at ≡ width_at net id
  pub closed : (user a : ℕ) (x : Node) → HasPlace t user → slice_get net.nodes user ≡ Some x
      → IsIn (operands x) a → HasPlace t a

-- the sources that a placed node reads are the same in two cycles
abbrev pub ReadSame : Netlist → List (Option ℕ) → Given → Given → Type 0
ReadSame net t g h = (id : ℕ) (x : Node) → HasPlace t id → slice_get net.nodes id ≡ Some x → HasSame g h x

same_below : (net part : Netlist) (t : List (Option ℕ)) (g h : Given) → IsNet net → IsNet part → IsCopy net part t
    → ReadSame net t g h → (bound id at : ℕ) → id < bound → IsPlace t id at
    → value_at part h at ≡ value_at net g id
unfolding value_at width_at
same_below net part t g h whole own copy same zero id at low p = absurd (omega (arith, low))
same_below net part t g h whole own copy same (suc bound) id at low p =
    let found = get_some net.nodes id (copy.there id (at, p)) in
    let x = found.0 in
    let reads : (a : ℕ) → IsIn (operands x) a
    → ReadsSame t (widths_of net) (values_of net g) (widths_of part) (values_of part h) a =
    λ a i.
    let q = copy.closed id a x (at, p) found.1 i in
    let under : a < id = operands_before net id x whole found.1 a i in
    let less : a < bound = omega (arith, under, low) in
    let is : place t a ≡ q.0 = ap or_zero q.1 in
    record {
      width = ap (slice_index (widths_of part)) is ∙ copy.widths a q.0 q.1;
      value = ap (slice_index (values_of part h)) is
          ∙ same_below net part t g h whole own copy same bound a q.0 less q.1;
    } in
    each_value part h at (renamed t x) own (copy.nodes id at x p found.1)
    ∙ value_renamed g h t (widths_of net) (values_of net g) (widths_of part) (values_of part h) x
    (same id x (at, p) found.1) reads
    ∙ sym (each_value net g id x whole found.1)

pub same_values : (net part : Netlist) (t : List (Option ℕ)) (g h : Given) → IsNet net → IsNet part
    → IsCopy net part t → ReadSame net t g h → (id at : ℕ) → IsPlace t id at
    → value_at part h at ≡ value_at net g id
same_values net part t g h whole own copy same id at p =
    same_below net part t g h whole own copy same (suc id) id at (omega arith) p
