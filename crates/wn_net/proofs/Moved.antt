-- What a cycle leaves in registers and memories fits again.
use Rattle.std.specs.Prelude.{◌≡◌, refl, ℕ, zero, suc, ◌<◌, ◌^◌, ◌==◌, Bool, true, false, List, [], ◌∷◌, length, map}
use Rattle.std.specs.Prelude.{slice_index, slice_set, if◌then◌else◌}
use Rattle.std.specs.List.{AllByRecursion}
use Rattle.std.proofs.Common.{ap, sym, ◌∙◌, arith, subst, lit<, length-set}
use Rattle.std.proofs.lemmas.List.{length-map}
use Rattle.wn_net.specs.declared.parts.Reg.{Reg}
use Rattle.wn_net.specs.declared.parts.Mem.{Mem}
use Rattle.wn_net.specs.declared.parts.MemWrite.{MemWrite}
use Rattle.wn_net.specs.declared.parts.State.{State}
use Rattle.wn_net.specs.Value.{Given, word_at, words_at}
use Rattle.wn_net.specs.Net.{Netlist, IsNet, IsRegOf, IsWriteOf, IsMemOf, IsNodeOf, shape_of, values_of, width_at}
use Rattle.wn_net.specs.Net.{value_at}
use Rattle.fv_bits.specs.Bits.{masked}
use Rattle.wn_net.specs.Given.{AreMemsOf, IsGiven, IsStateOf}
use Rattle.wn_net.specs.Next.{written, write, write_each, next_mems, next_state, IsWriteIn, IsMemIn}
use Rattle.wn_net.proofs.Small.{values_fit, has_widths, words_below, mems_alike}
use Rattle.wn_net.proofs.Stays.{length-values_of}
use Rattle.wn_net.proofs.Written.{written_below}

-- each value of a net is below 2 to its width
pub value_below : (net : Netlist) (g : Given) → IsNet net → IsGiven net g → (id : ℕ)
    → value_at net g id < 2 ^ width_at net id
unfolding value_at width_at
value_below net g whole given id =
    values_fit (shape_of net) g [] [] net.nodes (has_widths net g given) refl (λ i. lit< tt) whole.nodes id

pub value_within : (net : Netlist) (g : Given) (width id : ℕ) → IsNet net → IsGiven net g → IsNodeOf net width id
    → value_at net g id < 2 ^ width
value_within net g width id whole given h =
    let P : ℕ → Type 0 = λ w. value_at net g id < 2 ^ w in subst P h.1 (value_below net g whole given id)

-- registers
pub nexts_there : (net : Netlist) (g : Given) (rs : List Reg) → AllByRecursion (IsRegOf net) rs
    → AllByRecursion (λ r. r.next < length (values_of net g)) rs
nexts_there net g [] h = tt
nexts_there net g (r ∷ rs) h = (omega (arith, length-values_of net g, h.0.next.0), nexts_there net g rs h.1)

nexts_below : (net : Netlist) (g : Given) (rs : List Reg) → IsNet net → IsGiven net g → AllByRecursion (IsRegOf net) rs
    → (i : ℕ) → slice_index (map (λ r. value_at net g r.next) rs) i < 2 ^ slice_index (map (λ r. r.width) rs) i
unfolding value_at
nexts_below net g [] whole given h i = lit< tt
nexts_below net g (r ∷ rs) whole given h zero = value_within net g r.width r.next whole given h.0.next
nexts_below net g (r ∷ rs) whole given h (suc i) = nexts_below net g rs whole given h.1 i

-- writes
pub write_is_in : (net : Netlist) (g : Given) (width : ℕ) (w : MemWrite) → IsNet net → IsGiven net g
    → IsWriteOf net width w
    → IsWriteIn (values_of net g) width w
unfolding value_at
write_is_in net g width w whole given h = record {
  enable = omega (arith, length-values_of net g, h.enable.0);
  addr = omega (arith, length-values_of net g, h.addr);
  mask = omega (arith, length-values_of net g, h.mask.0);
  value = omega (arith, length-values_of net g, h.value.0);
  mask_fits = value_within net g width w.mask whole given h.mask;
  value_fits = value_within net g width w.value whole given h.value;
}

writes_are_in : (net : Netlist) (g : Given) (width : ℕ) (ws : List MemWrite) → IsNet net → IsGiven net g
    → AllByRecursion (IsWriteOf net width) ws
    → AllByRecursion (IsWriteIn (values_of net g) width) ws
writes_are_in net g width [] whole given h = tt
writes_are_in net g width (w ∷ ws) whole given h =
    (write_is_in net g width w whole given h.0, writes_are_in net g width ws whole given h.1)

pub mems_are_in : (net : Netlist) (g : Given) (ms : List Mem) → IsNet net → IsGiven net g
    → AllByRecursion (IsMemOf net) ms
    → AllByRecursion (IsMemIn (values_of net g)) ms
mems_are_in net g [] whole given h = tt
mems_are_in net g (m ∷ ms) whole given h = (
  record { few = h.0.width.1; writes = writes_are_in net g m.width m.writes whole given h.0.writes },
  mems_are_in net g ms whole given h.1,
)

length-either : (b : Bool) (xs : List ℕ) (a n : ℕ) → length (if b then slice_set xs a n else xs) ≡ length xs
length-either true xs a n = length-set xs a n
length-either false xs a n = refl

pub length-written : (w : ℕ) (xs : List ℕ) (e a m n : ℕ) → length (written w xs e a m n) ≡ length xs
length-written w xs e a m n = length-either (e == 1) xs a (masked w m (word_at xs a) n)

length-write_each : (vs : List ℕ) (w : ℕ) (xs : List ℕ) (ws : List MemWrite)
    → length (write_each vs w xs ws) ≡ length xs
length-write_each vs w xs [] = refl
length-write_each vs w xs (x ∷ ws) =
    length-write_each vs w (write vs w xs x) ws
    ∙ length-written w xs (slice_index vs x.enable) (slice_index vs x.addr) (slice_index vs x.mask)
    (slice_index vs x.value)

write_each_below : (vs : List ℕ) (w : ℕ) (xs : List ℕ) (ws : List MemWrite) → AllByRecursion (IsWriteIn vs w) ws
    → ((i : ℕ) → word_at xs i < 2 ^ w) → (i : ℕ) → word_at (write_each vs w xs ws) i < 2 ^ w
write_each_below vs w xs [] h below i = below i
write_each_below vs w xs (x ∷ ws) h below i =
    write_each_below vs w (write vs w xs x) ws h.1
    (written_below w xs (slice_index vs x.enable) (slice_index vs x.addr) (slice_index vs x.mask)
    (slice_index vs x.value) below h.0.value_fits) i

-- memories
next_mems_are : (vs : List ℕ) (ms : List Mem) (ns : List (List ℕ)) → AllByRecursion (IsMemIn vs) ms → AreMemsOf ms ns
    → AreMemsOf ms (next_mems vs ms ns)
next_mems_are vs [] [] h k = tt
next_mems_are vs (x ∷ ms) (n ∷ ns) h k = (
  record {
    each = length-write_each vs x.width n x.writes ∙ k.0.each;
    below = write_each_below vs x.width n x.writes h.0.writes k.0.below;
  },
  next_mems_are vs ms ns h.1 k.1,
)
next_mems_are vs [] (n ∷ ns) h k = absurd k
next_mems_are vs (x ∷ ms) [] h k = absurd k

pub next_is_state : (net : Netlist) (g : Given) → IsNet net → IsGiven net g → IsStateOf net (next_state net g)
unfolding value_at
next_is_state net g whole given = record {
  regs = record {
    each = length-map net.regs (λ r. value_at net g r.next) ∙ sym (length-map net.regs (λ r. r.width));
    below = nexts_below net g net.regs whole given whole.regs;
  };
  mems = next_mems_are (values_of net g) net.mems g.state.mems
      (mems_are_in net g net.mems whole given whole.mems) given.state.mems;
}

-- with equations for what is there
pub mems_in_by : (shown net : Netlist) (g : Given) (vs : List ℕ) (items : List Mem) → IsNet shown → shown ≡ net
    → IsGiven net g
    → vs ≡ values_of net g → items ≡ shown.mems → AllByRecursion (IsMemIn vs) items
mems_in_by shown net g vs items whole e given vs_are items_are =
    let G : Netlist → Type 0 = λ n. IsGiven n g in
    let P : List Mem → Type 0 = λ ms. AllByRecursion (IsMemIn vs) ms in
    let Q : List ℕ → Type 0 = λ us. AllByRecursion (IsMemIn us) shown.mems in
    subst P (sym items_are) (subst Q (ap (λ n. values_of n g) e ∙ sym vs_are)
    (mems_are_in shown g shown.mems whole (subst G (sym e) given) whole.mems))

pub next_state_by : (shown net : Netlist) (g : Given) (next : State) → IsNet shown → shown ≡ net → IsGiven net g
    → next ≡ next_state net g
    → IsStateOf net next
next_state_by shown net g next whole e given is =
    let P : State → Type 0 = λ s. IsStateOf net s in
    subst P (sym is) (next_is_state net g (subst IsNet e whole) given)

pub mems_alike_by : (shown net : Netlist) (g : Given) (items : List Mem) → shown ≡ net → IsGiven net g
    → items ≡ shown.mems
    → length g.state.mems ≡ length items
mems_alike_by shown net g items e given items_are =
    mems_alike net.mems g.state.mems given.state.mems ∙ sym (ap (λ n. length n.mems) e)
    ∙ sym (ap (λ ms. length ms) items_are)

pub words_below_by : (shown net : Netlist) (g : Given) (items : List Mem) → shown ≡ net → IsGiven net g
    → items ≡ shown.mems
    → (m i : ℕ) → word_at (words_at g.state.mems m) i < 2 ^ slice_index (map (λ m. m.width) items) m
words_below_by shown net g items e given items_are =
    let P : List Mem → Type 0 = λ ms. (m i : ℕ)
    → word_at (words_at g.state.mems m) i < 2 ^ slice_index (map (λ m. m.width) ms) m in
    subst P (sym (items_are ∙ ap (λ n. n.mems) e)) (words_below net.mems g.state.mems given.state.mems)
