-- One next node, write or assumption more.
use Rattle.std.specs.Prelude.{◌≡◌, refl, ℕ, zero, suc, ◌+◌, ◌<◌, List, [], ◌∷◌, ◌++◌, length, map, take, drop}
use Rattle.std.specs.Prelude.{Some, slice_get, slice_index}
use Rattle.std.specs.List.{AllByRecursion}
use Rattle.std.proofs.Common.{ap, sym, ◌∙◌, arith, subst}
use Rattle.std.proofs.lemmas.List.{append_assoc, append-nil, length-append, take_all, map_push, length-map}
use Rattle.wn_net.specs.declared.parts.Reg.{Reg}
use Rattle.wn_net.specs.declared.parts.Mem.{Mem}
use Rattle.wn_net.specs.declared.parts.MemWrite.{MemWrite}
use Rattle.wn_net.specs.Net.{Netlist, IsNet, IsNodeOf, IsRegOf, IsMemOf, IsWriteOf, widths_of}
use Rattle.wn_net.specs.Net.{width_at}
use Rattle.wn_net.specs.Changes.{Keeps, with_next, with_write, reg_width, mem_width}
use Rattle.wn_net.proofs.Stays.{length-widths_of}
use Rattle.bm_induct.specs.declared.how.Rebuild.{Rebuild}
use Rattle.bm_induct.specs.Rebuilt.{offset, moved_id}
use Rattle.bm_induct.specs.Stages.{moved, begun_reg, begun_regs, moved_reg, begun_mem, moved_mem, moved_write}
use Rattle.bm_induct.specs.Stages.{with_nodes, with_nexts, with_writes, with_mem_writes, with_assumes, Stand}
use Rattle.bm_induct.proofs.Items.{behind, take_next, take_long, drop_next, all_in}
use Rattle.bm_induct.proofs.Leads.{lead_nodes, lead_widths, long_widths}
use Rattle.bm_induct.proofs.Sweeps.{all_widths}
use Rattle.bm_induct.proofs.Begun.{same_net, shape_same}

-- ---- nodes stand

pub nodes_stand : (how : Rebuild) (net made : Netlist) (i : ℕ) → IsNet net → made ≡ with_nodes how net i
    → i ≡ length net.nodes → Stand net made
unfolding width_at
nodes_stand how net made i whole is all = λ w id own.
    let now = with_nodes how net (length net.nodes) in
    let same : made ≡ now = is ∙ ap (with_nodes how net) all in
    let nodes : now.nodes ≡ lead_nodes net ++ map (moved how net) net.nodes =
    ap (λ xs. lead_nodes net ++ map (moved how net) xs) (take_all (length net.nodes) net.nodes (omega arith)) in
    let wide : widths_of now ≡ lead_widths net ++ widths_of net =
    all_widths how net now net.nodes (shape_same how net (length net.nodes)) nodes whole.nodes in
    let long : length now.nodes ≡ offset net + length net.nodes =
    sym (length-widths_of now) ∙ ap length wide ∙ length-append (lead_widths net) (widths_of net)
    ∙ (λ j. long_widths net j + length-widths_of net j) in
    let here : width_at now (moved_id net id) ≡ width_at net id =
    ap (λ us. slice_index us (moved_id net id)) wide
    ∙ behind (lead_widths net) (widths_of net) (offset net) id (long_widths net) in
    let P : Netlist → Type 0 = λ m. IsNodeOf m w (moved_id net id) in
    subst P (sym same) (omega (arith, own.0, long), here ∙ own.1)

pub stand_on : (net old new : Netlist) → Keeps old new → Stand net old → Stand net new
stand_on net old new keeps own = λ w id there.
    let h = own w id there in
    (omega (arith, h.0, keeps.longer), keeps.widths (moved_id net id) h.0 ∙ h.1)

-- ---- next nodes

pub no_nexts : (how : Rebuild) (net made : Netlist) (i : ℕ) → made ≡ with_nodes how net i → i ≡ length net.nodes
    → made ≡ with_nexts how net 0
no_nexts how net made i is all =
    let I = length net.inputs in
    let from : I ≡ I + 0 = omega arith in
    is ∙ ap (with_nodes how net) all
    ∙ same_net (with_nodes how net (length net.nodes)) (with_nexts how net 0) refl
    (λ j. begun_regs how (from j) (take_all (length net.regs) net.regs (omega arith) j)) refl refl refl

next_here : (i next : ℕ) (xs : List Reg) (r : Reg) (ys : List Reg) → length xs ≡ i
    → with_next i next (xs ++ r ∷ ys) ≡ xs ++ record r { next = next } ∷ ys
next_here zero next [] r ys e = refl
next_here (suc i) next [] r ys e = absurd (omega (arith, e))
next_here zero next (x ∷ xs) r ys e = absurd (omega (arith, e))
next_here (suc i) next (x ∷ xs) r ys e = ap (λ us. x ∷ us) (next_here i next xs r ys (omega (arith, e)))

-- the registers, of which one more begins otherwise
regs_here : (how : Rebuild) (net : Netlist) (i : ℕ) (r : Reg) → slice_get net.regs i ≡ Some r
    → with_next i (moved_id net r.next)
    (map (moved_reg how net) (take i net.regs) ++ begun_regs how (length net.inputs + i) (drop i net.regs))
    ≡ map (moved_reg how net) (take (suc i) net.regs)
    ++ begun_regs how (length net.inputs + suc i) (drop (suc i) net.regs)
regs_here how net i r at =
    let I = length net.inputs in
    let xs = map (moved_reg how net) (take i net.regs) in
    let rest = begun_regs how (I + i + 1) (drop (suc i) net.regs) in
    let long : length xs ≡ i =
    length-map (take i net.regs) (moved_reg how net) ∙ take_long net.regs i r at in
    let one : I + i + 1 ≡ I + suc i = omega arith in
    ap (λ us. with_next i (moved_id net r.next) (xs ++ begun_regs how (I + i) us)) (drop_next net.regs i r at)
    ∙ next_here i (moved_id net r.next) xs (begun_reg how (I + i) r) rest long
    ∙ sym (append_assoc xs (moved_reg how net r ∷ []) rest)
    ∙ ap (λ us. us ++ rest) (sym (map_push (moved_reg how net) (take i net.regs) r)
    ∙ ap (map (moved_reg how net)) (sym (take_next net.regs i r at)))
    ∙ ap (λ k. map (moved_reg how net) (take (suc i) net.regs) ++ begun_regs how k (drop (suc i) net.regs)) one

pub nexts_next : (how : Rebuild) (net made new : Netlist) (i next : ℕ) (r : Reg) → made ≡ with_nexts how net i
    → slice_get net.regs i ≡ Some r → next ≡ moved_id net r.next
    → new ≡ record made { regs = with_next i next made.regs } → new ≡ with_nexts how net (i + 1)
nexts_next how net made new i next r is at to e =
    let one : suc i ≡ i + 1 = omega arith in
    e ∙ (λ j. record (is j) { regs = with_next i (to j) (is j).regs })
    ∙ ap (λ (rs : List Reg). record (with_nexts how net i) { regs = rs }) (regs_here how net i r at)
    ∙ ap (with_nexts how net) one

-- the register that gets its next node is there, and has its width
width_after : (xs ys : List Reg) (r : Reg) (i : ℕ) → length xs ≡ i
    → slice_index (map (λ r. r.width) (xs ++ r ∷ ys)) i ≡ r.width
width_after [] ys r zero e = refl
width_after [] ys r (suc i) e = absurd (omega (arith, e))
width_after (x ∷ xs) ys r zero e = absurd (omega (arith, e))
width_after (x ∷ xs) ys r (suc i) e = width_after xs ys r i (omega (arith, e))

pub next_fits : (how : Rebuild) (net made : Netlist) (i : ℕ) (r : Reg) → IsNet net → made ≡ with_nexts how net i
    → slice_get net.regs i ≡ Some r → Stand net made
    → (i < length made.regs) × IsNodeOf made (reg_width made i) (moved_id net r.next)
next_fits how net made i r whole is at stand =
    let I = length net.inputs in
    let xs = map (moved_reg how net) (take i net.regs) in
    let rest = begun_regs how (I + i + 1) (drop (suc i) net.regs) in
    let long : length xs ≡ i =
    length-map (take i net.regs) (moved_reg how net) ∙ take_long net.regs i r at in
    let regs : made.regs ≡ xs ++ begun_reg how (I + i) r ∷ rest =
    ap (λ m. m.regs) is ∙ ap (λ us. xs ++ begun_regs how (I + i) us) (drop_next net.regs i r at) in
    let wide : reg_width made i ≡ r.width =
    ap (λ rs. slice_index (map (λ (r : Reg). r.width) rs) i) regs
    ∙ width_after xs rest (begun_reg how (I + i) r) i long in
    let P : ℕ → Type 0 = λ w. IsNodeOf made w (moved_id net r.next) in
    let own = all_in (IsRegOf net) net.regs i r whole.regs at in (
      omega (arith, ap length regs, length-append xs (begun_reg how (I + i) r ∷ rest), long),
      subst P (sym wide) (stand r.width r.next own.next),
    )

-- ---- writes

pub no_mem_writes : (how : Rebuild) (net made : Netlist) → made ≡ with_nexts how net (length net.regs)
    → made ≡ with_mem_writes how net 0
no_mem_writes how net made is =
    is ∙ same_net (with_nexts how net (length net.regs)) (with_mem_writes how net 0) refl refl
    (ap (map (begun_mem how)) (take_all (length net.mems) net.mems (omega arith))) refl refl

write_here : (i : ℕ) (w : MemWrite) (xs : List Mem) (m : Mem) (ys : List Mem) → length xs ≡ i
    → with_write i w (xs ++ m ∷ ys) ≡ xs ++ record m { writes = m.writes ++ w ∷ [] } ∷ ys
write_here zero w [] m ys e = refl
write_here (suc i) w [] m ys e = absurd (omega (arith, e))
write_here zero w (x ∷ xs) m ys e = absurd (omega (arith, e))
write_here (suc i) w (x ∷ xs) m ys e = ap (λ us. x ∷ us) (write_here i w xs m ys (omega (arith, e)))

writes_here : (i : ℕ) (ws : List MemWrite) (xs : List Mem) (m : Mem) (ys : List Mem) → length xs ≡ i
    → with_writes i ws (xs ++ m ∷ ys) ≡ xs ++ record m { writes = m.writes ++ ws } ∷ ys
writes_here i [] xs m ys e =
    ap (λ us. xs ++ record m { writes = us } ∷ ys) (sym (append-nil m.writes))
writes_here i (w ∷ ws) xs m ys e =
    ap (with_writes i ws) (write_here i w xs m ys e)
    ∙ writes_here i ws xs (record m { writes = m.writes ++ w ∷ [] }) ys e
    ∙ ap (λ us. xs ++ record m { writes = us } ∷ ys) (append_assoc m.writes (w ∷ []) ws)

pub writes_push : (i : ℕ) (ws : List MemWrite) (w : MemWrite) (ms : List Mem)
    → with_writes i (ws ++ w ∷ []) ms ≡ with_write i w (with_writes i ws ms)
writes_push i [] w ms = refl
writes_push i (x ∷ xs) w ms = writes_push i xs w (with_write i x ms)

mems_here : (how : Rebuild) (net : Netlist) (i : ℕ) (m : Mem) → slice_get net.mems i ≡ Some m
    → with_writes i (map (moved_write net) m.writes)
    (map (moved_mem how net) (take i net.mems) ++ map (begun_mem how) (drop i net.mems))
    ≡ map (moved_mem how net) (take (suc i) net.mems) ++ map (begun_mem how) (drop (suc i) net.mems)
mems_here how net i m at =
    let xs = map (moved_mem how net) (take i net.mems) in
    let rest = map (begun_mem how) (drop (suc i) net.mems) in
    let long : length xs ≡ i =
    length-map (take i net.mems) (moved_mem how net) ∙ take_long net.mems i m at in
    ap (λ us. with_writes i (map (moved_write net) m.writes) (xs ++ map (begun_mem how) us)) (drop_next net.mems i m at)
    ∙ writes_here i (map (moved_write net) m.writes) xs (begun_mem how m) rest long
    ∙ sym (append_assoc xs (moved_mem how net m ∷ []) rest)
    ∙ ap (λ us. us ++ rest) (sym (map_push (moved_mem how net) (take i net.mems) m)
    ∙ ap (map (moved_mem how net)) (sym (take_next net.mems i m at)))

pub mem_writes_next : (how : Rebuild) (net made new : Netlist) (i : ℕ) (m : Mem) → made ≡ with_mem_writes how net i
    → slice_get net.mems i ≡ Some m
    → new ≡ record made { mems = with_writes i (map (moved_write net) m.writes) made.mems }
    → new ≡ with_mem_writes how net (i + 1)
mem_writes_next how net made new i m is at e =
    let one : suc i ≡ i + 1 = omega arith in
    e ∙ ap (λ (b : Netlist). record b { mems = with_writes i (map (moved_write net) m.writes) b.mems }) is
    ∙ ap (λ (ms : List Mem). record (with_mem_writes how net i) { mems = ms }) (mems_here how net i m at)
    ∙ ap (with_mem_writes how net) one

mem_width_after : (xs ys : List Mem) (m : Mem) (i : ℕ) → length xs ≡ i
    → slice_index (map (λ m. m.width) (xs ++ m ∷ ys)) i ≡ m.width
mem_width_after [] ys m zero e = refl
mem_width_after [] ys m (suc i) e = absurd (omega (arith, e))
mem_width_after (x ∷ xs) ys m zero e = absurd (omega (arith, e))
mem_width_after (x ∷ xs) ys m (suc i) e = mem_width_after xs ys m i (omega (arith, e))

-- the memory at the place is there, and its writes are writes of the net to words of its width
pub mem_fits : (how : Rebuild) (net made : Netlist) (i : ℕ) (m : Mem) → IsNet net → made ≡ with_mem_writes how net i
    → slice_get net.mems i ≡ Some m
    → (i < length made.mems) × AllByRecursion (IsWriteOf net (mem_width made i)) m.writes
mem_fits how net made i m whole is at =
    let xs = map (moved_mem how net) (take i net.mems) in
    let rest = map (begun_mem how) (drop (suc i) net.mems) in
    let long : length xs ≡ i =
    length-map (take i net.mems) (moved_mem how net) ∙ take_long net.mems i m at in
    let mems : made.mems ≡ xs ++ begun_mem how m ∷ rest =
    ap (λ b. b.mems) is ∙ ap (λ us. xs ++ map (begun_mem how) us) (drop_next net.mems i m at) in
    let wide : mem_width made i ≡ m.width =
    ap (λ ms. slice_index (map (λ (m : Mem). m.width) ms) i) mems ∙ mem_width_after xs rest (begun_mem how m) i long in
    let P : ℕ → Type 0 = λ w. AllByRecursion (IsWriteOf net w) m.writes in
    let own = all_in (IsMemOf net) net.mems i m whole.mems at in (
      omega (arith, ap length mems, length-append xs (begun_mem how m ∷ rest), long),
      subst P (sym wide) own.writes,
    )

-- a write to words of a width, by the nodes that stand for its own
pub write_fits : (net made : Netlist) (w : ℕ) (x : MemWrite) → Stand net made → IsWriteOf net w x
    → IsWriteOf made w (moved_write net x)
write_fits net made w x stand own = record {
  enable = stand 1 x.enable own.enable;
  addr = (stand (width_at net x.addr) x.addr (own.addr, refl)).0;
  mask = stand w x.mask own.mask;
  value = stand w x.value own.value;
}

-- writes leave the widths of memories
pub mem_widths_kept : (i : ℕ) (ws : List MemWrite) (ms : List Mem)
    → map (λ m. m.width) (with_writes i ws ms) ≡ map (λ m. m.width) ms
mem_widths_kept i [] ms = refl
mem_widths_kept i (w ∷ ws) ms = mem_widths_kept i ws (with_write i w ms) ∙ one i w ms
  where
    one : (i : ℕ) (w : MemWrite) (ms : List Mem) → map (λ m. m.width) (with_write i w ms) ≡ map (λ m. m.width) ms
    one i w [] = refl
    one zero w (m ∷ ms) = refl
    one (suc i) w (m ∷ ms) = ap (λ us. m.width ∷ us) (one i w ms)

-- ---- assumptions

pub no_assumes : (how : Rebuild) (net made : Netlist) → made ≡ with_mem_writes how net (length net.mems)
    → made ≡ with_assumes how net 0
no_assumes how net made is = is

pub assumes_next : (how : Rebuild) (net made new : Netlist) (i id x : ℕ) → made ≡ with_assumes how net i
    → slice_get net.assumes i ≡ Some id → x ≡ moved_id net id
    → new ≡ record made { assumes = made.assumes ++ x ∷ [] } → new ≡ with_assumes how net (i + 1)
assumes_next how net made new i id x is at to e =
    let one : suc i ≡ i + 1 = omega arith in
    e ∙ (λ j. record (is j) { assumes = (is j).assumes ++ to j ∷ [] })
    ∙ ap (λ (us : List ℕ). record (with_mem_writes how net (length net.mems)) { assumes = us })
    (sym (map_push (moved_id net) (take i net.assumes) id)
    ∙ ap (map (moved_id net)) (sym (take_next net.assumes i id at)))
    ∙ ap (with_assumes how net) one
