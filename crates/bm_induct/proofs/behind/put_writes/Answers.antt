use Rattle.std.specs.Prelude.{◌≡◌, ◌+◌, ℕ, suc, List, length, map, take, slice_index, slice_index_or}
use Rattle.std.proofs.Common.{arith, ap, ◌∙◌, refl, subst, sym}
use Rattle.std.proofs.lemmas.List.{length-map, map_push}
use Rattle.wn_net.specs.declared.parts.Mem.{Mem}
use Rattle.wn_net.specs.declared.parts.MemWrite.{MemWrite}
use Rattle.wn_net.specs.Net.{Netlist, IsWriteOf}
use Rattle.wn_net.specs.Changes.{mem_width, with_write}
use Rattle.bm_induct.specs.Rebuilt.{offset}
use Rattle.bm_induct.specs.Stages.{moved_write, with_writes}
use Rattle.bm_induct.proofs.Items.{all_in, at_place, take_next}
use Rattle.bm_induct.proofs.Rest.{write_fits, writes_push, mem_widths_kept, stand_on}
use Rattle.bm_induct.proofs.behind.put_writes.Goals as goal

-- what a read past the last write would give
abbrev no_write : MemWrite
no_write = record { enable = 0; addr = 0; mask = 0; value = 0 }

-- the memory has the width that it had
same_width : (old made : Netlist) (i : ℕ) (ws : List MemWrite)
    → made ≡ record old { mems = with_writes i ws old.mems } → mem_width made i ≡ mem_width old i
same_width old made i ws e =
    ap (λ m. slice_index (map (λ (x : Mem). x.width) m.mems) i) e
    ∙ ap (λ us. slice_index us i) (mem_widths_kept i ws old.mems)

same_many : (old made : Netlist) (i : ℕ) (ws : List MemWrite)
    → made ≡ record old { mems = with_writes i ws old.mems } → length made.mems ≡ length old.mems
same_many old made i ws e =
    sym (length-map made.mems (λ (x : Mem). x.width))
    ∙ ap length (ap (λ m. map (λ (x : Mem). x.width) m.mems) e ∙ mem_widths_kept i ws old.mems)
    ∙ length-map old.mems (λ (x : Mem). x.width)

pub overflow_add-copy : goal.overflow_add-copy
overflow_add-copy c =
    let net = c.args.net.now in
    let j = c.loop-write.write-index in
    let x = slice_index_or c.args.writes.now j no_write in
    let own = all_in (IsWriteOf net (mem_width c.args.made.now c.args.index)) c.args.writes.now j x c.requires.writes
    (at_place c.args.writes.now c.args.writes.now j x no_write refl (omega arith) refl) in
    omega (arith, own.enable.0, c.requires.few, c.requires.long)

pub mem_write-requires-clause-mem : goal.mem_write-requires-clause-mem
mem_write-requires-clause-mem c =
    let many = same_many c.args.made.now c.loop-write.made c.args.index
    (map (moved_write c.args.net.now) (take c.loop-write.write-index c.args.writes.now)) c.loop-write.invariant.new in
    omega (arith, many, c.requires.mem)

-- what is written, by the nodes that stand for its own
copied : (net : Netlist) (more : ℕ) (x : MemWrite) → more ≡ offset net
    → record { enable = x.enable + more; addr = x.addr + more; mask = x.mask + more; value = x.value + more }
    ≡ moved_write net x
copied net more x e = λ k. record {
  enable = x.enable + e k;
  addr = x.addr + e k;
  mask = x.mask + e k;
  value = x.value + e k;
}

pub mem_write-requires-clause-write : goal.mem_write-requires-clause-write
mem_write-requires-clause-write c =
    let net = c.args.net.now in
    let old = c.args.made.now in
    let made = c.loop-write.made in
    let j = c.loop-write.write-index in
    let x = slice_index_or c.args.writes.now j no_write in
    let own = all_in (IsWriteOf net (mem_width old c.args.index)) c.args.writes.now j x c.requires.writes
    (at_place c.args.writes.now c.args.writes.now j x no_write refl (omega arith) refl) in
    let P : MemWrite → Type 0 = λ y. IsWriteOf made (mem_width made c.args.index) y in
    let Q : ℕ → Type 0 = λ w. IsWriteOf made w (moved_write net x) in
    subst P (sym (copied net c.args.more x c.requires.more))
    (subst Q (sym (same_width old made c.args.index (map (moved_write net) (take j c.args.writes.now))
    c.loop-write.invariant.new))
    (write_fits net made (mem_width old c.args.index) x c.loop-write.invariant.stand own))

pub loop-write-preserved : goal.loop-write-preserved
loop-write-preserved c =
    let net = c.args.net.now in
    let old = c.args.made.now in
    let made = c.loop-write.made in
    let j = c.loop-write.write-index in
    let xs = c.args.writes.now in
    let x = slice_index_or xs j no_write in
    let at = at_place xs xs j x no_write refl (omega arith) refl in
    let one : suc j ≡ j + 1 = omega arith in
    record {
      new =
          c.in_ok-mem_write.ensures.new
          ∙ (λ k. record made {
            mems = with_write c.args.index (copied net c.args.more x c.requires.more k) made.mems;
          })
          ∙ ap (λ (m : Netlist). record m { mems = with_write c.args.index (moved_write net x) m.mems })
          c.loop-write.invariant.new
          ∙ ap (λ (ms : List Mem). record old { mems = ms })
          (sym (writes_push c.args.index (map (moved_write net) (take j xs)) (moved_write net x) old.mems)
          ∙ ap (λ ws. with_writes c.args.index ws old.mems)
          (sym (map_push (moved_write net) (take j xs) x) ∙ ap (map (moved_write net)) (sym (take_next xs j x at)))
          ∙ ap (λ k. with_writes c.args.index (map (moved_write net) (take k xs)) old.mems) one);
      stand = stand_on net made c.mem_write.new.self c.in_ok-mem_write.ensures.keeps c.loop-write.invariant.stand;
    }
