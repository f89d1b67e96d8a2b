use Rattle.std.specs.Prelude.{◌≡◌, refl, ℕ, ◌+◌, ◌<◌, List, [], ◌∷◌, length, slice_index_or, take}
use Rattle.std.proofs.Common.{ap, sym, ◌∙◌, arith, subst}
use Rattle.std.proofs.lemmas.List.{take_more}
use Rattle.wn_net.specs.declared.parts.MemWrite.{MemWrite}
use Rattle.wn_net.specs.Changes.{with_write}
use Rattle.wn_net.specs.Net.{Netlist}
use Rattle.wn_net.proofs.Laws.{keeps_on}
use Rattle.vl_lower_state.specs.Stores.{AddsWrites}
use Rattle.vl_lower_state.specs.Writing.{with_writes}
use Rattle.vl_lower_state.proofs.Carried.{keeps_same, one_write, same_writes, writes_on}
use Rattle.vl_lower_state.proofs.Placed.{own_writes, write_behind}
use Rattle.vl_lower_state.proofs.words.store_kept.Goals as goal

none_taken : (xs : List MemWrite) → take 0 xs ≡ []
none_taken [] = refl
none_taken (x ∷ xs) = refl

pub loop-write-init : goal.loop-write-init
loop-write-init c =
    let old = c.args.net.now in
    record {
      keeps = keeps_same old;
      adds = same_writes old;
      others =
          sym (own_writes c.args.mem old.mems) ∙ ap (λ xs. with_writes c.args.mem xs old.mems) c.requires.none
          ∙ ap (λ xs. with_writes c.args.mem xs old.mems) (sym (none_taken c.args.writes.now));
    }

others_more : (old loop new : Netlist) (mem : ℕ) (xs : List MemWrite) (i : ℕ) (d : MemWrite) → i < length xs
    → new ≡ record loop { mems = with_write mem (slice_index_or xs i d) loop.mems }
    → loop.mems ≡ with_writes mem (take i xs) old.mems → new.mems ≡ with_writes mem (take (i + 1) xs) old.mems
others_more old loop new mem xs i d below made others =
    ap (λ (n : Netlist). n.mems) made ∙ ap (with_write mem (slice_index_or xs i d)) others
    ∙ write_behind mem (slice_index_or xs i d) (take i xs) old.mems
    ∙ ap (λ ws. with_writes mem ws old.mems) (sym (take_more xs i d below))

adds_more : (old loop new : Netlist) (mem : ℕ) (x : MemWrite) → new ≡ record loop { mems = with_write mem x loop.mems }
    → AddsWrites old loop → AddsWrites old new
adds_more old loop new mem x made adds =
    writes_on old loop new adds (subst (AddsWrites loop) (sym made) (one_write loop mem x))

pub loop-write-preserved : goal.loop-write-preserved
loop-write-preserved c =
    let old = c.args.net.now in
    let loop = c.loop-write.net in
    let new = c.mem_write.new.self in
    let inv = c.loop-write.invariant in
    let made = c.in_ok-mem_write.ensures.new in
    let below : c.loop-write.write-index < length c.args.writes.now = omega arith in
    record {
      keeps = keeps_on old loop new inv.keeps c.mem_write.ensures.keeps;
      adds = adds_more old loop new c.args.mem _ made inv.adds;
      others =
          others_more old loop new c.args.mem c.args.writes.now c.loop-write.write-index _ below made inv.others;
    }
