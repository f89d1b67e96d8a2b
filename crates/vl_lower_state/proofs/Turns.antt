-- One more word of a memory is written.
use Rattle.std.specs.Prelude.{◌≡◌, refl, ℕ, ◌+◌, ◌<◌, List, [], ◌∷◌, ◌++◌, length, map, take, drop, Some}
use Rattle.std.specs.Prelude.{slice_get, slice_index}
use Rattle.std.proofs.Common.{ap, sym, ◌∙◌, arith, subst}
use Rattle.std.proofs.lemmas.List.{length-map}
use Rattle.fv_bits.specs.Bits.{ones}
use Rattle.wn_net.specs.declared.parts.Mem.{Mem}
use Rattle.wn_net.specs.declared.parts.MemWrite.{MemWrite}
use Rattle.wn_net.specs.Changes.{AddsNodes, Keeps, mem_width, with_write}
use Rattle.wn_net.specs.Net.{IsNodeOf, IsWriteOf, Netlist}
use Rattle.wn_net.proofs.Laws.{keeps_on}
use Rattle.vl_lower_state.specs.Stores.{AddsWrites, IsConstant, MayStore, PutNodes, PutsNode}
use Rattle.vl_lower_state.specs.Writing.{with_writes, writes_at, writes_of}
use Rattle.vl_lower_state.proofs.Carried.{constant_kept, node_kept, one_write, put_nodes_kept, writes_none, writes_on}
use Rattle.vl_lower_state.proofs.Placed.{left_over, next_node, own_writes, put_more, taken, width_at_place}
use Rattle.vl_lower_state.proofs.Placed.{write_behind}
use Rattle.vl_lower_state.proofs.Placed.{written_at}

-- nothing is written yet
pub none_written : (old new : Netlist) (mem : ℕ) (m : Mem) → AddsNodes old new → slice_get old.mems mem ≡ Some m
    → m.writes ≡ [] → writes_at new.mems mem ≡ []
none_written old new mem m adds there none =
    ap (λ ms. writes_at ms mem) adds.mems ∙ ap writes_of there ∙ none

pub others_first : (old new : Netlist) (mem : ℕ) → AddsNodes old new
    → new.mems ≡ with_writes mem (writes_at new.mems mem) old.mems
others_first old new mem adds =
    adds.mems ∙ sym (own_writes mem old.mems)
    ∙ ap (λ ms. with_writes mem (writes_at ms mem) old.mems) (sym adds.mems)

module _ (old loop mid new : Netlist) (mem : ℕ) (m : Mem) (there : slice_get old.mems mem ≡ Some m) (keeps : Keeps old loop)
    (writes : AddsWrites old loop) (adds : AddsNodes loop mid) where
  all_kept : Keeps old mid
  all_kept = keeps_on old loop mid keeps adds.keeps

  -- the memory is there, with its width
  pub width_is : mem_width mid mem ≡ m.width
  width_is =
      ap (λ ms. slice_index (map (λ (z : Mem). z.width) ms) mem) adds.mems
      ∙ ap (λ ws. slice_index ws mem) writes.widths ∙ width_at_place old.mems mem m there

  pub as_many : length mid.mems ≡ length old.mems
  as_many =
      ap length adds.mems ∙ sym (length-map loop.mems (λ (z : Mem). z.width)) ∙ ap length writes.widths
      ∙ length-map old.mems (λ (z : Mem). z.width)

  module _ (cells : List ℕ) (first word always addr mask : ℕ) (may : MayStore old cells m first) (less : word < m.words)
      (one : IsConstant old 1 1 always) (at : IsConstant mid 32 word addr)
      (whole : IsConstant loop m.width (ones m.width) mask) where
    abbrev pub write : MemWrite
    write = record { enable = always; addr = addr; mask = mask; value = slice_index cells (first + word) }

    pub may_write : IsWriteOf mid (mem_width mid mem) write
    may_write = record {
      enable = node_kept old mid all_kept 1 always one.node;
      addr = at.node.0;
      mask =
          subst (λ w. IsNodeOf mid w mask) (sym width_is)
          (node_kept loop mid adds.keeps m.width mask whole.node);
      value =
          subst (λ w. IsNodeOf mid w (slice_index cells (first + word))) (sym width_is)
          (node_kept old mid all_kept m.width (slice_index cells (first + word)) (may.node word less));
    }

    module _ (made : new ≡ record mid { mems = with_write mem write mid.mems }) (on : Keeps mid new)
        (others : loop.mems ≡ with_writes mem (writes_at loop.mems mem) old.mems)
        (stored : PutNodes loop m.width 0 (writes_at loop.mems mem) (take word (drop first cells))) where
      pub adds_more : AddsWrites old new
      adds_more =
          writes_on old mid new (writes_on old loop mid writes (writes_none loop mid adds))
          (subst (AddsWrites mid) (sym made) (one_write mid mem write))

      pub keeps_more : Keeps old new
      keeps_more = keeps_on old mid new all_kept on

      late : Keeps loop new
      late = keeps_on loop mid new adds.keeps on

      pub mask_more : IsConstant new m.width (ones m.width) mask
      mask_more = constant_kept loop new late m.width (ones m.width) mask whole

      now : new.mems ≡ with_writes mem (writes_at loop.mems mem ++ write ∷ []) old.mems
      now =
          ap (λ n. n.mems) made ∙ ap (with_write mem write) (adds.mems ∙ others)
          ∙ write_behind mem write (writes_at loop.mems mem) old.mems

      own : writes_at new.mems mem ≡ writes_at loop.mems mem ++ write ∷ []
      own =
          ap (λ ms. writes_at ms mem) now
          ∙ written_at mem (writes_at loop.mems mem ++ write ∷ []) old.mems m there

      pub others_more : new.mems ≡ with_writes mem (writes_at new.mems mem) old.mems
      others_more = now ∙ ap (λ xs. with_writes mem xs old.mems) (sym own)

      puts : PutsNode new m.width word (slice_index cells (first + word)) write
      puts = record {
        acts = constant_kept old new keeps_more 1 1 always one;
        at = constant_kept mid new on 32 word addr at;
        whole = mask_more;
        is = refl;
        there = node_kept old new keeps_more m.width (slice_index cells (first + word)) (may.node word less);
      }

      pub stored_more : PutNodes new m.width 0 (writes_at new.mems mem) (take (word + 1) (drop first cells))
      stored_more =
          let behind = left_over first cells (omega (arith, may.there)) in
          let many : length (take word (drop first cells)) ≡ word =
          taken word (drop first cells) (omega (arith, may.there, behind, less)) in
          let same : word ≡ 0 + length (take word (drop first cells)) = omega (arith, many) in
          subst (λ xs. PutNodes new m.width 0 xs (take (word + 1) (drop first cells))) (sym own)
          (subst (λ ns. PutNodes new m.width 0 (writes_at loop.mems mem ++ write ∷ []) ns)
          (sym (next_node first word cells (omega (arith, may.there, less))))
          (put_more new m.width 0 (writes_at loop.mems mem) (take word (drop first cells)) write
          (slice_index cells (first + word))
          (put_nodes_kept loop new late m.width 0 (writes_at loop.mems mem) (take word (drop first cells)) stored)
          (subst (λ a. PutsNode new m.width a (slice_index cells (first + word)) write) same puts)))
