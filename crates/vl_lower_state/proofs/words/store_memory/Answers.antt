use Rattle.std.specs.Prelude.{◌≡◌, ℕ, ◌+◌, ◌<◌, List, [], Some, get_or, slice_get, take, drop}
use Rattle.std.proofs.Common.{ap, sym, ◌∙◌, arith, subst, inl}
use Rattle.std.proofs.lemmas.Option.{get_or_from_slice_get, slice_get_within}
use Rattle.fv_bits.specs.Bits.{ones}
use Rattle.wn_net.specs.declared.parts.Mem.{Mem}
use Rattle.vl_lower_state.specs.Stores.{IsConstant, PutNodes}
use Rattle.vl_lower_state.specs.Writing.{writes_at}
use Rattle.vl_lower_state.proofs.Carried.{writes_none}
use Rattle.vl_lower_state.proofs.Turns as turns
use Rattle.vl_lower_state.proofs.words.store_memory.Goals as goal

pub loop-word-init : goal.loop-word-init
loop-word-init c =
    let old = c.args.net.now in
    let new = c.constant.new.net in
    let at = c.requires.at in
    let none = turns.none_written old new c.args.mem at.memory c.constant.ensures.adds at.there at.may.none in
    record {
      keeps = c.constant.ensures.adds.keeps;
      adds = writes_none old new c.constant.ensures.adds;
      mask =
          subst (λ n. IsConstant new c.index-mems-mem.result.width n c.in_ok-mask.mask) c.ones.ensures.value
          c.in_ok-mask.ensures.is;
      others = turns.others_first old new c.args.mem c.constant.ensures.adds;
      stored = subst (λ xs. PutNodes new c.index-mems-mem.result.width 0 xs []) (sym none) tt;
    }

-- the memory that was read is the one that is there
is_memory : (ms : List Mem) (mem : ℕ) (m read : Mem) → slice_get ms mem ≡ Some m → read ≡ get_or ms mem read
    → read ≡ m
is_memory ms mem m read e f = f ∙ get_or_from_slice_get ms mem m read e

pub loop-word-preserved : goal.loop-word-preserved
loop-word-preserved c =
    let old = c.args.net.now in
    let loop = c.loop-word.net in
    let mid = c.constant-in-loop-word.new.net in
    let new = c.mem_write.new.self in
    let at = c.requires.at in
    let inv = c.loop-word.invariant in
    let w = c.loop-word.word in
    let is = is_memory old.mems c.args.mem at.memory c.index-mems-mem.result at.there
    (c.index-mems-mem.is ∙ ap (λ ms. get_or ms c.args.mem c.index-mems-mem.result) c.mems.ensures.value) in
    let wide : c.index-mems-mem.result.width ≡ at.memory.width = ap (λ (m : Mem). m.width) is in
    let less : w < at.memory.words = omega (arith, c.loop-word-test.true, ap (λ (m : Mem). m.words) is) in
    let whole : IsConstant loop at.memory.width (ones at.memory.width) c.in_ok-mask.mask =
    subst (λ (n : ℕ). IsConstant loop n (ones n) c.in_ok-mask.mask) wide inv.mask in
    let stored = subst (λ n. PutNodes loop n 0 (writes_at loop.mems c.args.mem) (take w (drop c.args.first c.args.cells.now)))
    wide inv.stored in
    record {
      keeps =
          turns.keeps_more old loop mid new c.args.mem at.memory at.there inv.keeps inv.adds c.in_ok-addr.ensures.adds
          c.args.cells.now c.args.first w c.args.always c.in_ok-addr.addr c.in_ok-mask.mask at.may less
          c.requires.always c.in_ok-addr.ensures.is whole c.in_ok-mem_write.ensures.new c.mem_write.ensures.keeps
          inv.others stored;
      adds =
          turns.adds_more old loop mid new c.args.mem at.memory at.there inv.keeps inv.adds c.in_ok-addr.ensures.adds
          c.args.cells.now c.args.first w c.args.always c.in_ok-addr.addr c.in_ok-mask.mask at.may less
          c.requires.always c.in_ok-addr.ensures.is whole c.in_ok-mem_write.ensures.new c.mem_write.ensures.keeps
          inv.others stored;
      mask =
          subst (λ (n : ℕ). IsConstant new n (ones n) c.in_ok-mask.mask) (sym wide)
          (turns.mask_more old loop mid new c.args.mem at.memory at.there inv.keeps inv.adds c.in_ok-addr.ensures.adds
          c.args.cells.now c.args.first w c.args.always c.in_ok-addr.addr c.in_ok-mask.mask at.may less
          c.requires.always c.in_ok-addr.ensures.is whole c.in_ok-mem_write.ensures.new c.mem_write.ensures.keeps
          inv.others stored);
      others =
          turns.others_more old loop mid new c.args.mem at.memory at.there inv.keeps inv.adds c.in_ok-addr.ensures.adds
          c.args.cells.now c.args.first w c.args.always c.in_ok-addr.addr c.in_ok-mask.mask at.may less
          c.requires.always c.in_ok-addr.ensures.is whole c.in_ok-mem_write.ensures.new c.mem_write.ensures.keeps
          inv.others stored;
      stored =
          subst (λ n. PutNodes new n 0 (writes_at new.mems c.args.mem) (take (w + 1) (drop c.args.first c.args.cells.now)))
          (sym wide)
          (turns.stored_more old loop mid new c.args.mem at.memory at.there inv.keeps inv.adds c.in_ok-addr.ensures.adds
          c.args.cells.now c.args.first w c.args.always c.in_ok-addr.addr c.in_ok-mask.mask at.may less
          c.requires.always c.in_ok-addr.ensures.is whole c.in_ok-mem_write.ensures.new c.mem_write.ensures.keeps
          inv.others stored);
    }

pub mem_write-requires-clause-write : goal.mem_write-requires-clause-write
mem_write-requires-clause-write c =
    let old = c.args.net.now in
    let loop = c.loop-word.net in
    let mid = c.constant-in-loop-word.new.net in
    let at = c.requires.at in
    let inv = c.loop-word.invariant in
    let w = c.loop-word.word in
    let is = is_memory old.mems c.args.mem at.memory c.index-mems-mem.result at.there
    (c.index-mems-mem.is ∙ ap (λ ms. get_or ms c.args.mem c.index-mems-mem.result) c.mems.ensures.value) in
    let wide : c.index-mems-mem.result.width ≡ at.memory.width = ap (λ (m : Mem). m.width) is in
    let less : w < at.memory.words = omega (arith, c.loop-word-test.true, ap (λ (m : Mem). m.words) is) in
    let whole : IsConstant loop at.memory.width (ones at.memory.width) c.in_ok-mask.mask =
    subst (λ (n : ℕ). IsConstant loop n (ones n) c.in_ok-mask.mask) wide inv.mask in
    turns.may_write old loop mid mid c.args.mem at.memory at.there inv.keeps inv.adds c.in_ok-addr.ensures.adds
    c.args.cells.now c.args.first w c.args.always c.in_ok-addr.addr c.in_ok-mask.mask at.may less c.requires.always
    c.in_ok-addr.ensures.is whole

pub mem_write-requires-clause-mem : goal.mem_write-requires-clause-mem
mem_write-requires-clause-mem c =
    let old = c.args.net.now in
    let at = c.requires.at in
    let inv = c.loop-word.invariant in
    let many = turns.as_many old c.loop-word.net c.constant-in-loop-word.new.net c.constant-in-loop-word.new.net
    c.args.mem at.memory at.there inv.keeps inv.adds c.in_ok-addr.ensures.adds in
    omega (arith, many, slice_get_within old.mems c.args.mem at.memory at.there)

pub bounds-cells-first : goal.bounds-cells-first
bounds-cells-first c =
    let at = c.requires.at in
    let is = is_memory c.args.net.now.mems c.args.mem at.memory c.index-mems-mem.result at.there
    (c.index-mems-mem.is ∙ ap (λ ms. get_or ms c.args.mem c.index-mems-mem.result) c.mems.ensures.value) in
    omega (arith, at.may.there, c.loop-word-test.true, ap (λ (m : Mem). m.words) is)

pub returns-clause-stored : goal.returns-clause-stored
returns-clause-stored c = λ tracks.
    let old = c.args.net.now in
    let at = c.requires.at in
    let inv = c.loop-word.invariant in
    let is = is_memory old.mems c.args.mem at.memory c.index-mems-mem.result at.there
    (c.index-mems-mem.is ∙ ap (λ ms. get_or ms c.args.mem c.index-mems-mem.result) c.mems.ensures.value) in
    let wide : c.index-mems-mem.result.width ≡ at.memory.width = ap (λ (m : Mem). m.width) is in
    let all : c.loop-word.word ≡ at.memory.words =
    omega (arith, c.loop-word-test.false, c.loop-word.auto.word-end, ap (λ (m : Mem). m.words) is) in
    let Put : ℕ → ℕ → Type 0 = λ n k.
    PutNodes c.loop-word.net n 0 (writes_at c.loop-word.net.mems c.args.mem) (take k (drop c.args.first c.args.cells.now)) in
    record {
      memory = at.memory;
      there = at.there;
      others = inv.others;
      stored = inl (subst (Put at.memory.width) all (subst (λ n. Put n c.loop-word.word) wide inv.stored));
    }
