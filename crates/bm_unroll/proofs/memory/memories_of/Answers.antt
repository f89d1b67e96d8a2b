use Rattle.std.specs.Prelude.{◌<◌, ◌≤◌, ℕ, List, length, refl}
use Rattle.std.proofs.Common.{ap, arith, subst, sym}
use Rattle.bm_unroll.proofs.Items.{all_in, at_read}
use Rattle.bm_unroll.proofs.Beginning.{forming_all, forming_next, forming_none}
use Rattle.bm_unroll.proofs.memory.memories_of.Goals as goal

pub loop-index-init : goal.loop-index-init
loop-index-init c = forming_none c.args.words.now _ c.in_ok-made.ensures.items

pub memory_of-requires : goal.memory_of-requires
memory_of-requires c =
    let i = c.loop-index.index in
    let below : i < length c.args.words.now =
    omega (arith, c.requires.each, ap length c.mems-mem-items.ensures.value) in
    let P : List ℕ → Type 0 = λ ids. 1 ≤ length ids in
    subst P (sym c.as_slice-ids.ensures)
    (all_in P c.args.words.now i c.index-words-index.result c.requires.some
    (at_read c.args.words.now c.args.words.now i c.index-words-index.result refl below c.index-words-index.is))

pub loop-index-preserved : goal.loop-index-preserved
loop-index-preserved c =
    let i = c.loop-index.index in
    let words = c.args.words.now in
    let below : i < length words = omega (arith, c.requires.each, ap length c.mems-mem-items.ensures.value) in
    forming_next words i c.loop-index.made.items c.push.new.self.items c.index-words-index.result
    c.as_slice-ids.result.now c.in_ok-memory.memory
    (at_read words words i c.index-words-index.result refl below c.index-words-index.is) c.as_slice-ids.ensures
    c.loop-index.invariant c.in_ok-memory.ensures c.in_ok-push.ensures.items

pub returns : goal.returns
returns c =
    let past : length c.args.words.now ≤ c.loop-index.index =
    omega (arith, c.requires.each, ap length c.mems-mem-items.ensures.value) in
    forming_all c.args.words.now c.loop-index.index c.loop-index.made.items c.from_vec.result past c.from_vec.ensures
    c.loop-index.invariant
