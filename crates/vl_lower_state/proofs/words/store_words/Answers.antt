use Rattle.std.specs.Prelude.{◌≡◌, ◌+◌, ◌<◌, List, length, slice_index}
use Rattle.std.proofs.Common.{ap, sym, ◌∙◌, arith, subst}
use Rattle.std.proofs.lemmas.List.{length-map}
use Rattle.std.proofs.lemmas.Option.{get_or_from_slice_get}
use Rattle.wn_net.specs.declared.parts.Mem.{Mem}
use Rattle.wn_net.specs.Changes.{mem_width}
use Rattle.wn_net.specs.Net.{Netlist}
use Rattle.vl_lower_assign.specs.Tracks.{track_at}
use Rattle.wn_net.proofs.Laws.{keeps_on}
use Rattle.vl_lower_state.specs.Stores.{AddsWrites, IsStored}
use Rattle.vl_lower_state.specs.Writing.{IsAt, IsStoredAt}
use Rattle.vl_lower_state.proofs.Carried.{constant_kept, fit_kept, writes_on}
use Rattle.vl_lower_state.proofs.StoresTogether.{all_stored, as_many, left_less, still_at, stored_more, there_at}
use Rattle.vl_lower_state.proofs.words.store_words.Goals as goal

-- there are as many memories as before
many_mems : (old new : Netlist) → AddsWrites old new → length new.mems ≡ length old.mems
many_mems old new h =
    sym (length-map new.mems (λ (m : Mem). m.width)) ∙ ap length h.widths
    ∙ length-map old.mems (λ (m : Mem). m.width)

pub bounds-firsts-at : goal.bounds-firsts-at
bounds-firsts-at c =
    let old = c.args.net.now in
    let many = as_many old c.args.cells.now old.mems c.args.firsts.now c.requires.may in
    let same = ap length c.constant.ensures.adds.mems in
    omega (arith, many, same, c.loop-at-test.true, ap (λ (ms : List Mem). length ms) c.mems-count.ensures.value)

pub store_one-requires-clause-at : goal.store_one-requires-clause-at
store_one-requires-clause-at c =
    let old = c.args.net.now in
    let many = as_many old c.args.cells.now old.mems c.args.firsts.now c.requires.may in
    let same = ap length c.constant.ensures.adds.mems in
    let less : c.loop-at.at < length c.args.firsts.now =
    omega (arith, many, same, c.loop-at-test.true, ap (λ (ms : List Mem). length ms) c.mems-count.ensures.value) in
    let f = there_at c.args.firsts.now c.loop-at.at less in
    subst (λ k. IsAt c.loop-at.net c.args.cells.now c.loop-at.at k)
    (sym (get_or_from_slice_get c.args.firsts.now c.loop-at.at f.0 0 f.1))
    (still_at old c.loop-at.net c.args.cells.now c.args.firsts.now c.loop-at.invariant.keeps c.requires.may c.loop-at.at f.0
    f.1 c.loop-at.invariant.left)

pub store_one-requires-clause-fit : goal.store_one-requires-clause-fit
store_one-requires-clause-fit c =
    let old = c.args.net.now in
    let loop = c.loop-at.net in
    let inv = c.loop-at.invariant in
    let less : c.loop-at.at < length old.mems =
    omega (
      arith,
      ap length c.constant.ensures.adds.mems,
      c.loop-at-test.true,
      ap (λ (ms : List Mem). length ms) c.mems-count.ensures.value,
    ) in
    fit_kept old loop inv.keeps (track_at c.args.tracks.now c.loop-at.at).writes (mem_width old c.loop-at.at)
    (mem_width loop c.loop-at.at) (ap (λ ws. slice_index ws c.loop-at.at) (sym inv.adds.widths))
    (c.requires.fit c.loop-at.at less)

pub loop-at-preserved : goal.loop-at-preserved
loop-at-preserved c =
    let old = c.args.net.now in
    let loop = c.loop-at.net in
    let new = c.store_one.new.net in
    let inv = c.loop-at.invariant in
    let many = as_many old c.args.cells.now old.mems c.args.firsts.now c.requires.may in
    let same = ap length c.constant.ensures.adds.mems in
    let less : c.loop-at.at < length c.args.firsts.now =
    omega (arith, many, same, c.loop-at-test.true, ap (λ (ms : List Mem). length ms) c.mems-count.ensures.value) in
    let f = there_at c.args.firsts.now c.loop-at.at less in
    let one = subst (λ k. IsStoredAt loop new c.args.cells.now c.args.tracks.now c.loop-at.at k)
    (get_or_from_slice_get c.args.firsts.now c.loop-at.at f.0 0 f.1) c.in_ok-store_one.ensures.stored in
    record {
      keeps = keeps_on old loop new inv.keeps c.store_one.ensures.keeps;
      adds = writes_on old loop new inv.adds c.store_one.ensures.adds;
      always = constant_kept loop new c.store_one.ensures.keeps 1 1 c.in_ok-always.always inv.always;
      stored =
          stored_more old loop new c.args.cells.now c.args.tracks.now c.args.firsts.now c.store_one.ensures.keeps c.loop-at.at f.0 f.1
          one inv.stored;
      left =
          left_less old loop new c.args.cells.now c.args.tracks.now c.args.firsts.now c.store_one.ensures.keeps c.loop-at.at f.0 f.1 one
          inv.left;
    }

pub returns-clause-stored : goal.returns-clause-stored
returns-clause-stored c =
    let old = c.args.net.now in
    let new = c.loop-at.net in
    let many = as_many old c.args.cells.now old.mems c.args.firsts.now c.requires.may in
    let same = ap length c.constant.ensures.adds.mems in
    let own : length new.mems ≡ length c.args.firsts.now = many_mems old new c.loop-at.invariant.adds ∙ many in
    all_stored new c.args.cells.now c.args.tracks.now 0 new.mems c.args.firsts.now own (λ i m f less a b.
    let here : i ≡ 0 + i = omega arith in
    subst (λ n. IsStored new c.args.cells.now c.args.tracks.now n m f) here (c.loop-at.invariant.stored i m f
    (omega (arith, less, many, same, c.loop-at-test.false, ap (λ (ms : List Mem). length ms) c.mems-count.ensures.value))
    a b))
