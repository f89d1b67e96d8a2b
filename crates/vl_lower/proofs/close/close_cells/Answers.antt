use Rattle.std.specs.Prelude.{◌≡◌, List, map, slice_index}
use Rattle.std.proofs.Common.{ap, sym, ◌∙◌, subst}
use Rattle.wn_net.specs.declared.parts.Mem.{Mem}
use Rattle.wn_net.specs.Net.{Netlist}
use Rattle.wn_net.proofs.Laws.{keeps_on}
use Rattle.vl_lower_spec.specs.Sources.{AreEach}
use Rattle.vl_lower_state.specs.Stores.{MayStore}
use Rattle.wn_net.specs.Changes.{mem_width}
use Rattle.vl_lower_assign.specs.Tracks.{track_at}
use Rattle.vl_lower_state.proofs.Carried.{fit_kept}
use Rattle.vl_lower.proofs.Between.{all_fit, may_each}
use Rattle.vl_lower.proofs.close.close_cells.Goals as goal

pub store_words-requires-clause-may : goal.store_words-requires-clause-may
store_words-requires-clause-may c =
    let old = c.args.net.now in
    let mid = c.gather_all.new.net in
    let new = c.set_nexts.new.net in
    let same : new.mems ≡ old.mems =
    ap (λ (n : Netlist). n.mems) c.set_nexts.ensures.new ∙ c.in_ok-nodes.ensures.adds.mems in
    subst (λ (ms : List Mem). AreEach (MayStore new c.args.cells.now) ms c.args.memory_cells.now) (sym same)
    (may_each old new c.args.cells.now
    (keeps_on old mid new c.in_ok-nodes.ensures.adds.keeps c.set_nexts.ensures.keeps) old.mems c.args.memory_cells.now
    c.requires.stored)

pub store_words-requires-clause-fit : goal.store_words-requires-clause-fit
store_words-requires-clause-fit c = λ mem below.
    let old = c.args.net.now in
    let mid = c.gather_all.new.net in
    let new = c.set_nexts.new.net in
    let same : new.mems ≡ old.mems =
    ap (λ (n : Netlist). n.mems) c.set_nexts.ensures.new ∙ c.in_ok-nodes.ensures.adds.mems in
    fit_kept old new (keeps_on old mid new c.in_ok-nodes.ensures.adds.keeps c.set_nexts.ensures.keeps)
    (track_at c.args.tracks.now mem).writes (mem_width old mem) (mem_width new mem)
    (ap (λ (ms : List Mem). slice_index (map (λ (m : Mem). m.width) ms) mem) (sym same))
    (all_fit old c.args.cells.now c.args.tracks.now c.requires.tracks mem)
