use Rattle.std.specs.Prelude.{◌≡◌, refl, ℕ, ◌+◌, ◌<◌, ◌≤◌, List, [], ◌∷◌, ◌++◌}
use Rattle.std.specs.Prelude.{Some, length, take, slice_get, slice_index}
use Rattle.std.proofs.Common.{ap, sym, ◌∙◌, arith, subst}
use Rattle.std.proofs.lemmas.List.{take_all}
use Rattle.std.proofs.lemmas.Option.{get_or_from_slice_get, same_Some, slice_get_read, slice_get_within}
use Rattle.wn_net.specs.declared.names.Spot.{Spot}
use Rattle.wn_net.specs.Changes.{Shows}
use Rattle.wn_net.specs.Net.{IsNode, value_at, width_at}
use Rattle.wn_net.proofs.Laws.{adds_on, there_on}
use Rattle.vl_lower_spec.specs.Maps.{gathered}
use Rattle.vl_lower_state.specs.Nexts.{ShowBits}
use Rattle.vl_lower_state.proofs.Gathering.{as_many, bits_at, seen_before, show_more, show_on, take_get}
use Rattle.vl_lower_state.proofs.nexts.gather_all.Goals as goal

pub bounds-places-at : goal.bounds-places-at
bounds-places-at c =
    let h = bits_at c.args.net.now c.args.cells.now c.args.spots.now c.args.places.now c.requires c.loop-at.at
    c.loop-at-test.true in
    slice_get_within c.args.places.now c.loop-at.at h.cell h.of_cell

pub bounds-cells-places : goal.bounds-cells-places
bounds-cells-places c =
    let h = bits_at c.args.net.now c.args.cells.now c.args.spots.now c.args.places.now c.requires c.loop-at.at
    c.loop-at-test.true in
    subst (λ k. k < length c.args.cells.now)
    (sym (get_or_from_slice_get c.args.places.now c.loop-at.at h.cell 0 h.of_cell)) h.bits.there

pub gather-requires-clause-node : goal.gather-requires-clause-node
gather-requires-clause-node c =
    let h = bits_at c.args.net.now c.args.cells.now c.args.spots.now c.args.places.now c.requires c.loop-at.at
    c.loop-at-test.true in
    subst (λ k. IsNode c.loop-at.net (slice_index c.args.cells.now k))
    (sym (get_or_from_slice_get c.args.places.now c.loop-at.at h.cell 0 h.of_cell))
    (there_on c.args.net.now c.loop-at.net (slice_index c.args.cells.now h.cell) c.loop-at.invariant.adds h.bits.node)

pub gather-requires-clause-some : goal.gather-requires-clause-some
gather-requires-clause-some c =
    let h = bits_at c.args.net.now c.args.cells.now c.args.spots.now c.args.places.now c.requires c.loop-at.at
    c.loop-at-test.true in
    let x : Spot = c.index-spots-at.result in
    let at = slice_get_read c.args.spots.now (length c.args.spots.now) c.loop-at.at x refl c.loop-at-test.true
    c.index-spots-at.is in
    let same : h.spot.bits ≡ c.as_slice.result.now =
    ap (λ (s : Spot). s.bits) (same_Some h.spot x (sym h.of_spot ∙ at) ∙ c.index-spots-at.is)
    ∙ sym c.as_slice.ensures in
    subst (λ (bs : List ℕ). 1 ≤ length bs) same h.bits.some

pub gather-requires-clause-few : goal.gather-requires-clause-few
gather-requires-clause-few c =
    let h = bits_at c.args.net.now c.args.cells.now c.args.spots.now c.args.places.now c.requires c.loop-at.at
    c.loop-at-test.true in
    let x : Spot = c.index-spots-at.result in
    let at = slice_get_read c.args.spots.now (length c.args.spots.now) c.loop-at.at x refl c.loop-at-test.true
    c.index-spots-at.is in
    let same : h.spot.bits ≡ c.as_slice.result.now =
    ap (λ (s : Spot). s.bits) (same_Some h.spot x (sym h.of_spot ∙ at) ∙ c.index-spots-at.is)
    ∙ sym c.as_slice.ensures in
    subst (λ (bs : List ℕ). length bs ≤ 128) same h.bits.few

pub gather-requires-clause-within : goal.gather-requires-clause-within
gather-requires-clause-within c =
    let h = bits_at c.args.net.now c.args.cells.now c.args.spots.now c.args.places.now c.requires c.loop-at.at
    c.loop-at-test.true in
    let x : Spot = c.index-spots-at.result in
    let at = slice_get_read c.args.spots.now (length c.args.spots.now) c.loop-at.at x refl c.loop-at-test.true
    c.index-spots-at.is in
    let same : h.spot.bits ≡ c.as_slice.result.now =
    ap (λ (s : Spot). s.bits) (same_Some h.spot x (sym h.of_spot ∙ at) ∙ c.index-spots-at.is)
    ∙ sym c.as_slice.ensures in
    let Within : List ℕ → ℕ → Type 0 = λ bs cell.
    (j k : ℕ) → slice_get bs j ≡ Some k → k < width_at c.loop-at.net (slice_index c.args.cells.now cell) in
    subst (λ (bs : List ℕ). Within bs (slice_index c.args.places.now c.loop-at.at)) same
    (subst (Within h.spot.bits) (sym (get_or_from_slice_get c.args.places.now c.loop-at.at h.cell 0 h.of_cell))
    (λ j k e.
    subst (λ w. k < w) (sym (c.loop-at.invariant.adds.keeps.widths (slice_index c.args.cells.now h.cell) h.bits.node))
    (h.bits.within j k e)))

pub loop-at-preserved : goal.loop-at-preserved
loop-at-preserved c =
    let old = c.args.net.now in
    let mid = c.loop-at.net in
    let new = c.gather.new.net in
    let cells = c.args.cells.now in
    let h = bits_at old cells c.args.spots.now c.args.places.now c.requires c.loop-at.at c.loop-at-test.true in
    let x : Spot = c.index-spots-at.result in
    let at = slice_get_read c.args.spots.now (length c.args.spots.now) c.loop-at.at x refl c.loop-at-test.true
    c.index-spots-at.is in
    let same : c.as_slice.result.now ≡ h.spot.bits =
    c.as_slice.ensures
    ∙ ap (λ (s : Spot). s.bits) (sym c.index-spots-at.is ∙ same_Some x h.spot (sym at ∙ h.of_spot)) in
    let one = get_or_from_slice_get c.args.places.now c.loop-at.at h.cell 0 h.of_cell in
    let ss = take c.loop-at.at c.args.spots.now in
    let cs = take c.loop-at.at c.args.places.now in
    let n = c.in_ok-node.node in
    let Shown : List ℕ → ℕ → Type 0 = λ bs cell.
    Shows mid new (length bs) (λ g. gathered (value_at mid g (slice_index cells cell)) bs) n in
    let more =
    show_more old new cells ss cs c.loop-at.nodes h.spot h.cell n
    (show_on old mid new cells ss cs c.loop-at.nodes c.in_ok-node.ensures.adds c.loop-at.invariant.shows)
    (seen_before old mid new cells h.spot h.cell n c.loop-at.invariant.adds h.bits
    (subst (Shown h.spot.bits) one (subst (λ (bs : List ℕ). Shown bs (slice_index c.args.places.now c.loop-at.at)) same
    c.in_ok-node.ensures.shows))) in
    let First : List Spot → Type 0 = λ us. ShowBits old new cells us (cs ++ h.cell ∷ []) (c.loop-at.nodes ++ n ∷ []) in
    let Second : List ℕ → Type 0 = λ us.
    ShowBits old new cells (take (c.loop-at.at + 1) c.args.spots.now) us (c.loop-at.nodes ++ n ∷ []) in
    let Third : List ℕ → Type 0 = λ us.
    ShowBits old new cells (take (c.loop-at.at + 1) c.args.spots.now) (take (c.loop-at.at + 1) c.args.places.now) us in
    record {
      adds = adds_on old mid new c.loop-at.invariant.adds c.in_ok-node.ensures.adds;
      shows =
          subst Third (sym c.in_ok-push.ensures.ok)
          (subst Second (sym (take_get c.args.places.now c.loop-at.at h.cell h.of_cell))
          (subst First (sym (take_get c.args.spots.now c.loop-at.at h.spot h.of_spot)) more));
    }

pub returns-clause-shows : goal.returns-clause-shows
returns-clause-shows c =
    let old = c.args.net.now in
    let many = as_many old c.args.cells.now c.args.spots.now c.args.places.now c.requires in
    let past : length c.args.places.now ≤ c.loop-at.at = omega (arith, c.loop-at-test.false, many) in
    let First : List Spot → Type 0 = λ us.
    ShowBits old c.loop-at.net c.args.cells.now us c.args.places.now c.loop-at.nodes in
    let Second : List ℕ → Type 0 = λ us.
    ShowBits old c.loop-at.net c.args.cells.now (take c.loop-at.at c.args.spots.now) us c.loop-at.nodes in
    subst First (take_all c.loop-at.at c.args.spots.now c.loop-at-test.false)
    (subst Second (take_all c.loop-at.at c.args.places.now past) c.loop-at.invariant.shows)
