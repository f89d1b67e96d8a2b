use Rattle.std.specs.Prelude.{◌≡◌, ℕ, ◌<◌, ◌^◌, List, ◌++◌, length}
use Rattle.std.proofs.Common.{ap, sym, ◌∙◌, subst}
use Rattle.vl_mean.specs.declared.driver.Driver.{Driver}
use Rattle.vl_mean.specs.FlatParts.{flat_parts}
use Rattle.wn_net.specs.declared.names.Spot.{Spot}
use Rattle.wn_net.specs.Net.{AreNodes}
use Rattle.wn_net.proofs.Laws.{keeps_on}
use Rattle.vl_lower_assign.specs.declared.track.Track.{Track}
use Rattle.vl_lower_assign.specs.Tracks.{AreTracks}
use Rattle.vl_lower_spec.specs.Sources.{AreEach}
use Rattle.vl_lower_cell_laws.specs.Cycles.{SettlesAll, TicksAll}
use Rattle.vl_lower_state.specs.Nexts.{AreBitsOfCells, ShowBits}
use Rattle.vl_lower_state.specs.Stores.{MayStore}
use Rattle.vl_lower.specs.Closing.{Closes, over}
use Rattle.vl_lower.specs.Listed.{entries_by}
use Rattle.vl_lower.proofs.Before.{bits, few, nexts, nodes_kept, stored, widths_many}
use Rattle.vl_lower.proofs.Joined.{both}
use Rattle.vl_lower.proofs.whole.lower_sources.Goals as goal

pub close_cells-requires-clause-bits : goal.close_cells-requires-clause-bits
close_cells-requires-clause-bits c =
    let f = c.args.ordered.now.flat in
    let tn = c.tick_cells.new.net in
    let First : List ℕ → Type 0 = λ cells. AreBitsOfCells tn cells c.as_slice-3.result.now c.as_slice-4.result.now in
    let next = c.in_ok-ticked.ticked.frame.next.items in
    let Second : List Spot → Type 0 = λ spots. AreBitsOfCells tn next spots c.as_slice-4.result.now in
    let Third : List ℕ → Type 0 = λ places. AreBitsOfCells tn next c.args.sources.regs places in
    subst First (sym c.as_slice-next.ensures.value)
    (subst Second (sym c.as_slice-3.ensures) (subst Third (sym c.as_slice-4.ensures)
    (bits f.decls (flat_parts f) c.args.keeps.now c.args.sources c.settle_cells.new.net tn next
    c.requires.places.shaped c.requires.kept c.requires.declared c.in_ok-settled.ensures.1.adds
    c.in_ok-ticked.ensures.adds c.in_ok-ticked.ensures.frame.next)))

pub close_cells-requires-clause-nexts : goal.close_cells-requires-clause-nexts
close_cells-requires-clause-nexts c mid nodes shows =
    let f = c.args.ordered.now.flat in
    let tn = c.tick_cells.new.net in
    let next = c.in_ok-ticked.ticked.frame.next.items in
    let First : List ℕ → Type 0 = λ cells.
    ShowBits tn mid cells c.as_slice-3.result.now c.as_slice-4.result.now nodes in
    let Second : List Spot → Type 0 = λ spots. ShowBits tn mid next spots c.as_slice-4.result.now nodes in
    let Third : List ℕ → Type 0 = λ places. ShowBits tn mid next c.args.sources.regs places nodes in
    nexts f.decls (flat_parts f) c.args.keeps.now c.args.sources c.settle_cells.new.net tn next
    c.requires.places.shaped c.requires.kept c.requires.declared c.in_ok-settled.ensures.1.adds
    c.in_ok-ticked.ensures.adds c.in_ok-ticked.ensures.frame.next mid nodes
    (subst Third c.as_slice-4.ensures (subst Second c.as_slice-3.ensures (subst First c.as_slice-next.ensures.value
    shows)))

pub close_cells-requires-clause-tracks : goal.close_cells-requires-clause-tracks
close_cells-requires-clause-tracks c =
    let tn = c.tick_cells.new.net in
    let t = c.in_ok-ticked.ticked in
    subst (λ cells. AreTracks tn cells c.as_slice-tracks.result.now) (sym c.as_slice-next.ensures.value)
    (subst (λ ts. AreTracks tn t.frame.next.items ts) (sym c.as_slice-tracks.ensures.value)
    c.in_ok-ticked.ensures.frame.tracks)

pub close_cells-requires-clause-stored : goal.close_cells-requires-clause-stored
close_cells-requires-clause-stored c =
    let f = c.args.ordered.now.flat in
    let tn = c.tick_cells.new.net in
    let next = c.in_ok-ticked.ticked.frame.next.items in
    let First : List ℕ → Type 0 = λ cells. AreEach (MayStore tn cells) tn.mems c.as_slice-5.result.now in
    let Second : List ℕ → Type 0 = λ firsts. AreEach (MayStore tn next) tn.mems firsts in
    subst First (sym c.as_slice-next.ensures.value)
    (subst Second (sym c.as_slice-5.ensures)
    (stored f.decls (flat_parts f) c.args.keeps.now c.args.sources c.settle_cells.new.net tn next
    c.requires.places.shaped c.requires.kept c.requires.declared c.in_ok-settled.ensures.1.adds
    c.in_ok-ticked.ensures.adds c.in_ok-ticked.ensures.frame.next))

pub assume_all-requires : goal.assume_all-requires
assume_all-requires c =
    let sn = c.settle_cells.new.net in
    let tn = c.tick_cells.new.net in
    let cn = c.close_cells.new.net in
    let closes = c.in_ok-close_cells.ensures in
    subst (λ ids. AreNodes cn ids) (sym c.as_slice-6.ensures)
    (nodes_kept sn cn
    (keeps_on sn tn cn c.in_ok-ticked.ensures.adds.keeps
    (keeps_on tn closes.mid cn closes.adds.keeps closes.keeps)) c.in_ok-settled.settled.assumed
    c.in_ok-settled.ensures.1.there)

pub assume_all-requires-2 : goal.assume_all-requires-2
assume_all-requires-2 c =
    let tn = c.tick_cells.new.net in
    let cn = c.close_cells.new.net in
    let mn = c.assume_all.new.net in
    let closes = c.in_ok-close_cells.ensures in
    subst (λ ids. AreNodes mn ids) (sym c.as_slice-7.ensures)
    (nodes_kept tn mn
    (keeps_on tn cn mn (keeps_on tn closes.mid cn closes.adds.keeps closes.keeps) c.assume_all.ensures.keeps)
    c.in_ok-ticked.ticked.assumed c.in_ok-ticked.ensures.there)

pub entries_of-requires-clause-cells : goal.entries_of-requires-clause-cells
entries_of-requires-clause-cells c =
    ap (λ (ids : List ℕ). length ids) c.as_slice-8.ensures.value ∙ c.in_ok-settled.ensures.1.frame.now.each
    ∙ widths_many c.args.ordered.now.flat.decls

pub entries_of-requires-clause-few : goal.entries_of-requires-clause-few
entries_of-requires-clause-few c =
    let f = c.args.ordered.now.flat in
    subst (λ (ids : List ℕ). length ids < 2 ^ 32) (sym c.as_slice-9.ensures)
    (few f.decls (flat_parts f) c.args.keeps.now c.args.sources c.settle_cells.new.net c.tick_cells.new.net
    c.in_ok-ticked.ticked.frame.next.items c.requires.places.shaped c.requires.kept c.requires.declared
    c.in_ok-settled.ensures.1.adds c.in_ok-ticked.ensures.adds c.in_ok-ticked.ensures.frame.next)

pub returns : goal.returns
returns c =
    let f = c.args.ordered.now.flat in
    let x = c.args.sources in
    let sn = c.settle_cells.new.net in
    let tn = c.tick_cells.new.net in
    let cn = c.close_cells.new.net in
    let mn = c.assume_all.new.net in
    let net = c.assume_all-2.new.net in
    let s = c.in_ok-settled.settled in
    let t = c.in_ok-ticked.ticked in
    let place = c.requires.places in
    let first_tracks = c.in_ok-settled.ensures.0 in
    let S : List ℕ → List Driver → List ℕ → Type 0 = λ cells drivers numbers.
    SettlesAll f.decls x.net sn (over cells cells first_tracks)
    (over s.frame.now.items s.frame.next.items s.frame.tracks.items) s.assumed drivers numbers
    in
    let settles : S x.cells f.drivers c.args.ordered.now.sequence =
    subst (λ numbers. S x.cells f.drivers numbers) c.as_slice-2.ensures
    (subst (λ drivers. S x.cells drivers c.as_slice-2.result.now) c.as_slice-drivers.ensures
    (subst (λ cells. S cells c.as_slice-drivers.result.now c.as_slice-2.result.now) c.as_slice.ensures
    c.in_ok-settled.ensures.1)) in
    let T : List Driver → Type 0 = λ drivers.
    TicksAll f.decls sn tn (over s.frame.now.items s.frame.next.items s.frame.tracks.items)
    (over t.frame.now.items t.frame.next.items t.frame.tracks.items) t.assumed drivers in
    let ticks : T f.drivers = subst T c.as_slice-drivers.ensures c.in_ok-ticked.ensures in
    let C : List ℕ → List Track → List Spot → List ℕ → List ℕ → Type 0 = λ cells tracks spots places firsts.
    Closes tn cn cells tracks spots places firsts in
    let next = t.frame.next.items in
    let tracks = t.frame.tracks.items in
    let closes : C next tracks x.regs x.register_cells x.memory_cells =
    subst (λ firsts. C next tracks x.regs x.register_cells firsts) c.as_slice-5.ensures
    (subst (λ places. C next tracks x.regs places c.as_slice-5.result.now) c.as_slice-4.ensures
    (subst (λ spots. C next tracks spots c.as_slice-4.result.now c.as_slice-5.result.now) c.as_slice-3.ensures
    (subst (λ ts. C next ts c.as_slice-3.result.now c.as_slice-4.result.now c.as_slice-5.result.now)
    c.as_slice-tracks.ensures.value
    (subst (λ cells. C cells c.as_slice-tracks.result.now c.as_slice-3.result.now c.as_slice-4.result.now
    c.as_slice-5.result.now) c.as_slice-next.ensures.value c.in_ok-close_cells.ensures)))) in
    let first = c.in_ok-assume_all.ensures.new
    ∙ ap (λ (ids : List ℕ). record cn { assumes = cn.assumes ++ ids }) c.as_slice-6.ensures in
    let last = c.in_ok-assume_all-2.ensures.new
    ∙ ap (λ (ids : List ℕ). record mn { assumes = mn.assumes ++ ids }) c.as_slice-7.ensures in
    let listed : c.in_ok-list.list ≡ entries_by x.memory_cells f.decls s.frame.now.items 0 0 =
    c.in_ok-list.ensures
    ∙ ap (λ (ids : List ℕ). entries_by ids f.decls c.as_slice-8.result.now 0 0) c.as_slice-9.ensures
    ∙ ap (λ (ids : List ℕ). entries_by x.memory_cells f.decls ids 0 0) c.as_slice-8.ensures.value in
    both f.decls f.drivers f.starts c.args.ordered.now.sequence c.args.keeps.now x sn tn cn mn net c.in_ok-list.list
    s.frame.now.items s.frame.next.items t.frame.now.items next s.assumed t.assumed first_tracks s.frame.tracks.items
    tracks place.shaped place.different
    place.apart f.lawful c.args.ordered.now.accepted c.args.ordered.now.in_order c.requires.kept c.requires.declared settles
    ticks c.regs-whole.ensures.whole closes first c.assume_all.ensures.keeps last c.assume_all-2.ensures.keeps
    c.regs-end.ensures.whole listed
