use Rattle.std.specs.Prelude.{◌≡◌, ◌+◌, ◌<◌, ◌^◌, ℕ, suc, List, map}
use Rattle.std.specs.List.{AllByRecursion}
use Rattle.std.proofs.Common.{sym, ◌∙◌, arith, subst}
use Rattle.wn_net.specs.Net.{Netlist, AreNodes, IsNode}
use Rattle.bm_induct.specs.declared.how.Rebuild.TheVariants.{Waived}
use Rattle.bm_induct.specs.Rebuilt.{moved_id, offset}
use Rattle.bm_induct.specs.Past.{SaysRun, fails_first, in_some}
use Rattle.bm_induct.proofs.Ends.{has_base}
use Rattle.bm_induct.proofs.Halves.{all_chosen, all_widths}
use Rattle.bm_induct.proofs.Within.{all_below, base_sources, is_within, no_watch, node_anew, nodes_anew, regs_many}
use Rattle.bm_induct.proofs.start.base.Goals as goal

-- what is handed to `has_failed`
moved_are : (net : Netlist) (more : ℕ) (xs ids made slice : List ℕ) → more ≡ offset net → xs ≡ ids
    → made ≡ map (λ id. id + more) xs → slice ≡ made → slice ≡ map (moved_id net) ids
moved_are net more xs ids made slice e is all read =
    read ∙ all ∙ (λ j. map (λ id. id + e j) (is j))

pub moved_ids-requires-clause-ids : goal.moved_ids-requires-clause-ids
moved_ids-requires-clause-ids c =
    let P : List ℕ → Type 0 = λ xs. AllByRecursion (λ id. id < 2 ^ 63) xs in
    subst P (sym c.assumes.ensures.value)
    (all_below c.args.net.now c.args.net.now.assumes c.in_ok-made.ensures.few c.nodes.ensures.whole.assumes)

pub overflow_add-higher : goal.overflow_add-higher
overflow_add-higher c = omega (arith, c.requires.bad, c.in_ok-made.ensures.few, c.offset_of-more.ensures.few)

pub has_failed-requires-clause-assumes : goal.has_failed-requires-clause-assumes
has_failed-requires-clause-assumes c =
    let net = c.args.net.now in
    let made = c.in_ok-made.made in
    let P : List ℕ → Type 0 = λ xs. AreNodes made xs in
    subst P (sym (moved_are net c.offset_of-more.result c.assumes.result.now net.assumes c.in_ok-ids.ids.items
    c.as_slice.result.now c.offset_of-more.ensures.value c.assumes.ensures.value c.in_ok-ids.ensures
    c.as_slice.ensures.value))
    (nodes_anew Waived net made net.assumes c.in_ok-made.ensures.anew c.nodes.ensures.whole.assumes)

pub has_failed-requires-clause-bad : goal.has_failed-requires-clause-bad
has_failed-requires-clause-bad c =
    let net = c.args.net.now in
    let made = c.in_ok-made.made in
    let P : ℕ → Type 0 = λ more. IsNode made (c.args.bad + more) in
    subst P (sym c.offset_of-more.ensures.value)
    (node_anew Waived net made c.args.bad c.in_ok-made.ensures.anew c.requires.bad)

pub has_failed-requires-clause-room : goal.has_failed-requires-clause-room
has_failed-requires-clause-room c =
    let many = regs_many Waived c.args.net.now c.in_ok-made.made c.in_ok-made.ensures.anew in
    let within = c.requires.within.1 in
    omega (arith, many, within)

-- what `has_failed` promises, by the numbers of the net itself
said : (net made last : Netlist) (bad more failed : ℕ) (xs : List ℕ) → more ≡ offset net
    → xs ≡ map (moved_id net) net.assumes
    → SaysRun 3 (λ v k. in_some (fails_first xs (bad + more) v) (suc k)) made last failed
    → SaysRun 3 (λ v k. in_some (fails_first (map (moved_id net) net.assumes) (moved_id net bad) v) (suc k)) made last
    failed
said net made last bad more failed xs e is says =
    let P : List ℕ → Type 0 = λ ys. SaysRun 3 (λ v k. in_some (fails_first ys (moved_id net bad) v) (suc k)) made last
    failed in
    let Q : ℕ → Type 0 = λ m. SaysRun 3 (λ v k. in_some (fails_first xs (bad + m) v) (suc k)) made last failed in
    subst P is (subst Q e says)

pub unroll-requires-clause-bad : goal.unroll-requires-clause-bad
unroll-requires-clause-bad c = c.in_ok-failed.ensures.node.0

pub unroll-requires-clause-within : goal.unroll-requires-clause-within
unroll-requires-clause-within c =
    is_within Waived 3 c.args.net.now c.in_ok-made.made c.has_failed.new.net c.requires.within
    c.in_ok-made.ensures.anew c.in_ok-failed.ensures.known

pub returns-clause-roots : goal.returns-clause-roots
returns-clause-roots c =
    let net = c.args.net.now in
    let made = c.in_ok-made.made in
    let last = c.has_failed.new.net in
    has_base net made last c.args.bad c.args.k c.in_ok-failed.failed c.nodes.ensures.whole c.nodes-2.ensures.whole
    c.nodes-3.ensures.whole c.requires.bad c.in_ok-made.ensures.anew
    (said net made last c.args.bad c.offset_of-more.result c.in_ok-failed.failed c.as_slice.result.now
    c.offset_of-more.ensures.value
    (moved_are net c.offset_of-more.result c.assumes.result.now net.assumes c.in_ok-ids.ids.items
    c.as_slice.result.now c.offset_of-more.ensures.value c.assumes.ensures.value c.in_ok-ids.ensures
    c.as_slice.ensures.value)
    c.in_ok-failed.ensures)
    c.in_ok-frames.frames c.in_ok-frames.ensures.sources c.in_ok-frames.ensures.roots

pub returns-clause-watch : goal.returns-clause-watch
returns-clause-watch c = no_watch c.has_failed.new.net c.args.k c.in_ok-frames.frames c.in_ok-frames.ensures.watch

pub returns-clause-sources : goal.returns-clause-sources
returns-clause-sources c =
    base_sources c.args.net.now c.in_ok-made.made c.has_failed.new.net 3 c.args.k c.in_ok-frames.frames.sources
    c.in_ok-made.ensures.anew c.in_ok-failed.ensures.known c.in_ok-frames.ensures.sources

pub returns-clause-widths : goal.returns-clause-widths
returns-clause-widths c =
    c.in_ok-frames.ensures.widths
    ∙ all_widths Waived c.args.net.now c.in_ok-made.made c.has_failed.new.net 3 c.args.k
    c.in_ok-made.ensures.anew c.in_ok-failed.ensures.known c.in_ok-frames.frames.sources
    c.in_ok-frames.ensures.sources

pub returns-clause-chosen : goal.returns-clause-chosen
returns-clause-chosen c =
    all_chosen Waived c.args.net.now c.in_ok-made.made c.has_failed.new.net 3 c.args.k
    c.in_ok-made.ensures.anew c.in_ok-failed.ensures.known c.in_ok-frames.frames.widths c.in_ok-frames.frames.sources
    c.in_ok-frames.ensures.sources c.in_ok-frames.ensures.chosen
