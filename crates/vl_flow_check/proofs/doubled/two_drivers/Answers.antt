use Rattle.std.proofs.Common.{◌<◌, ◌∙◌, arith, length, sym}
use Rattle.vl_flow_cells.proofs.Lists.{get_some}
use Rattle.vl_flow_check.proofs.Lowest.{first_doubled, none_doubled, one_more}
use Rattle.vl_flow_check.proofs.doubled.two_drivers.Goals as goal

pub loop-place-init : goal.loop-place-init
loop-place-init c k d less at = absurd (omega (arith, less))

pub loop-place-preserved : goal.loop-place-preserved
loop-place-preserved c =
    let ds = c.args.decls.now in
    let drivers = c.args.drivers.now in
    one_more ds drivers c.loop-place.place c.in_ok-found.found c.loop-place.invariant
    (λ d at. c.in_ok-found.ensures drivers d c.in_ok-vectors.ensures c.in_ok-names.ensures at)
    (sym c.is_some.ensures ∙ c.if-is_some.false)

pub returns-then-is_some : goal.returns-then-is_some
returns-then-is_some c =
    let ds = c.args.decls.now in
    let drivers = c.args.drivers.now in
    let place = c.loop-place.place in
    let less : place < length ds = omega (arith, c.loop-place-test.true) in
    let r = get_some ds place less in
    first_doubled ds drivers place r.0 c.in_ok-found.found r.1 c.loop-place.invariant
    (c.in_ok-found.ensures drivers r.0 c.in_ok-vectors.ensures c.in_ok-names.ensures r.1)
    (sym c.is_some.ensures ∙ c.if-is_some.true)

pub returns : goal.returns
returns c =
    none_doubled c.args.decls.now c.args.drivers.now c.loop-place.place (omega (arith, c.loop-place-test.false))
    c.loop-place.invariant

pub doubled_at-requires-clause-groups : goal.doubled_at-requires-clause-groups
doubled_at-requires-clause-groups c = c.requires.layout.footprints.groups_are
