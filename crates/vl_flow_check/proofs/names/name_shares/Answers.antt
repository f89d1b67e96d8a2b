use Rattle.std.proofs.Common.{◌≡◌, ◌∙◌, ◌<◌, ap, arith, get_or, length, refl, slice_get, subst, sym, Some}
use Rattle.std.proofs.lemmas.Option.{slice_get_read}
use Rattle.vl_mean.specs.FlatLaw.{IsDriver}
use Rattle.vl_flow_cells.proofs.Lists.{all_at}
use Rattle.vl_flow_order.specs.Named.{AreNamesOf}
use Rattle.vl_flow_check.proofs.Drivers.{all_names, names_more, no_names}
use Rattle.vl_flow_check.proofs.Marked.{driver_marked}
use Rattle.vl_flow_check.proofs.names.name_shares.Goals as goal

pub loop-at-init : goal.loop-at-init
loop-at-init c =
    no_names c.args.decls.now c.args.drivers.now c.new-shares.result.items c.new-shares.ensures.items

pub loop-at-preserved : goal.loop-at-preserved
loop-at-preserved c =
    let ds = c.args.decls.now in
    let drivers = c.args.drivers.now in
    let at = c.loop-at.at in
    let fs = c.as_slice-footprints.result.now in
    let w = c.requires.layout in
    let size : length fs ≡ length drivers = ap length c.as_slice-footprints.ensures ∙ w.footprints.size in
    let less : at < length fs = omega (arith, size, c.loop-at-test.true) in
    let x = c.index-drivers-at.result in
    let f = c.index-footprints-at.result in
    let driver : slice_get drivers at ≡ Some x =
    slice_get_read drivers (length drivers) at x refl c.loop-at-test.true c.index-drivers-at.is in
    let set : slice_get c.args.layout.now.footprints at ≡ Some f =
    ap (λ xs. slice_get xs at) (sym c.as_slice-footprints.ensures)
    ∙ slice_get_read fs (length fs) at f refl less c.index-footprints-at.is in
    let lawful = all_at (λ y. IsDriver ds y.what) drivers at x driver c.requires.driven in
    let known = c.len-count.ensures in
    let pos = (get_or drivers at x).pos in
    let named : AreNamesOf c.args.layout.now.groups f.drives c.in_ok-bits.bits =
    subst (λ z. AreNamesOf c.args.layout.now.groups z.drives c.in_ok-bits.bits) (sym c.index-footprints-at.is)
    c.in_ok-bits.ensures in
    names_more ds drivers at x c.in_ok-bits.bits pos c.loop-at.shares.items c.push.new.shares.items driver
    (ap (λ y. y.pos) (sym c.index-drivers-at.is))
    (driver_marked ds c.args.layout.now.groups c.args.layout.now.all x.what f.drives c.in_ok-bits.bits known.different
    known.apart w.footprints.groups_are w.all lawful (w.footprints.each at f x set driver).drives named)
    c.loop-at.invariant c.in_ok-push.ensures

pub returns : goal.returns
returns c =
    all_names c.args.decls.now c.args.drivers.now c.loop-at.shares.items c.loop-at.at
    (omega (arith, c.loop-at-test.false)) c.loop-at.invariant

pub bounds-footprints-at : goal.bounds-footprints-at
bounds-footprints-at c =
    let size : length c.as_slice-footprints.result.now ≡ length c.args.drivers.now =
    ap length c.as_slice-footprints.ensures ∙ c.requires.layout.footprints.size in
    omega (arith, size, c.loop-at-test.true)
