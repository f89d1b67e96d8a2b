use Rattle.std.proofs.Common.{◌≡◌, ◌∙◌, ◌<◌, ap, arith, length, refl, slice_get, sym, Some}
use Rattle.std.proofs.lemmas.Option.{slice_get_read}
use Rattle.vl_mean.specs.FlatLaw.{IsDriver}
use Rattle.vl_flow_cells.proofs.Lists.{all_at}
use Rattle.vl_flow_check.proofs.Drivers.{all_bits, bits_more, no_bits}
use Rattle.vl_flow_check.proofs.vectors.bit_shares.Goals as goal

pub loop-at-init : goal.loop-at-init
loop-at-init c =
    no_bits c.args.decls.now c.args.drivers.now c.new-shares.result.items c.new-shares.ensures.items

pub loop-at-preserved : goal.loop-at-preserved
loop-at-preserved c =
    let ds = c.args.decls.now in
    let drivers = c.args.drivers.now in
    let at = c.loop-at.at in
    let fs = c.as_slice-footprints.result.now in
    let w = c.requires.layout in
    let size : length fs ≡ length drivers = ap length c.as_slice-footprints.ensures ∙ w.footprints.size in
    let less : at < length fs = omega (arith, size, c.loop-at-test.true) in
    let x = c.index-drivers-at.result in
    let f = c.index-footprints-at.result in
    let driver : slice_get drivers at ≡ Some x =
    slice_get_read drivers (length drivers) at x refl c.loop-at-test.true c.index-drivers-at.is in
    let set : slice_get c.args.layout.now.footprints at ≡ Some f =
    ap (λ xs. slice_get xs at) (sym c.as_slice-footprints.ensures)
    ∙ slice_get_read fs (length fs) at f refl less c.index-footprints-at.is in
    bits_more ds drivers at x c.loop-at.shares.items c.driver_shares.new.into.items driver c.loop-at.invariant
    (c.in_ok-driver_shares.ensures (all_at (λ y. IsDriver ds y.what) drivers at x driver c.requires.driven)
    (w.footprints.each at f x set driver))

pub returns : goal.returns
returns c =
    all_bits c.args.decls.now c.args.drivers.now c.loop-at.shares.items c.loop-at.at
    (omega (arith, c.loop-at-test.false)) c.loop-at.invariant

pub bounds-footprints-at : goal.bounds-footprints-at
bounds-footprints-at c =
    let size : length c.as_slice-footprints.result.now ≡ length c.args.drivers.now =
    ap length c.as_slice-footprints.ensures ∙ c.requires.layout.footprints.size in
    omega (arith, size, c.loop-at-test.true)
