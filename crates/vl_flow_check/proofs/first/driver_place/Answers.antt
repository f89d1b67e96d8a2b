use Rattle.std.proofs.Common.{◌≡◌, ◌+◌, ◌-◌, ◌<◌, ◌∙◌, arith, ap, sym, subst, refl, length, drop, slice_get, Some}
use Rattle.std.proofs.lemmas.Option.{slice_get_read}
use Rattle.vl_flow_spec.specs.Refusals.{place_of}
use Rattle.vl_flow_check.proofs.Firsts.{none_behind, one_before}
use Rattle.vl_flow_check.proofs.first.driver_place.Goals as goal

pub back-init : goal.back-init
back-init c = record {
  within = omega arith;
  found = λ ds d w at. none_behind c.args.drivers.now d (length c.args.drivers.now) (omega arith);
}

pub back-preserved : goal.back-preserved
back-preserved c =
    let drivers = c.args.drivers.now in
    let all = c.as_slice-assigned.result.now in
    let rest = c.back.rest - 1 in
    let size : length all ≡ length drivers = ap length c.as_slice-assigned.ensures ∙ c.requires in
    let less : rest < length drivers = omega (arith, c.back-test.true, c.back.invariant.within) in
    let next : c.back.rest ≡ rest + 1 = omega (arith, c.back-test.true) in
    let x = c.index-drivers-rest.result in
    let a = c.index-assigned-rest.result in
    let driver : slice_get drivers rest ≡ Some x =
    slice_get_read drivers (length drivers) rest x refl less c.index-drivers-rest.is in
    let theirs : slice_get c.args.layout.now.assigned rest ≡ Some a =
    ap (λ xs. slice_get xs rest) (sym c.as_slice-assigned.ensures)
    ∙ slice_get_read all (length all) rest a refl (omega (arith, less, size)) c.index-assigned-rest.is in record {
      within = omega (arith, c.back.invariant.within);
      found = λ ds d w at.
          one_before drivers d rest x c.place_if-one.result c.back.found c.earlier_place-found.result driver
          (c.place_if-one.ensures ds d (w.assigned.each rest a x theirs driver) at)
          (subst (λ k. c.back.found ≡ place_of (drop k drivers) d) next (c.back.invariant.found ds d w at))
          c.earlier_place-found.ensures;
    }

pub returns : goal.returns
returns c ds d w at =
    let zero : c.back.rest ≡ 0 = omega (arith, c.back-test.false) in
    subst (λ k. c.back.found ≡ place_of (drop k c.args.drivers.now) d) zero (c.back.invariant.found ds d w at)

pub bounds-assigned-rest : goal.bounds-assigned-rest
bounds-assigned-rest c =
    let size : length c.as_slice-assigned.result.now ≡ length c.args.drivers.now =
    ap length c.as_slice-assigned.ensures ∙ c.requires in
    omega (arith, size, c.back-test.true, c.back.invariant.within)
