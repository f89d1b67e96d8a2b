use Rattle.std.proofs.Common.{◌≡◌, ◌+◌, ◌-◌, ◌<◌, arith, drop, length, subst, take}
use Rattle.vl_flow_spec.specs.Refusals.{in_order}
use Rattle.vl_flow_check.specs.Earliest.{listed}
use Rattle.vl_flow_check.specs.Shares.{places_at}
use Rattle.vl_flow_check.proofs.Orders.{none_behind, one_before}
use Rattle.vl_flow_check.proofs.earliest.earliest_of.Goals as goal

pub back-init : goal.back-init
back-init c = record {
  within = omega arith;
  found = none_behind c.args.shares.now (length c.args.shares.now) c.args.cell c.args.bit (omega arith);
}

pub back-preserved : goal.back-preserved
back-preserved c =
    let shares = c.args.shares.now in
    let rest = c.back.rest - 1 in
    let less : rest < length shares = omega (arith, c.back-test.true, c.back.invariant.within) in
    let next : c.back.rest ≡ rest + 1 = omega (arith, c.back-test.true) in
    let s = c.index-shares-rest.result in record {
      within = omega (arith, c.back.invariant.within);
      found = one_before shares rest c.args.cell c.args.bit s (listed c.with_share-found.result) less
          c.index-shares-rest.is
          (c.with_share-found.ensures (drop (rest + 1) shares)
          (subst (λ k. listed c.back.found ≡ take 2 (in_order (places_at (drop k shares) c.args.cell c.args.bit))) next
          c.back.invariant.found));
    }

pub returns : goal.returns
returns c =
    let zero_it : c.back.rest ≡ 0 = omega (arith, c.back-test.false) in
    subst (λ k. listed c.back.found ≡ take 2 (in_order (places_at (drop k c.args.shares.now) c.args.cell c.args.bit)))
    zero_it c.back.invariant.found
