use Rattle.std.proofs.Common.{rules, ◌≡◌, ◌<◌, ◌^◌, Some, subst, sym, bit_and}
use Rattle.fv_bit_sets.proofs.Turning.{ahead, nearer, IsFrom, from_on, AreApartTo, apart_on, both_found, none_both}
use Rattle.fv_bit_sets.proofs.merge.meet_in.Goals as goal

pub returns-then-left-right-ne0-clause-some : goal.returns-then-left-right-ne0-clause-some
returns-then-left-right-ne0-clause-some c =
    let here : c.loop-next.next ≡ Some c.in-Some.cell = search (rules, c.in-Some.is) in
    let few : c.run_at-left.result.mask < 2 ^ 128 = search rules in
    let found = both_found c.args.first.now c.args.second.now c.in-Some.cell c.run_at-left.result
    c.run_at-right.result c.run_at-left.ensures c.run_at-right.ensures c.if-left-right-ne0.true few in
    λ e. (
      c.in-Some.cell,
      found.0,
      subst (IsFrom c.args.from) here c.loop-next.invariant.from,
      c.if-past-cell.false,
      found.1,
      found.2,
    )

pub loop-next-smaller : goal.loop-next-smaller
loop-next-smaller c =
    let here : c.loop-next.next ≡ Some c.in-Some.cell = search (rules, c.in-Some.is) in
    let few : c.in-Some.cell < 2 ^ 64 = search rules in
    subst (λ n. ahead c.earlier-next.result < ahead n) (sym here)
    (nearer c.in-Some.cell c.earlier-next.result few
    (c.earlier-next.ensures.one c.in-Some.cell c.run_at-left.ensures.inside c.run_at-right.ensures.inside))

pub loop-next-preserved : goal.loop-next-preserved
loop-next-preserved c =
    let here : c.loop-next.next ≡ Some c.in-Some.cell = search (rules, c.in-Some.is) in
    let before = c.earlier-next.ensures.one c.in-Some.cell c.run_at-left.ensures.inside
    c.run_at-right.ensures.inside in
    let none : bit_and c.run_at-left.result.mask c.run_at-right.result.mask ≡ 0 = search rules in record {
      from = from_on c.args.from c.in-Some.cell c.earlier-next.result
          (subst (IsFrom c.args.from) here c.loop-next.invariant.from) before;
      apart = apart_on c.args.first.now c.args.second.now c.args.from c.in-Some.cell c.run_at-left.result
          c.run_at-right.result c.earlier-next.result
          (subst (AreApartTo c.args.first.now c.args.second.now c.args.from) here c.loop-next.invariant.apart)
          c.run_at-left.ensures c.run_at-right.ensures
          (none_both c.run_at-left.result.mask c.run_at-right.result.mask none)
          c.earlier-next.ensures.inside;
    }
