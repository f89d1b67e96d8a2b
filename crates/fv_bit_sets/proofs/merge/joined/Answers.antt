use Rattle.std.proofs.Common.{rules, ◌≡◌, ◌<◌, ◌^◌, Some, subst, sym}
use Rattle.fv_bit_sets.proofs.Turning.{ahead, nearer, IsJoinedTo, joined_on, rising_on}
use Rattle.fv_bit_sets.proofs.merge.joined.Goals as goal

pub loop-next-smaller : goal.loop-next-smaller
loop-next-smaller c =
    let here : c.loop-next.next ≡ Some c.in-Some.cell = search (rules, c.in-Some.is) in
    let few : c.in-Some.cell < 2 ^ 64 = search rules in
    subst (λ n. ahead c.past_of-next.result < ahead n) (sym here)
    (nearer c.in-Some.cell c.past_of-next.result few
    (c.past_of-next.ensures.one c.in-Some.cell c.run_at-left.ensures.inside c.run_at-right.ensures.inside))

pub loop-next-preserved : goal.loop-next-preserved
loop-next-preserved c =
    let here : c.loop-next.next ≡ Some c.in-Some.cell = search (rules, c.in-Some.is) in
    let before = c.past_of-next.ensures.one c.in-Some.cell c.run_at-left.ensures.inside
    c.run_at-right.ensures.inside in
    let joined = subst (λ n. IsJoinedTo c.args.how c.args.first.now c.args.second.now n c.loop-next.made.items) here
    c.loop-next.invariant.joined in
    record {
      rising = rising_on c.in-Some.cell c.past_of-next.result c.put.new.steps.items c.in_ok-put.ensures.rising before;
      joined = joined_on c.args.how c.args.first.now c.args.second.now c.loop-next.made.items c.put.new.steps.items
          (record { cell = c.in-Some.cell; mask = c.of-mask.result }) c.run_at-left.result c.run_at-right.result
          c.past_of-next.result joined c.in_ok-put.ensures c.run_at-left.ensures c.run_at-right.ensures
          c.of-mask.ensures c.past_of-next.ensures.same;
    }
