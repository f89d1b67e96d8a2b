use Rattle.std.proofs.Common.{rules, ◌≡◌, ◌<◌, ◌^◌, Some, subst}
use Rattle.fv_bit_sets.proofs.Turning.{IsFrom, has_found}
use Rattle.fv_bit_sets.proofs.merge.first_in.Goals as goal

pub returns-then-run-ne0-clause-found : goal.returns-then-run-ne0-clause-found
returns-then-run-ne0-clause-found c =
    let here : c.loop-next.next ≡ Some c.in-Some.cell = search (rules, c.in-Some.is) in
    let few : c.run_at-run.result.mask < 2 ^ 128 = search rules in (
      subst (IsFrom c.args.from) here c.loop-next.invariant.from,
      has_found c.args.steps.now c.in-Some.cell c.run_at-run.result c.run_at-run.ensures c.if-run-ne0.true few,
    )
