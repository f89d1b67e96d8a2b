use Rattle.std.proofs.Common.{◌≡◌, length, ap, sym, ◌∙◌, arith}
use Rattle.sat_cubes.specs.Splits.{is_split}
use Rattle.sat_cubes.proofs.Ends.{split_all, split_many, next_read, turn_more}
use Rattle.sat_cubes.proofs.Steps.{next_by}
use Rattle.sat_cubes.proofs.splitting.split_of.Goals as goal

pub returns-in-None : goal.returns-in-None
returns-in-None c =
    let f = c.args.formula.now in
    let split = c.loop-turn.split.items in
    let n : length c.as_slice.result.now ≡ f.vars =
    ap length c.as_slice.ensures.value ∙ c.in_ok-counts.ensures.vars in
    split_all f c.args.many split c.loop-turn.invariant.1 (omega (arith, c.loop-turn.invariant.0, c.loop-turn-test.true))
    (λ var s h. ap (λ xs. is_split xs var) (sym c.as_slice-in-loop-turn.ensures.value)
    ∙ c.in-None.ensures var s (omega (arith, h, n)))

pub loop-turn-preserved : goal.loop-turn-preserved
loop-turn-preserved c =
    let f = c.args.formula.now in
    let split = c.loop-turn.split.items in
    let counts = c.in_ok-counts.counts.items in
    turn_more f split c.push.new.self.items c.in-Some.var c.loop-turn._turn c.in_ok-push-in-Some.ensures.items
    c.loop-turn.invariant.0 c.loop-turn.invariant.1
    (next_by f.clauses f.vars counts split c.in-Some.var c.in_ok-counts.ensures.each
    (next_read c.as_slice.result.now counts c.as_slice-in-loop-turn.result.now split f.vars c.in-Some.var
    c.as_slice.ensures.value c.as_slice-in-loop-turn.ensures.value c.in_ok-counts.ensures.vars c.in-Some.ensures))

pub returns : goal.returns
returns c =
    split_many c.args.formula.now c.args.many c.loop-turn.split.items c.loop-turn.invariant.1
    (omega (arith, c.loop-turn.invariant.0, c.loop-turn-test.false))
