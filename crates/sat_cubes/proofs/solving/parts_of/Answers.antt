use Rattle.std.proofs.Common.{◌≡◌, ◌+◌, ◌≤◌, length, ap, ◌∙◌, length-append, arith}
use Rattle.sat_cubes.specs.Parts.{IsPart}
use Rattle.sat_cubes.proofs.Ends.{answers_more, answers_all}
use Rattle.sat_cubes.proofs.solving.parts_of.Goals as goal

pub batches-preserved : goal.batches-preserved
batches-preserved g c =
    let job = c.args.job.now in
    let xs = c.batches.parts.items in
    let ys = c.in_ok-batch.batch.items in
    let all = c.append.new.parts.items in
    let is = c.in_ok-append.ensures in
    let first : c.len-in-batches-2.result ≡ length xs = omega (arith, c.len-in-batches-2.ensures) in
    let long : length all ≡ length xs + length ys = ap length is ∙ length-append xs ys in
    let whole = c.in_ok-batch.ensures.whole in (
      omega (arith, long, whole, c.min-many.ensures, c.len-in-batches.ensures, c.batches-test.true, c.batches.invariant.0),
      answers_more (IsPart job.formula.now job.split.now job.share) xs ys all c.len-in-batches-2.result
          c.min-many.result c.batches.invariant.1 c.in_ok-batch.ensures first is,
    )

pub returns : goal.returns
returns g c =
    let job = c.args.job.now in
    answers_all (IsPart job.formula.now job.split.now job.share) c.batches.parts.items c.args.count
    c.batches.invariant.1 (omega (arith, c.batches.invariant.0, c.batches-test.false, c.len.ensures))
