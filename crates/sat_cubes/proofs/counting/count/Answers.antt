use Rattle.std.proofs.Common.{◌≡◌, ◌+◌, ◌-◌, ◌<◌, ◌^◌, pos, get_or, length, ap, ◌∙◌, arith}
use Rattle.std.specs.Prelude.{unsigned_abs}
use Rattle.std.proofs.lemmas.List.{get_or_read}
use Rattle.sat_trail.proofs.Codes.{lit_kept}
use Rattle.sat_cubes.proofs.Steps.{count_set, literal_read, read_at}
use Rattle.sat_cubes.proofs.counting.count.Goals as goal

pub loop-lit-preserved : goal.loop-lit-preserved
loop-lit-preserved c =
    let clause = c.args.clause.now in
    let i = c.loop-lit.lit-index in
    let lit = get_or clause i (pos 0) in
    let is = literal_read (length c.args.counts.now.items) clause i c.requires c.loop-lit-test.true in
    let few : length c.args.counts.now.items < 2 ^ 63 = omega arith in
    let n : c.unsigned_abs.result ≡ unsigned_abs lit =
    c.unsigned_abs.ensures.value ∙ ap unsigned_abs (lit_kept lit (is.0, omega (arith, is.1, few))) in
    let long = c.loop-lit.invariant.0 in
    let many : c.in-Some.many ≡ get_or c.loop-lit.counts.items (c.unsigned_abs.result - 1) 0 + 1 =
    c.in-Some.ensures.1 ∙ ap (λ k. k + 1) (get_or_read c.loop-lit.counts.items (c.unsigned_abs.result - 1)
    c.index.result.now (omega (arith, n, is.0, is.1, long)) c.index.ensures 0) in
    count_set c.loop-lit.counts.items c.args.counts.now.items clause i lit c.unsigned_abs.result c.in-Some.many
    c.loop-lit-test.true (read_at clause i c.loop-lit-test.true) n (omega (arith, n, is.0)) (omega (arith, n, is.1))
    long c.loop-lit.invariant.1 many
