use Rattle.std.proofs.Common.{◌≡◌, ◌+◌, suc, arith, [], pos, get_or, take, ap, sym, ◌∙◌}
use Rattle.std.specs.Ordering.{int_cmp}
use Rattle.std.specs.BTreeSet.{insert_key}
use Rattle.std.proofs.Math.Seq.{take-suc}
use Rattle.sat_trail.specs.Sorted.{sorted}
use Rattle.sat_trail.proofs.Same.{into_more, kept_at}
use Rattle.sat_trail.proofs.set.set_of.Goals as goal

pub loop-lit-preserved : goal.loop-lit-preserved
loop-lit-preserved c =
    let i = c.loop-lit.lit-index in
    let lits = c.args.lits.now in
    let l = get_or lits i (pos 0) in
    let e : i + 1 ≡ suc i = omega arith in
    c.in_ok-insert.ensures.keys
    ∙ ap (insert_key int_cmp c.loop-lit.set.keys) (kept_at lits i c.requires c.loop-lit-test.true)
    ∙ ap (λ z. insert_key int_cmp z l) c.loop-lit.invariant
    ∙ sym (into_more [] (take i lits) l)
    ∙ sym (ap (λ n. sorted (take n lits)) e ∙ ap sorted (take-suc lits i (pos 0) c.loop-lit-test.true))
