use Rattle.std.proofs.Common.{List, ℤ, pos, [], ◌∷◌, ◌++◌, take, sym, subst}
use Rattle.std.proofs.lemmas.List.{take_more}
use Rattle.sat_learn.specs.Analysis.{FalseLast}
use Rattle.sat_learn.proofs.Placings.{kept_here}
use Rattle.sat_learn.proofs.learning.false_last.Goals as goal

pub loop-lit-preserved : goal.loop-lit-preserved
loop-lit-preserved c =
    let t = c.args.trail.now in
    let clause = c.args.clause.now in
    let i = c.loop-lit.lit-index in
    let last = c.later-last.result in
    let P : List ℤ → Type 0 = λ z. FalseLast t z last in
    let Q : ℤ → Type 0 = λ z. FalseLast t (take i clause ++ z ∷ []) last in
    record {
      lit = c.later-last.ensures.lit;
      last = subst P (sym (take_more clause i (pos 0) c.loop-lit-test.true))
          (subst Q (kept_here clause i c.requires c.loop-lit-test.true)
          (c.later-last.ensures.later (take i clause) c.loop-lit.invariant.last));
    }
