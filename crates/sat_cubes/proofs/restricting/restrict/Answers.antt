use Rattle.std.proofs.Common.{◌≡◌, ◌+◌, ◌<◌, ◌++◌, false, true, drop, length, map, ap, sym, ◌∙◌, arith}
use Rattle.sat_cubes.specs.Cubes.{renumbered, reduced, is_satisfied, restricted, ids_from}
use Rattle.sat_cubes.proofs.Steps.{clause_satisfied, clause_left, id_satisfied, id_left, left_within}
use Rattle.sat_cubes.proofs.restricting.restrict.Goals as goal
use Rattle.sat_cubes.proofs.restricting.restrict.Goals.{then-not-satisfies+in_ok-lits+in_ok-push+in_ok-push-2}
use Rattle.sat_cubes.proofs.restricting.restrict.Goals.{else-not-satisfies}

pub push-requires : goal.push-requires
push-requires c =
    let clause = c.clause_at-clause.result.now in
    let free : is_satisfied c.in_ok-set.set clause ≡ false = sym c.satisfies.ensures ∙ c.if-not-satisfies.true in
    left_within c.args.cube.now c.in_ok-set.set clause c.as_slice.result.now c.args.formula.now.vars
    c.loop-index.left.vars c.clause_at-clause.ensures.literals c.in_ok-set.ensures free
    (c.as_slice.ensures.value ∙ c.in_ok-lits.ensures) c.loop-index.invariant.0

pub loop-index-preserved : goal.loop-index-preserved
loop-index-preserved c =
    let q = c.args.cube.now in
    let cs = c.args.formula.now.clauses in
    let i = c.loop-index.index in
    let clause = c.clause_at-clause.result.now in
    let h : i < length cs = omega (arith, c.loop-index-test.true, c.len-index-end.ensures.value) in
    let at = c.clause_at-clause.ensures.value in
    let rest = restricted q (drop (i + 1) cs) in
    let others = ids_from q (i + 1 + 1) (drop (i + 1) cs) in
    let set_is : is_satisfied q clause ≡ is_satisfied c.in_ok-set.set clause =
    ap (λ s. is_satisfied s clause) (sym c.in_ok-set.ensures) in
    elim c.if-not-satisfies.branch [
      | then-not-satisfies+in_ok-lits+in_ok-push+in_ok-push-2 w ↦
          let free : is_satisfied q clause ≡ false = set_is ∙ sym c.satisfies.ensures ∙ w.if-not-satisfies.true in
          let lits : w.as_slice.result.now ≡ map (renumbered q) (reduced q clause) =
          w.as_slice.ensures.value ∙ w.in_ok-lits.ensures
          ∙ ap (λ s. map (renumbered s) (reduced s clause)) c.in_ok-set.ensures in (
            ap (λ v. v.vars) w.left-is ∙ w.in_ok-push.ensures.vars ∙ c.loop-index.invariant.0,
            ap (λ v. v.clauses ++ rest) w.left-is ∙ ap (λ x. x ++ rest) w.in_ok-push.ensures.ok
                ∙ clause_left q cs i clause h at c.loop-index.left.clauses (restricted q cs) w.as_slice.result.now free
                lits c.loop-index.invariant.1,
            ap (λ x. x ++ others) (w.ids-is ∙ w.in_ok-push-2.ensures.ok)
                ∙ id_left q cs i clause h at c.loop-index.ids (ids_from q 1 cs) (i + 1) free c.loop-index.invariant.2,
          )
      | else-not-satisfies w ↦
          let gone : is_satisfied q clause ≡ true = set_is ∙ sym c.satisfies.ensures ∙ w.if-not-satisfies.false in (
            ap (λ v. v.vars) w.left-is ∙ c.loop-index.invariant.0,
            ap (λ v. v.clauses ++ rest) w.left-is
                ∙ clause_satisfied q cs i clause h at c.loop-index.left.clauses (restricted q cs) gone
                c.loop-index.invariant.1,
            ap (λ x. x ++ others) w.ids-is
                ∙ id_satisfied q cs i clause h at c.loop-index.ids (ids_from q 1 cs) (i + 1) gone
                c.loop-index.invariant.2,
          )
    ]
