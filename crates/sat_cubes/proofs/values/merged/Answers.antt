use Rattle.std.proofs.Common.{◌≡◌, ◌+◌, ◌∷◌, ◌++◌, [], false, true, sym, ◌∙◌, arith}
use Rattle.sat_trail.specs.Trail.{is_assigned}
use Rattle.sat_cubes.proofs.Steps.{merged_more, next_open, next_among, next_few}
use Rattle.sat_cubes.proofs.values.merged.Goals as goal
use Rattle.sat_cubes.proofs.values.merged.Goals.{then-not-is_assigned, else-not-is_assigned}

pub overflow_add-next : goal.overflow_add-next
overflow_add-next c =
    let few = next_few c.args.cube.now c.loop-index.index c.loop-index.next c.loop-index.invariant.1 in
    omega (arith, few, c.loop-index-test.true, c.requires)

pub loop-index-preserved : goal.loop-index-preserved
loop-index-preserved c =
    let q = c.args.cube.now in
    let i = c.loop-index.index in
    let next = c.loop-index.next in (
      c.in_ok-push.ensures.ok
          ∙ merged_more q c.args.values.now i next c.value_under.result c.loop-index.all c.loop-index.invariant.1
          c.value_under.ensures c.loop-index.invariant.0,
      elim c.if-not-is_assigned.branch [
        | then-not-is_assigned w ↦
            w.next-is
            ∙ next_open q i next (sym c.is_assigned.ensures ∙ w.if-not-is_assigned.true) c.loop-index.invariant.1
        | else-not-is_assigned w ↦
            w.next-is
            ∙ next_among q i next (sym c.is_assigned.ensures ∙ w.if-not-is_assigned.false) c.loop-index.invariant.1
      ],
    )
