use Rattle.std.proofs.Common.{◌≡◌, ◌+◌, ◌-◌, ◌<◌, ◌++◌, ◌∷◌, [], length, ap, sym, subst, ◌∙◌, arith}
use Rattle.cnf_form.specs.Flat.{end_at}
use Rattle.cnf_form.proofs.Starts.{part_mounts}
use Rattle.lrat_check.specs.Store.{number_at}
use Rattle.lrat_check.proofs.Moving.{Begins, first, begins_past, begins_on}
use Rattle.lrat_check.proofs.pack.packed_starts.Goals as goal
use Rattle.lrat_check.proofs.pack.packed_starts.Goals.{then-is_held+in_ok-push, else-is_held}

pub overflow_cast-from : goal.overflow_cast-from
overflow_cast-from c =
    let f = first c.args.starts.now c.args.held.now c.args.end c.loop-place.place c.loop-place.from
    c.loop-place.packed.items c.requires.mounting c.requires.marked c.loop-place-test.true c.loop-place.invariant in
    omega (arith, f, c.type_inv.starts c.loop-place.place)

pub overflow_sub-from : goal.overflow_sub-from
overflow_sub-from c =
    let starts = c.args.starts.now in
    let place = c.loop-place.place in
    let within : place < length starts = omega (arith, c.loop-place-test.true, c.requires.marked) in
    omega (arith, (part_mounts starts place c.args.end c.requires.mounting within).0, c.end_of.ensures)

pub loop-place-preserved : goal.loop-place-preserved
loop-place-preserved c =
    let starts = c.args.starts.now in
    let held = c.args.held.now in
    let end = c.args.end in
    let place = c.loop-place.place in
    let from = c.loop-place.from in
    let packed = c.loop-place.packed.items in
    elim c.if-is_held.branch [
      | then-is_held+in_ok-push w ↦
          let q = begins_on starts held end place from packed c.requires.mounting c.requires.marked
          c.loop-place-test.true c.loop-place.invariant w.if-is_held.true in
          let t : c.if-is_held.from ≡ from + (end_at starts place end - number_at starts place) =
          w.from-is ∙ ap (λ z. from + (z - number_at starts place)) w.end_of.ensures in
          let k : c.if-is_held.packed.items ≡ packed ++ from ∷ [] =
          ap (λ v. v.items) w.packed-is ∙ w.in_ok-push.ensures.items in
          subst (λ z. Begins starts held end (place + 1) z c.if-is_held.packed.items) (sym t)
          (subst (Begins starts held end (place + 1) (from + (end_at starts place end - number_at starts place)))
          (sym k) q)
      | else-is_held w ↦
          let q = begins_past starts held end place from packed c.requires.mounting c.requires.marked
          c.loop-place-test.true c.loop-place.invariant w.if-is_held.false in
          subst (λ z. Begins starts held end (place + 1) z c.if-is_held.packed.items) (sym w.from-is)
          (subst (λ v. Begins starts held end (place + 1) from v.items) (sym w.packed-is) q)
    ]
