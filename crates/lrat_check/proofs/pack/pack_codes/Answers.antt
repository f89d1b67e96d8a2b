use Rattle.std.proofs.Common.{◌≡◌, ◌+◌, ◌-◌, ◌<◌, length, ap, sym, subst, ◌∙◌, arith}
use Rattle.std.specs.List.{copy_within}
use Rattle.cnf_form.specs.Flat.{end_at}
use Rattle.cnf_form.proofs.Starts.{part_mounts}
use Rattle.lrat_check.specs.Store.{number_at}
use Rattle.lrat_check.proofs.Moving.{Packs, room, passes, moves}
use Rattle.lrat_check.proofs.pack.pack_codes.Goals as goal
use Rattle.lrat_check.proofs.pack.pack_codes.Goals.{then-is_held, else-is_held}

pub copy_within-requires-clause-start_le_end : goal.copy_within-requires-clause-start_le_end
copy_within-requires-clause-start_le_end c =
    let starts = c.args.starts.now in
    let place = c.loop-place.place in
    let all = c.args.codes.now.items in
    let e : c.end_of-end.result ≡ end_at starts place (length all) =
    c.end_of-end.ensures ∙ ap (end_at starts place) (c.len-all.ensures ∙ c.args.codes.now.ok.0) in
    let within : place < length starts = omega (arith, c.loop-place-test.true, c.requires.marked) in
    omega (arith, (part_mounts starts place (length all) c.requires.mounting within).0, e)

pub copy_within-requires-clause-in_bounds : goal.copy_within-requires-clause-in_bounds
copy_within-requires-clause-in_bounds c =
    let starts = c.args.starts.now in
    let place = c.loop-place.place in
    let all = c.args.codes.now.items in
    let e : c.end_of-end.result ≡ end_at starts place (length all) =
    c.end_of-end.ensures ∙ ap (end_at starts place) (c.len-all.ensures ∙ c.args.codes.now.ok.0) in
    let within : place < length starts = omega (arith, c.loop-place-test.true, c.requires.marked) in
    omega (
      arith,
      (part_mounts starts place (length all) c.requires.mounting within).1,
      e,
      c.loop-place.invariant.0,
      c.loop-place.codes.ok.0,
    )

pub copy_within-requires-clause-dest_in_bounds : goal.copy_within-requires-clause-dest_in_bounds
copy_within-requires-clause-dest_in_bounds c =
    let starts = c.args.starts.now in
    let place = c.loop-place.place in
    let all = c.args.codes.now.items in
    let e : c.end_of-end.result ≡ end_at starts place (length all) =
    c.end_of-end.ensures ∙ ap (end_at starts place) (c.len-all.ensures ∙ c.args.codes.now.ok.0) in
    let r = room all starts c.args.held.now place c.loop-place.to c.loop-place.codes.items c.requires.mounting
    c.requires.marked c.loop-place-test.true c.loop-place.invariant in
    omega (arith, r, e, c.loop-place.codes.ok.0)

pub overflow_sub-to : goal.overflow_sub-to
overflow_sub-to c =
    let starts = c.args.starts.now in
    let place = c.loop-place.place in
    let all = c.args.codes.now.items in
    let e : c.end_of-end.result ≡ end_at starts place (length all) =
    c.end_of-end.ensures ∙ ap (end_at starts place) (c.len-all.ensures ∙ c.args.codes.now.ok.0) in
    let within : place < length starts = omega (arith, c.loop-place-test.true, c.requires.marked) in
    omega (arith, (part_mounts starts place (length all) c.requires.mounting within).0, e)

pub loop-place-preserved : goal.loop-place-preserved
loop-place-preserved c =
    let starts = c.args.starts.now in
    let held = c.args.held.now in
    let place = c.loop-place.place in
    let to = c.loop-place.to in
    let all = c.args.codes.now.items in
    let codes = c.loop-place.codes.items in
    elim c.if-is_held.branch [
      | then-is_held w ↦
          let e : w.end_of-end.result ≡ end_at starts place (length all) =
          w.end_of-end.ensures ∙ ap (end_at starts place) (c.len-all.ensures ∙ c.args.codes.now.ok.0) in
          let q = moves all starts held place to codes c.requires.mounting c.requires.marked c.loop-place-test.true
          c.loop-place.invariant w.if-is_held.true in
          let t : c.if-is_held.to ≡ to + (end_at starts place (length all) - number_at starts place) =
          w.to-is ∙ ap (λ z. to + (z - number_at starts place)) e in
          let k : c.if-is_held.codes.items
          ≡ copy_within codes (number_at starts place) (end_at starts place (length all)) to =
          ap (λ v. v.items) w.codes-is ∙ w.copy_within.ensures.items
          ∙ ap (λ z. copy_within codes (number_at starts place) z to) e in
          subst (λ z. Packs all starts held (place + 1) z c.if-is_held.codes.items) (sym t)
          (subst (Packs all starts held (place + 1) (to + (end_at starts place (length all) - number_at starts place)))
          (sym k) q)
      | else-is_held w ↦
          let q = passes all starts held place to codes c.requires.mounting c.requires.marked c.loop-place-test.true
          c.loop-place.invariant w.if-is_held.false in
          subst (λ z. Packs all starts held (place + 1) z c.if-is_held.codes.items) (sym w.to-is)
          (subst (λ v. Packs all starts held (place + 1) to v.items) (sym w.codes-is) q)
    ]
