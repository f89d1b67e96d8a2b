use Rattle.std.proofs.Common.{◌≡◌, ℕ, ◌+◌, ◌<◌, true, Some, length, refl, ap, sym, subst, ◌∙◌, arith}
use Rattle.std.specs.Prelude.{slice_get}
use Rattle.std.specs.List.{list_any}
use Rattle.std.proofs.lemmas.List.{get_or_read}
use Rattle.std.proofs.lemmas.Option.{slice_get-get_or}
use Rattle.lrat_check.specs.declared.reading.Reading.TheVariants as read
use Rattle.lrat_check.specs.Sets.{has, reading}
use Rattle.lrat_check.specs.Resolved.{Closed}
use Rattle.lrat_check.specs.Store.{held_of}
use Rattle.sat_trail.specs.Trail.{lits}
use Rattle.sat_propagate.specs.declared.unit_scan.Scan.TheVariants as scan
use Rattle.sat_propagate.specs.Propagation.{Taken, Holds, Sees, place_at}
use Rattle.sat_propagate.proofs.ByPlace.{same_clause, lits_at}
use Rattle.sat_propagate.proofs.Consistent.{any_true, not_open}
use Rattle.sat_propagate.proofs.Seen.{all_settled, one_true, short_at, place_below, forced_kept}
use Rattle.sat_propagate.proofs.propagation.Propagation.look_at_short.Goals as goal
use Rattle.sat_propagate.proofs.propagation.Propagation.look_at_short.Goals.{in-True, in-Open}

pub at-requires : goal.at-requires
at-requires c =
    let i = c.loop-index.self-inside in
    let p : Taken = record { watches = i.watches; many = i.many; short = i.short.items; looked = i.looked } in
    let v = c.loop-index.invariant in
    let e = ap length (v.3 ∙ ap (λ z. z.short) (sym c.self.view_is)) in
    let l : c.loop-index.index < length p.short = omega (arith, e) in
    let b = place_below c.args.clauses.now c.args.trail.now p c.loop-index.index c.index-place.result.now v.0 l
    c.index-place.ensures in
    b

pub read-requires : goal.read-requires
read-requires c =
    let i = c.loop-index.self-inside in
    let p : Taken = record { watches = i.watches; many = i.many; short = i.short.items; looked = i.looked } in
    let v = c.loop-index.invariant in
    let e = ap length (v.3 ∙ ap (λ z. z.short) (sym c.self.view_is)) in
    let l : c.loop-index.index < length p.short = omega (arith, e) in
    let b = place_below c.args.clauses.now c.args.trail.now p c.loop-index.index c.index-place.result.now v.0 l
    c.index-place.ensures in
    let d = c.at.result.now in
    let place = c.index-place.result.now in
    let g : slice_get c.args.clauses.now place ≡ Some d =
    slice_get-get_or c.args.clauses.now place d b ∙ ap Some (sym c.at.ensures) in
    lits_at c.args.clauses.now place d c.requires.lits g

pub returns-in-False-clause-sees : goal.returns-in-False-clause-sees
returns-in-False-clause-sees c =
    let i = c.loop-index.self-inside in
    let p : Taken = record { watches = i.watches; many = i.many; short = i.short.items; looked = i.looked } in
    let v = c.loop-index.invariant in
    let e = ap length (v.3 ∙ ap (λ z. z.short) (sym c.self.view_is)) in
    let l : c.loop-index.index < length p.short = omega (arith, e) in
    let b = place_below c.args.clauses.now c.args.trail.now p c.loop-index.index c.index-place.result.now v.0 l
    c.index-place.ensures in
    let d = c.at.result.now in
    let place = c.index-place.result.now in
    let g : slice_get c.args.clauses.now place ≡ Some d =
    slice_get-get_or c.args.clauses.now place d b ∙ ap Some (sym c.at.ensures) in
    (d, g, sym c.in-False.ensures)

pub returns-in-Unit-clause-sees : goal.returns-in-Unit-clause-sees
returns-in-Unit-clause-sees c =
    let i = c.loop-index.self-inside in
    let p : Taken = record { watches = i.watches; many = i.many; short = i.short.items; looked = i.looked } in
    let v = c.loop-index.invariant in
    let e = ap length (v.3 ∙ ap (λ z. z.short) (sym c.self.view_is)) in
    let l : c.loop-index.index < length p.short = omega (arith, e) in
    let b = place_below c.args.clauses.now c.args.trail.now p c.loop-index.index c.index-place.result.now v.0 l
    c.index-place.ensures in
    let d = c.at.result.now in
    let place = c.index-place.result.now in
    let g : slice_get c.args.clauses.now place ≡ Some d =
    slice_get-get_or c.args.clauses.now place d b ∙ ap Some (sym c.at.ensures) in
    let r : reading (lits c.args.trail.now) d ≡ read.Unit c.in-Unit.lit = sym c.in-Unit.ensures in
    subst (λ z. Sees c.args.clauses.now (lits c.args.trail.now) (scan.Unit place z))
    (sym (forced_kept c.args.clauses.now (lits c.args.trail.now) d place c.in-Unit.lit c.requires.lits g r))
    (d, g, r)

pub loop-index-preserved : goal.loop-index-preserved
loop-index-preserved c =
    let i = c.loop-index.self-inside in
    let p : Taken = record { watches = i.watches; many = i.many; short = i.short.items; looked = i.looked } in
    let cs = c.args.clauses.now in
    let t = c.args.trail.now in
    let v = c.loop-index.invariant in
    let d = c.at.result.now in
    let place = c.index-place.result.now in
    let e = ap length (v.3 ∙ ap (λ z. z.short) (sym c.self.view_is)) in
    let l : c.loop-index.index < length p.short = omega (arith, e) in
    let b = place_below cs t p c.loop-index.index place v.0 l c.index-place.ensures in
    let q : i.looked ≡ c.loop-index.index = v.4 in
    let at : place ≡ place_at p.short p.looked =
    get_or_read p.short c.loop-index.index place l c.index-place.ensures 0 ∙ ap (place_at p.short) (sym q) in
    let g : slice_get cs place ≡ Some d =
    slice_get-get_or cs place d b ∙ ap Some (sym c.at.ensures) in
    let s = short_at cs t p p.looked place v.0 (omega (arith, l, q)) at in
    let any : list_any (has (lits t)) d ≡ true = elim c.match-read.branch [
      | in-True w ↦ any_true (lits t) d (sym w.in-True.ensures)
      | in-Open w ↦ absurd (not_open (lits t) s.0 s.3 (ap (reading (lits t)) (same_clause cs place s.0 d s.2 g)
          ∙ sym w.in-Open.ensures))
    ] in
    let P : ℕ → Type 0 = λ z. Holds cs t
    (record { watches = i.watches; many = i.many; short = i.short.items; looked = z + 1 }) in
    (subst P q (one_true cs t p place d v.0 (omega (arith, l, q)) at g any), v.1, v.2, v.3, refl)

pub returns-clause-sees : goal.returns-clause-sees
returns-clause-sees c =
    let i = c.loop-index.self-inside in
    let p : Taken = record { watches = i.watches; many = i.many; short = i.short.items; looked = i.looked } in
    let v = c.loop-index.invariant in
    let e = ap length (v.3 ∙ ap (λ z. z.short) (sym c.self.view_is)) in
    let q : i.looked ≡ c.loop-index.index = v.4 in
    all_settled c.args.clauses.now c.args.trail.now p c.requires.stand v.0
    (subst (λ z. Closed (held_of z.store) (lits c.args.trail.now)) (sym v.1) c.requires.closed)
    (v.2 ∙ c.requires.many) (omega (arith, q, e))
