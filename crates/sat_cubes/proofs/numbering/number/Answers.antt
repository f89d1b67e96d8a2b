use Rattle.std.proofs.Common.{◌≡◌, ◌+◌, ◌∷◌, ◌++◌, [], cond, false, true, length, pos, ap, sym, ◌∙◌, arith, w64, to_z}
use Rattle.std.specs.Ordering.{int_eq}
use Rattle.std.proofs.lemmas.Int.{to_z_pos}
use Rattle.sat_trail.specs.Trail.{is_assigned, place_of}
use Rattle.sat_cubes.specs.Cubes.{new_number}
use Rattle.sat_cubes.specs.Parts.{AreNumbered}
use Rattle.sat_cubes.proofs.Steps.{numbered_among, numbered_open, vars_among, vars_open}
use Rattle.sat_cubes.proofs.numbering.number.Goals as goal
use Rattle.sat_cubes.proofs.numbering.number.Goals.{then-not-is_assigned+in_ok-push+in_ok-put, else-not-is_assigned}

pub loop-index-preserved : goal.loop-index-preserved
loop-index-preserved c =
    let cube = c.args.cube.now in
    let i = c.loop-index.index in
    let places = c.loop-index.places in
    elim c.if-not-is_assigned.branch [
      | then-not-is_assigned+in_ok-push+in_ok-put w ↦
          let free : is_assigned cube (i + 1) ≡ false = sym c.is_assigned.ensures ∙ w.if-not-is_assigned.true in
          let all = w.in_ok-push.ensures.ok ∙ ap (λ xs. xs ++ (i + 1) ∷ []) c.loop-index.invariant.0
          ∙ vars_open cube i free in
          let many : w.len.result ≡ new_number cube (i + 1) = w.len.ensures ∙ ap length all in
          let lit : to_z w64 (i + 1) ≡ pos (i + 1) =
          to_z_pos w64 (i + 1) (omega (arith, c.loop-index-test.true, c.requires)) in (
            w.numbers-is ∙ all,
            numbered_open cube i places c.if-not-is_assigned.places w.len.result free many
                (λ l. ap (λ p. place_of p l) w.places-is ∙ w.in_ok-put.ensures.ok l
                ∙ ap (λ x. cond (int_eq x l) w.len.result (place_of places l)) lit)
                c.loop-index.invariant.1,
          )
      | else-not-is_assigned w ↦
          let taken : is_assigned cube (i + 1) ≡ true = sym c.is_assigned.ensures ∙ w.if-not-is_assigned.false in (
            w.numbers-is ∙ c.loop-index.invariant.0 ∙ vars_among cube i taken,
            numbered_among cube i c.if-not-is_assigned.places taken
                (λ var s h o. ap (λ p. place_of p (pos var)) w.places-is ∙ c.loop-index.invariant.1 var s h o),
          )
    ]
