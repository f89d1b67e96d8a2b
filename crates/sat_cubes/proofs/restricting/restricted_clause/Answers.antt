use Rattle.std.proofs.Common.{◌≡◌, ◌∷◌, ◌++◌, [], false, true, pos, get_or, ap, sym, ◌∙◌}
use Rattle.lrat_check.specs.Sets.{is_false}
use Rattle.sat_cubes.proofs.Steps.{literal_false, literal_left, left_is, read_at}
use Rattle.sat_cubes.proofs.restricting.restricted_clause.Goals as goal
use Rattle.sat_cubes.proofs.restricting.restricted_clause.Goals.{then-not-is_false+in_ok-push, else-not-is_false}

pub loop-lit-preserved : goal.loop-lit-preserved
loop-lit-preserved c =
    let q = c.args.cube.now in
    let clause = c.args.clause.now in
    let i = c.loop-lit.lit-index in
    let lit = get_or clause i (pos 0) in
    let h = c.loop-lit-test.true in
    let lits = c.loop-lit.lits.items in
    elim c.if-not-is_false.branch [
      | then-not-is_false+in_ok-push w ↦
          let free : is_false q lit ≡ false = sym c.is_false.ensures ∙ w.if-not-is_false.true in
          ap (λ v. v.items) w.lits-is ∙ w.in_ok-push.ensures.items
          ∙ ap (λ z. lits ++ z ∷ []) (left_is q c.args.vars clause i c.args.places.now c.requires.small c.requires.lits
          c.requires.open h free c.requires.numbers w.renumbered.result w.renumbered.ensures)
          ∙ literal_left q clause i lit h (read_at clause i h) lits free c.loop-lit.invariant
      | else-not-is_false w ↦
          let gone : is_false q lit ≡ true = sym c.is_false.ensures ∙ w.if-not-is_false.false in
          ap (λ v. v.items) w.lits-is
          ∙ literal_false q clause i lit h (read_at clause i h) lits gone c.loop-lit.invariant
    ]
