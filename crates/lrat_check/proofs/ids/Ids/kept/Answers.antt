use Rattle.std.proofs.Common.{◌+◌, ◌++◌, ◌∷◌, [], drop, ap, ◌∙◌}
use Rattle.lrat_check.specs.Store.{marked}
use Rattle.lrat_check.proofs.Moving.{marks_past, marks_on}
use Rattle.lrat_check.proofs.ids.Ids.kept.Goals as goal
use Rattle.lrat_check.proofs.ids.Ids.kept.Goals.{then-mark+in_ok-add, else-mark}

pub loop-place-preserved : goal.loop-place-preserved
loop-place-preserved c =
    let ids = c.args.self.now in
    let marks = c.args.marks.now in
    let place = c.loop-place.place in
    let kept = c.loop-place.kept in
    let more = marked (drop (place + 1) ids) (drop (place + 1) marks) in
    elim c.if-mark.branch [
      | then-mark+in_ok-add w ↦
          ap (λ z. z ++ more) (w.kept-is ∙ w.in_ok-add.ensures.ok ∙ ap (λ x. kept ++ x ∷ []) w.at.ensures)
          ∙ marks_on ids marks place kept c.requires c.loop-place-test.true c.loop-place.invariant w.if-mark.true
      | else-mark w ↦
          ap (λ z. z ++ more) w.kept-is
          ∙ marks_past ids marks place kept c.requires c.loop-place-test.true c.loop-place.invariant w.if-mark.false
    ]
