use Rattle.std.specs.Prelude.{◌<◌, [], ◌∷◌, ◌++◌, length}
use Rattle.std.proofs.Common.{ap, arith, ◌∙◌}
use Rattle.vl_mean.specs.Cells.{cells}
use Rattle.wn_net.specs.declared.parts.Init.{Init}
use Rattle.vl_lower.specs.Design.{keeping}
use Rattle.vl_lower.proofs.Spots.{starts_more}
use Rattle.vl_lower.proofs.words.starts_of.Goals as goal

pub loop-word-preserved : goal.loop-word-preserved
loop-word-preserved c =
    let d = c.args.decl.now in
    let less : c.loop-word.word < length (cells d) =
    omega (arith, c.loop-word-test.true, c.cell_count-count.ensures.value) in
    starts_more (keeping c.args.keeps.now) d.width c.args.first c.loop-word.word (cells d) c.loop-word.starts
    c.push.new.self less
    (c.in_ok-push.ensures.ok ∙ ap (λ (x : Init). c.loop-word.starts ++ x ∷ []) c.whole_start.ensures.value)
    ∙ c.loop-word.invariant
