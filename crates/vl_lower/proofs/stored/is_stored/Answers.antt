use Rattle.std.specs.Prelude.{◌≡◌, ◌+◌, ◌<◌, Bool, false, ◌&&◌, not, if◌then◌else◌, is_none, length, drop}
use Rattle.std.proofs.Common.{ap, arith, sym, ◌∙◌}
use Rattle.vl_mean.specs.Cells.{cells}
use Rattle.vl_lower.specs.Design.{are_whole, keeping}
use Rattle.vl_lower.proofs.Spots.{none_both, whole_more}
use Rattle.vl_lower.proofs.stored.is_stored.Goals as goal

pub returns-then-not-is_whole : goal.returns-then-not-is_whole
returns-then-not-is_whole c =
    let keep = keeping c.args.keeps.now in
    let d = c.args.decl.now in
    let k = c.loop-word.word in
    let less : k < length (cells d) = omega (arith, c.loop-word-test.true, c.cell_count-count.ensures.value) in
    let none : are_whole keep d.width c.args.first (cells d) ≡ false =
    sym c.loop-word.invariant ∙ whole_more keep d.width c.args.first k (cells d) less
    ∙ ap (λ (b : Bool). if b then are_whole keep d.width (c.args.first + (k + 1)) (drop (k + 1) (cells d)) else false)
    (sym c.if-not-is_whole.ensures) in
    sym (ap (λ b. not (is_none d.words) && b) none ∙ none_both (not (is_none d.words)))

pub loop-word-preserved : goal.loop-word-preserved
loop-word-preserved c =
    let keep = keeping c.args.keeps.now in
    let d = c.args.decl.now in
    let k = c.loop-word.word in
    let less : k < length (cells d) = omega (arith, c.loop-word-test.true, c.cell_count-count.ensures.value) in
    sym (whole_more keep d.width c.args.first k (cells d) less
    ∙ ap (λ (b : Bool). if b then are_whole keep d.width (c.args.first + (k + 1)) (drop (k + 1) (cells d)) else false)
    (sym c.if-not-is_whole.ensures)) ∙ c.loop-word.invariant
