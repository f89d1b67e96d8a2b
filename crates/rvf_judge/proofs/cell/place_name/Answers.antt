use mir.Val.{SFits}
use mir.Syntax.{w128}
use Rattle.std.proofs.Common.{◌≡◌, ◌∙◌, sym, subst, arith, rules, IfOk, ℕ, List}
use Rattle.std.proofs.lemmas.Int.{to_z-of_z}
use Rattle.rvf_judge.proofs.Words.{named_word, no_word}
use Rattle.rvf_judge.proofs.cell.place_name.Goals as goal

pub returns-then-from-distance : goal.returns-then-from-distance
returns-then-from-distance c =
    let fits : SFits w128 c.index_at.result = search rules in
    subst (λ (t : List ℕ). IfOk c.word_name.result (λ made. made ≡ t))
    (named_word c.args.memory.now c.args.range c.args.place c.distance.result c.index_at.result c.index_at.ensures
    c.distance.ensures (omega (arith, c.from.ensures, c.if-from-distance.true)))
    (simp to_z-of_z at c.word_name.ensures)

pub returns-else-from-distance : goal.returns-else-from-distance
returns-else-from-distance c =
    c.no_name.ensures
    ∙ sym (no_word c.args.memory.now c.args.range c.args.place c.distance.result c.distance.ensures
    (omega (arith, c.from.ensures, c.if-from-distance.false)))
