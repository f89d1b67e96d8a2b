use Rattle.std.specs.Prelude.{ℕ, List, length}
use Rattle.std.proofs.Common.{ap, sym, ◌∙◌, subst}
use Rattle.bb_aig.specs.Gates.{AreLits}
use Rattle.bb_words.proofs.Past.{lits_moved, length-moved}
use Rattle.bb_words.proofs.Shifting.{step_made}
use Rattle.bb_words.proofs.shifts.shift_step.Goals as goal

pub choose-requires-clause-each : goal.choose-requires-clause-each
choose-requires-clause-each c =
    sym (ap length (c.as_slice.ensures.value ∙ c.in_ok-moved.ensures)
    ∙ length-moved c.args.direction c.args.fill c.args.by c.args.word.now)

pub choose-requires-clause-left : goal.choose-requires-clause-left
choose-requires-clause-left c =
    let P : List ℕ → Type 0 = λ ls. AreLits c.args.gates.now ls in
    subst P (sym (c.as_slice.ensures.value ∙ c.in_ok-moved.ensures))
    (lits_moved c.args.gates.now c.args.direction c.args.fill c.args.by c.args.word.now c.requires.fill c.requires.word)

pub returns-clause-made : goal.returns-clause-made
returns-clause-made c =
    step_made c.args.gates.now c.choose.new.gates c.args.direction c.args.fill c.args.by c.args.test c.args.word.now
    c.as_slice.result.now c.in_ok-made.made.items (c.as_slice.ensures.value
    ∙ c.in_ok-moved.ensures) c.in_ok-made.ensures.made
