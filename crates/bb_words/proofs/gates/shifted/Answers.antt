use Rattle.std.specs.Prelude.{IfOk}
use Rattle.std.proofs.Common.{sym, subst}
use Rattle.bb_words.specs.Operators.{MeansShift}
use Rattle.bb_words.specs.declared.operator.ShiftOperator.{ShiftOperator}
use Rattle.bb_words.proofs.gates.shifted.Goals as goal

pub returns-in-Shl-clause-word : goal.returns-in-Shl-clause-word
returns-in-Shl-clause-word c =
    let P : ShiftOperator → Type 0 = λ o. IfOk c.left.result
    (MeansShift c.args.gates.now c.left.new.gates o c.args.word.now c.args.by.now) in
    subst P (sym c.in-Shl.is) c.left.ensures.word

pub returns-in-Lshr-clause-word : goal.returns-in-Lshr-clause-word
returns-in-Lshr-clause-word c =
    let P : ShiftOperator → Type 0 = λ o. IfOk c.right.result
    (MeansShift c.args.gates.now c.right.new.gates o c.args.word.now c.args.by.now) in
    subst P (sym c.in-Lshr.is) c.right.ensures.word

pub returns-in-Ashr-clause-word : goal.returns-in-Ashr-clause-word
returns-in-Ashr-clause-word c =
    let P : ShiftOperator → Type 0 = λ o. IfOk c.right_by_sign.result
    (MeansShift c.args.gates.now c.right_by_sign.new.gates o c.args.word.now c.args.by.now) in
    subst P (sym c.in-Ashr.is) c.right_by_sign.ensures.word
