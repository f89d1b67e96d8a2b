use Rattle.std.specs.Prelude.{IfOk}
use Rattle.std.proofs.Common.{sym, subst}
use Rattle.bb_words.specs.Operators.{MeansPair}
use Rattle.bb_words.specs.declared.operator.PairOperator.{PairOperator}
use Rattle.bb_words.proofs.gates.operated.Goals as goal

pub returns-in-And-clause-word : goal.returns-in-And-clause-word
returns-in-And-clause-word c =
    let P : PairOperator → Type 0 = λ o. IfOk c.bitwise.result
    (MeansPair c.args.gates.now c.bitwise.new.gates o c.args.a.now c.args.b.now) in
    subst P (sym c.in-And.is) c.bitwise.ensures.word

pub returns-in-Or-clause-word : goal.returns-in-Or-clause-word
returns-in-Or-clause-word c =
    let P : PairOperator → Type 0 = λ o. IfOk c.bitwise-in-Or.result
    (MeansPair c.args.gates.now c.bitwise-in-Or.new.gates o c.args.a.now c.args.b.now) in
    subst P (sym c.in-Or.is) c.bitwise-in-Or.ensures.word

pub returns-in-Xor-clause-word : goal.returns-in-Xor-clause-word
returns-in-Xor-clause-word c =
    let P : PairOperator → Type 0 = λ o. IfOk c.bitwise-in-Xor.result
    (MeansPair c.args.gates.now c.bitwise-in-Xor.new.gates o c.args.a.now c.args.b.now) in
    subst P (sym c.in-Xor.is) c.bitwise-in-Xor.ensures.word

pub returns-in-Add-clause-word : goal.returns-in-Add-clause-word
returns-in-Add-clause-word c =
    let P : PairOperator → Type 0 = λ o. IfOk c.sum.result
    (MeansPair c.args.gates.now c.sum.new.gates o c.args.a.now c.args.b.now) in
    subst P (sym c.in-Add.is) c.sum.ensures.word

pub returns-in-Sub-clause-word : goal.returns-in-Sub-clause-word
returns-in-Sub-clause-word c =
    let P : PairOperator → Type 0 = λ o. IfOk c.difference.result
    (MeansPair c.args.gates.now c.difference.new.gates o c.args.a.now c.args.b.now) in
    subst P (sym c.in-Sub.is) c.difference.ensures.word

pub returns-in-Mul-clause-word : goal.returns-in-Mul-clause-word
returns-in-Mul-clause-word c =
    let P : PairOperator → Type 0 = λ o. IfOk c.product.result
    (MeansPair c.args.gates.now c.product.new.gates o c.args.a.now c.args.b.now) in
    subst P (sym c.in-Mul.is) c.product.ensures.word

pub returns-in-Eq-clause-word : goal.returns-in-Eq-clause-word
returns-in-Eq-clause-word c =
    let P : PairOperator → Type 0 = λ o. IfOk c.equal.result
    (MeansPair c.args.gates.now c.equal.new.gates o c.args.a.now c.args.b.now) in
    subst P (sym c.in-Eq.is) c.equal.ensures.word

pub returns-in-Ult-clause-word : goal.returns-in-Ult-clause-word
returns-in-Ult-clause-word c =
    let P : PairOperator → Type 0 = λ o. IfOk c.less.result
    (MeansPair c.args.gates.now c.less.new.gates o c.args.a.now c.args.b.now) in
    subst P (sym c.in-Ult.is) c.less.ensures.word

pub returns-in-Slt-clause-word : goal.returns-in-Slt-clause-word
returns-in-Slt-clause-word c =
    let P : PairOperator → Type 0 = λ o. IfOk c.less_signed.result
    (MeansPair c.args.gates.now c.less_signed.new.gates o c.args.a.now c.args.b.now) in
    subst P (sym c.in-Slt.is) c.less_signed.ensures.word
