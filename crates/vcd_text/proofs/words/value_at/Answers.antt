use Rattle.vcd_text.proofs.Values.{no_empty, narrow, broad, no_cut}
use Rattle.vcd_text.proofs.words.value_at.Goals as goal

pub returns-in_default : goal.returns-in_default
returns-in_default c = λ i v n a l e. no_empty c.args.line.now c.in_default.ensures.cases i v n e

pub returns-then-first-ne98 : goal.returns-then-first-ne98
returns-then-first-ne98 c =
    narrow c.args.names.now c.args.line.now c.in-Some.rest.now c.in-Some.first.now c.value_of.result
    c.in-Some.ensures.cases.0 c.if-first-ne98.true c.value_of.ensures

pub returns-in_default-cut_at : goal.returns-in_default-cut_at
returns-in_default-cut_at c =
    λ i v n a l e. no_cut c.args.line.now c.in-Some.rest.now c.in-Some.first.now c.in-Some.ensures.cases.0
    c.if-first-ne98.false c.in_default-cut_at.ensures i v n l e

pub returns : goal.returns
returns c = broad c.args.names.now c.args.line.now c.in-Some.rest.now c.in-Some-cut_at.digits.now
    c.in-Some-cut_at.characters.now c.in-Some.first.now c.value_of-2.result c.in-Some.ensures.cases.0
    c.if-first-ne98.false c.in-Some-cut_at.ensures c.value_of-2.ensures
