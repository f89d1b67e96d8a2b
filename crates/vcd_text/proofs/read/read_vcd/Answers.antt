use Rattle.std.proofs.Common.{subst}
use Rattle.vcd_text.specs.Reached.{Takes}
use Rattle.vcd_text.proofs.Written.{is_nil, is_filled, not_nil}
use Rattle.vcd_text.proofs.Ends.{read_line, refuses_line, refuses_rest, refuses_end, reads_all}
use Rattle.vcd_text.proofs.read.read_vcd.Goals as goal

pub returns-then-not-branch-clause-refused : goal.returns-then-not-branch-clause-refused
returns-then-not-branch-clause-refused c =
    refuses_line c.args.bytes.now c.loop-line.rest.now c.in-Some.line.now c.in-Some.behind.now c.loop-line.place
    c.loop-line.reader c.take.new.self c.loop-line.invariant c.in-Some.ensures
    (subst (λ b. Takes c.loop-line.reader c.in-Some.line.now b c.take.new.self) c.if-not-branch.true
    c.in_ok-take.ensures)

pub loop-line-preserved : goal.loop-line-preserved
loop-line-preserved c = read_line c.args.bytes.now c.loop-line.rest.now c.in-Some.line.now c.in-Some.behind.now
    c.loop-line.place c.saturating_add-place.result c.loop-line.reader c.take.new.self c.loop-line.invariant
    c.in-Some.ensures
    (subst (λ b. Takes c.loop-line.reader c.in-Some.line.now b c.take.new.self) c.if-not-branch.false
    c.in_ok-take.ensures) c.saturating_add-place.ensures

pub returns-then-not-is_empty-clause-refused : goal.returns-then-not-is_empty-clause-refused
returns-then-not-is_empty-clause-refused c =
    refuses_rest c.args.bytes.now c.loop-line.rest.now c.loop-line.place c.loop-line.reader c.loop-line.invariant
    c.in_default.ensures (not_nil c.loop-line.rest.now
    (is_filled c.is_empty.result c.loop-line.rest.now c.is_empty.ensures c.if-not-is_empty.true))

pub returns-in-Some-finish-clause-found : goal.returns-in-Some-finish-clause-found
returns-in-Some-finish-clause-found c =
    reads_all c.args.bytes.now c.loop-line.rest.now c.loop-line.place c.loop-line.reader c.in-Some-finish.trace
    c.loop-line.invariant (is_nil c.is_empty.result c.loop-line.rest.now c.is_empty.ensures c.if-not-is_empty.false)
    c.in-Some-finish.ensures

pub returns-in-None-clause-refused : goal.returns-in-None-clause-refused
returns-in-None-clause-refused c =
    refuses_end c.args.bytes.now c.loop-line.rest.now c.loop-line.place c.loop-line.reader c.loop-line.invariant
    (is_nil c.is_empty.result c.loop-line.rest.now c.is_empty.ensures c.if-not-is_empty.false) c.in-None.ensures
