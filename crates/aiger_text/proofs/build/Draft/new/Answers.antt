use Rattle.std.proofs.Common.{◌+◌, ◌*◌, length, sym, subst, arith}
use Rattle.aiger_text.specs.Built.{Begins}
use Rattle.aiger_text.proofs.BuildLaws.{begins_more}
use Rattle.aiger_text.proofs.build.Draft.new.Goals as goal

pub loop-input-preserved : goal.loop-input-preserved
loop-input-preserved c =
    subst (Begins (c.loop-input.input + 1) c.args.nodes c.add_input.new.self.aig) (sym c.in_ok-add_input.ensures.lits)
    (begins_more c.loop-input.input c.args.nodes c.loop-input.draft.aig c.add_input.new.self.aig
    c.loop-input.draft.lits.items (2 * length c.loop-input.draft.aig) c.loop-input.invariant
    c.in_ok-add_input.ensures.input (omega (arith, c.loop-input-test.true, c.requires)))
