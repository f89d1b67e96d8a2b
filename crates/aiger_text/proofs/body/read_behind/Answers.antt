use Rattle.std.proofs.Common.{refl, ap, sym, ◌∙◌}
use Rattle.aiger_text.specs.Lines.{lines}
use Rattle.aiger_text.specs.Said.{read_gates}
use Rattle.aiger_text.proofs.BodyLaws.{output_bad, output_ok}
use Rattle.aiger_text.proofs.body.read_behind.Goals as goal

pub returns-in_default : goal.returns-in_default
returns-in_default c =
    output_bad c.args.sizes c.args.line c.args.inputs.literals.items c.args.text.now c.next_line.result.0.now
    c.next_line.result.1.now _ c.next_line.ensures.lines refl c.requires.many c.in_default.ensures.value
