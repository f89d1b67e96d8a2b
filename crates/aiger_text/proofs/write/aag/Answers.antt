use Rattle.aiger_text.proofs.WriteLaws.{parts_put}
use Rattle.aiger_text.proofs.RoundLaws.{text_says}
use Rattle.aiger_text.proofs.write.aag.Goals as goal

pub returns-clause-text : goal.returns-clause-text
returns-clause-text c =
    parts_put c.args.aig.now c.behind_false-nodes.result.now c.args.root c.args.names.now c.new-out.result.items
    c.put_header.new.out.items c.put_inputs.new.out.items c.put_number.new.out.items c.put_gates.new.out.items
    c.put_names.new.out.items c.behind_false-nodes.ensures.value c.new-out.ensures.items c.in_ok-put_header.ensures
    c.in_ok-put_inputs.ensures c.in_ok-put_number.ensures c.in_ok-put_gates.ensures c.in_ok-put_names.ensures

pub returns-clause-says : goal.returns-clause-says
returns-clause-says c = λ lit.
    text_says c.args.aig.now c.behind_false-nodes.result.now c.args.root c.args.names.now c.put_names.new.out.items
    c.behind_false-nodes.ensures.value c.behind_false-nodes.ensures.whole c.behind_false-nodes.ensures.few
    (parts_put c.args.aig.now c.behind_false-nodes.result.now c.args.root c.args.names.now c.new-out.result.items
    c.put_header.new.out.items c.put_inputs.new.out.items c.put_number.new.out.items c.put_gates.new.out.items
    c.put_names.new.out.items c.behind_false-nodes.ensures.value c.new-out.ensures.items c.in_ok-put_header.ensures
    c.in_ok-put_inputs.ensures c.in_ok-put_number.ensures c.in_ok-put_gates.ensures c.in_ok-put_names.ensures) lit
