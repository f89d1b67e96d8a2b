use Rattle.std.specs.Prelude.{◌≡◌, Some}
use Rattle.std.specs.Option.{option_map}
use Rattle.std.proofs.Common.{sym, ◌∙◌, ap}
use Rattle.rvfi_port.specs.Outputs.{output_of, wanted_width}
use Rattle.rvfi_port.proofs.Whole.{output_here, no_memory}
use Rattle.rvfi_port.proofs.output.output_node.Goals as goal

pub returns-in-Node : goal.returns-in-Node
returns-in-Node c =
    let e : output_of c.args.names.now c.args.field ≡ Some c.in-Some.output.now =
    sym c.find_output.ensures ∙ ap (option_map (λ n. n.now)) c.in-Some.is in
    let wide : c.in-Some.output.now.width ≡ wanted_width c.args.channels c.args.field =
    sym c.from.ensures ∙ c.if-from-wanted.false ∙ c.wanted_width-wanted.ensures in
    output_here c.args.net.now c.args.names.now c.args.channels c.args.field c.in-Some.output.now c.in-Node.id c.requires e
    wide c.in-Node.is

pub returns-in-Mem : goal.returns-in-Mem
returns-in-Mem c =
    let e : output_of c.args.names.now c.args.field ≡ Some c.in-Some.output.now =
    sym c.find_output.ensures ∙ ap (option_map (λ n. n.now)) c.in-Some.is in
    absurd (no_memory c.args.net.now c.args.names.now c.args.field c.in-Some.output.now c.in-Mem.field-0 c.requires e
    c.in-Mem.is)
