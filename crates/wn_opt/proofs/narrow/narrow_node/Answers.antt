use Rattle.std.specs.Prelude.{Some}
use Rattle.std.proofs.Common.{ap, sym, ◌∙◌, subst}
use Rattle.wn_net.specs.Net.{shape_of, widths_of}
use Rattle.wn_net.specs.Width.{IsFitting}
use Rattle.wn_net.specs.Changes.{with_node}
use Rattle.wn_opt.specs.Table.{IsOperator}
use Rattle.wn_opt.proofs.Copying.{operator_of, renamed_operator}
use Rattle.wn_opt.proofs.Narrowing.{narrowed_fits, narrowed_operator}
use Rattle.wn_opt.proofs.Sharing.{no_reg}
use Rattle.wn_opt.proofs.narrow.narrow_node.Goals as goal

pub unreachable-requires : goal.unreachable-requires
unreachable-requires c =
    no_reg c.args.net.now _ c.in-Reg.field-0 c.requires.whole c.requires.flat (c.requires.at ∙ ap Some c.in-Reg.is)

pub narrow_input-requires-clause-at : goal.narrow_input-requires-clause-at
narrow_input-requires-clause-at c = c.requires.at ∙ ap Some c.in-Input.is

pub build-requires : goal.build-requires
build-requires c =
    let net = c.args.net.now in
    let a = c.args.part.now in
    let t = c.args.places.now in
    let x = c.args.node.now in
    let r = c.requires in
    let op = operator_of x c.in_default.not-Input c.in_default.not-Reg in
    record {
      operator = subst IsOperator (sym c.renamed.ensures) (renamed_operator t x op);
      fits = subst (IsFitting (shape_of a) (widths_of a)) (sym c.renamed.ensures)
          (narrowed_fits net a c.args.marks.now c.args.inputs.now.items t r.whole r.narrowed x r.marked r.at r.flat
          r.operands op);
    }

pub returns-in_ok-build-in_default : goal.returns-in_ok-build-in_default
returns-in_ok-build-in_default c =
    let net = c.args.net.now in
    let a = c.args.part.now in
    let t = c.args.places.now in
    let x = c.args.node.now in
    let r = c.requires in
    let op = operator_of x c.in_default.not-Input c.in_default.not-Reg in
    narrowed_operator net a c.args.marks.now c.args.inputs.now.items t r.whole r.narrowed x r.marked r.at r.flat
    r.operands op c.build.new.net c.in_ok-build-in_default.field-0 c.in_ok-build-in_default.ensures.last
    (c.in_ok-build-in_default.ensures.new ∙ ap (with_node a) c.renamed.ensures)
