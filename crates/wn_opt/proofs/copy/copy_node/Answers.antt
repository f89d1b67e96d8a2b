use Rattle.std.specs.Prelude.{◌+◌, Some, slice_set}
use Rattle.std.proofs.Common.{ap, sym, ◌∙◌, subst}
use Rattle.wn_net.specs.Net.{shape_of, widths_of}
use Rattle.wn_net.specs.Width.{IsFitting}
use Rattle.wn_net.specs.Changes.{with_node}
use Rattle.wn_opt.specs.Parts.{AreCopiedTo}
use Rattle.wn_opt.specs.Table.{IsOperator}
use Rattle.wn_opt.proofs.Copying.{adds_node, copied_some, next_built, next_fits, next_input, next_reg}
use Rattle.wn_opt.proofs.Copying.{operator_of, renamed_operator}
use Rattle.wn_opt.proofs.copy.copy_node.Goals as goal

pub build-requires : goal.build-requires
build-requires c =
    let net = c.args.net.now in
    let part = c.args.part.now in
    let t = c.args.places.now in
    let x = c.args.node.now in
    let op = operator_of x c.in_default.not-Input c.in_default.not-Reg in
    record {
      operator = subst IsOperator (sym c.renamed.ensures) (renamed_operator t x op);
      fits = subst (IsFitting (shape_of part) (widths_of part)) (sym c.renamed.ensures)
          (next_fits net part c.args.marks.now t c.args.index x c.requires.whole c.requires.front c.requires.copied
          c.requires.operands c.requires.at op);
    }

pub returns-in-Input-clause-copied : goal.returns-in-Input-clause-copied
returns-in-Input-clause-copied c =
    let net = c.args.net.now in
    let part = c.args.part.now in
    let t = c.args.places.now in
    let x = c.args.node.now in
    let marks = c.args.marks.now in
    let i = c.args.index in
    let r = c.requires in
    subst (λ k. AreCopiedTo net marks part (slice_set t i (Some k)) (i + 1)) (sym c.from.ensures)
    (copied_some net part part marks t i x c.in-Input.input r.copied r.marked r.at r.free r.operands
    (next_input net part marks t i x r.whole r.front r.copied r.operands r.at c.in-Input.input c.in-Input.is))

pub returns-in-Reg-clause-copied : goal.returns-in-Reg-clause-copied
returns-in-Reg-clause-copied c =
    let net = c.args.net.now in
    let part = c.args.part.now in
    let t = c.args.places.now in
    let x = c.args.node.now in
    let marks = c.args.marks.now in
    let i = c.args.index in
    let r = c.requires in
    subst (λ k. AreCopiedTo net marks part (slice_set t i (Some k)) (i + 1)) (sym c.reg_place.ensures)
    (copied_some net part part marks t i x _ r.copied r.marked r.at r.free r.operands
    (next_reg net part marks t i x r.whole r.front r.copied r.operands r.at c.in-Reg.reg c.in-Reg.is))

pub returns-in_ok-build-in_default-clause-adds : goal.returns-in_ok-build-in_default-clause-adds
returns-in_ok-build-in_default-clause-adds c =
    adds_node c.args.part.now c.build.new.net c.renamed.result c.in_ok-build-in_default.ensures.new

pub returns-in_ok-build-in_default-clause-copied : goal.returns-in_ok-build-in_default-clause-copied
returns-in_ok-build-in_default-clause-copied c =
    let net = c.args.net.now in
    let part = c.args.part.now in
    let t = c.args.places.now in
    let x = c.args.node.now in
    let marks = c.args.marks.now in
    let i = c.args.index in
    let r = c.requires in
    let op = operator_of x c.in_default.not-Input c.in_default.not-Reg in
    let id = c.in_ok-build-in_default.field-0 in
    copied_some net part c.build.new.net marks t i x id r.copied r.marked r.at r.free r.operands
    (next_built net part marks t i x r.whole r.front r.copied r.operands r.at c.build.new.net id op
    c.in_ok-build-in_default.ensures.last
    (c.in_ok-build-in_default.ensures.new ∙ ap (with_node part) c.renamed.ensures))
