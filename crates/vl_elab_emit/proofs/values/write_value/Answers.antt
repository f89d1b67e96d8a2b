use Rattle.std.proofs.lemmas.Result.{on_ok_weaker}
use Rattle.vl_elab_emit.proofs.Valued.{wire_behind, reg_behind, reg_begins}
use Rattle.vl_elab_emit.proofs.values.write_value.Goals as goal

pub write_start-requires : goal.write_start-requires
write_start-requires c =
    reg_begins c.args.draft.now c.args.scopes.now c.args.kind c.args.name.now c.in_ok-target.target c.args.value.now
    c.in-Reg.is c.in_ok-target.ensures c.requires

pub returns-in-Wire : goal.returns-in-Wire
returns-in-Wire c =
    on_ok_weaker c.write_equation.result (λ e. wire_behind c.args.draft.now c.write_equation.new.draft c.args.pos
    c.args.scopes.now c.args.kind c.args.name.now c.in_ok-target.target c.args.value.now c.in-Wire.is
    c.in_ok-target.ensures e) c.write_equation.ensures.ok

pub returns : goal.returns
returns c =
    on_ok_weaker c.write_start.result (λ e. reg_behind c.args.draft.now c.write_start.new.draft c.args.pos
    c.args.scopes.now c.args.kind c.args.name.now c.in_ok-target.target c.args.value.now c.in-Reg.is
    c.in_ok-target.ensures e) c.write_start.ensures.ok
