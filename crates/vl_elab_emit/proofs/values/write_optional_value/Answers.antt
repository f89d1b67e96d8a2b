use Rattle.std.proofs.lemmas.Result.{on_ok_weaker}
use Rattle.vl_elab_emit.proofs.Valued.{no_value, value_may, value_behind}
use Rattle.vl_elab_emit.proofs.values.write_optional_value.Goals as goal

pub write_value-requires : goal.write_value-requires
write_value-requires c =
    value_may c.args.draft.now c.args.scopes.now c.args.kind c.args.name.now c.args.value.now c.in-Some.value
    c.in-Some.is c.requires

pub returns-in-None : goal.returns-in-None
returns-in-None c =
    no_value c.args.draft.now c.args.pos c.args.scopes.now c.args.kind c.args.name.now c.args.value.now c.in-None.is

pub returns-in-Some : goal.returns-in-Some
returns-in-Some c =
    on_ok_weaker c.write_value.result (λ e. value_behind c.args.draft.now c.write_value.new.draft c.args.pos
    c.args.scopes.now c.args.kind c.args.name.now c.args.value.now c.in-Some.value c.in-Some.is e)
    c.write_value.ensures
