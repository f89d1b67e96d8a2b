use Rattle.vl_elab_draft.proofs.Tables.{no_constant, first_constant, constant_added, none_added, stay_behind}
use Rattle.vl_elab_draft.proofs.full_constants.add_among.Goals as goal

pub returns-then-is_none-clause-ok : goal.returns-then-is_none-clause-ok
returns-then-is_none-clause-ok c =
    first_constant c.args.leading.now c.args.others.now.entries _ c.is_none.result c.requires.behind c.is_none.ensures
    c.if-is_none.true

pub put-requires : goal.put-requires
put-requires c =
    no_constant c.args.leading.now c.args.others.now.entries c.args.name c.in_ok-key.key.items c.requires.fresh
    c.in_ok-key.ensures

pub returns-clause-ok : goal.returns-clause-ok
returns-clause-ok c =
    constant_added c.put.result c.args.leading.now c.args.others.now.entries c.put.new.map.entries c.in_ok-key.key
    c.args.value c.args.name c.in_ok-key.ensures c.put.ensures.ok

pub returns-clause-err : goal.returns-clause-err
returns-clause-err c =
    none_added c.put.result c.args.leading.now c.args.others.now.entries c.put.new.map.entries c.put.ensures.err

pub returns-clause-behind : goal.returns-clause-behind
returns-clause-behind c =
    stay_behind c.args.leading.now c.put.new.map.entries c.is_none.result c.is_none.ensures c.if-is_none.false
