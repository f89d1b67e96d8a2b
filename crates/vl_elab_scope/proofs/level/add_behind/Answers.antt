use Rattle.vl_elab_scope.proofs.Added.{name_kept, no_key, name_added, none_added}
use Rattle.vl_elab_scope.proofs.level.add_behind.Goals as goal

pub returns-then-is_some-clause-ok : goal.returns-then-is_some-clause-ok
returns-then-is_some-clause-ok c =
    name_kept _ c.args.name _ c.meaning_behind.result c.is_some.result c.meaning_behind.ensures c.is_some.ensures
    c.if-is_some.true

pub put-requires : goal.put-requires
put-requires c =
    no_key c.args.filled.now.first c.args.filled.now.others.entries c.args.name c.in_ok-key.key.items
    c.meaning_behind.result c.is_some.result c.meaning_behind.ensures c.is_some.ensures c.if-is_some.false
    c.in_ok-key.ensures

pub returns-clause-ok : goal.returns-clause-ok
returns-clause-ok c =
    name_added c.put.result c.args.filled.now.first c.args.filled.now.others.entries c.put.new.map.entries
    c.in_ok-key.key c.args.meaning c.args.name c.meaning_behind.result c.is_some.result c.meaning_behind.ensures
    c.is_some.ensures c.if-is_some.false c.in_ok-key.ensures c.put.ensures.ok

pub returns-clause-err : goal.returns-clause-err
returns-clause-err c =
    none_added c.put.result c.args.filled.now.first c.args.filled.now.others.entries c.put.new.map.entries
    c.put.ensures.err
