use Rattle.vl_elab_names.proofs.ModulesNames.{is_absent, name_added, names_stay}
use Rattle.vl_elab_names.proofs.path.ModulePath.push.Goals as goal

pub put-requires : goal.put-requires
put-requires c =
    is_absent c.self.inside.map.entries c.in_ok-key.key.items c.args.self.now c.args.name c.self.view_is
    c.in_ok-key.ensures c.requires

pub returns-clause-ok : goal.returns-clause-ok
returns-clause-ok c =
    name_added c.put.result c.self.inside.map.entries c.put.new.map.entries c.in_ok-key.key c.args.self.now
    c.args.name c.self.view_is c.in_ok-key.ensures c.put.ensures.ok

pub returns-clause-err : goal.returns-clause-err
returns-clause-err c =
    names_stay c.put.result c.self.inside.map.entries c.put.new.map.entries c.args.self.now c.self.view_is
    c.put.ensures.err
