use Rattle.vl_elab_scope.specs.Seen.{seen, names_in}
use Rattle.vl_elab_scope.proofs.Added.{named_added, ok_added, err_added}
use Rattle.vl_elab_scope.proofs.level.Level.add.Goals as goal

pub invariant_of-self : goal.invariant_of-self
invariant_of-self c =
    named_added c.add_among.result (names_in c.self.inside.filled) (names_in c.add_among.new.filled) c.args.name
    (seen c.args.meaning) c.self.invariant c.requires c.add_among.ensures.ok c.add_among.ensures.err

pub returns-clause-ok : goal.returns-clause-ok
returns-clause-ok c =
    ok_added c.add_among.result (names_in c.self.inside.filled) c.args.self.now (names_in c.add_among.new.filled)
    c.args.name (seen c.args.meaning) c.self.view_is c.add_among.ensures.ok

pub returns-clause-err : goal.returns-clause-err
returns-clause-err c =
    err_added c.add_among.result (names_in c.self.inside.filled) c.args.self.now (names_in c.add_among.new.filled)
    c.self.view_is c.add_among.ensures.err
