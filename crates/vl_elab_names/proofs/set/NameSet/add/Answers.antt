use Rattle.std.specs.Prelude.{◌||◌, bytes_eq}
use Rattle.vl_elab_names.specs.Known.{is_apart, is_other}
use Rattle.vl_elab_names.proofs.Added.{at_first, at_second, others_added, others_stay}
use Rattle.vl_elab_names.proofs.set.NameSet.add.Goals as goal

pub returns-then-is_none-clause-ok : goal.returns-then-is_none-clause-ok
returns-then-is_none-clause-ok c other =
    at_first c.args.self.now.first (bytes_eq other c.args.name)
    (is_apart c.args.self.now.second other || is_other c.args.self.now.others other) other c.is_none.result
    c.is_none.ensures c.if-is_none.true

pub returns-then-is_none-2-clause-ok : goal.returns-then-is_none-2-clause-ok
returns-then-is_none-2-clause-ok c other =
    at_second c.args.self.now.second (is_apart c.args.self.now.first other) (bytes_eq other c.args.name)
    (is_other c.args.self.now.others other) other c.is_none-2.result c.is_none-2.ensures c.if-is_none-2.true

pub returns-clause-ok : goal.returns-clause-ok
returns-clause-ok c =
    others_added c.add_other.result c.args.self.now.first c.args.self.now.second c.args.name
    (is_other c.args.self.now.others) (is_other c.add_other.new.others) c.add_other.ensures.ok

pub returns-clause-err : goal.returns-clause-err
returns-clause-err c =
    others_stay c.add_other.result c.args.self.now.first c.args.self.now.second (is_other c.args.self.now.others)
    (is_other c.add_other.new.others) c.add_other.ensures.err
