use Rattle.std.proofs.lemmas.Result.{on_ok_weaker}
use Rattle.vl_tree.specs.Item.{items}
use Rattle.vl_elab_const.specs.Given.{value_given}
use Rattle.vl_elab_flatten.proofs.Entered.{both_added}
use Rattle.vl_elab_flatten.proofs.modules.constants_of.Goals as goal

pub returns : goal.returns
returns c =
    on_ok_weaker c.add_items.result (λ added. both_added (value_given c.args.given.now) c.args.header.now
    (items c.args.all.now) c.args.scope.now c.add_header.new.scope c.add_items.new.scope c.args.numbers.now
    c.add_header.new.numbers c.add_items.new.numbers c.in_ok-add_header.ensures added) c.add_items.ensures
