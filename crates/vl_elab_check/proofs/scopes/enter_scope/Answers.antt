use Rattle.vl_tree.specs.Item.{items}
use Rattle.vl_elab_check.proofs.Places.{block_entered}
use Rattle.vl_elab_check.proofs.Plain.{items_plain}
use Rattle.vl_elab_names.specs.Known.{contains}
use Rattle.vl_elab_check.proofs.scopes.enter_scope.Goals as goal

pub returns-clause-here : goal.returns-clause-here
returns-clause-here c at path text h formed =
    let xs = items c.args.all.now in
    block_entered c.enter_block.new.names c.enter_block.new.numbers c.enter_block.new.around c.args.inside.now.clocks
    c.new-2.result c.in_ok-reached.reached c.new-3.result c.new-2.ensures path at text xs h.modules
    (c.in_ok-enter_block.ensures.stands at text (contains c.args.inside.now.clocks) h.before h.stands
    (items_plain xs formed))
    (c.in_ok-enter_block.ensures.shapes at text (contains c.args.inside.now.clocks) h.before h.stands)
    (c.in_ok-enter_block.ensures.parameters at text (contains c.args.inside.now.clocks) h.before h.stands
    (items_plain xs formed))
    c.in_ok-reached.ensures c.new-3.ensures
