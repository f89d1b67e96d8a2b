use Rattle.vl_elab_spec.proofs.Inner.{turn_items, scope_items, nested_item}
use Rattle.vl_elab_spec.proofs.unfold_law.blocks_are_walked_by_their_items.Goals as goal

pub returns-clause-turn : goal.returns-clause-turn
returns-clause-turn c = turn_items

pub returns-clause-scope : goal.returns-clause-scope
returns-clause-scope c = scope_items

pub returns-clause-nested : goal.returns-clause-nested
returns-clause-nested c = nested_item
