use Rattle.std.proofs.Common.{◌∙◌, refl, get_or}
use Rattle.lrat_check.specs.Store.{held_of}
use Rattle.lrat_check.proofs.Stores.{deleted_step}
use Rattle.lrat_check.proofs.held.delete.Goals as goal

pub loop-old-preserved : goal.loop-old-preserved
loop-old-preserved c = (
  deleted_step (held_of c.loop-old.held) (held_of c.remove.new.held) c.args.id c.args.ids.now c.loop-old.old-index
      (get_or c.args.ids.now c.loop-old.old-index 0) c.loop-old-test.true refl c.if-not-remove.ensures.forgets
      ∙ c.loop-old.invariant.0,
  c.if-not-remove.ensures.next ∙ c.loop-old.invariant.1,
)
