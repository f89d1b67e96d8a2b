use Rattle.vl_elab_check_instance.specs.Ports.{direction_in}
use Rattle.fv_text.proofs.Lookups.{lookup_after}
use Rattle.vl_elab_check_instance.proofs.Directions.{said, direction_kept, direction_put}
use Rattle.vl_elab_check_instance.proofs.ports.PortTable.add.Goals as goal

pub returns-then-is_some : goal.returns-then-is_some
returns-then-is_some c other =
    direction_kept (direction_in c.args.self.now) c.args.name other c.args.direction
    (said c.args.self.now c.bytes.result.now c.args.name c.is_some.result _ c.get.result c.is_some.ensures
    c.if-is_some.true c.get.ensures.value c.bytes.ensures)

pub returns : goal.returns
returns c other =
    direction_put (direction_in c.args.self.now) c.args.name other c.args.direction _
    (said c.args.self.now c.bytes.result.now c.args.name c.is_some.result _ c.get.result c.is_some.ensures
    c.if-is_some.false c.get.ensures.value c.bytes.ensures)
    (lookup_after (λ key. key.items) _ c.args.direction other _ _ _ c.in_ok-insert.ensures.entries c.in_ok-key.ensures)
