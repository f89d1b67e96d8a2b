use Rattle.std.proofs.Common.{[], subst, sym}
use Rattle.std.specs.Prelude.{if◌then◌else◌}
use Rattle.fv_bit_sets.specs.Cells.{has}
use Rattle.vl_flow_spec.specs.Assigned.{target_names}
use Rattle.vl_flow_order.specs.Names.{AreNames}
use Rattle.vl_flow_order.proofs.Naming.{none_named}
use Rattle.vl_flow_effects.proofs.assigned.names_if.Goals as goal

pub returns-then-counts : goal.returns-then-counts
returns-then-counts c =
    subst (λ b. AreNames c.args.decls.now (if b then target_names c.args.target.now else [])
    (has c.in_ok-target_names.field-0)) (sym c.if-counts.true) c.in_ok-target_names.ensures

pub returns : goal.returns
returns c =
    let ds = c.args.decls.now in
    subst (λ b. AreNames ds (if b then target_names c.args.target.now else []) (has c.none.result))
    (sym c.if-counts.false) (none_named ds (has c.none.result) c.none.ensures)
