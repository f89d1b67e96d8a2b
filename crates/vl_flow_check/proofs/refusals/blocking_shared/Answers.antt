use Rattle.std.proofs.Common.{[], ◌∙◌, ap, sym, length}
use Rattle.vl_tree.specs.declared.stmt.AssignKind.TheVariants as a
use Rattle.vl_flow_spec.specs.Drivers.{needed_by}
use Rattle.vl_flow_spec.specs.Refusals.{has_bit, is_shared}
use Rattle.vl_flow_order.specs.Sets.{crosses}
use Rattle.vl_flow_check.specs.declared.which.Which.TheVariants as w
use Rattle.vl_flow_check.specs.Rows.{picked}
use Rattle.vl_flow_check.proofs.RowLists.{rows_length}
use Rattle.vl_flow_check.proofs.Shared.{shared_marked}
use Rattle.vl_flow_check.proofs.refusals.blocking_shared.Goals as goal

pub name_rows-requires : goal.name_rows-requires
name_rows-requires c = c.requires.footprints.size ∙ sym c.requires.assigned.size

pub crossing_of-requires : goal.crossing_of-requires
crossing_of-requires c =
    let ds = c.args.decls.now in
    let drivers = c.args.drivers.now in
    ap length c.as_slice.ensures.value
    ∙ rows_length ds (λ x. has_bit (needed_by ds x.what)) c.in_ok-reads.reads.items drivers
    (c.in_ok-reads.ensures ds drivers c.requires)
    ∙ sym (ap length c.as_slice-2.ensures.value
    ∙ rows_length ds (picked w.Clocked a.Blocking) c.in_ok-writes.writes.items drivers
    (c.in_ok-writes.ensures ds drivers c.requires))

pub first_named-requires-clause-marked : goal.first_named-requires-clause-marked
first_named-requires-clause-marked c =
    let ds = c.args.decls.now in
    let drivers = c.args.drivers.now in (
      is_shared ds [] drivers,
      shared_marked ds c.in_ok-reads.reads.items c.in_ok-writes.writes.items c.in_ok-crossing.crossing.both drivers
          (c.in_ok-reads.ensures ds drivers c.requires) (c.in_ok-writes.ensures ds drivers c.requires)
          (λ p i. c.in_ok-crossing.ensures.both p i
          ∙ (λ j. crosses (c.as_slice.ensures.value j) (c.as_slice-2.ensures.value j) p i)),
    )

pub returns : goal.returns
returns c =
    let ds = c.args.decls.now in
    let drivers = c.args.drivers.now in
    c.in_ok-first_named.ensures (is_shared ds [] drivers)
    (shared_marked ds c.in_ok-reads.reads.items c.in_ok-writes.writes.items c.in_ok-crossing.crossing.both drivers
    (c.in_ok-reads.ensures ds drivers c.requires) (c.in_ok-writes.ensures ds drivers c.requires)
    (λ p i. c.in_ok-crossing.ensures.both p i
    ∙ (λ j. crosses (c.as_slice.ensures.value j) (c.as_slice-2.ensures.value j) p i)))
