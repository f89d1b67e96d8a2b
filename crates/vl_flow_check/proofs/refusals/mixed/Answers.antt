use Rattle.std.proofs.Common.{◌∙◌, sym}
use Rattle.vl_flow_spec.specs.Refusals.{is_mixed}
use Rattle.vl_flow_check.proofs.Shared.{mixed_marked}
use Rattle.vl_flow_check.proofs.refusals.mixed.Goals as goal

pub names_of-requires : goal.names_of-requires
names_of-requires c = c.requires.footprints.size ∙ sym c.requires.assigned.size

pub names_of-requires-2 : goal.names_of-requires-2
names_of-requires-2 c = c.requires.footprints.size ∙ sym c.requires.assigned.size

pub names_of-requires-3 : goal.names_of-requires-3
names_of-requires-3 c = c.requires.footprints.size ∙ sym c.requires.assigned.size

pub first_named-requires-clause-marked : goal.first_named-requires-clause-marked
first_named-requires-clause-marked c =
    let ds = c.args.decls.now in
    let xs = c.args.drivers.now in (
      is_mixed xs,
      mixed_marked ds c.in_ok-now.now c.in_ok-later.later c.in_ok-waiting.waiting c.in_ok-both.both
          c.in_ok-marked.marked xs (c.in_ok-now.ensures ds xs c.requires) (c.in_ok-later.ensures ds xs c.requires)
          (c.in_ok-waiting.ensures ds xs c.requires) c.in_ok-both.ensures c.in_ok-marked.ensures,
    )

pub returns : goal.returns
returns c =
    let ds = c.args.decls.now in
    let xs = c.args.drivers.now in
    c.in_ok-first_named.ensures (is_mixed xs)
    (mixed_marked ds c.in_ok-now.now c.in_ok-later.later c.in_ok-waiting.waiting c.in_ok-both.both
    c.in_ok-marked.marked xs (c.in_ok-now.ensures ds xs c.requires) (c.in_ok-later.ensures ds xs c.requires)
    (c.in_ok-waiting.ensures ds xs c.requires) c.in_ok-both.ensures c.in_ok-marked.ensures)
