use Rattle.std.proofs.Common.{sym, ap, ◌∙◌}
use Rattle.fv_bit_sets.specs.Cells.{has}
use Rattle.vl_mean.specs.FlatLaw.{flat_scopes}
use Rattle.vl_mean.specs.FlatParts.{driver_part}
use Rattle.vl_mean.specs.Runs.{is_driven_by}
use Rattle.vl_flow_spec.specs.Drivers.{driven_by}
use Rattle.vl_flow_effects.proofs.driven.driven_by.Goals as goal

pub returns-in-Assign : goal.returns-in-Assign
returns-in-Assign c sized x n i at =
    c.none.ensures x i
    ∙ sym (ap (λ w. is_driven_by (driver_part (flat_scopes c.args.decls.now) w) n i) c.in-Assign.is)

pub returns-in-Clocked : goal.returns-in-Clocked
returns-in-Clocked c sized x n i at =
    c.none-in-Clocked.ensures x i
    ∙ sym (ap (λ w. is_driven_by (driver_part (flat_scopes c.args.decls.now) w) n i) c.in-Clocked.is)

pub returns-in_ok-uses-in-Comb : goal.returns-in_ok-uses-in-Comb
returns-in_ok-uses-in-Comb c sized x n i at =
    let ds = c.args.decls.now in
    ap (λ s. has s x i) c.assigned_in.ensures ∙ (c.in_ok-uses-in-Comb.ensures sized).drives x n i at
    ∙ ap (λ w. driven_by ds w n i) c.in-Comb.is
    ∙ sym (ap (λ w. is_driven_by (driver_part (flat_scopes ds) w) n i) c.in-Comb.is)
