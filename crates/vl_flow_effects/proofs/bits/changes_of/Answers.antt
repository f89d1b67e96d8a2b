use Rattle.std.proofs.Common.{◌≡◌, [], rules}
use Rattle.vl_mean.specs.FlatLaw.{flat_scopes}
use Rattle.vl_mean.specs.Targets.{may_change}
use Rattle.vl_flow_effects.proofs.Joining.{shows_runs}
use Rattle.vl_flow_effects.proofs.bits.changes_of.Goals as goal

pub returns : goal.returns
returns c sized =
    let runs = c.target_changes.new.into.items in
    let none : c.new-runs.result.items ≡ [] = search rules in
    let same : c.as_slice.result.now ≡ runs = search rules in
    shows_runs c.args.decls.now c.new-runs.result.items runs c.as_slice.result.now c.in_ok-bits_of.field-0
    (may_change (flat_scopes c.args.decls.now) c.args.target.now) none same c.in_ok-bits_of.ensures
    (c.in_ok-target_changes.ensures sized)
