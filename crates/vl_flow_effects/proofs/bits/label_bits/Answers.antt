use Rattle.std.proofs.Common.{◌≡◌, [], rules}
use Rattle.vl_flow_spec.specs.Paths.{labels_read}
use Rattle.vl_flow_effects.proofs.Joining.{shows_runs}
use Rattle.vl_flow_effects.proofs.bits.label_bits.Goals as goal

pub returns : goal.returns
returns c sized =
    let runs = c.labels_read.new.into.items in
    let none : c.new-runs.result.items ≡ [] = search rules in
    let same : c.as_slice.result.now ≡ runs = search rules in
    shows_runs c.args.decls.now c.new-runs.result.items runs c.as_slice.result.now c.in_ok-bits_of.field-0
    (labels_read c.args.decls.now c.args.labels.now) none same c.in_ok-bits_of.ensures
    (c.in_ok-labels_read.ensures sized)
