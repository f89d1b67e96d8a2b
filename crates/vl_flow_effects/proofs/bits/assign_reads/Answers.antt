use Rattle.std.proofs.Common.{◌≡◌, [], ◌||◌, rules}
use Rattle.vl_flow_spec.specs.Paths.{target_reads}
use Rattle.vl_flow_spec.specs.Reads.{reads}
use Rattle.vl_flow_effects.proofs.Joining.{adds_both, shows_runs}
use Rattle.vl_flow_effects.proofs.bits.assign_reads.Goals as goal

pub returns : goal.returns
returns c one other =
    let ds = c.args.decls.now in
    let J = target_reads ds c.args.target.now in
    let K = reads ds c.args.expr.now in
    let first = c.new-runs.result.items in
    let mid = c.target_reads.new.into.items in
    let runs = c.expr_reads.new.into.items in
    let none : first ≡ [] = search rules in
    let same : c.as_slice.result.now ≡ runs = search rules in
    shows_runs ds first runs c.as_slice.result.now c.in_ok-bits_of.field-0 (λ n i. J n i || K n i) none same
    c.in_ok-bits_of.ensures
    (adds_both ds first mid runs J K (c.in_ok-target_reads.ensures one) (c.in_ok-expr_reads.ensures other))
