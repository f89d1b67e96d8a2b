use Rattle.std.proofs.Common.{◌∙◌, ap}
use Rattle.vl_mean.specs.Declarations.{class_of_attributes, class_of_kind, joined_attributes}
use Rattle.vl_elab_spec.specs.Items.{twice, placed_names}
use Rattle.vl_elab_spec.specs.Refused.{lowest}
use Rattle.vl_elab_check_scope.proofs.Known.{declared_alike}
use Rattle.vl_elab_check_scope.proofs.declarations.declaration_fault.Goals as goal

pub returns-clause-fault : goal.returns-clause-fault
returns-clause-fault c known before same names =
    let d = c.args.declaration.now in
    let class = class_of_attributes (class_of_kind d.net) (joined_attributes c.args.attributes.now) in
    declared_alike c.args.names.now known same (twice before (placed_names d.names)) d.shape.range d.net
    c.class_of_attributes-class.result class c.as_slice-all.result.now d.names c.in_ok-twice.twice c.in_ok-range.range
    c.in_ok-inner.inner c.first_of.result c.first_of-2.result
    (c.in_ok-twice.ensures.fault before names
    ∙ ap (λ xs. lowest (twice before (placed_names xs))) c.as_slice-all.ensures)
    c.in_ok-range.ensures c.in_ok-inner.ensures
    (c.class_of_attributes-class.ensures
    ∙ ap (λ k. class_of_attributes k (joined_attributes c.args.attributes.now)) c.class_of_kind.ensures)
    c.as_slice-all.ensures c.first_of.ensures c.first_of-2.ensures
