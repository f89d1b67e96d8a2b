use Rattle.std.specs.Prelude.{None}
use Rattle.vl_tree.specs.declared.declaration.NetKind.TheVariants as net
use Rattle.vl_size.specs.declared.decl.Class.TheVariants as class
use Rattle.vl_mean.specs.Declarations.{class_of_attributes, joined_attributes}
use Rattle.vl_elab_spec.specs.Items.{twice, placed_names}
use Rattle.vl_elab_check_scope.proofs.Known.{integers_alike}
use Rattle.vl_elab_check_scope.proofs.declarations.integer_fault.Goals as goal

pub returns-clause-fault : goal.returns-clause-fault
returns-clause-fault c known before same names =
    integers_alike c.args.names.now known same (twice before (placed_names c.args.all.now)) None net.Reg
    c.class_of_attributes-class.result
    (class_of_attributes class.Variable (joined_attributes c.args.attributes.now)) c.args.all.now c.in_ok-twice.twice
    c.in_ok-inner.inner c.first_of.result (c.in_ok-twice.ensures.fault before names) c.in_ok-inner.ensures
    c.class_of_attributes-class.ensures c.first_of.ensures
