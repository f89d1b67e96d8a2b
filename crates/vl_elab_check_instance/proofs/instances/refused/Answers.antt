use Rattle.std.proofs.Common.{◌∙◌, ◌++◌}
use Rattle.vl_elab_spec.specs.declared.elab_fault.ElabFault.TheVariants as f
use Rattle.vl_elab_spec.specs.Expressions.{refused_if}
use Rattle.vl_elab_check_expr.proofs.Lowest.{lowest_two}
use Rattle.vl_elab_check_instance.proofs.instances.refused.Goals as goal

pub returns : goal.returns
returns c =
    let x = c.args.instance.now in
    let gone = refused_if c.args.missing (f.NoModule x.definition) in
    let twice = refused_if c.args.twice (f.Twice x.name c.args.pos) in
    let within = refused_if c.args.within (f.Recursive c.args.path.now) in
    c.first_of-2.ensures
    ∙ lowest_two (gone ++ twice) within _ _
    (c.first_of.ensures ∙ lowest_two gone twice _ _ c.in_ok-module.ensures c.in_ok-twice.ensures)
    c.in_ok-inner.ensures
