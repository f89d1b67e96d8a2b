use Rattle.std.proofs.Common.{◌∙◌, refl, ap}
use Rattle.std.specs.Prelude.{is_none}
use Rattle.vl_mean.specs.Cells.{contains_name}
use Rattle.vl_elab_check_item.proofs.Contexts.{copied_none}
use Rattle.vl_elab_check_instance.proofs.Reasons.{none_refused, same_reasons}
use Rattle.vl_elab_check_instance.proofs.instances.instance_fault.Goals as goal

pub returns-then-are_none : goal.returns-then-are_none
returns-then-are_none c at names path =
    let x = c.args.instance.now in
    none_refused c.is_none-missing.result c.contains-twice.result c.contains-within.result c.are_none.result
    c.args.pos x at.modules c.are_none.ensures c.if-are_none.true
    ∙ same_reasons _ _ _ _ _ _ c.args.pos x at.modules at.modules
    (copied_none c.is_none-missing.result c.find.result c.is_none-missing.ensures ∙ ap is_none c.find.ensures)
    (c.contains-twice.ensures ∙ names x.name)
    (c.contains-within.ensures ∙ ap (λ ns. contains_name ns x.definition) path) refl

pub returns : goal.returns
returns c at names path =
    let x = c.args.instance.now in
    c.in_ok-fault.ensures
    ∙ same_reasons _ _ _ _ _ _ c.args.pos x c.args.path.now at.modules
    (copied_none c.is_none-missing.result c.find.result c.is_none-missing.ensures ∙ ap is_none c.find.ensures)
    (c.contains-twice.ensures ∙ names x.name)
    (c.contains-within.ensures ∙ ap (λ ns. contains_name ns x.definition) path) path
