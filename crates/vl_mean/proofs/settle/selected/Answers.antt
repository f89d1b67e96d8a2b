use Rattle.std.proofs.Common.{◌∙◌, ap, sym}
use Rattle.vl_tree.specs.Expr.{number}
use Rattle.vl_mean.specs.Constants.{number_of}
use Rattle.vl_size.specs.Size.{cells_in}
use Rattle.vl_mean.proofs.Making.{none_selected, some_selected}
use Rattle.vl_mean.proofs.settle.selected.Goals as goal

pub returns-in-None : goal.returns-in-None
returns-in-None c =
    none_selected c.args.pos c.args.text.now c.args.name c.args.value.now _
    (c.decls.ensures ∙ c.in_ok-env.ensures.decls) (sym c.in-None.is ∙ c.size_of.ensures.value)

pub returns : goal.returns
returns c =
    c.numbered.ensures ∙ ap (number c.args.pos) (c.number_of.ensures ∙ ap number_of c.cut_to.ensures)
    ∙ some_selected c.args.pos c.args.text.now c.args.name c.args.value.now _ _ _ c.in-Some.width c.value-number.result
    (c.decls.ensures ∙ c.in_ok-env.ensures.decls) c.in_ok-env.ensures.decls (ap cells_in c.in_ok-env.ensures.numbers)
    (sym c.in-Some.is ∙ c.size_of.ensures.value)
    c.value-number.ensures.value
