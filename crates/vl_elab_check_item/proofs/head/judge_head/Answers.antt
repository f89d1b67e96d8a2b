use Rattle.std.proofs.Common.{◌≡◌, ◌∙◌, ap, sym, List}
use Rattle.std.proofs.lemmas.Result.{IfOk-weaker}
use Rattle.vl_elab_spec.specs.Meanings.{Names, meaning_in}
use Rattle.vl_elab_check_item.specs.declared.head.Variable.TheVariants as v
use Rattle.vl_elab_check_item.specs.TurnParts.{variable_of, head_fault}
use Rattle.vl_elab_check_item.proofs.head.judge_head.Goals as goal

pub returns-in-Genvar-clause-fault : goal.returns-in-Genvar-clause-fault
returns-in-Genvar-clause-fault c =
    let ns = c.args.names.now in
    let numbers = c.args.numbers.now in
    let head = c.args.head.now in
    IfOk-weaker c.genvar_head.result (λ g. g ≡ head_fault ns numbers c.args.pos head v.Genvar)
    (λ g. g ≡ head_fault ns numbers c.args.pos head (variable_of (meaning_in ns head.variable)))
    (λ g h. h ∙ ap (head_fault ns numbers c.args.pos head) (sym c.in-Genvar.is ∙ c.variable_of.ensures
    ∙ ap variable_of c.meaning.ensures.value)) c.genvar_head.ensures.fault

pub returns-in-Other-clause-fault : goal.returns-in-Other-clause-fault
returns-in-Other-clause-fault c =
    let ns = c.args.names.now in
    let numbers = c.args.numbers.now in
    let head = c.args.head.now in
    IfOk-weaker c.other_head.result
    (λ g. (numbers : List Names) → g ≡ head_fault ns numbers c.args.pos head v.Other)
    (λ g. g ≡ head_fault ns numbers c.args.pos head (variable_of (meaning_in ns head.variable)))
    (λ g h. h numbers ∙ ap (head_fault ns numbers c.args.pos head) (sym c.in-Other.is ∙ c.variable_of.ensures
    ∙ ap variable_of c.meaning.ensures.value)) c.other_head.ensures
