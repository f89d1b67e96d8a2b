use Rattle.std.proofs.Common.{◌∙◌, ap}
use Rattle.vl_size.specs.Sign.{sign}
use Rattle.vl_size.specs.Size.{operand_of, or_none, own, size}
use Rattle.vl_elab_const.proofs.number.own_alone.Goals as goal

pub returns-clause-width : goal.returns-clause-width
returns-clause-width c =
    c.own_number.ensures.width ∙ ap (λ ds. or_none (size ds c.args.expr.now)) c.no_names.ensures.decls

pub returns-clause-signed : goal.returns-clause-signed
returns-clause-signed c = c.own_number.ensures.signed ∙ ap (λ ds. sign ds c.args.expr.now) c.no_names.ensures.decls

pub returns-clause-number : goal.returns-clause-number
returns-clause-number c =
    c.own_number.ensures.number
    ∙ (λ i. own (operand_of (c.no_names.ensures.decls i) (c.no_names.ensures.numbers i) c.args.expr.now))
