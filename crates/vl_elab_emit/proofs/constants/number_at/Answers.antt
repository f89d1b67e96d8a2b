use Rattle.std.proofs.Common.{◌≡◌, ◌∙◌, []}
use Rattle.vl_size.specs.Size.{cell_name, value, no_names}
use Rattle.vl_mean.specs.Env.{cells_of}
use Rattle.vl_elab_emit.proofs.constants.number_at.Goals as goal

pub returns-clause-value : goal.returns-clause-value
returns-clause-value c =
    let none : c.new-env.result.decls ≡ [] = c.new-env.ensures.decls ∙ c.new.ensures in
    let zeros : cells_of c.new-env.result ≡ no_names = λ i name index. c.new-env.ensures.numbers
    (cell_name name index) i in
    c.value.ensures.value ∙ (λ i. value (none i) (zeros i) c.args.width c.args.signed c.args.expr.now)
