use Rattle.std.proofs.Common.{◌∙◌, ap}
use Rattle.vl_size.specs.Size.{size}
use Rattle.vl_elab_emit.proofs.constants.size.Goals as goal

pub returns-clause-value : goal.returns-clause-value
returns-clause-value c = c.self_size-2.ensures.value ∙ ap (λ ds. size ds c.args.expr.now) c.new.ensures
