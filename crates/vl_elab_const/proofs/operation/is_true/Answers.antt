use Rattle.std.proofs.Common.{ap, sym}
use Rattle.std.specs.Prelude.{◌==◌, not}
use Rattle.vl_size.proofs.RowLemmas.{extended_same}
use Rattle.vl_elab_const.proofs.operation.is_true.Goals as goal

pub returns : goal.returns
returns c = ap (λ n. not (n == 0)) (sym (extended_same c.args.x.width c.args.x.value c.args.x.signed c.args.x.value_fits))
