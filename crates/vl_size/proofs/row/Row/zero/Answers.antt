use Rattle.vl_size.proofs.RowLemmas.{zero_at, zero_fits}
use Rattle.vl_size.proofs.row.Row.zero.Goals as goal

pub invariant_of-result : goal.invariant_of-result
invariant_of-result c = record { fits = zero_fits }

pub returns : goal.returns
returns c = zero_at
