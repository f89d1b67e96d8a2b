use Rattle.std.proofs.Common.{◌≡◌, ◌++◌, codes}
use Rattle.vl_elab_names.proofs.Zeros.{noughts}
use Rattle.vl_elab_names.proofs.label_labels.genblk.Given as goal

abbrev pub invariant-loop : goal.invariant-loop
invariant-loop l = l.bytes.items ≡ codes "genblk" ++ noughts l.counter
