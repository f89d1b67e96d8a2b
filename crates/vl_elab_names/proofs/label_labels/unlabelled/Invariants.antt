use Rattle.std.proofs.Common.{◌≡◌, ℕ, List, length}
use Rattle.vl_elab_names.specs.Known.{AreNames}
use Rattle.vl_elab_names.proofs.Zeros.{GoesOn}
use Rattle.vl_elab_names.proofs.label_labels.unlabelled.Given as goal

abbrev pub invariant-loop-zeros : goal.invariant-loop-zeros
invariant-loop-zeros l =
    (all : List (List ℕ)) → AreNames l.names all → l.count ≡ length all → GoesOn l.count l.number l.zeros all
