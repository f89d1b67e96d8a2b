use Rattle.std.proofs.Common.{◌≡◌, length}
use Rattle.vl_prep.specs.Prep as specs
use Rattle.vl_prep.specs.Stands.{done_of, KeepsFresh}
use Rattle.vl_prep.proofs.reader.refuse_opens.Given as goal

abbrev pub invariant-loop-place : goal.invariant-loop-place
invariant-loop-place l = (specs.all_refused l.opens (done_of l.prepared)
    ≡ specs.all_refused l.fn.opens (done_of l.fn.prepared)) × KeepsFresh l.fn.prepared l.prepared

abbrev pub decreases-loop-place : goal.decreases-loop-place
decreases-loop-place l = length l.opens
