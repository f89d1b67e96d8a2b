use Rattle.std.proofs.Common.{◌≡◌, ◌≤◌, ◌*◌, ◌+◌, length}
use Rattle.std.specs.Prelude.{drop, IfSome}
use Rattle.vl_tree.specs.Lval.{lvals, depth, lvals_depth}
use Rattle.vl_elab_emit.specs.Starts as spec
use Rattle.vl_elab_emit.proofs.bits.+target.Given as goal

abbrev pub decreases-target_bits : goal.decreases-target_bits
decreases-target_bits l = 4 * depth l.target.now

abbrev pub decreases-targets_bits : goal.decreases-targets_bits
decreases-targets_bits l = 4 * lvals_depth (lvals l.all.now) + 1

abbrev pub invariant-targets_bits-loop-place : goal.invariant-targets_bits-loop-place
invariant-targets_bits-loop-place l = record {
  within : l.place ≤ length l.all;
  bits : spec.targets_bits l.scopes (lvals (drop l.place l.all)) ≡ l.bits;
  few : IfSome l.bits (λ n. n ≤ 128);
}

abbrev pub decreases-targets_bits-loop-place : goal.decreases-targets_bits-loop-place
decreases-targets_bits-loop-place l = l.place
