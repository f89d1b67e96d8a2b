use Rattle.std.proofs.Common.{◌≡◌, ◌+◌, ◌*◌, ◌≤◌, drop}
use Rattle.vl_elab.specs.Bits.{all_outside}
use Rattle.vl_elab.proofs.count.all_outside.Given as goal

abbrev pub invariant-loop-mask : goal.invariant-loop-mask
invariant-loop-mask l = record {
  count : l.count + all_outside l.width (drop l.mask-index l.masks) ≡ all_outside l.width l.masks;
  few : l.count ≤ 128 * l.mask-index;
}
