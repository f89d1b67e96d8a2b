-- How many answers are counted.
use Rattle.std.specs.Prelude.{◌≡◌, ◌+◌}
use Rattle.std.proofs.Common.{arith}
use Rattle.rvf_judge.specs.declared.induction.Induction.{Induction}
use Rattle.rvf_judge.specs.declared.induction.Induction.TheVariants as induction
use Rattle.rvf_checks.specs.LengthCounting.{length_places, with_length}
use Rattle.rvf_checks.specs.declared.length_counts.LengthCounts.{LengthCounts}

pub places_with_length : (c : LengthCounts) (m : Induction) → length_places (with_length c m) ≡ length_places c + 1
places_with_length c induction.Skipped = omega arith
places_with_length c (induction.Fails dump) = omega arith
places_with_length c (induction.Open dump) = omega arith
places_with_length c (induction.Proved base step) = omega arith
places_with_length c (induction.SpentBase texts) = omega arith
places_with_length c (induction.SpentStep texts) = omega arith
