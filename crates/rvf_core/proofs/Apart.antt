-- Truth and falsehood are apart.
use Rattle.std.proofs.Common.{◌≡◌, true, false}

pub true_false : true ≡ false → ⊥
true_false e = cc
