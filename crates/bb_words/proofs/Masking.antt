-- Bits that are masked by one more.
use Rattle.std.specs.Prelude.{◌≡◌, refl, Bool, ◌&&◌, List, [], ◌∷◌, map}
use Rattle.std.proofs.Common.{ap}
use Rattle.bb_aig.specs.Bits.{paired}

-- each bit with another one
pub paired_masked : (b : Bool) (xs : List Bool) → paired (λ u v. b && v) xs xs ≡ map (λ v. b && v) xs
paired_masked b [] = refl
paired_masked b (x ∷ xs) = ap (λ bs. (b && x) ∷ bs) (paired_masked b xs)
