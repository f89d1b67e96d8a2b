-- All numbers below one.
use Rattle.std.specs.Prelude.{◌≡◌, refl, ℕ, zero, suc, ◌+◌, ◌<◌, ◌==◌, [], ◌∷◌, ◌++◌, length, Bool, true, false, Some}
use Rattle.std.specs.Prelude.{slice_get}
use Rattle.std.proofs.Common.{ap, sym, ◌∙◌, arith}
use Rattle.std.proofs.lemmas.Bool.Decides.{nat_tests}
use Rattle.vl_lower_spec.specs.Sources.{below}
use Rattle.vl_lower_spec.proofs.Bits.{below_many}
use Rattle.vl_lower_cell_laws.proofs.SourcesLists.{further, within}

pub below_there : (n k : ℕ) → k < n → slice_get (below n) k ≡ Some k
below_there zero k less = absurd (omega (arith, less))
below_there (suc n) k less = by (k == n) refl (below_there n k)
  where
    by : (c : Bool) → (k == n) ≡ c → (k < n → slice_get (below n) k ≡ Some k)
        → slice_get (below n ++ n ∷ []) k ≡ Some k
    by true e h =
        let same : k ≡ n = grind (arith, nat_tests, e) in
        let last : k ≡ length (below n) + 0 = omega (arith, same, below_many n) in
        ap (slice_get (below n ++ n ∷ [])) last ∙ further (below n) (n ∷ []) 0 ∙ ap Some (sym same)
    by false e h =
        let lower : k < n = grind (arith, nat_tests, e, less) in
        within (below n) (n ∷ []) k k (h lower)
