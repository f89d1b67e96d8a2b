-- What is known of the steps of a refutation, by the search that found it.
use Rattle.std.proofs.Common.{◌≡◌, ℕ, zero, suc, ◌<◌, Result, IfOk, sym, subst, arith}
use Rattle.cnf_form.specs.Cnf.{Cnf}
use Rattle.fv_text.specs.declared.memory.Memory.{Memory}
use Rattle.bm_decide.specs.Searches.{TakesFewer}
use Rattle.sat_cubes.specs.Splits.{TellsCubes}
use Rattle.sat_search.specs.declared.found.Found.{Found}
use Rattle.sat_search.specs.Found.{IfRefuted}
use Rattle.rvf_checks.specs.Known.{known_of}

pub known_whole : (cubes budget : ℕ) (formula : Cnf) (found : Result Found Memory) → cubes ≡ 0
    → IfOk found (λ f. IfRefuted f (TakesFewer budget formula))
    → IfOk found (λ f. IfRefuted f (known_of cubes budget formula))
known_whole cubes budget formula found e h =
    subst (λ n. IfOk found (λ f. IfRefuted f (known_of n budget formula))) (sym e) h

pub known_split : (cubes budget : ℕ) (formula : Cnf) (found : Result Found Memory) → 0 < cubes
    → IfOk found (λ f. IfRefuted f (TellsCubes formula cubes budget))
    → IfOk found (λ f. IfRefuted f (known_of cubes budget formula))
known_split zero budget formula found some h = absurd (omega (arith, some))
known_split (suc n) budget formula found some h = h
