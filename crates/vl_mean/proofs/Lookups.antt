-- Look-ups of numbers by names in a map whose keys are bytes.
use Rattle.std.proofs.Common.{arith, ◌≡◌, ℕ, List, [], ◌∷◌, refl, ap, sym, ◌∙◌}
use Rattle.std.specs.Prelude.{drop, slice_get, zero, suc, ◌+◌, Bool, true, false, cond, Option, Some}
use Rattle.std.specs.Map.{lookup}
use Rattle.std.specs.Str.{bytes_eq}
use Rattle.std.proofs.lemmas.Option.{same_Some}
use Rattle.fv_text.proofs.Lookups.{lookup_after}
use Rattle.indexmap.specs.IndexMap.{insert_entry}
use Rattle.vl_size.specs.Size.{or_none}

of_cond : (b : Bool) (n : ℕ) (l : Option ℕ) → or_none (cond b (Some n) l) ≡ cond b n (or_none l)
of_cond true n l = refl
of_cond false n l = refl

-- where a name without a number has 0
pub number_after : {K : Type 0} (bytes : K → List ℕ) (k : K) (n : ℕ) (other : List ℕ) (old new : List (K × ℕ))
    (name : List ℕ) →
    new ≡ insert_entry (λ a b. bytes_eq (bytes a) (bytes b)) old k n → bytes k ≡ name →
    or_none (lookup (λ q. bytes_eq other (bytes q)) new)
    ≡ cond (bytes_eq name other) n (or_none (lookup (λ q. bytes_eq other (bytes q)) old))
number_after bytes k n other old new name e same =
    ap or_none (lookup_after bytes k n other old new name e same)
    ∙ of_cond (bytes_eq name other) n (lookup (λ q. bytes_eq other (bytes q)) old)

-- an entry under another name is passed over
pub lookup-past : {K : Type 0} (test : K → Bool) (es : List (K × ℕ)) (i : ℕ) (e : K × ℕ) → Some e ≡ slice_get es i
    → test e.0 ≡ false
    → lookup test (drop (i + 1) es) ≡ lookup test (drop i es)
lookup-past test [] i e h f = cc
lookup-past test (x ∷ es) zero e h f =
    ap (λ b. cond b (Some x.1) (lookup test es)) (sym (ap test (ap (λ p. p.0) (same_Some x e (sym h))) ∙ f))
lookup-past test (x ∷ es) (suc i) e h f =
    let next : suc i + 1 ≡ suc (i + 1) = omega arith in
    ap (λ j. lookup test (drop j (x ∷ es))) next ∙ lookup-past test es i e h f
