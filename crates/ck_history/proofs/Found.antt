-- Searches among entries.
use Rattle.std.specs.Prelude.{◌≡◌, refl, ℕ, zero, suc, ◌+◌, ◌≤◌, ◌==◌, if◌then◌else◌, Bool, true, false, List, [], ◌∷◌}
use Rattle.std.specs.Prelude.{length, drop}
use Rattle.std.proofs.Common.{ap, arith}
use Rattle.ck_history.specs.Entries.{Entry}
use Rattle.ck_history.specs.declared.sought.Sought.{Sought}
use Rattle.ck_history.specs.Searches.{is_sought, agrees, first_agrees}

-- a test of what is chosen
pub chosen_is : (b : Bool) (x y : ℕ) → ((if b then x else y) == 1) ≡ (if b then x == 1 else y == 1)
chosen_is true x y = refl
chosen_is false x y = refl

none_left : (k : ℕ) (es : List Entry) → length es ≤ k → drop k es ≡ []
none_left zero [] h = refl
none_left zero (e ∷ es) h = absurd (omega (arith, h))
none_left (suc k) [] h = refl
none_left (suc k) (e ∷ es) h = none_left k es (omega (arith, h))

-- behind the last entry none is sought
pub agrees_at_end : (s : Sought) (own : Entry) (k : ℕ) (es : List Entry) → length es ≡ k
    → first_agrees s own (drop k es) ≡ true
agrees_at_end s own k es long = ap (first_agrees s own) (none_left k es (omega (arith, long)))

-- one entry more
pub agrees_from : (s : Sought) (own e : Entry) (i : ℕ) (es : List Entry) → drop i es ≡ e ∷ drop (i + 1) es
    → first_agrees s own (drop i es)
    ≡ (if is_sought s own e then agrees s.word own e else first_agrees s own (drop (i + 1) es))
agrees_from s own e i es here = ap (first_agrees s own) here
