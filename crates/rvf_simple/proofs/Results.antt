-- Results that are equal.
use Rattle.std.specs.Prelude.{◌≡◌, Bool, true, false, Result, Ok, Err}
use Rattle.std.proofs.Common.{ap, true≢false}

abbrev is_ok : {A E : Type 0} → Result A E → Bool
is_ok (Ok a) = true
is_ok (Err f) = false

pub ok_err : {A E : Type 0} (a : A) (f : E) → Ok a ≡ Err f → ⊥
ok_err a f e = true≢false (ap is_ok e)

abbrev ok_or : {A E : Type 0} → A → Result A E → A
ok_or a (Ok b) = b
ok_or a (Err f) = a

pub ok_is : {A E : Type 0} (a b : A) → ◌≡◌ {A = Result A E} (Ok a) (Ok b) → a ≡ b
ok_is a b e = ap (ok_or a) e
