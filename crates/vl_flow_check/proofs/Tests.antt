-- Tests of several drivers.
use Rattle.std.specs.Prelude.{◌≡◌, refl, Bool, true, false, ◌&&◌, ◌||◌}

pub none_and : (a b : Bool) → ((a && false) || b) ≡ b
none_and true b = refl
none_and false b = refl

pub or_same : (a : Bool) → (a || a) ≡ a
or_same true = refl
or_same false = refl

-- a driver that writes, beside those that read before and behind it
pub shared_one : (b v a c r x : Bool)
    → ((b && (v || a)) || ((c && (r || v)) || x))
    ≡ (((b || c) && v) || ((r && c) || ((b && a) || x)))
shared_one true true a c r x = refl
shared_one true false true true true x = refl
shared_one true false true false true x = refl
shared_one true false true c false x = refl
shared_one true false false true true x = refl
shared_one true false false true false x = refl
shared_one true false false false true true = refl
shared_one true false false false false true = refl
shared_one true false false false true false = refl
shared_one true false false false false false = refl
shared_one false true a true true x = refl
shared_one false false a true true x = refl
shared_one false v a true false x = refl
shared_one false v a false true true = refl
shared_one false v a false false true = refl
shared_one false v a false true false = refl
shared_one false v a false false false = refl
