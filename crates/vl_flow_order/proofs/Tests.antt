-- Tests of what sets have, of two rows of them one behind the other.
use Rattle.std.specs.Prelude.{◌≡◌, refl, Bool, true, false, ◌&&◌, ◌||◌}

pub or_assoc : (a b c : Bool) → ((a || b) || c) ≡ (a || (b || c))
or_assoc true b c = refl
or_assoc false b c = refl

pub or_none : (a : Bool) → (a || false) ≡ a
or_none true = refl
or_none false = refl

pub and_none : (a : Bool) → (a && false) ≡ false
and_none true = refl
and_none false = refl

pub nothing_across : (p y : Bool) → y ≡ (y || (p && false))
nothing_across true true = refl
nothing_across true false = refl
nothing_across false true = refl
nothing_across false false = refl

-- what a first pair meets, and what is met behind it

pub across : (a b r s x p q y : Bool)
    → ((a && (s || q)) || ((b && (r || p)) || ((x || y) || ((r && q) || (p && s)))))
    ≡ ((((a && s) || ((b && r) || x)) || y) || (((a || r) && q) || (p && (b || s))))
across true b r true x p q y = refl
across true true true false x p true y = refl
across true true false false true p true y = refl
across true true false false false p true true = refl
across true true false false false p true false = refl
across true false r false true p true y = refl
across true false r false false p true true = refl
across true false r false false p true false = refl
across true true true false x p false y = refl
across true true false false true true false y = refl
across true true false false false true false true = refl
across true true false false false true false false = refl
across true true false false x false false y = refl
across true false r false true p false y = refl
across true false r false false p false true = refl
across true false true false false p false false = refl
across true false false false false p false false = refl
across false true true s x p q y = refl
across false true false s true true q y = refl
across false true false s false true q true = refl
across false true false s false true q false = refl
across false true false s x false q y = refl
across false false r s x p q y = refl

pub and_or : (a b c : Bool)
    → ((a && c) || (b && c))
    ≡ ((a || b) && c)
and_or true b true = refl
and_or true true false = refl
and_or true false false = refl
and_or false b c = refl
