-- Tests of what is read before, of two statements one after the other.
use Rattle.std.specs.Prelude.{◌≡◌, refl, Bool, true, false, ◌&&◌, ◌||◌, not}

pub or_assoc : (a b c : Bool) → ((a || b) || c) ≡ (a || (b || c))
or_assoc true b c = refl
or_assoc false b c = refl

pub or_none : (a : Bool) → (a || false) ≡ a
or_none true = refl
or_none false = refl

pub and_assoc : (a b c : Bool) → ((a && b) && c) ≡ (a && (b && c))
and_assoc true b c = refl
and_assoc false b c = refl

pub and_all : (a : Bool) → (a && true) ≡ a
and_all true = refl
and_all false = refl

pub and_none : (a : Bool) → (a && false) ≡ false
and_none true = refl
and_none false = refl

-- needed by the first, or by one behind it that doesn't come after it was set
pub needed : (a s n t m : Bool) → (a || (not s && (n || (m && not t)))) ≡ ((a || (not s && n)) || (m && not (s || t)))
needed true s n t m = refl
needed false true n t true = refl
needed false true n t false = refl
needed false false n t m = refl

pub needed_one : (a s : Bool) → (a || (not s && false)) ≡ a
needed_one true s = refl
needed_one false true = refl
needed_one false false = refl

-- the same with arms, where nothing is set before
pub or_three : (a b c d : Bool) → (a || (b || (c || d))) ≡ ((a || (b || c)) || d)
or_three true b c d = refl
or_three false true c d = refl
or_three false false c d = refl

pub or_same : (a : Bool) → (a || a) ≡ a
or_same true = refl
or_same false = refl

-- the first of each pair, and the second of each
pub or_pairs : (a b c d : Bool) → ((a || b) || (c || d)) ≡ ((a || c) || (b || d))
or_pairs true b c d = refl
or_pairs false true true d = refl
or_pairs false true false d = refl
or_pairs false false c d = refl

pub either_way : (k m : Bool) → ((k && m) || (not k && m)) ≡ m
either_way true true = refl
either_way true false = refl
either_way false m = refl
