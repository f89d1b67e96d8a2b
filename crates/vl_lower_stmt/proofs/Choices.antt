-- Choices behind one another.
use Rattle.std.specs.Prelude.{◌≡◌, refl, ◌==◌, Bool, true, false, ◌&&◌, not, if◌then◌else◌}
use Rattle.fv_bits.specs.Bits.{bit}

pub bit_one : (b : Bool) → (bit b == 1) ≡ b
bit_one true = refl
bit_one false = refl

-- where both hold
pub where_both : {A : Type 0} (p b : Bool) (x y : A)
    → (if p && b then x else y) ≡ (if p then (if b then x else y) else y)
where_both true b x y = refl
where_both false b x y = refl

-- one of two, of which the other does nothing
pub where_either : {A : Type 0} (p b : Bool) (f h : A → A) (t : A)
    → (if p && not b then h (if p && b then f t else t) else (if p && b then f t else t))
    ≡ (if p then (if b then f t else h t) else t)
where_either true true f h t = refl
where_either true false f h t = refl
where_either false b f h t = refl

-- the same, with what else comes from both
pub where_either_also : {A B : Type 0} (p b : Bool) (f : A → A) (m n : A → B → B) (t : A) (w : B)
    → (if p && not b then n (if p && b then f t else t) (if p && b then m t w else w)
    else (if p && b then m t w else w))
    ≡ (if p then (if b then m t w else n t w) else w)
where_either_also true true f m n t w = refl
where_either_also true false f m n t w = refl
where_either_also false b f m n t w = refl

-- one behind the other
pub where_then : {A : Type 0} (p : Bool) (f h : A → A) (t : A)
    → (if p then h (if p then f t else t) else (if p then f t else t)) ≡ (if p then h (f t) else t)
where_then true f h t = refl
where_then false f h t = refl

pub where_then_also : {A B : Type 0} (p : Bool) (f : A → A) (m n : A → B → B) (t : A) (w : B)
    → (if p then n (if p then f t else t) (if p then m t w else w) else (if p then m t w else w))
    ≡ (if p then n (f t) (m t w) else w)
where_then_also true f m n t w = refl
where_then_also false f m n t w = refl
