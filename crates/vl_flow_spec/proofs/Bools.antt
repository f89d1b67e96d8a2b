-- Tests joined by `and` and `or`.
use Rattle.std.specs.Prelude.{◌≡◌, refl, Bool, true, false, ◌&&◌, ◌||◌, not}
use Rattle.std.proofs.Common.{ap, sym, ◌∙◌, true≢false}

pub or_left : (a b : Bool) → a ≡ true → (a || b) ≡ true
or_left a b h = ap (λ x. x || b) h

pub or_right : (a b : Bool) → b ≡ true → (a || b) ≡ true
or_right true b h = refl
or_right false b h = h

pub or_either : (a b c : Bool) → (a ≡ true → c ≡ true) → (b ≡ true → c ≡ true) → (a || b) ≡ true → c ≡ true
or_either true b c f g h = f refl
or_either false b c f g h = g h

pub or_none : (a b : Bool) → a ≡ false → b ≡ false → (a || b) ≡ false
or_none a b h k = ap (λ x. x || b) h ∙ k

pub left_none : (a b : Bool) → (a || b) ≡ false → a ≡ false
left_none true b h = h
left_none false b h = refl

pub right_none : (a b : Bool) → (a || b) ≡ false → b ≡ false
right_none true b h = absurd (true≢false h)
right_none false b h = h

pub or_other : (a b : Bool) → (a || b) ≡ true → a ≡ false → b ≡ true
or_other true b h none = absurd (true≢false none)
or_other false b h none = h

pub or_moved : (a b c : Bool) → (a || (b || c)) ≡ true → ((a || b) || c) ≡ true
or_moved true b c h = refl
or_moved false b c h = h

pub and_both : (a b : Bool) → a ≡ true → b ≡ true → (a && b) ≡ true
and_both a b h k = ap (λ x. x && b) h ∙ k

pub and_left : (a b : Bool) → (a && b) ≡ true → a ≡ true
and_left true b h = refl
and_left false b h = h

pub and_right : (a b : Bool) → (a && b) ≡ true → b ≡ true
and_right true b h = h
and_right false b h = absurd (true≢false (sym h))

-- what isn't true is false
pub none_of : (a : Bool) → (a ≡ true → false ≡ true) → a ≡ false
none_of true f = sym (f refl)
none_of false f = refl

pub not_both : {A : Type 0} (a : Bool) → a ≡ true → a ≡ false → A
not_both a h k = absurd (true≢false (sym h ∙ k))

pub or_sure : (a b c : Bool) → c ≡ true → ((not b && c) ≡ true → a ≡ true) → (a || b) ≡ true
or_sure true b c h f = refl
or_sure false true c h f = refl
or_sure false false c h f = f h

pub or_case : {A : Type 0} (a b : Bool) → (a ≡ true → A) → (b ≡ true → A) → (a || b) ≡ true → A
or_case true b f g h = f refl
or_case false b f g h = g h
