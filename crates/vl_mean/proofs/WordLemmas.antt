-- Texts with a front.
use Rattle.std.specs.Prelude.{◌≡◌, refl, ℕ, List, [], ◌∷◌, ◌++◌, length, take, drop, Bool, true, false, ◌&&◌, nat_eq}
use Rattle.std.specs.Prelude.{bytes_eq}
use Rattle.std.proofs.Common.{ap, ◌∙◌, arith}

and_assoc : (a b c : Bool) → (a && (b && c)) ≡ ((a && b) && c)
and_assoc true b c = refl
and_assoc false b c = refl

eq-swap : (x y : ℕ) → nat_eq x y ≡ nat_eq y x
eq-swap x y = grind arith

front_law : (f r k : List ℕ) → bytes_eq (f ++ r) k ≡ (bytes_eq (take (length f) k) f && bytes_eq r (drop (length f) k))
front_law [] r k = refl
front_law (x ∷ f) r [] = refl
front_law (x ∷ f) r (y ∷ k) =
    ap (λ b. b && bytes_eq (f ++ r) k) (eq-swap x y) ∙ ap (λ b. nat_eq y x && b) (front_law f r k)
    ∙ and_assoc (nat_eq y x) (bytes_eq (take (length f) k) f) (bytes_eq r (drop (length f) k))

pub not_front : (f r k : List ℕ) → bytes_eq (take (length f) k) f ≡ false → bytes_eq (f ++ r) k ≡ false
not_front f r k h = front_law f r k ∙ ap (λ b. b && bytes_eq r (drop (length f) k)) h

pub has_front : (f r k : List ℕ) → bytes_eq (take (length f) k) f ≡ true
    → bytes_eq (f ++ r) k ≡ bytes_eq r (drop (length f) k)
has_front f r k h = front_law f r k ∙ ap (λ b. b && bytes_eq r (drop (length f) k)) h

pub ruleset front = (not_front, has_front)
