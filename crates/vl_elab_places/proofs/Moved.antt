-- Places one behind the other.
use Rattle.std.specs.Prelude.{◌≡◌, refl, ℕ, zero, suc, ◌-◌, List, [], ◌∷◌, ◌++◌, true, false, is_some, nat_lt}
use Rattle.std.specs.Prelude.{slice_get, Some, None, if◌then◌else◌}
use Rattle.std.proofs.Common.{ap, sym, ◌∙◌, arith}
use Rattle.std.proofs.lemmas.Bool.Decides.{nat_tests}
use Rattle.fv_text.specs.declared.pos.Pos.{Pos}
use Rattle.vl_elab_places.specs.declared.cursor.Cursor.{Cursor}
use Rattle.vl_elab_places.specs.Passing.{counted_down, moved, passed}

pub passed_append : (xs ys : List Pos) (c : Cursor) → passed (xs ++ ys) c ≡ passed ys (passed xs c)
passed_append [] ys c = refl
passed_append (x ∷ xs) ys c = passed_append xs ys (moved 1 x c)

-- one part behind another
pub both_pass : (f g : Cursor → Cursor) (xs ys : List Pos) → ((c : Cursor) → f c ≡ passed xs c)
    → ((c : Cursor) → g c ≡ passed ys c) → (c : Cursor) → g (f c) ≡ passed (xs ++ ys) c
both_pass f g xs ys h k c = k (f c) ∙ ap (passed ys) (h c) ∙ sym (passed_append xs ys c)

-- what is found stays
pub still : (n : ℕ) (p : Pos) (c : Cursor) → is_some c.found ≡ true → moved n p c ≡ c
still n p c e =
    ap (λ b. if b then c else counted_down n p c.left) e

pub found_stays : (ps : List Pos) (c : Cursor) → is_some c.found ≡ true → passed ps c ≡ c
found_stays [] c e = refl
found_stays (p ∷ ps) c e = ap (passed ps) (still 1 p c e) ∙ found_stays ps c e

one_less : (n : ℕ) (p : Pos) → moved 1 p (record { left = suc n; found = None }) ≡ record { left = n; found = None }
one_less n p =
    let near : nat_lt (suc n) 1 ≡ false = grind (arith, nat_tests) in
    let left : suc n - 1 ≡ n = omega arith in
    λ i. if near i then record { left = 0; found = Some p } else record { left = left i; found = None }

-- the place behind so many others
pub found_at : (ps : List Pos) (n : ℕ) → (passed ps (record { left = n; found = None })).found ≡ slice_get ps n
found_at [] n = refl
found_at (p ∷ ps) zero = ap (λ (c : Cursor). c.found) (found_stays ps (record { left = 0; found = Some p }) refl)
found_at (p ∷ ps) (suc n) = ap (λ (c : Cursor). (passed ps c).found) (one_less n p) ∙ found_at ps n
