-- An assignment to bits of a name, bit by bit.
use Rattle.std.specs.Prelude.{◌≡◌, refl, ℕ, zero, suc, Bool, true, false, nat_lt, bytes_eq, if◌then◌else◌}
use Rattle.std.specs.Prelude.{List, ◌∷◌, length, Option, Some, None, ℤ, pos, negsuc, ◌+ℤ◌}
use Rattle.std.proofs.Common.{ap, ◌∙◌}
use Rattle.vl_size.specs.Size.{Values}
use Rattle.vl_mean.specs.Targets.{Spot, bit_of, with_bit, spot_at, spots_from, written, put, put_all}
use Rattle.vl_lower_assign.specs.Puts.{put_bit, put_bits}

-- what is written to a spot, where there is one
abbrev put_spot : Option Spot → ℕ → Values → Values
put_spot None b v text = v text
put_spot (Some s) b v text = put (record { spot = s; value = b }) v text

long : (n w : ℕ) (text : Option (List ℕ)) (p : ℤ) → length (spots_from n w text p) ≡ n
long zero w text p = refl
long (suc n) w text p = ap suc (long n w text p)

put_first : (o : Option Spot) (rest : List (Option Spot)) (y : ℕ) (v : Values) (other : List ℕ)
    → put_all (written (o ∷ rest) y) v other ≡ put_all (written rest y) (put_spot o (bit_of y (length rest)) v) other
put_first None rest y v other = refl
put_first (Some s) rest y v other = refl

at_spot : (w : ℕ) (text : List ℕ) (q : ℤ) (b : ℕ) (v : Values) (other : List ℕ)
    → put_spot (spot_at w (Some text) q) b v other ≡ (if bytes_eq other text then put_bit w q b (v other) else v other)
at_spot w text (negsuc k) b v other = by (bytes_eq other text)
  where
    by : (t : Bool) → v other ≡ (if t then v other else v other)
    by true = refl
    by false = refl
at_spot w text (pos k) b v other = by (nat_lt k w) (bytes_eq other text) refl
  where
    by : (t u : Bool) → bytes_eq other text ≡ u
        → put_spot (if t then Some (record { name = text; offset = k }) else None) b v other
        ≡ (if u then (if t then with_bit (v other) k b else v other) else v other)
    by true u e = ap (λ c. if c then with_bit (v other) k b else v other) e
    by false true e = refl
    by false false e = refl

pub assigned : (n w : ℕ) (text : List ℕ) (p : ℤ) (y : ℕ) (v : Values) (other : List ℕ)
    → put_all (written (spots_from n w (Some text) p) y) v other
    ≡ (if bytes_eq other text then put_bits n w p y (v other) else v other)
assigned zero w text p y v other = by (bytes_eq other text)
  where
    by : (t : Bool) → v other ≡ (if t then v other else v other)
    by true = refl
    by false = refl
assigned (suc n) w text p y v other =
    let rest = spots_from n w (Some text) p in
    let o = spot_at w (Some text) (p +ℤ pos n) in
    put_first o rest y v other
    ∙ ap (λ k. put_all (written rest y) (put_spot o (bit_of y k) v) other) (long n w (Some text) p)
    ∙ assigned n w text p y (put_spot o (bit_of y n) v) other
    ∙ ap (λ x. if bytes_eq other text then put_bits n w p y x else x) (at_spot w text (p +ℤ pos n) (bit_of y n) v other)
    ∙ by (bytes_eq other text)
  where
    by : (t : Bool)
        → (if t then put_bits n w p y (if t then put_bit w (p +ℤ pos n) (bit_of y n) (v other) else v other)
        else (if t then put_bit w (p +ℤ pos n) (bit_of y n) (v other) else v other))
        ≡ (if t then put_bits (suc n) w p y (v other) else v other)
    by true = refl
    by false = refl
