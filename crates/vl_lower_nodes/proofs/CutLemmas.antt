-- An index that is cut, and extended again.
use Rattle.std.specs.Prelude.{◌≡◌, refl, ℕ, suc, ◌+◌, ◌-◌, ◌*◌, ◌%◌, ◌^◌, ◌<◌, ◌≤◌, ◌==◌, Bool, true, false}
use Rattle.std.specs.Prelude.{◌&&◌, nat_le, MatchBool, if◌then◌else◌, pos, negsuc}
use Rattle.std.proofs.Common.{ap, sym, ◌∙◌, arith, subst, true≢false}
use Rattle.std.proofs.Math.Pow.{pow_mono}
use Rattle.std.proofs.Math.Nat.{mod-eq_of_lt, mul-add-mod_self_right, add_comm}
use Rattle.std.proofs.lemmas.Nat.{pow-add, pow_pos, mod_below}
use Rattle.std.proofs.lemmas.Bool.{leb-true, leb-false, le-leb, lt-leb, ltb-true, lt-ltb, eqb-true, eq-eqb}
use Rattle.fv_bits.specs.Bits.{extended, is_negative, to_int, as_int, bit}
use Rattle.vl_size.proofs.PlaceLemmas.{twice_fits}
use Rattle.vl_lower_nodes.specs.Near.{is_near, IsCut}

-- a signed number by its sign
below : (w n : ℕ) → is_negative w n ≡ true → to_int w n ≡ negsuc (2 ^ w - 1 - n)
below w n e = ap (λ b. if b then negsuc (2 ^ w - 1 - n) else pos n) e

above : (w n : ℕ) → is_negative w n ≡ false → to_int w n ≡ pos n
above w n e = ap (λ b. if b then negsuc (2 ^ w - 1 - n) else pos n) e

-- a number extended, by its sign
extended_below : (m w n : ℕ) → is_negative m n ≡ true → n + (2 ^ w - 2 ^ m) < 2 ^ w
    → extended m w true n ≡ n + (2 ^ w - 2 ^ m)
extended_below m w n e h = ap (λ b. (if b then n + (2 ^ w - 2 ^ m) else n) % 2 ^ w) e ∙ mod-eq_of_lt h

extended_above : (m w : ℕ) (s : Bool) (n : ℕ) → (s && is_negative m n) ≡ false → n < 2 ^ w → extended m w s n ≡ n
extended_above m w s n e h = ap (λ b. (if b then n + (2 ^ w - 2 ^ m) else n) % 2 ^ w) e ∙ mod-eq_of_lt h

-- in more bits it is the same number
pub signed_wider : (m w n : ℕ) → 1 ≤ m → m ≤ w → n < 2 ^ m → to_int w (extended m w true n) ≡ to_int m n
signed_wider m w n some h fits = by (is_negative m n) refl
  where
    p : 2 ^ m ≤ 2 ^ w
    p = pow_mono h

    q : 2 ^ m ≡ 2 * 2 ^ (m - 1)
    q = twice_fits m some

    r : 2 ^ w ≡ 2 * 2 ^ (w - 1)
    r = twice_fits w (omega (arith, some, h))

    by : (b : Bool) → is_negative m n ≡ b → to_int w (extended m w true n) ≡ to_int m n
    by true e =
        let far : 2 ^ (m - 1) ≤ n = leb-true (2 ^ (m - 1)) n e in
        let x = n + (2 ^ w - 2 ^ m) in
        ap (to_int w) (extended_below m w n e (omega (arith, p, fits)))
        ∙ below w x (le-leb (2 ^ (w - 1)) x (omega (arith, p, q, r, far)))
        ∙ ap negsuc (omega (arith, p, fits))
        ∙ sym (below m n e)
    by false e =
        let near : n < 2 ^ (m - 1) = leb-false (2 ^ (m - 1)) n e in
        ap (to_int w) (extended_above m w true n e (omega (arith, p, fits)))
        ∙ above w n (lt-leb (2 ^ (w - 1)) n (omega (arith, p, q, r, near)))
        ∙ sym (above m n e)

pub wider : (m w n : ℕ) (s : Bool) → 1 ≤ m → m ≤ w → n < 2 ^ m → as_int w s (extended m w s n) ≡ as_int m s n
wider m w n true some h fits = signed_wider m w n some h fits
wider m w n false some h fits =
    let p : 2 ^ m ≤ 2 ^ w = pow_mono h in ap pos (extended_above m w false n refl (omega (arith, p, fits)))

-- an unsigned number of 32 bits is one of 34 signed bits
pub unsigned_bounded : (n : ℕ) → n < 2 ^ 32 → to_int 34 (extended 32 34 false n) ≡ pos n
unsigned_bounded n fits =
    ap (to_int 34) (extended_above 32 34 false n refl (omega (arith, fits)))
    ∙ above 34 n (lt-leb (2 ^ 33) n (omega (arith, fits)))

-- ---- cut, and extended again

low_below : (k n : ℕ) → n % 2 ^ k < 2 ^ k
low_below k n = mod_below n (2 ^ k) (pow_pos k)

extended_below_limit : (m w : ℕ) (s : Bool) (n : ℕ) → extended m w s n < 2 ^ w
extended_below_limit m w s n = low_below w (if s && is_negative m n then n + (2 ^ w - 2 ^ m) else n)

-- the low bits of a number with further bits in front
rest_is : (k w n u : ℕ) → k ≤ w → n ≡ u + (2 ^ w - 2 ^ k) → u < 2 ^ k → n % 2 ^ k ≡ u
rest_is k w n u h e fits =
    let f : w - k + k ≡ w = omega arith in
    let g : 2 ^ w ≡ 2 ^ (w - k) * 2 ^ k = ap (λ j. 2 ^ j) (sym f) ∙ pow-add 2 (w - k) k in
    let q = 2 ^ (w - k) - 1 in
    let some : 0 < 2 ^ (w - k) = pow_pos (w - k) in
    let next : suc q ≡ 2 ^ (w - k) = omega (arith, some) in
    let d : 2 ^ w - 2 ^ k ≡ q * 2 ^ k = omega (arith, g ∙ ap (λ j. j * 2 ^ k) (sym next)) in
    ap (λ m. m % 2 ^ k) (e ∙ ap (λ m. u + m) d) ∙ mod_more u q (2 ^ k) fits
  where
    mod_more : (u q p : ℕ) → u < p → (u + q * p) % p ≡ u
    mod_more u q p h =
        ap (λ m. m % p) (add_comm u (q * p)) ∙ mul-add-mod_self_right q p u ∙ mod-eq_of_lt h

-- an extended number, cut
cut_again : (w k v : ℕ) (s : Bool) → 1 ≤ w → w ≤ k → v < 2 ^ w → extended k w s (extended w k s v) ≡ v
cut_again w k v false some h fits =
    let p : 2 ^ w ≤ 2 ^ k = pow_mono h in
    ap (extended k w false) (extended_above w k false v refl (omega (arith, p, fits)))
    ∙ extended_above k w false v refl fits
cut_again w k v true some h fits = by (is_negative w v) refl
  where
    p : 2 ^ w ≤ 2 ^ k
    p = pow_mono h

    plain : (b : Bool) (n : ℕ) → (if b then n + (2 ^ w - 2 ^ k) else n) ≡ n
    plain true n = omega (arith, p)
    plain false n = refl

    by : (b : Bool) → is_negative w v ≡ b → extended k w true (extended w k true v) ≡ v
    by true e =
        let x = v + (2 ^ k - 2 ^ w) in
        ap (extended k w true) (extended_below w k v e (omega (arith, p, fits)))
        ∙ ap (λ n. n % 2 ^ w) (plain (is_negative k x) x) ∙ rest_is w k x v h refl fits
    by false e =
        ap (extended k w true) (extended_above w k true v e (omega (arith, p, fits)))
        ∙ ap (λ n. n % 2 ^ w) (plain (is_negative k v) v) ∙ mod-eq_of_lt fits

-- a near index is told by its low bits
abbrev pub low_bits : Bool → ℕ
low_bits s = if s then 33 else 32

first : (a b : Bool) → (a && b) ≡ true → a ≡ true
first true b h = refl
first false b h = absurd (true≢false (sym h))

near_again : (w v : ℕ) (s : Bool) → low_bits s ≤ w → v < 2 ^ w → is_near (as_int w s v) ≡ true
    → extended (low_bits s) w s (extended w (low_bits s) s v) ≡ v
near_again w v false h fits near =
    let small : v < 2 ^ 32 = ltb-true v (2 ^ 32) near in
    ap (extended 32 w false) (extended_above w 32 false v refl small) ∙ extended_above 32 w false v refl fits
near_again w v true h fits near = by (is_negative w v) refl
  where
    p : 2 ^ 33 ≤ 2 ^ w
    p = pow_mono h

    r : 2 ^ w ≡ 2 * 2 ^ (w - 1)
    r = twice_fits w (omega (arith, h))

    plain : (b : Bool) (n : ℕ) → (if b then n + (2 ^ 33 - 2 ^ w) else n) ≡ n
    plain true n = omega (arith, p)
    plain false n = refl

    by : (b : Bool) → is_negative w v ≡ b → extended 33 w true (extended w 33 true v) ≡ v
    by true e =
        let far : 2 ^ w - 1 - v ≤ 2 ^ 32 - 1 =
        leb-true (2 ^ w - 1 - v) (2 ^ 32 - 1) (first _ _ (subst (λ i. is_near i ≡ true) (below w v e) near)) in
        let u = v - (2 ^ w - 2 ^ 33) in
        let back : v ≡ u + (2 ^ w - 2 ^ 33) = omega (arith, p, fits, far) in
        let fits_u : u < 2 ^ 33 = omega (arith, p, fits, far) in
        let high : 2 ^ 32 ≤ u = omega (arith, p, fits, far) in
        ap (extended 33 w true)
        (ap (λ n. n % 2 ^ 33) (plain (is_negative w v) v) ∙ rest_is 33 w v u h back fits_u)
        ∙ extended_below 33 w u (le-leb (2 ^ 32) u high) (omega (arith, p, fits, back)) ∙ sym back
    by false e =
        let small : v < 2 ^ 32 = ltb-true v (2 ^ 32) (subst (λ i. is_near i ≡ true) (above w v e) near) in
        ap (extended 33 w true) (ap (λ n. n % 2 ^ 33) (plain (is_negative w v) v) ∙ mod-eq_of_lt (omega arith))
        ∙ extended_above 33 w true v (lt-leb (2 ^ 32) v small) fits

-- ---- the whole

signed_of : (s : Bool) (n : ℕ) → n < 2 ^ low_bits s → to_int 34 (extended (low_bits s) 34 s n) ≡ as_int (low_bits s) s n
signed_of true n fits = signed_wider 33 34 n (omega arith) (omega arith) fits
signed_of false n fits = unsigned_bounded n fits

near_low : (s : Bool) (n : ℕ) → n < 2 ^ low_bits s → is_near (as_int (low_bits s) s n) ≡ true
near_low false n fits = lt-ltb n (2 ^ 32) fits
near_low true n fits = by (is_negative 33 n) refl
  where
    by : (b : Bool) → is_negative 33 n ≡ b → is_near (to_int 33 n) ≡ true
    by true e =
        let high : 2 ^ 32 ≤ n = leb-true (2 ^ 32) n e in
        ap is_near (below 33 n e)
        ∙ ap (λ b. b && true) (le-leb (2 ^ 33 - 1 - n) (2 ^ 32 - 1) (omega (arith, fits, high)))
    by false e = ap is_near (above 33 n e) ∙ lt-ltb n (2 ^ 32) (leb-false (2 ^ 32) n e)

low_some : (s : Bool) → 1 ≤ low_bits s
low_some true = omega arith
low_some false = omega arith

bit_fits : (b : Bool) → bit b < 2
bit_fits true = omega arith
bit_fits false = omega arith

pub is_cut : (w k v near : ℕ) (s : Bool) → k ≡ low_bits s → 1 ≤ w → v < 2 ^ w
    → near ≡ bit (extended k w s (extended w k s v) == v)
    → IsCut (as_int w s v) (extended k 34 s (extended w k s v)) near
is_cut w k v near s ek some fits en =
    subst (λ n. IsCut (as_int w s v) (extended k 34 s (extended w k s v)) n) (sym en)
    (subst (λ j. IsCut (as_int w s v) (extended j 34 s (extended w j s v)) (bit (extended j w s (extended w j s v) == v)))
    (sym ek) (record {
      fits = extended_below_limit j 34 s low_part;
      test = bit_fits (back == v);
      is = by (back == v) refl;
    }))
  where
    j : ℕ
    j = low_bits s

    low_part : ℕ
    low_part = extended w j s v

    back : ℕ
    back = extended j w s low_part

    same : back ≡ v → as_int j s low_part ≡ as_int w s v
    same e = at_most (nat_le w j) refl
      where
        at_most : (b : Bool) → nat_le w j ≡ b → as_int j s low_part ≡ as_int w s v
        at_most true h = wider w j v s some (leb-true w j h) fits
        at_most false h =
            sym (wider j w low_part s (low_some s) (omega (arith, leb-false w j h)) (extended_below_limit w j s v))
            ∙ ap (as_int w s) e

    told : ℕ → Type 0
    told near = MatchBool (near == 1)
        ((to_int 34 (extended j 34 s low_part) ≡ as_int w s v) × (is_near (as_int w s v) ≡ true))
        (is_near (as_int w s v) ≡ false)

    by : (b : Bool) → (back == v) ≡ b → told (bit (back == v))
    by true h =
        subst (λ b. told (bit b)) (sym h)
        (let e = same (eqb-true back v h) in
        let low_fits = extended_below_limit w j s v in
        (signed_of s low_part low_fits ∙ e, ap is_near (sym e) ∙ near_low s low_part low_fits))
    by false h =
        subst (λ b. told (bit b)) (sym h) (far (is_near (as_int w s v)) refl)
      where
        far : (b : Bool) → is_near (as_int w s v) ≡ b → is_near (as_int w s v) ≡ false
        far false g = g
        far true g = absurd (true≢false (sym (eq-eqb back v (again (nat_le w j) refl)) ∙ h))
          where
            again : (b : Bool) → nat_le w j ≡ b → back ≡ v
            again true m = cut_again w j v s some (leb-true w j m) fits
            again false m = near_again w v s (omega (arith, leb-false w j m)) fits g
