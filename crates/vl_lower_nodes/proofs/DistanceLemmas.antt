-- How far an index is from a base, in 34 bits.
use Rattle.std.specs.Prelude.{◌≡◌, refl, ℕ, zero, suc, ◌+◌, ◌-◌, ◌*◌, ◌^◌, ◌<◌, ◌≤◌, ◌==◌, Bool, true, false}
use Rattle.std.specs.Prelude.{◌&&◌, nat_lt, if◌then◌else◌, ℤ, pos, negsuc, ◌-ℤ◌, bit_and, MatchBool}
use Rattle.std.proofs.Common.{ap, sym, ◌∙◌, arith, subst, true≢false}
use Rattle.std.specs.Int.Bits.{and_zero_r}
use Rattle.std.proofs.lemmas.Int.{ints}
use Rattle.std.proofs.lemmas.Bool.{leb-true, leb-false, le-leb, ltb-true, ltb-false, lt-ltb}
use Rattle.fv_bits.specs.Bits.{difference, complement, part, is_negative, to_int, as_int, of_int}
use Rattle.vl_lower_nodes.specs.Near.{is_near, IsCut, chosen}
use Rattle.vl_lower_nodes.specs.Points.{distance, past, is_base, IsAddress}

-- a number of 34 bits, read as signed
to_int_is : (x : ℕ) (z : ℤ) → (x < 2 ^ 33 → pos x ≡ z) → (2 ^ 33 ≤ x → negsuc (2 ^ 34 - 1 - x) ≡ z) → to_int 34 x ≡ z
to_int_is x z f g = by (is_negative 34 x) refl
  where
    by : (b : Bool) → is_negative 34 x ≡ b → to_int 34 x ≡ z
    by true e = ap (λ b. if b then negsuc (2 ^ 34 - 1 - x) else pos x) e ∙ g (leb-true (2 ^ 33) x e)
    by false e = ap (λ b. if b then negsuc (2 ^ 34 - 1 - x) else pos x) e ∙ f (leb-false (2 ^ 33) x e)

-- numbers of 34 bits and what they are left to 2 ^ 34 stand for
of_pos : (n : ℕ) → n < 2 ^ 34 → of_int 34 (pos n) ≡ n
of_pos n h = omega (arith, h)

of_neg : (n : ℕ) → n < 2 ^ 34 → of_int 34 (negsuc n) + n ≡ 2 ^ 34 - 1
of_neg n h = omega (arith, h)

near_pos : (n : ℕ) → is_near (pos n) ≡ true → n < 2 ^ 32
near_pos n h = ltb-true n (2 ^ 32) h

first : (a b : Bool) → (a && b) ≡ true → a ≡ true
first true b h = refl
first false b h = absurd (true≢false (sym h))

near_neg : (n : ℕ) → is_near (negsuc n) ≡ true → n ≤ 2 ^ 32 - 1
near_neg n h = leb-true n (2 ^ 32 - 1) (first _ _ h)

base_pos : (n : ℕ) → is_base (pos n) ≡ true → n < 3 * 2 ^ 30
base_pos n h = ltb-true n (3 * 2 ^ 30) h

base_neg : (n : ℕ) → is_base (negsuc n) ≡ true → n < 3 * 2 ^ 30
base_neg n h = ltb-true n (3 * 2 ^ 30) (first _ _ h)

is_pos : (c a : ℕ) → to_int 34 c ≡ pos a → c < 2 ^ 34 → c ≡ a
is_pos c a e fits = by (is_negative 34 c) refl
  where
    by : (b : Bool) → is_negative 34 c ≡ b → c ≡ a
    by true h =
        let f : negsuc (2 ^ 34 - 1 - c) ≡ pos a = sym (ap (λ b. if b then negsuc (2 ^ 34 - 1 - c) else pos c) h) ∙ e in
        absurd (omega (arith, ints, f))
    by false h =
        let f : pos c ≡ pos a = sym (ap (λ b. if b then negsuc (2 ^ 34 - 1 - c) else pos c) h) ∙ e in
        omega (arith, ints, f)

is_neg : (c a : ℕ) → to_int 34 c ≡ negsuc a → c < 2 ^ 34 → c + a ≡ 2 ^ 34 - 1
is_neg c a e fits = by (is_negative 34 c) refl
  where
    by : (b : Bool) → is_negative 34 c ≡ b → c + a ≡ 2 ^ 34 - 1
    by true h =
        let f : negsuc (2 ^ 34 - 1 - c) ≡ negsuc a = sym (ap (λ b. if b then negsuc (2 ^ 34 - 1 - c) else pos c) h) ∙ e in
        omega (arith, ints, f, fits)
    by false h =
        let f : pos c ≡ negsuc a = sym (ap (λ b. if b then negsuc (2 ^ 34 - 1 - c) else pos c) h) ∙ e in
        absurd (omega (arith, ints, f))

-- the difference of two, which has 34 bits too
upwards : (i b : ℤ) (c : ℕ) → c < 2 ^ 34 → to_int 34 c ≡ i → is_near i ≡ true → is_base b ≡ true
    → to_int 34 (difference 34 c (of_int 34 b)) ≡ i -ℤ b
upwards (pos a) (pos b) c fits e near base =
    to_int_is _ _ (λ h. omega (arith, ints, is_pos c a e fits, near_pos a near, base_pos b base, of_pos b))
    (λ h. omega (arith, ints, is_pos c a e fits, near_pos a near, base_pos b base, of_pos b))
upwards (pos a) (negsuc b) c fits e near base =
    to_int_is _ _ (λ h. omega (arith, ints, is_pos c a e fits, near_pos a near, base_neg b base, of_neg b))
    (λ h. omega (arith, ints, is_pos c a e fits, near_pos a near, base_neg b base, of_neg b))
upwards (negsuc a) (pos b) c fits e near base =
    to_int_is _ _ (λ h. omega (arith, ints, is_neg c a e fits, near_neg a near, base_pos b base, of_pos b))
    (λ h. omega (arith, ints, is_neg c a e fits, near_neg a near, base_pos b base, of_pos b))
upwards (negsuc a) (negsuc b) c fits e near base =
    to_int_is _ _ (λ h. omega (arith, ints, is_neg c a e fits, near_neg a near, base_neg b base, of_neg b))
    (λ h. omega (arith, ints, is_neg c a e fits, near_neg a near, base_neg b base, of_neg b))

downwards : (i b : ℤ) (c : ℕ) → c < 2 ^ 34 → to_int 34 c ≡ i → is_near i ≡ true → is_base b ≡ true
    → to_int 34 (difference 34 (of_int 34 b) c) ≡ b -ℤ i
downwards (pos a) (pos b) c fits e near base =
    to_int_is _ _ (λ h. omega (arith, ints, is_pos c a e fits, near_pos a near, base_pos b base, of_pos b))
    (λ h. omega (arith, ints, is_pos c a e fits, near_pos a near, base_pos b base, of_pos b))
downwards (pos a) (negsuc b) c fits e near base =
    to_int_is _ _ (λ h. omega (arith, ints, is_pos c a e fits, near_pos a near, base_neg b base, of_neg b))
    (λ h. omega (arith, ints, is_pos c a e fits, near_pos a near, base_neg b base, of_neg b))
downwards (negsuc a) (pos b) c fits e near base =
    to_int_is _ _ (λ h. omega (arith, ints, is_neg c a e fits, near_neg a near, base_pos b base, of_pos b))
    (λ h. omega (arith, ints, is_neg c a e fits, near_neg a near, base_pos b base, of_pos b))
downwards (negsuc a) (negsuc b) c fits e near base =
    to_int_is _ _ (λ h. omega (arith, ints, is_neg c a e fits, near_neg a near, base_neg b base, of_neg b))
    (λ h. omega (arith, ints, is_neg c a e fits, near_neg a near, base_neg b base, of_neg b))

pub distance_is : (along : Bool) (i b : ℤ) (c x : ℕ) → c < 2 ^ 34 → to_int 34 c ≡ i → is_near i ≡ true → is_base b ≡ true
    → x ≡ (if along then difference 34 c (of_int 34 b) else difference 34 (of_int 34 b) c)
    → to_int 34 x ≡ distance along b i
distance_is true i b c x fits e near base ex = ap (to_int 34) ex ∙ upwards i b c fits e near base
distance_is false i b c x fits e near base ex = ap (to_int 34) ex ∙ downwards i b c fits e near base

-- ---- an index that isn't near is past all places

near_again : (along : Bool) (i b : ℤ) (k : ℕ) → distance along b i ≡ pos k → k < past → is_base b ≡ true → is_near i ≡ true
near_again true (pos a) (pos n) k e h base = lt-ltb a (2 ^ 32) (omega (arith, ints, e, base_pos n base))
near_again true (pos a) (negsuc n) k e h base = lt-ltb a (2 ^ 32) (omega (arith, ints, e, base_neg n base))
near_again true (negsuc a) (pos n) k e h base =
    ap (λ t. t && true) (le-leb a (2 ^ 32 - 1) (omega (arith, ints, e, base_pos n base)))
near_again true (negsuc a) (negsuc n) k e h base =
    ap (λ t. t && true) (le-leb a (2 ^ 32 - 1) (omega (arith, ints, e, base_neg n base)))
near_again false (pos a) (pos n) k e h base = lt-ltb a (2 ^ 32) (omega (arith, ints, e, base_pos n base))
near_again false (pos a) (negsuc n) k e h base = lt-ltb a (2 ^ 32) (omega (arith, ints, e, base_neg n base))
near_again false (negsuc a) (pos n) k e h base =
    ap (λ t. t && true) (le-leb a (2 ^ 32 - 1) (omega (arith, ints, e, base_pos n base)))
near_again false (negsuc a) (negsuc n) k e h base =
    ap (λ t. t && true) (le-leb a (2 ^ 32 - 1) (omega (arith, ints, e, base_neg n base)))

far_address : (along : Bool) (i b d : ℤ) (m : ℕ) → is_near i ≡ false → is_base b ≡ true → distance along b i ≡ d → past ≤ m
    → IsAddress m d
far_address along i b (negsuc k) m far base e h = h
far_address along i b (pos k) m far base e h = by (nat_lt k past) refl
  where
    by : (t : Bool) → nat_lt k past ≡ t → MatchBool t (m ≡ k) (past ≤ m)
    by true g = absurd (true≢false (sym (near_again along i b k e (ltb-true k past g) base) ∙ far))
    by false g = h

-- ---- what is chosen of both

own_address : (x : ℕ) → IsAddress x (pos x)
own_address x = by (nat_lt x past) refl
  where
    by : (t : Bool) → nat_lt x past ≡ t → MatchBool t (x ≡ x) (past ≤ x)
    by true g = refl
    by false g = ltb-false x past g

signed_address : (x : ℕ) (d : ℤ) → x < 2 ^ 34 → to_int 34 x ≡ d → IsAddress (chosen x 1) d
signed_address x d fits e = by (is_negative 34 x) refl
  where
    by : (b : Bool) → is_negative 34 x ≡ b → IsAddress (chosen x 1) d
    by true h =
        let high : 2 ^ 33 ≤ x = leb-true (2 ^ 33) x h in
        let top : part 33 1 x ≡ 1 = omega (arith, fits, high) in
        let f : negsuc (2 ^ 34 - 1 - x) ≡ d = sym (ap (λ b. if b then negsuc (2 ^ 34 - 1 - x) else pos x) h) ∙ e in
        let m : chosen x 1 ≡ 2 ^ 34 - 1 = ap (λ t. if bit_and (complement 1 t) 1 == 1 then x else 2 ^ 34 - 1) top in
        subst (λ z. IsAddress (chosen x 1) z) f (omega (arith, m))
    by false h =
        let low : x < 2 ^ 33 = leb-false (2 ^ 33) x h in
        let top : part 33 1 x ≡ 0 = omega (arith, low) in
        let f : pos x ≡ d = sym (ap (λ b. if b then negsuc (2 ^ 34 - 1 - x) else pos x) h) ∙ e in
        let m : chosen x 1 ≡ x = ap (λ t. if bit_and (complement 1 t) 1 == 1 then x else 2 ^ 34 - 1) top in
        subst (λ z. IsAddress (chosen x 1) z) f (subst (λ z. IsAddress z (pos x)) (sym m) (own_address x))

difference_fits : (along : Bool) (c b x : ℕ) → x ≡ (if along then difference 34 c b else difference 34 b c) → x < 2 ^ 34
difference_fits true c b x e = omega (arith, e)
difference_fits false c b x e = omega (arith, e)

pub is_address : (along : Bool) (i b : ℤ) (c near x : ℕ) → IsCut i c near → is_base b ≡ true
    → x ≡ (if along then difference 34 c (of_int 34 b) else difference 34 (of_int 34 b) c)
    → IsAddress (chosen x near) (distance along b i)
is_address along i b c near x cut base ex = by near cut.test cut.is
  where
    by : (near : ℕ) → near < 2 → MatchBool (near == 1) ((to_int 34 c ≡ i) × (is_near i ≡ true)) (is_near i ≡ false)
        → IsAddress (chosen x near) (distance along b i)
    by zero h is =
        let m : chosen x 0 ≡ 2 ^ 34 - 1 =
        ap (λ t. if t == 1 then x else 2 ^ 34 - 1) (and_zero_r (complement 1 (part 33 1 x))) in
        far_address along i b (distance along b i) (chosen x 0) is base refl (omega (arith, m))
    by (suc zero) h is =
        signed_address x (distance along b i) (difference_fits along c (of_int 34 b) x ex)
        (distance_is along i b c x cut.fits is.0 is.1 base ex)
    by (suc (suc n)) h is = absurd (omega arith)

-- an unsigned index counted from 0 is its own place
pub plain_address : (n : ℕ) (along s : Bool) (b : ℤ) (w : ℕ) → along ≡ true → s ≡ false → b ≡ pos 0
    → IsAddress n (distance along b (as_int w s n))
plain_address n along s b w ea es eb =
    subst (λ d. IsAddress n d)
    (sym ((λ i. distance (ea i) (eb i) (as_int w (es i) n)) ∙ whole)) (own_address n)
  where
    whole : pos n -ℤ pos 0 ≡ pos n
    whole = omega (arith, ints)
