-- The bits of a vector from one place to another: as a mask, and as those that a select takes.
use Rattle.std.specs.Prelude.{◌≡◌, refl, ℕ, zero, suc, ◌-◌, ◌<◌, ◌≤◌, ◌^◌, ◌==◌, List, ◌∷◌, Bool, true, false}
use Rattle.std.specs.Prelude.{◌&&◌, nat_le, nat_lt, Option, Some, None, ℤ, pos, negsuc, ◌+ℤ◌, ◌-ℤ◌, int_lt, int_le}
use Rattle.std.specs.Prelude.{nat_abs, bytes_eq, is_none, if◌then◌else◌}
use Rattle.std.proofs.Common.{ap, sym, ◌∙◌, arith, subst, ◌⊎◌, inl, inr, true≢false}
use Rattle.std.proofs.lemmas.Bool.{cases_lt}
use Rattle.std.proofs.lemmas.Bool.Decides.{nat_tests}
use Rattle.std.proofs.lemmas.Int.{ints}
use Rattle.std.proofs.lemmas.Option.{same_Some}
use Rattle.std.proofs.lemmas.Nat.{pow_pos}
use Rattle.std.proofs.lemmas.Nat.Bits.{bit_at_mask_inside, bit_at_mask_below, bit_at_mask_above}
use Rattle.fv_bit_sets.specs.Cells.{is_set}
use Rattle.fv_bit_sets.proofs.Masks.{set_zero}
use Rattle.fv_bits.specs.Bits.{ones}
use Rattle.fv_bits.proofs.Limits.{wider_le}
use Rattle.vl_size.specs.declared.decl.Decl.{Decl}
use Rattle.vl_size.specs.Size.{is_bound, offset_of, start_of}
use Rattle.vl_size.specs.Table.{is_between, span}
use Rattle.vl_mean.specs.Targets.{Spot, spot_at, spots_from, has_spot}
use Rattle.vl_flow_cells.specs.Places.{AreBelow, index_at, is_near}
use Rattle.vl_flow_spec.proofs.Bools.{or_case, and_both, and_left, and_right, none_of}
use Rattle.vl_flow_spec.proofs.Spots.{spot_is, spot_there}

-- ---- tests

pub same_test : (a b : Bool) → (a ≡ true → b ≡ true) → (b ≡ true → a ≡ true) → a ≡ b
same_test true b f g = sym (f refl)
same_test false true f g = g refl
same_test false false f g = refl

-- ---- masks

pub bits_of_mask : (a b k : ℕ) → a ≤ b → is_set (2 ^ b - 2 ^ a) k ≡ (nat_le a k && nat_lt k b)
bits_of_mask a b k le = by (cases_lt k a) (cases_lt k b)
  where
    by : (k < a) ⊎ (a ≤ k) → (k < b) ⊎ (b ≤ k) → is_set (2 ^ b - 2 ^ a) k ≡ (nat_le a k && nat_lt k b)
    by (inl h) j =
        let out : (nat_le a k && nat_lt k b) ≡ false = grind (arith, nat_tests, h) in
        ap (λ z. z == 1) (bit_at_mask_below a b k h) ∙ sym out
    by (inr h) (inl j) =
        let inside : (nat_le a k && nat_lt k b) ≡ true = grind (arith, nat_tests, h, j) in
        ap (λ z. z == 1) (bit_at_mask_inside a b k h j) ∙ sym inside
    by (inr h) (inr j) =
        let out : (nat_le a k && nat_lt k b) ≡ false = grind (arith, nat_tests, h, j) in
        ap (λ z. z == 1) (bit_at_mask_above a b k j) ∙ sym out

-- all bits from the first place on are what is left of the ones up to the last
pub ones_left : (a b : ℕ) → a ≤ b → ones b - ones a ≡ 2 ^ b - 2 ^ a
ones_left a b le = omega (arith, le, pow_pos a, pow_pos b)

pub no_bits_between : (a b k : ℕ) → b ≤ a → is_set 0 k ≡ (nat_le a k && nat_lt k b)
no_bits_between a b k le =
    let out : (nat_le a k && nat_lt k b) ≡ false = grind (arith, nat_tests, le) in set_zero k ∙ sym out

-- ---- spots

first_spot : (w : ℕ) (text n : List ℕ) (k : ℕ) (spots : List (Option Spot)) (q : ℤ)
    → has_spot n k (spot_at w (Some text) q ∷ spots) ≡ true → (q ≡ pos k) ⊎ (has_spot n k spots ≡ true)
first_spot w text n k spots (negsuc i) h = inr h
first_spot w text n k spots (pos i) h = by (nat_lt i w) h
  where
    here : (bytes_eq n text && (k == i)) ≡ true → (pos i ≡ pos k) ⊎ (has_spot n k spots ≡ true)
    here e =
        let at : (k == i) ≡ true = and_right (bytes_eq n text) (k == i) e in
        let same : i ≡ k = grind (arith, nat_tests, at) in inl (ap pos same)

    by : (b : Bool) → has_spot n k ((if b then Some (record { name = text; offset = i }) else None) ∷ spots) ≡ true
        → (pos i ≡ pos k) ⊎ (has_spot n k spots ≡ true)
    by true h = or_case (bytes_eq n text && (k == i)) (has_spot n k spots) here (λ t. inr t) h
    by false h = inr h

-- a spot is at one of the places
pub spot_place : (m w : ℕ) (o : Option (List ℕ)) (p : ℤ) (n : List ℕ) (k : ℕ)
    → has_spot n k (spots_from m w o p) ≡ true → (j : ℕ) × (j < m) × (p +ℤ pos j ≡ pos k)
spot_place zero w o p n k h = absurd (true≢false (sym h))
spot_place (suc m) w None p n k h =
    let r = spot_place m w None p n k h in (r.0, omega (arith, r.1), r.2)
spot_place (suc m) w (Some text) p n k h =
    by (λ t. spot_place m w (Some text) p n k t)
    (first_spot w text n k (spots_from m w (Some text) p) (p +ℤ pos m) h)
  where
    by : (has_spot n k (spots_from m w (Some text) p) ≡ true → (j : ℕ) × (j < m) × (p +ℤ pos j ≡ pos k))
        → (p +ℤ pos m ≡ pos k) ⊎ (has_spot n k (spots_from m w (Some text) p) ≡ true)
        → (j : ℕ) × (j < suc m) × (p +ℤ pos j ≡ pos k)
    by later (inl e) = (m, omega arith, e)
    by later (inr t) = let r = later t in (r.0, omega (arith, r.1), r.2)

pub none_below : (w : ℕ) (p : ℤ) → int_lt p (pos 0) ≡ true → AreBelow w p 0
none_below w p h = record {
  within = omega arith;
  below = λ k less. grind (arith, nat_tests, ints, h);
}

pub all_below : (w : ℕ) (p : ℤ) → int_le (pos w) p ≡ true → AreBelow w p w
all_below w p h = record {
  within = omega arith;
  below = λ k less. grind (arith, nat_tests, ints, h, less);
}

pub some_below : (w a : ℕ) (p : ℤ) → p ≡ pos a → a ≤ w → AreBelow w p a
some_below w a p e le = record {
  within = le;
  below = λ k less. grind (arith, nat_tests, ints, e);
}

pub between_is_spot : (m w : ℕ) (p : ℤ) (a b : ℕ) (n : List ℕ) (k : ℕ) → AreBelow w p a
    → AreBelow w (p +ℤ pos m) b
    → (nat_le a k && nat_lt k b) ≡ has_spot n k (spots_from m w (Some n) p)
between_is_spot m w p a b n k low high =
    same_test (nat_le a k && nat_lt k b) (has_spot n k (spots_from m w (Some n) p)) there back
  where
    there : (nat_le a k && nat_lt k b) ≡ true → has_spot n k (spots_from m w (Some n) p) ≡ true
    there h =
        let from : nat_le a k ≡ true = and_left (nat_le a k) (nat_lt k b) h in
        let to : nat_lt k b ≡ true = and_right (nat_le a k) (nat_lt k b) h in
        let few = high.within in
        let less : k < w = grind (arith, nat_tests, to, few) in
        let under : int_lt (pos k) (p +ℤ pos m) ≡ true = sym (high.below k less) ∙ to in
        let not_below : nat_lt k a ≡ false = grind (arith, nat_tests, from) in
        let above : int_lt (pos k) p ≡ false = sym (low.below k less) ∙ not_below in
        let j = nat_abs (pos k -ℤ p) in
        let step : j < m = grind (arith, ints, under, above) in
        let sum : p +ℤ pos j ≡ pos k = grind (arith, ints, above) in spot_there m w n p j k step less sum

    back : has_spot n k (spots_from m w (Some n) p) ≡ true → (nat_le a k && nat_lt k b) ≡ true
    back h =
        let less = (spot_is m w (Some n) p n k h).1 in
        let r = spot_place m w (Some n) p n k h in
        let step = r.1 in
        let sum = r.2 in
        let under : int_lt (pos k) (p +ℤ pos m) ≡ true = grind (arith, ints, step, sum) in
        let above : int_lt (pos k) p ≡ false = grind (arith, ints, sum) in
        let to : nat_lt k b ≡ true = high.below k less ∙ under in
        let not_below : nat_lt k a ≡ false = low.below k less ∙ above in
        let from : nat_le a k ≡ true = grind (arith, nat_tests, not_below) in
        and_both (nat_le a k) (nat_lt k b) from to

-- ---- indices that are past every vector

no_place : (m w j k : ℕ) (p : ℤ) → m ≤ 128 → w ≤ 128 → j < m → k < w → p +ℤ pos j ≡ pos k
    → (int_lt p (negsuc 200) ≡ true) ⊎ (int_lt (pos 200) p ≡ true) → ⊥
no_place m w j k p few wide step less sum (inl h) = grind (arith, ints, few, wide, step, less, sum, h)
no_place m w j k p few wide step less sum (inr h) = grind (arith, ints, few, wide, step, less, sum, h)

far_place : (right i : ℤ) → is_bound right ≡ true → is_near i ≡ false
    → (int_lt (i -ℤ right) (negsuc 200) ≡ true) ⊎ (int_lt (pos 200) (i -ℤ right) ≡ true)
far_place right i bound far = by (int_lt i (pos 0)) refl
  where
    by : (b : Bool) → int_lt i (pos 0) ≡ b
        → (int_lt (i -ℤ right) (negsuc 200) ≡ true) ⊎ (int_lt (pos 200) (i -ℤ right) ≡ true)
    by true e = inl (grind (arith, ints, bound, far, e))
    by false e = inr (grind (arith, ints, bound, far, e))

-- counted the other way, and from the last of so many
far_back : (right i : ℤ) (n : ℕ) → n ≤ 128 → is_bound right ≡ true → is_near i ≡ false
    → (int_lt (right -ℤ (i +ℤ pos n)) (negsuc 200) ≡ true) ⊎ (int_lt (pos 200) (right -ℤ (i +ℤ pos n)) ≡ true)
far_back right i n few bound far = by (int_lt i (pos 0)) refl
  where
    by : (b : Bool) → int_lt i (pos 0) ≡ b
        → (int_lt (right -ℤ (i +ℤ pos n)) (negsuc 200) ≡ true)
        ⊎ (int_lt (pos 200) (right -ℤ (i +ℤ pos n)) ≡ true)
    by true e = inr (grind (arith, ints, bound, far, e, few))
    by false e = inl (grind (arith, ints, bound, far, e, few))

far_away : (m w : ℕ) (p : ℤ) (n : List ℕ) (k : ℕ) → m ≤ 128 → w ≤ 128
    → (int_lt p (negsuc 200) ≡ true) ⊎ (int_lt (pos 200) p ≡ true)
    → false ≡ has_spot n k (spots_from m w (Some n) p)
far_away m w p n k few wide far =
    sym (none_of (has_spot n k (spots_from m w (Some n) p)) (λ h.
    let r = spot_place m w (Some n) p n k h in
    let less = (spot_is m w (Some n) p n k h).1 in absurd (no_place m w r.0 k p few wide r.1 less r.2 far)))

pub far_offset : (d : Decl) (i : ℤ) (m : ℕ) (n : List ℕ) (k : ℕ) → is_bound d.right ≡ true → d.width ≤ 128 → m ≤ 128
    → is_near i ≡ false → is_set 0 k ≡ has_spot n k (spots_from m d.width (Some n) (offset_of d i))
far_offset d i m n k bound wide few far = set_zero k ∙ by (int_le d.right d.left)
  where
    none : d.right -ℤ (i +ℤ pos 0) ≡ d.right -ℤ i
    none = omega (arith, ints)

    by : (b : Bool)
        → false ≡ has_spot n k (spots_from m d.width (Some n) (if b then i -ℤ d.right else d.right -ℤ i))
    by true = far_away m d.width (i -ℤ d.right) n k few wide (far_place d.right i bound far)
    by false =
        far_away m d.width (d.right -ℤ i) n k few wide
        (subst (λ p. (int_lt p (negsuc 200) ≡ true) ⊎ (int_lt (pos 200) p ≡ true)) none
        (far_back d.right i 0 (omega arith) bound far))

pub far_start : (d : Decl) (i : ℤ) (m : ℕ) (n : List ℕ) (k : ℕ) → is_bound d.right ≡ true → d.width ≤ 128 → m ≤ 128
    → is_near i ≡ false → is_set 0 k ≡ has_spot n k (spots_from m d.width (Some n) (start_of d i m))
far_start d i m n k bound wide few far = set_zero k ∙ by (int_le d.right d.left) refl
  where
    by : (b : Bool) → int_le d.right d.left ≡ b
        → false ≡ has_spot n k (spots_from m d.width (Some n) (if b then (if b then i -ℤ d.right else d.right -ℤ i)
        else (if b then (i +ℤ pos (m - 1)) -ℤ d.right else d.right -ℤ (i +ℤ pos (m - 1)))))
    by true e = far_away m d.width (i -ℤ d.right) n k few wide (far_place d.right i bound far)
    by false e =
        far_away m d.width (d.right -ℤ (i +ℤ pos (m - 1))) n k few wide
        (far_back d.right i (m - 1) (omega (arith, few)) bound far)

pub none_under : (k : ℕ) → nat_le 0 k ≡ true
none_under k = grind (arith, nat_tests)

-- ---- what the code computes

pub mask_bits : (a b mask k : ℕ) → a ≤ b → mask ≡ ones b - ones a → is_set mask k ≡ (nat_le a k && nat_lt k b)
mask_bits a b mask k le e = ap (λ z. is_set z k) (e ∙ ones_left a b le) ∙ bits_of_mask a b k le

pub ruleset ranges = (mask_bits, no_bits_between)

pub ones_rise : (a b : ℕ) → a ≤ b → ones a ≤ ones b
ones_rise a b le = omega (arith, wider_le a b le)

pub ruleset belows = (none_below, all_below, some_below)

-- a test that was taken, and one that wasn't
pub untaken : {A : Type 0} (t : Bool) (x : A) → (if t then Some x else None) ≡ None → t ≡ false
untaken true x e = absurd (true≢false (sym (ap is_none e)))
untaken false x e = refl

pub taken : {A : Type 0} (t : Bool) (x y : A) → (if t then Some x else None) ≡ Some y → x ≡ y
taken true x y e = same_Some x y e
taken false x y e = absurd (true≢false (ap is_none e))

-- ---- words

pub word_at : (l r i : ℤ) → is_between l r i ≡ true
    → (nat_abs (i -ℤ l) < span l r) × (index_at (int_le l r) l (nat_abs (i -ℤ l)) ≡ i)
word_at l r i h = by (int_le l r) refl
  where
    by : (b : Bool) → int_le l r ≡ b → (nat_abs (i -ℤ l) < span l r) × (index_at b l (nat_abs (i -ℤ l)) ≡ i)
    by true e = grind (arith, ints, e, h)
    by false e = grind (arith, ints, e, h)

pub passed : {A : Type 0} (t : Bool) (x y : A) → (if t then Some x else None) ≡ Some y → t ≡ true
passed true x y e = refl
passed false x y e = absurd (true≢false (ap is_none e))

pub below_as : (w a : ℕ) (p q : ℤ) → p ≡ q → AreBelow w p a → AreBelow w q a
below_as w a p q e h = subst (λ i. AreBelow w i a) e h

pub word_few : (l r i : ℤ) → is_bound l ≡ true → is_bound r ≡ true → is_between l r i ≡ true
    → nat_abs (i -ℤ l) < 2 ^ 40
word_few l r i h j k = grind (arith, ints, h, j, k)
