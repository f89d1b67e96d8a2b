-- The earliest place, and a list that begins at one of its places.
use Rattle.std.specs.Prelude.{◌≡◌, refl, ℕ, zero, suc, ◌+◌, ◌<◌, ◌≤◌, ◌==◌, ◌&&◌, ◌||◌, nat_lt, List, [], ◌∷◌, ◌++◌}
use Rattle.std.specs.Prelude.{length, true, false, Bool, Option, Some, None, is_none, slice_get, take, drop}
use Rattle.std.proofs.Common.{ap, sym, ◌∙◌, arith, subst, true≢false, get_or, ◌⊎◌, inl, inr}
use Rattle.std.proofs.lemmas.Bool.Decides.{nat_tests}
use Rattle.std.proofs.lemmas.List.{take_more}
use Rattle.std.proofs.lemmas.Option.{same_Some, slice_get_read, slice_get-get_or}
use Rattle.fv_text.specs.declared.pos.Pos.{Pos}
use Rattle.vl_size.specs.Places.{is_earlier}
use Rattle.vl_mean.specs.declared.driver.Driver.{Driver}
use Rattle.vl_flow_cells.proofs.Lists.{get_either, get_left, get_some}
use Rattle.fv_graph.proofs.Moves.{same_or_not}
use Rattle.vl_flow_order.specs.Numbers.{AreNumbers, IsEarliest, numbered, places, with_driver}

-- ---- places compare by several numbers

compared : ℕ → ℕ → Bool → Bool
compared x y rest = nat_lt x y || ((x == y) && rest)

left_false : (a b : Bool) → (a || b) ≡ false → a ≡ false
left_false true b h = h
left_false false b h = refl

right_false : (a b : Bool) → (a || b) ≡ false → b ≡ false
right_false true b h = absurd (true≢false h)
right_false false b h = h

rest_false : (a b : Bool) → a ≡ true → (a && b) ≡ false → b ≡ false
rest_false true b e h = h
rest_false false b e h = absurd (true≢false (sym e))

no_less : (x y z : ℕ) → nat_lt y x ≡ false → nat_lt z y ≡ false → nat_lt z x ≡ false
no_less x y z h k = grind (arith, nat_tests)

same_low : (x y z : ℕ) → nat_lt y x ≡ false → nat_lt z y ≡ false → (z == x) ≡ true → (y == x) ≡ true
same_low x y z h k e = grind (arith, nat_tests)

same_high : (x y z : ℕ) → nat_lt y x ≡ false → nat_lt z y ≡ false → (z == x) ≡ true → (z == y) ≡ true
same_high x y z h k e = grind (arith, nat_tests)

compared_on : (x y z : ℕ) (m n k : Bool) → compared y x m ≡ false → compared z y n ≡ false
    → (m ≡ false → n ≡ false → k ≡ false) → compared z x k ≡ false
unfolding compared
compared_on x y z m n k h g f = by (nat_lt z x) (z == x) refl refl
  where
    low : nat_lt y x ≡ false
    low = left_false (nat_lt y x) ((y == x) && m) h

    high : nat_lt z y ≡ false
    high = left_false (nat_lt z y) ((z == y) && n) g

    by : (b c : Bool) → nat_lt z x ≡ b → (z == x) ≡ c → (b || (c && k)) ≡ false
    by true c e d = absurd (true≢false (sym e ∙ no_less x y z low high))
    by false false e d = refl
    by false true e d =
        f (rest_false (y == x) m (same_low x y z low high d) (right_false (nat_lt y x) ((y == x) && m) h))
        (rest_false (z == y) n (same_high x y z low high d) (right_false (nat_lt z y) ((z == y) && n) g))

compared_back : (x y : ℕ) (m n : Bool) → compared x y m ≡ true → (m ≡ true → n ≡ false) → compared y x n ≡ false
unfolding compared
compared_back x y m n h f = by (nat_lt x y) (x == y) refl refl h
  where
    none : (a b : Bool) → a ≡ false → b ≡ false → (a || b) ≡ false
    none true b e g = e
    none false b e g = g

    neither : (a b : Bool) → b ≡ false → (a && b) ≡ false
    neither true b g = g
    neither false b g = refl

    first : (a b : Bool) → a ≡ false → (a && b) ≡ false
    first true b g = absurd (true≢false g)
    first false b g = refl

    by : (b c : Bool) → nat_lt x y ≡ b → (x == y) ≡ c → (b || (c && m)) ≡ true
        → (nat_lt y x || ((y == x) && n)) ≡ false
    by true c e d k =
        let back : nat_lt y x ≡ false = grind (arith, nat_tests, e) in
        let apart : (y == x) ≡ false = grind (arith, nat_tests, e) in
        none (nat_lt y x) ((y == x) && n) back (first (y == x) n apart)
    by false true e d k =
        let back : nat_lt y x ≡ false = grind (arith, nat_tests, d) in
        none (nat_lt y x) ((y == x) && n) back (neither (y == x) n (f k))
    by false false e d k = absurd (true≢false (sym k))

pub earlier_on : (p q r : Pos) → is_earlier q p ≡ false → is_earlier r q ≡ false → is_earlier r p ≡ false
unfolding compared
earlier_on p q r h k =
    compared_on p.file q.file r.file _ _ _ h k
    (λ h k. compared_on p.line q.line r.line _ _ _ h k (λ h k. no_less p.col q.col r.col h k))

pub earlier_back : (p q : Pos) → is_earlier p q ≡ true → is_earlier q p ≡ false
unfolding compared
earlier_back p q h =
    compared_back p.file q.file _ _ h (λ h. compared_back p.line q.line _ _ h (λ h. later p.col q.col h))
  where
    later : (x y : ℕ) → nat_lt x y ≡ true → nat_lt y x ≡ false
    later x y h = grind (arith, nat_tests)

not_itself : (p : Pos) → is_earlier p p ≡ false
not_itself p = by (is_earlier p p) refl
  where
    by : (b : Bool) → is_earlier p p ≡ b → b ≡ false
    by true e = sym e ∙ earlier_back p p e
    by false e = refl

-- ---- the earliest one so far

module _ (drivers : List Driver) (numbers : List ℕ) where
  pub none_earlier : (best : ℕ) → IsEarliest drivers numbers 0 best
  none_earlier best k n m x y less e f g h = absurd (omega (arith, less))

  -- places of the numbers at two places
  abbrev pub StandsAt : ℕ → Pos → Type 0
  StandsAt k p = (n : ℕ) (x : Driver) → slice_get numbers k ≡ Some n → slice_get drivers n ≡ Some x → p ≡ x.pos

  pub earlier_one : (count best : ℕ) (p q : Pos) → AreNumbers (length drivers) numbers → best < length numbers
      → StandsAt count p → StandsAt best q → IsEarliest drivers numbers count best → is_earlier p q ≡ true
      → IsEarliest drivers numbers (count + 1) count
  earlier_one count best p q known inside here there were less k n m x y below e f g h = by (same_or_not k count)
    where
      old : (a : ℕ) × (slice_get numbers best ≡ Some a)
      old = get_some numbers best inside

      held : (z : Driver) × (slice_get drivers old.0 ≡ Some z)
      held = get_some drivers old.0 (known best old.0 old.1)

      by : (k ≡ count) ⊎ (k ≡ count → ⊥) → is_earlier x.pos y.pos ≡ false
      by (inl same) =
          let one : n ≡ m = same_Some n m (sym e ∙ ap (slice_get numbers) same ∙ g) in
          let driver : x ≡ y = same_Some x y (sym f ∙ ap (slice_get drivers) one ∙ h) in
          ap (λ z. is_earlier z.pos y.pos) driver ∙ not_itself y.pos
      by (inr other) =
          let before = were k n old.0 x held.0 (omega (arith, below, other)) e f old.1 held.1 in
          let back = earlier_back p q less in
          earlier_on y.pos held.0.pos x.pos
          (subst (λ z. is_earlier held.0.pos z ≡ false) (here m y g h)
          (subst (λ z. is_earlier z p ≡ false) (there old.0 held.0 old.1 held.1) back)) before

  pub no_earlier_one : (count best : ℕ) (p q : Pos) → StandsAt count p → StandsAt best q
      → IsEarliest drivers numbers count best → is_earlier p q ≡ false → IsEarliest drivers numbers (count + 1) best
  no_earlier_one count best p q here there were late k n m x y below e f g h = by (same_or_not k count)
    where
      by : (k ≡ count) ⊎ (k ≡ count → ⊥) → is_earlier x.pos y.pos ≡ false
      by (inl same) =
          subst (λ z. is_earlier z y.pos ≡ false) (here n x (ap (slice_get numbers) (sym same) ∙ e) f)
          (subst (λ z. is_earlier p z ≡ false) (there m y g h) late)
      by (inr other) = were k n m x y (omega (arith, below, other)) e f g h

  pub earliest_whole : (count best : ℕ) → length numbers ≤ count → IsEarliest drivers numbers count best
      → IsEarliest drivers numbers (length numbers) best
  earliest_whole count best le were k n m x y less e f g h = were k n m x y (omega (arith, less, le)) e f g h

-- ---- turned

get_drop : (xs : List ℕ) (a k : ℕ) → slice_get (drop a xs) k ≡ slice_get xs (a + k)
get_drop xs zero k = let e : k ≡ 0 + k = omega arith in ap (slice_get xs) e
get_drop [] (suc a) k = refl
get_drop (x ∷ xs) (suc a) k =
    let e : suc a + k ≡ suc (a + k) = omega arith in
    get_drop xs a k ∙ sym (ap (slice_get (x ∷ xs)) e)

get_take : (xs : List ℕ) (a k n : ℕ) → slice_get (take a xs) k ≡ Some n → slice_get xs k ≡ Some n
get_take xs zero k n e = absurd (true≢false (ap is_none e))
get_take [] (suc a) k n e = e
get_take (x ∷ xs) (suc a) zero n e = e
get_take (x ∷ xs) (suc a) (suc k) n e = get_take xs a k n e

-- what stands in the turned list stands in the list
pub turned_from : (xs : List ℕ) (at k n : ℕ) → slice_get (drop at xs ++ take at xs) k ≡ Some n
    → (m : ℕ) × (slice_get xs m ≡ Some n)
turned_from xs at k n e = by (get_either (drop at xs) (take at xs) k n e)
  where
    by : (slice_get (drop at xs) k ≡ Some n)
        ⊎ ((j : ℕ) × (k ≡ length (drop at xs) + j) × (slice_get (take at xs) j ≡ Some n))
        → (m : ℕ) × (slice_get xs m ≡ Some n)
    by (inl h) = (at + k, sym (get_drop xs at k) ∙ h)
    by (inr h) = (h.0, get_take xs at h.0 n h.2)

pub turned_first : (xs : List ℕ) (at n : ℕ) → slice_get xs at ≡ Some n
    → slice_get (drop at xs ++ take at xs) 0 ≡ Some n
turned_first xs at n e =
    let same : at + 0 ≡ at = omega arith in
    get_left (drop at xs) (take at xs) 0 n (get_drop xs at 0 ∙ ap (slice_get xs) same ∙ e)

-- ---- places of drivers

pub numbered_append : (drivers : List Driver) (xs ys : List ℕ)
    → numbered drivers (xs ++ ys) ≡ numbered drivers xs ++ numbered drivers ys
numbered_append drivers [] ys = refl
numbered_append drivers (n ∷ xs) ys = by (slice_get drivers n) (numbered_append drivers xs ys)
  where
    by : (o : Option Driver) → numbered drivers (xs ++ ys) ≡ numbered drivers xs ++ numbered drivers ys
        → with_driver o (numbered drivers (xs ++ ys)) ≡ with_driver o (numbered drivers xs) ++ numbered drivers ys
    by None h = h
    by (Some x) h = ap (λ zs. x ∷ zs) h

pub places_append : (xs ys : List Driver) → places (xs ++ ys) ≡ places xs ++ places ys
places_append [] ys = refl
places_append (x ∷ xs) ys = ap (λ zs. x.pos ∷ zs) (places_append xs ys)

pub places_more : (drivers : List Driver) (xs : List ℕ) (n : ℕ)
    → places (numbered drivers (xs ++ n ∷ [])) ≡ places (numbered drivers xs) ++ places (numbered drivers (n ∷ []))
places_more drivers xs n =
    ap places (numbered_append drivers xs (n ∷ [])) ∙ places_append (numbered drivers xs) (numbered drivers (n ∷ []))

module _ (drivers : List Driver) (numbers : List ℕ) (known : AreNumbers (length drivers) numbers) where
  pub places_step : (at : ℕ) (p : Pos) (found more : List Pos) → at < length numbers → StandsAt drivers numbers at p
      → found ≡ places (numbered drivers (take at numbers)) → more ≡ found ++ p ∷ []
      → more ≡ places (numbered drivers (take (at + 1) numbers))
  places_step at p found more less here were e =
      e ∙ (λ j. were j ++ last j)
      ∙ sym (places_more drivers (take at numbers) n.0)
      ∙ ap (λ ns. places (numbered drivers ns)) (sym taken)
    where
      n : (m : ℕ) × (slice_get numbers at ≡ Some m)
      n = get_some numbers at less

      x : (y : Driver) × (slice_get drivers n.0 ≡ Some y)
      x = get_some drivers n.0 (known at n.0 n.1)

      last : p ∷ [] ≡ places (numbered drivers (n.0 ∷ []))
      last =
          ap (λ q. q ∷ []) (here n.0 x.0 n.1 x.1)
          ∙ ap (λ o. places (with_driver o [])) (sym x.1)

      same : get_or numbers at n.0 ≡ n.0
      same = same_Some (get_or numbers at n.0) n.0 (sym (slice_get-get_or numbers at n.0 less) ∙ n.1)

      taken : take (at + 1) numbers ≡ take at numbers ++ n.0 ∷ []
      taken = take_more numbers at n.0 less ∙ ap (λ m. take at numbers ++ m ∷ []) same

  -- the driver of a number, in the words of the code
  pub number_known : (at : ℕ) → at < length numbers → get_or numbers at 0 < length drivers
  number_known at less = known at (get_or numbers at 0) (slice_get-get_or numbers at 0 less)

  pub place_is : (at : ℕ) (d x : Driver) (n : ℕ) → at < length numbers
      → d ≡ get_or drivers (get_or numbers at 0) d → slice_get numbers at ≡ Some n → slice_get drivers n ≡ Some x
      → d.pos ≡ x.pos
  place_is at d x n less is e f =
      let same : get_or numbers at 0 ≡ n =
      same_Some (get_or numbers at 0) n (sym (slice_get-get_or numbers at 0 less) ∙ e) in
      let held : slice_get drivers (get_or numbers at 0) ≡ Some d =
      slice_get_read drivers (length drivers) (get_or numbers at 0) d refl (number_known at less) is in
      ap (λ y. y.pos) (same_Some d x (sym held ∙ ap (slice_get drivers) same ∙ f))

pub turned_numbers : (count : ℕ) (xs turned : List ℕ) (at : ℕ) → turned ≡ drop at xs ++ take at xs
    → AreNumbers count xs → AreNumbers count turned
turned_numbers count xs turned at e known k n h =
    let m = turned_from xs at k n (sym (ap (λ ys. slice_get ys k) e) ∙ h) in known m.0 n m.1
