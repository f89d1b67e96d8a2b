-- Steps that rise: what lies before a cell, and what stands there.
use Rattle.std.specs.Prelude.{◌≡◌, refl, ℕ, zero, suc, ◌+◌, ◌-◌, ◌<◌, ◌≤◌, List, []}
use Rattle.std.specs.Prelude.{◌∷◌, ◌++◌, length, cond}
use Rattle.std.specs.Prelude.{nat_lt, Option, Some, None, is_none, slice_get, take, drop}
use Rattle.std.proofs.Common.{ap, sym, ◌∙◌, arith, true≢false, subst, get_or, length-drop}
use Rattle.std.proofs.lemmas.Bool.{lt-ltb, le-ltb, cond-true, cond-false}
use Rattle.std.proofs.lemmas.Option.{same_Some, slice_get-get_or}
use Rattle.fv_bit_sets.specs.declared.run.Run.{Run}
use Rattle.fv_bit_sets.specs.declared.step.Step.{Step}
use Rattle.fv_bit_sets.specs.Cells.{mask_at, mask_from, IsBefore, AreRising, Puts}
use Rattle.fv_bit_sets.specs.Runs.{IsRunOf}

pub before_down : (a b : ℕ) (past : Option ℕ) → a ≤ b → IsBefore b past → IsBefore a past
before_down a b None le h = tt
before_down a b (Some p) le h = omega (arith, le, h)

pub rising_from : (low high : ℕ) (past : Option ℕ) (ss : List Step) → high ≤ low → AreRising low past ss
    → AreRising high past ss
rising_from low high past [] le h = tt
rising_from low high past (s ∷ ss) le h = let first : high ≤ s.cell = omega (arith, le, h.0) in (first, h.1, h.2)

pub rising_to : (low : ℕ) (p q : Option ℕ) (ss : List Step) → ((c : ℕ) → IsBefore c p → IsBefore c q)
    → AreRising low p ss → AreRising low q ss
rising_to low p q [] f h = tt
rising_to low p q (s ∷ ss) f h = (h.0, f s.cell h.1, rising_to (suc s.cell) p q ss f h.2)

-- ---- a step at its place

at_least : (low : ℕ) (past : Option ℕ) (ss : List Step) (k : ℕ) (s : Step) → AreRising low past ss
    → slice_get ss k ≡ Some s → low ≤ s.cell
at_least low past [] k s h e = absurd (true≢false (ap is_none e))
at_least low past (x ∷ ss) zero s h e =
    let same : x.cell ≡ s.cell = ap (λ z. z.cell) (same_Some x s e) in omega (arith, h.0, same)
at_least low past (x ∷ ss) (suc k) s h e =
    let more = at_least (suc x.cell) past ss k s h.2 e in omega (arith, h.0, more)

pub before_past : (low : ℕ) (past : Option ℕ) (ss : List Step) (k : ℕ) (s : Step) → AreRising low past ss
    → slice_get ss k ≡ Some s → IsBefore s.cell past
before_past low past [] k s h e = absurd (true≢false (ap is_none e))
before_past low past (x ∷ ss) zero s h e =
    let same : x.cell ≡ s.cell = ap (λ z. z.cell) (same_Some x s e) in
    before_down s.cell x.cell past (omega (arith, same)) h.1
before_past low past (x ∷ ss) (suc k) s h e = before_past (suc x.cell) past ss k s h.2 e

pub rising_take : (low : ℕ) (past : Option ℕ) (ss : List Step) (k : ℕ) (s : Step) → AreRising low past ss
    → slice_get ss k ≡ Some s → AreRising low (Some s.cell) (take k ss)
rising_take low past [] k s h e = absurd (true≢false (ap is_none e))
rising_take low past (x ∷ ss) zero s h e = tt
rising_take low past (x ∷ ss) (suc k) s h e =
    let more = at_least (suc x.cell) past ss k s h.2 e in
    (h.0, omega (arith, more), rising_take (suc x.cell) past ss k s h.2 e)

pub rising_drop : (low : ℕ) (past : Option ℕ) (ss : List Step) (k : ℕ) (s : Step) → AreRising low past ss
    → slice_get ss k ≡ Some s → AreRising (suc s.cell) past (drop (suc k) ss)
rising_drop low past [] k s h e = absurd (true≢false (ap is_none e))
rising_drop low past (x ∷ ss) zero s h e =
    let same : x.cell ≡ s.cell = ap (λ z. z.cell) (same_Some x s e) in
    rising_from (suc x.cell) (suc s.cell) past ss (omega (arith, same)) h.2
rising_drop low past (x ∷ ss) (suc k) s h e = rising_drop (suc x.cell) past ss k s h.2 e

pub mask_take : (ss : List Step) (k c m : ℕ) (s : Step) → slice_get ss k ≡ Some s → c < s.cell
    → mask_from m (take k ss) c ≡ mask_from m ss c
mask_take [] k c m s e less = absurd (true≢false (ap is_none e))
mask_take (x ∷ ss) zero c m s e less =
    let same : x.cell ≡ s.cell = ap (λ z. z.cell) (same_Some x s e) in
    sym (cond-true (nat_lt c x.cell) m (mask_from x.mask ss c) (lt-ltb c x.cell (omega (arith, less, same))))
mask_take (x ∷ ss) (suc k) c m s e less =
    ap (λ z. cond (nat_lt c x.cell) m z) (mask_take ss k c x.mask s e less)

pub mask_drop : (low : ℕ) (past : Option ℕ) (ss : List Step) (k c m : ℕ) (s : Step) → AreRising low past ss
    → slice_get ss k ≡ Some s → s.cell ≤ c → mask_from m ss c ≡ mask_from s.mask (drop (suc k) ss) c
mask_drop low past [] k c m s h e le = absurd (true≢false (ap is_none e))
mask_drop low past (x ∷ ss) zero c m s h e le =
    let same : x.cell ≡ s.cell = ap (λ z. z.cell) (same_Some x s e) in
    cond-false (nat_lt c x.cell) m (mask_from x.mask ss c) (le-ltb c x.cell (omega (arith, le, same)))
    ∙ ap (λ z. mask_from z.mask ss c) (same_Some x s e)
mask_drop low past (x ∷ ss) (suc k) c m s h e le =
    let more = at_least (suc x.cell) past ss k s h.2 e in
    cond-false (nat_lt c x.cell) m (mask_from x.mask ss c) (le-ltb c x.cell (omega (arith, le, more)))
    ∙ mask_drop (suc x.cell) past ss k c x.mask s h.2 e le

-- ---- a step behind all

pub mask_below : (m : ℕ) (ss : List Step) (s : Step) (c : ℕ) → c < s.cell
    → mask_from m (ss ++ s ∷ []) c ≡ mask_from m ss c
mask_below m [] s c less = cond-true (nat_lt c s.cell) m s.mask (lt-ltb c s.cell less)
mask_below m (x ∷ ss) s c less = ap (λ z. cond (nat_lt c x.cell) m z) (mask_below x.mask ss s c less)

pub mask_above : (low m : ℕ) (ss : List Step) (s : Step) (c : ℕ) → AreRising low (Some s.cell) ss → s.cell ≤ c
    → mask_from m (ss ++ s ∷ []) c ≡ s.mask
mask_above low m [] s c h le = cond-false (nat_lt c s.cell) m s.mask (le-ltb c s.cell le)
mask_above low m (x ∷ ss) s c h le =
    cond-false (nat_lt c x.cell) m (mask_from x.mask (ss ++ s ∷ []) c) (le-ltb c x.cell (omega (arith, h.1, le)))
    ∙ mask_above (suc x.cell) x.mask ss s c h.2 le

pub rising_more : (low : ℕ) (ss : List Step) (s : Step) → AreRising low (Some s.cell) ss → low ≤ s.cell
    → AreRising low (Some (suc s.cell)) (ss ++ s ∷ [])
rising_more low [] s h le = (le, omega arith, tt)
rising_more low (x ∷ ss) s h le =
    let less : x.cell < s.cell = h.1 in
    (h.0, omega (arith, less), rising_more (suc x.cell) ss s h.2 (omega (arith, less)))

-- behind the last step
pub mask_last : (low past m : ℕ) (ss : List Step) (j c : ℕ) (s : Step) → AreRising low (Some past) ss
    → past ≤ c → suc j ≡ length ss → slice_get ss j ≡ Some s → mask_from m ss c ≡ s.mask
mask_last low past m [] j c s h le size e = absurd (true≢false (ap is_none e))
mask_last low past m (x ∷ []) zero c s h le size e =
    cond-false (nat_lt c x.cell) m x.mask (le-ltb c x.cell (omega (arith, le, h.1)))
    ∙ ap (λ z. z.mask) (same_Some x s e)
mask_last low past m (x ∷ []) (suc j) c s h le size e = absurd (true≢false (ap is_none e))
mask_last low past m (x ∷ y ∷ ss) zero c s h le size e = absurd (omega (arith, size))
mask_last low past m (x ∷ y ∷ ss) (suc j) c s h le size e =
    cond-false (nat_lt c x.cell) m (mask_from x.mask (y ∷ ss) c) (le-ltb c x.cell (omega (arith, le, h.1)))
    ∙ mask_last (suc x.cell) past x.mask (y ∷ ss) j c s h.2 le (omega (arith, size)) e

rising_prefix : (low : ℕ) (past : Option ℕ) (ss : List Step) (k : ℕ) → AreRising low past ss
    → AreRising low past (take k ss)
rising_prefix low past ss zero h = tt
rising_prefix low past [] (suc k) h = tt
rising_prefix low past (s ∷ ss) (suc k) h = (h.0, h.1, rising_prefix (suc s.cell) past ss k h.2)

take_all : (ss : List Step) (n : ℕ) → length ss ≤ n → take n ss ≡ ss
take_all [] zero h = refl
take_all [] (suc n) h = refl
take_all (s ∷ ss) zero h = absurd (omega (arith, h))
take_all (s ∷ ss) (suc n) h = ap (λ xs. s ∷ xs) (take_all ss n (omega (arith, h)))

rest_all : (ss : List Step) (k : ℕ) → take (length ss - (k + 1)) (drop (k + 1) ss) ≡ drop (suc k) ss
rest_all ss k =
    let next : k + 1 ≡ suc k = omega arith in
    take_all (drop (k + 1) ss) (length ss - (k + 1)) (omega (arith, length-drop (k + 1) ss))
    ∙ ap (λ j. drop j ss) next

-- ---- halves

pub lower_rising : (past : Option ℕ) (ss : List Step) (k : ℕ) (d : Step) → k < length ss → AreRising 0 past ss
    → AreRising 0 (Some (get_or ss k d).cell) (take k ss)
lower_rising past ss k d less h = rising_take 0 past ss k (get_or ss k d) h (slice_get-get_or ss k d less)

pub upper_rising : (past : Option ℕ) (ss : List Step) (k : ℕ) → k < length ss → AreRising 0 past ss
    → AreRising 0 past (take (length ss - (k + 1)) (drop (k + 1) ss))
upper_rising past ss k less h =
    let s = get_or ss k (record { cell = 0; mask = 0 }) in
    subst (AreRising 0 past) (sym (rest_all ss k))
    (rising_from (suc s.cell) 0 past (drop (suc k) ss) (omega arith)
    (rising_drop 0 past ss k s h (slice_get-get_or ss k (record { cell = 0; mask = 0 }) less)))

pub in_lower : (m : ℕ) (past : Option ℕ) (ss : List Step) (k : ℕ) (d : Step) (cell : ℕ) (r : Run) → k < length ss
    → AreRising 0 past ss → IsRunOf m (Some (get_or ss k d).cell) (take k ss) cell r → IsRunOf m past ss cell r
in_lower m past ss k d cell r less h is =
    let s = get_or ss k d in
    let at = slice_get-get_or ss k d less in record {
      inside = is.inside;
      within = λ c e. let below : c < s.cell = is.within c e in
          before_down c s.cell past (omega (arith, below)) (before_past 0 past ss k s h at);
      same = λ c le e. sym (mask_take ss k c m s at (is.within c e)) ∙ is.same c le e;
    }

pub in_upper : (m : ℕ) (past : Option ℕ) (ss : List Step) (k : ℕ) (d : Step) (cell : ℕ) (r : Run) → k < length ss
    → AreRising 0 past ss → (get_or ss k d).cell ≤ cell
    → IsRunOf (get_or ss k d).mask past (take (length ss - (k + 1)) (drop (k + 1) ss)) cell r
    → IsRunOf m past ss cell r
in_upper m past ss k d cell r less h behind is =
    let s = get_or ss k d in
    let at = slice_get-get_or ss k d less in record {
      inside = is.inside;
      within = is.within;
      same = λ c le e. mask_drop 0 past ss k c m s h at (omega (arith, behind, le))
          ∙ ap (λ xs. mask_from s.mask xs c) (sym (rest_all ss k)) ∙ is.same c le e;
    }

-- ---- a step that is put

pub last_is : (ss : List Step) (d : Step) (past cell : ℕ) → 0 < length ss → AreRising 0 (Some past) ss → past ≤ cell
    → mask_from 0 ss cell ≡ (get_or ss (length ss - 1) d).mask
last_is ss d past cell some h le =
    mask_last 0 past 0 ss (length ss - 1) cell (get_or ss (length ss - 1) d) h le (omega (arith, some))
    (slice_get-get_or ss (length ss - 1) d (omega (arith, some)))

pub put_none : (ss found : List Step) (s : Step) (last : ℕ) → found ≡ ss → AreRising 0 (Some s.cell) ss
    → ((past cell : ℕ) → AreRising 0 (Some past) found → past ≤ cell → mask_at found cell ≡ last)
    → last ≡ s.mask → Puts ss s ss
put_none ss found s last e h f same = record {
  rising = rising_to 0 (Some s.cell) (Some (suc s.cell)) ss (λ c less. omega (arith, less)) h;
  below = λ c less. refl;
  above = λ c le. ap (λ xs. mask_at xs c) (sym e)
      ∙ f s.cell c (subst (AreRising 0 (Some s.cell)) (sym e) h) le ∙ same;
}

pub put_more : (ss more : List Step) (s : Step) → AreRising 0 (Some s.cell) ss → more ≡ ss ++ s ∷ [] → Puts ss s more
put_more ss more s h e = record {
  rising = subst (AreRising 0 (Some (suc s.cell))) (sym e) (rising_more 0 ss s h (omega arith));
  below = λ c less. ap (λ xs. mask_at xs c) e ∙ mask_below 0 ss s c less;
  above = λ c le. ap (λ xs. mask_at xs c) e ∙ mask_above 0 0 ss s c h le;
}

length_take : (ss : List Step) (n : ℕ) → length (take n ss) ≤ n
length_take ss zero = omega arith
length_take [] (suc n) = omega arith
length_take (s ∷ ss) (suc n) = let more = length_take ss n in omega (arith, more)

pub lower_length : (ss : List Step) (k : ℕ) → k < length ss → length (take k ss) < length ss
lower_length ss k less = omega (arith, less, length_take ss k)

pub upper_length : (ss : List Step) (k : ℕ) → k < length ss
    → length (take (length ss - (k + 1)) (drop (k + 1) ss)) < length ss
upper_length ss k less = omega (arith, less, length_take (drop (k + 1) ss) (length ss - (k + 1)))
