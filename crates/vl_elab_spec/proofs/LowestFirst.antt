-- The answered refusal is one of those that are there, and none of them comes before it; a walk in two parts.
use Rattle.std.specs.Prelude.{◌≡◌, refl, ℕ, ◌<◌, ◌≤◌, ◌==◌, List, [], ◌∷◌, ◌++◌, Bool, true, false, ◌&&◌, ◌||◌, nat_lt}
use Rattle.std.specs.Prelude.{Option, Some, None, ◌⊎◌, if◌then◌else◌}
use Rattle.std.proofs.Common.{ap, sym, ◌∙◌, true≢false, arith, subst, inl, inr}
use Rattle.std.proofs.lemmas.Bool.Decides.{nat_tests}
use Rattle.std.proofs.lemmas.Option.{same_Some}
use Rattle.fv_text.specs.declared.pos.Pos.{Pos}
use Rattle.vl_tree.specs.declared.source.Module.{Module}
use Rattle.vl_size.specs.Places.{is_earlier}
use Rattle.vl_mean.specs.Runs.{Each}
use Rattle.vl_mean.specs.Walk.{Step}
use Rattle.vl_elab_spec.specs.declared.elab_fault.ElabFault.{ElabFault}
use Rattle.vl_elab_spec.specs.Refused.{Totals, counted, all_counted, comes_before, first_refused, IsAmong, IsLowest}
use Rattle.vl_elab_spec.specs.Refused.{lower, lower_of, lowest, or_later, place, rank, refusals_at}

-- ---- order by several numbers

lex : ℕ → ℕ → Bool → Bool
lex x y n = nat_lt x y || ((x == y) && n)

or_first : (a b : Bool) → (a || b) ≡ false → a ≡ false
or_first true b h = h
or_first false b h = refl

or_second : (a b : Bool) → (a || b) ≡ false → b ≡ false
or_second true b h = absurd (true≢false h)
or_second false b h = h

and_second : (a b : Bool) → a ≡ true → (a && b) ≡ false → b ≡ false
and_second true b e h = h
and_second false b e h = absurd (true≢false (sym e))

less_trans : (x y z : ℕ) → nat_lt y x ≡ false → nat_lt z y ≡ false → nat_lt z x ≡ false
less_trans x y z h k = grind (arith, nat_tests)

same_first : (x y z : ℕ) → nat_lt y x ≡ false → nat_lt z y ≡ false → (z == x) ≡ true → (y == x) ≡ true
same_first x y z h k e = grind (arith, nat_tests)

same_second : (x y z : ℕ) → nat_lt y x ≡ false → nat_lt z y ≡ false → (z == x) ≡ true → (z == y) ≡ true
same_second x y z h k e = grind (arith, nat_tests)

lex_trans : (x y z : ℕ) (m n k : Bool) → lex y x m ≡ false → lex z y n ≡ false → (m ≡ false → n ≡ false → k ≡ false)
    → lex z x k ≡ false
unfolding lex
lex_trans x y z m n k h g f = by (nat_lt z x) (z == x) refl refl
  where
    first : nat_lt y x ≡ false
    first = or_first (nat_lt y x) ((y == x) && m) h

    second : nat_lt z y ≡ false
    second = or_first (nat_lt z y) ((z == y) && n) g

    by : (b c : Bool) → nat_lt z x ≡ b → (z == x) ≡ c → (b || (c && k)) ≡ false
    by true c e d = absurd (true≢false (sym e ∙ less_trans x y z first second))
    by false false e d = refl
    by false true e d =
        f (and_second (y == x) m (same_first x y z first second d) (or_second (nat_lt y x) ((y == x) && m) h))
        (and_second (z == y) n (same_second x y z first second d) (or_second (nat_lt z y) ((z == y) && n) g))

less_asym : (x y : ℕ) → nat_lt x y ≡ true → nat_lt y x ≡ false
less_asym x y h = grind (arith, nat_tests)

less_apart : (x y : ℕ) → nat_lt x y ≡ true → (y == x) ≡ false
less_apart x y h = grind (arith, nat_tests)

same_back : (x y : ℕ) → (x == y) ≡ true → nat_lt y x ≡ false
same_back x y h = grind (arith, nat_tests)

and_false : (a b : Bool) → b ≡ false → (a && b) ≡ false
and_false true b h = h
and_false false b h = refl

lex_asym : (x y : ℕ) (m n : Bool) → lex x y m ≡ true → (m ≡ true → n ≡ false) → lex y x n ≡ false
unfolding lex
lex_asym x y m n h f = by (nat_lt x y) (x == y) refl refl h
  where
    by : (b c : Bool) → nat_lt x y ≡ b → (x == y) ≡ c → (b || (c && m)) ≡ true → (nat_lt y x || ((y == x) && n)) ≡ false
    by true c e d k = λ i. less_asym x y e i || (less_apart x y e i && n)
    by false true e d k = λ i. same_back x y d i || and_false (y == x) n (f k) i
    by false false e d k = absurd (true≢false (sym k))

-- ---- places and refusals

earlier_trans : (p q r : Pos) → is_earlier q p ≡ false → is_earlier r q ≡ false → is_earlier r p ≡ false
unfolding lex
earlier_trans p q r h k =
    lex_trans p.file q.file r.file _ _ _ h k
    (λ h k. lex_trans p.line q.line r.line _ _ _ h k (λ h k. less_trans p.col q.col r.col h k))

earlier_asym : (p q : Pos) → is_earlier p q ≡ true → is_earlier q p ≡ false
unfolding lex
earlier_asym p q h =
    lex_asym p.file q.file _ _ h (λ h. lex_asym p.line q.line _ _ h (λ h. less_asym p.col q.col h))

before_trans : (g r h : ElabFault) → comes_before g r ≡ false → comes_before r h ≡ false → comes_before g h ≡ false
unfolding lex
before_trans g r h a b =
    lex_trans (rank g) (rank r) (rank h) _ _ _ a b (λ a b. earlier_trans (place g) (place r) (place h) a b)

before_asym : (g h : ElabFault) → comes_before g h ≡ true → comes_before h g ≡ false
unfolding lex
before_asym g h a = lex_asym (rank h) (rank g) _ _ a (λ a. earlier_asym (place h) (place g) a)

before_same : (g : ElabFault) → comes_before g g ≡ false
before_same g = by (comes_before g g) refl
  where
    by : (b : Bool) → comes_before g g ≡ b → b ≡ false
    by true e = sym e ∙ before_asym g g e
    by false e = refl

-- ---- the lowest

all_behind : (g r : ElabFault) (hs : List ElabFault) → comes_before g r ≡ false
    → Each (λ h. comes_before r h ≡ false) hs
    → Each (λ h. comes_before g h ≡ false) hs
all_behind g r [] e a = tt
all_behind g r (h ∷ hs) e a = (before_trans g r h e a.0, all_behind g r hs e a.1)

chosen : (b : Bool) (g r : ElabFault) (hs : List ElabFault) → comes_before g r ≡ b → IsLowest hs r
    → IsLowest (g ∷ hs) (if b then r else g)
chosen true g r hs e l = record { among = inr l.among; first = (before_asym g r e, l.first) }
chosen false g r hs e l = record { among = inl refl; first = (before_same g, all_behind g r hs e l.first) }

lowest_of : (g : ElabFault) (hs : List ElabFault) → IsLowest (g ∷ hs) (lower g (lowest hs))
lowest_of g [] = record { among = inl refl; first = (before_same g, tt) }
lowest_of g (h ∷ hs) =
    let r : ElabFault = lower h (lowest hs) in chosen (comes_before g r) g r (h ∷ hs) refl (lowest_of h hs)

none_some : (g : ElabFault) → None ≡ Some g → ⊥
none_some g e = cc

pub lowest_found : (gs : List ElabFault) (g : ElabFault) → lowest gs ≡ Some g → IsLowest gs g
lowest_found [] g e = absurd (none_some g e)
lowest_found (h ∷ hs) g e = subst (IsLowest (h ∷ hs)) (same_Some (lower h (lowest hs)) g e) (lowest_of h hs)

-- ---- the lowest of two parts

strict_trans : (g h k : ElabFault) → comes_before g h ≡ true → comes_before h k ≡ true → comes_before g k ≡ true
strict_trans g h k a b = by (comes_before g k) refl
  where
    by : (c : Bool) → comes_before g k ≡ c → c ≡ true
    by true e = refl
    by false e = sym (before_trans g k h e (before_asym h k b)) ∙ a

if_true : (c : Bool) (g h : ElabFault) → c ≡ true → (if c then g else h) ≡ g
if_true true g h e = refl
if_true false g h e = absurd (true≢false (sym e))

if_false : (c : Bool) (g h : ElabFault) → c ≡ false → (if c then g else h) ≡ h
if_false true g h e = absurd (true≢false e)
if_false false g h e = refl

lower_assoc : (g h k : ElabFault) → lower g (Some (lower h (Some k))) ≡ lower (lower g (Some h)) (Some k)
lower_assoc g h k = by (comes_before g h) (comes_before h k) refl refl
  where
    by : (a b : Bool) → comes_before g h ≡ a → comes_before h k ≡ b
        → lower g (Some (if b then k else h)) ≡ lower (if a then h else g) (Some k)
    by true true d e = if_true (comes_before g k) k g (strict_trans g h k d e) ∙ sym (if_true (comes_before h k) k h e)
    by true false d e = if_true (comes_before g h) h g d ∙ sym (if_false (comes_before h k) k h e)
    by false true d e = refl
    by false false d e =
        if_false (comes_before g h) h g d ∙ sym (if_false (comes_before g k) k g (before_trans g h k d e))

lower_of_assoc : (a b c : Option ElabFault) → lower_of a (lower_of b c) ≡ lower_of (lower_of a b) c
lower_of_assoc None b c = refl
lower_of_assoc (Some g) None c = refl
lower_of_assoc (Some g) (Some h) None = refl
lower_of_assoc (Some g) (Some h) (Some k) = ap Some (lower_assoc g h k)

pub lowest_append : (gs hs : List ElabFault) → lowest (gs ++ hs) ≡ lower_of (lowest gs) (lowest hs)
lowest_append [] hs = refl
lowest_append (g ∷ gs) hs =
    ap (λ o. Some (lower g o)) (lowest_append gs hs) ∙ lower_of_assoc (Some g) (lowest gs) (lowest hs)

-- ---- a walk in two parts

or_later_assoc : (a b c : Option ElabFault) → or_later a (or_later b c) ≡ or_later (or_later a b) c
or_later_assoc None b c = refl
or_later_assoc (Some g) b c = refl

pub first_append : (ms : List Module) (t : Totals) (xs ys : List Step)
    → first_refused ms t (xs ++ ys) ≡ or_later (first_refused ms t xs) (first_refused ms (all_counted t xs) ys)
first_append ms t [] ys = refl
first_append ms t (x ∷ xs) ys =
    ap (or_later (lowest (refusals_at ms t x))) (first_append ms (counted t x) xs ys)
    ∙ or_later_assoc (lowest (refusals_at ms t x)) (first_refused ms (counted t x) xs)
    (first_refused ms (all_counted (counted t x) xs) ys)
