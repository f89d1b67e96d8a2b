-- How many clauses without a complementary pair there are over so many variables, as sets.
use Rattle.std.proofs.Common.{◌≡◌, ℕ, zero, suc, ◌+◌, ◌*◌, ◌^◌, ◌<◌, ◌≤◌, Bool, true}
use Rattle.std.proofs.Common.{false, not, cond, ◌&&◌, ◌||◌}
use Rattle.std.proofs.Common.{List, [], ◌∷◌, ◌++◌, ℤ, pos, length, filter, refl, ap, sym, subst, ◌∙◌}
use Rattle.std.proofs.Common.{inl, inr, arith}
use Rattle.std.specs.List.{list_any, list_all}
use Rattle.std.proofs.Math.Nat.{pow-suc}
use Rattle.std.proofs.lemmas.Bool.{true≢false, false≢true, cases_eq, and_from, and_parts, or_parts, not-true}
use Rattle.std.proofs.lemmas.Bool.{not-false, not_from_false, false_from_ne_true, true_from_ne_false}
use Rattle.cnf_form.specs.Cnf.{IsLiteral, AreLiterals, AreClauses}
use Rattle.lrat_check.specs.Sets.{has, is_false, within, same_set}
use Rattle.lrat_check.specs.Steps.{is_empty}
use Rattle.lrat_check.specs.Resolved.{consistent}
use Rattle.sat_search.specs.Searching.{agrees, differ, Apart}
use Rattle.sat_learn.proofs.News.{all_from, all_at}
use Rattle.sat_search.proofs.Literals.{literal_at, by_variable, neg_next}

abbrev at : List ℤ → ℕ → Bool
at c n = has c (pos (n + 1))

abbrev off : List ℤ → ℕ → Bool
off c n = is_false c (pos (n + 1))

-- a test that tells both signs of the variable
abbrev Tells : ℕ → (List ℤ → Bool) → Type 0
Tells n test = (a b : List ℤ) → consistent a ≡ true → consistent b ≡ true → test a ≡ true → test b ≡ true
    → (agrees (at a n) (at b n) && agrees (off a n) (off b n)) ≡ true

all_cond : (p : List ℤ → Bool) (b : Bool) (c : List ℤ) (cs : List (List ℤ)) → (b ≡ true → p c ≡ true)
    → list_all p cs ≡ true → list_all p (cond b (c ∷ cs) cs) ≡ true
all_cond p true c cs h k = and_from (p c) (list_all p cs) (h refl) k
all_cond p false c cs h k = k

all_filter : (p test : List ℤ → Bool) (cs : List (List ℤ)) → list_all p cs ≡ true → list_all p (filter test cs) ≡ true
all_filter p test [] h = refl
all_filter p test (c ∷ cs) h =
    let q = and_parts (p c) (list_all p cs) h in
    all_cond p (test c) c (filter test cs) (λ t. q.0) (all_filter p test cs q.1)

lower : (x y : Bool) → x ≡ true → (not x || y) ≡ true → y ≡ true
lower true y e h = h
lower false y e h = absurd (false≢true e)

all_part : (n : ℕ) (test : List ℤ → Bool) → Tells n test → (c : List ℤ) (cs : List (List ℤ)) → consistent c ≡ true
    → test c ≡ true → list_all consistent cs ≡ true → list_all (differ (suc n) c) cs ≡ true
    → list_all (differ n c) (filter test cs) ≡ true
all_part n test k c [] pc tc pd h = refl
all_part n test k c (d ∷ ds) pc tc pd h =
    let q = and_parts (differ (suc n) c d) (list_all (differ (suc n) c) ds) h in
    let r = and_parts (consistent d) (list_all consistent ds) pd in
    all_cond (differ n c) (test d) d (filter test ds)
    (λ td. lower (agrees (at c n) (at d n) && agrees (off c n) (off d n)) (differ n c d) (k c d pc r.0 tc td) q.0)
    (all_part n test k c ds pc tc r.1 q.1)

apart_cond : (n : ℕ) (b : Bool) (c : List ℤ) (cs : List (List ℤ)) → (b ≡ true → list_all (differ n c) cs ≡ true)
    → Apart n cs → Apart n (cond b (c ∷ cs) cs)
apart_cond n true c cs h a = (h refl, a)
apart_cond n false c cs h a = a

apart_part : (n : ℕ) (test : List ℤ → Bool) → Tells n test → (cs : List (List ℤ)) → list_all consistent cs ≡ true
    → Apart (suc n) cs → Apart n (filter test cs)
apart_part n test k [] p a = tt
apart_part n test k (c ∷ cs) p a =
    let r = and_parts (consistent c) (list_all consistent cs) p in
    apart_cond n (test c) c (filter test cs) (λ tc. all_part n test k c cs r.0 tc r.1 a.0)
    (apart_part n test k cs r.1 a.1)

agree_same : (a b x : Bool) → a ≡ x → b ≡ x → agrees a b ≡ true
agree_same true b x e f = f ∙ sym e
agree_same false b x e f = not_from_false b (f ∙ sym e)

unfalse : (c : List ℤ) (n : ℕ) → consistent c ≡ true → at c n ≡ true → off c n ≡ false
unfalse c n p h = not-true (off c n) (all_at (λ l. not (is_false c l)) c (pos (n + 1)) p h)

untrue : (c : List ℤ) (n : ℕ) → consistent c ≡ true → off c n ≡ true → at c n ≡ false
untrue c n p h = false_from_ne_true (at c n) (λ k. false≢true (sym (unfalse c n p k) ∙ h))

tells_at : (n : ℕ) → Tells n (λ c. at c n)
tells_at n a b p q s t =
    and_from (agrees (at a n) (at b n)) (agrees (off a n) (off b n)) (agree_same (at a n) (at b n) true s t)
    (agree_same (off a n) (off b n) false (unfalse a n p s) (unfalse b n q t))

tells_off : (n : ℕ) → Tells n (λ c. off c n)
tells_off n a b p q s t =
    and_from (agrees (at a n) (at b n)) (agrees (off a n) (off b n))
    (agree_same (at a n) (at b n) false (untrue a n p s) (untrue b n q t))
    (agree_same (off a n) (off b n) true s t)

tells_none : (n : ℕ) → Tells n (λ c. not (at c n) && not (off c n))
tells_none n a b p q s t =
    let x = and_parts (not (at a n)) (not (off a n)) s in
    let y = and_parts (not (at b n)) (not (off b n)) t in
    and_from (agrees (at a n) (at b n)) (agrees (off a n) (off b n))
    (agree_same (at a n) (at b n) false (not-true (at a n) x.0) (not-true (at b n) y.0))
    (agree_same (off a n) (off b n) false (not-true (off a n) x.1) (not-true (off b n) y.1))

one_of : (x y : Bool) (a b d : ℕ) → 1 + (a + b + d) ≤ cond x (suc a) a + cond y (suc b) b
    + cond (not x && not y) (suc d) d
one_of true true a b d = omega arith
one_of true false a b d = omega arith
one_of false true a b d = omega arith
one_of false false a b d = omega arith

length_cond : (b : Bool) (c : List ℤ) (cs : List (List ℤ))
    → length (cond b (c ∷ cs) cs) ≡ cond b (suc (length cs)) (length cs)
length_cond true c cs = refl
length_cond false c cs = refl

three_parts : (n : ℕ) (cs : List (List ℤ))
    → length cs ≤ length (filter (λ c. at c n) cs) + length (filter (λ c. off c n) cs)
    + length (filter (λ c. not (at c n) && not (off c n)) cs)
three_parts n [] = omega arith
three_parts n (c ∷ cs) =
    let a = length_cond (at c n) c (filter (λ c. at c n) cs) in
    let b = length_cond (off c n) c (filter (λ c. off c n) cs) in
    let d = length_cond (not (at c n) && not (off c n)) c (filter (λ c. not (at c n) && not (off c n)) cs) in
    let o = one_of (at c n) (off c n) (length (filter (λ c. at c n) cs)) (length (filter (λ c. off c n) cs))
    (length (filter (λ c. not (at c n) && not (off c n)) cs)) in
    let r = three_parts n cs in
    omega (arith, a, b, d, o, r)

-- clauses without a pair that differ as sets are at most three to the number of variables
few_clauses : (n : ℕ) (cs : List (List ℤ)) → list_all consistent cs ≡ true → Apart n cs → length cs ≤ 3 ^ n
few_clauses zero [] p a = omega arith
few_clauses zero (c ∷ []) p a = omega arith
few_clauses zero (c ∷ d ∷ cs) p a = absurd (false≢true a.0)
few_clauses (suc n) cs p a =
    let x = few_clauses n (filter (λ c. at c n) cs) (all_filter consistent (λ c. at c n) cs p)
    (apart_part n (λ c. at c n) (tells_at n) cs p a) in
    let y = few_clauses n (filter (λ c. off c n) cs) (all_filter consistent (λ c. off c n) cs p)
    (apart_part n (λ c. off c n) (tells_off n) cs p a) in
    let z = few_clauses n (filter (λ c. not (at c n) && not (off c n)) cs)
    (all_filter consistent (λ c. not (at c n) && not (off c n)) cs p)
    (apart_part n (λ c. not (at c n) && not (off c n)) (tells_none n) cs p a) in
    let t = three_parts n cs in
    let w : 3 ^ suc n ≡ 3 ^ n * 3 = pow-suc 3 n in
    omega (arith, x, y, z, t, w)

agree_is : (a b : Bool) → agrees a b ≡ true → a ≡ b
agree_is true b h = sym h
agree_is false b h = sym (not-true b h)

same_at : (vars : ℕ) (a b : List ℤ) → differ vars a b ≡ false → (n : ℕ) → n < vars → (at a n ≡ at b n)
    × (off a n ≡ off b n)
same_at zero a b d n h = absurd (omega arith)
same_at (suc m) a b d n h =
    let q = or_parts (not (agrees (at a m) (at b m) && agrees (off a m) (off b m))) (differ m a b) d in
    elim (cases_eq m n) [
      | inl e ↦
          let p = and_parts (agrees (at a m) (at b m)) (agrees (off a m) (off b m))
          (not-false (agrees (at a m) (at b m) && agrees (off a m) (off b m)) q.0) in
          let P : ℕ → Type 0 = λ i. (at a i ≡ at b i) × (off a i ≡ off b i) in
          subst P e (agree_is (at a m) (at b m) p.0, agree_is (off a m) (off b m) p.1)
      | inr k ↦ same_at m a b q.1 n (omega (arith, h, k))
    ]

same_has : (vars : ℕ) (a b : List ℤ) → differ vars a b ≡ false → (x : ℤ) → IsLiteral vars x → has a x ≡ has b x
same_has vars a b d = by_variable vars (λ x. has a x ≡ has b x) (λ n k. (same_at vars a b d n k).0)
    (λ n k. ap (has a) (sym (neg_next n)) ∙ (same_at vars a b d n k).1 ∙ ap (has b) (neg_next n))

-- clauses over the variables that are not the same set differ at one
pub sets_differ : (vars : ℕ) (a b : List ℤ) → AreLiterals vars a → AreLiterals vars b → same_set b a ≡ false
    → differ vars a b ≡ true
sets_differ vars a b j k n = true_from_ne_false (differ vars a b) (λ d.
    false≢true (sym n ∙ and_from (within b a) (within a b)
    (all_from (has a) b (λ x h. same_has vars a b d x (literal_at vars b x k h) ∙ h))
    (all_from (has b) a (λ x h. sym (same_has vars a b d x (literal_at vars a x j h)) ∙ h))))

not_within : (c : List ℤ) → is_empty c ≡ false → same_set c [] ≡ false
not_within [] h = absurd (true≢false h)
not_within (l ∷ ls) h = refl

apart_empty : (vars : ℕ) (cs : List (List ℤ)) → AreClauses vars cs → list_all (λ c. not (is_empty c)) cs ≡ true
    → list_all (differ vars []) cs ≡ true
apart_empty vars [] k h = refl
apart_empty vars (c ∷ cs) k h =
    let p = and_parts (not (is_empty c)) (list_all (λ c. not (is_empty c)) cs) h in
    and_from (differ vars [] c) (list_all (differ vars []) cs)
    (sets_differ vars [] c tt k.0 (not_within c (not-true (is_empty c) p.0))) (apart_empty vars cs k.1 p.1)

-- the empty clause is one more
pub fewer_clauses : (vars : ℕ) (cs : List (List ℤ)) → AreClauses vars cs → list_all (λ c. not (is_empty c)) cs ≡ true
    → list_all consistent cs ≡ true → Apart vars cs → length cs < 3 ^ vars
fewer_clauses vars cs k h p a = let f = few_clauses vars ([] ∷ cs) p (apart_empty vars cs k h, a) in omega (arith, f)

pub apart_more : (vars : ℕ) (cs : List (List ℤ)) (r : List ℤ) → AreClauses vars cs → AreLiterals vars r
    → list_any (same_set r) cs ≡ false → Apart vars cs → Apart vars (cs ++ r ∷ [])
apart_more vars [] r k j n a = (refl, tt)
apart_more vars (c ∷ cs) r k j n a =
    let q = or_parts (same_set r c) (list_any (same_set r) cs) n in
    (all_last (differ vars c) cs r a.0 (sets_differ vars c r k.0 j q.0), apart_more vars cs r k.1 j q.1 a.1) where
      all_last : (p : List ℤ → Bool) (cs : List (List ℤ)) (r : List ℤ) → list_all p cs ≡ true → p r ≡ true
          → list_all p (cs ++ r ∷ []) ≡ true
      all_last p [] r h k = and_from (p r) true k refl
      all_last p (d ∷ ds) r h k = let q = and_parts (p d) (list_all p ds) h
          in and_from (p d) (list_all p (ds ++ r ∷ [])) q.0 (all_last p ds r q.1 k)
