-- Turns of loops: what is looked up, numbered, counted and chosen, by one more item.
use Rattle.std.proofs.Common.{◌≡◌, ℕ, zero, suc, ◌+◌, ◌-◌, ◌*◌, ◌%◌, ◌<◌, ◌≤◌, ◌^◌, Bool, true, false, not, cond, eqb, ltb, ◌||◌}
use Rattle.std.proofs.Common.{List, [], ◌∷◌, ◌++◌, ℤ, pos, neg_ℤ, length, take, drop, get_or, map, Option, Some, None}
use Rattle.std.proofs.Common.{refl, ap, sym, subst, ◌∙◌, ◌⊎◌, inl, inr, append_assoc, length-append, arith, w64, to_z, of_z, ◌-ℤ◌}
use Rattle.std.specs.Prelude.{unsigned_abs, slice_get, filter}
use Rattle.std.proofs.lemmas.Int.{ints}
use Rattle.std.specs.Ordering.{int_eq}
use Rattle.std.proofs.lemmas.Bool.{false≢true, cases_eq, cases_lt, cases_Bool, lt-ltb}
use Rattle.std.proofs.lemmas.List.{take_more, take_all, drop_more, get_or-set_same, get_or-set_other}
use Rattle.std.proofs.Math.ListN.{set, length-set}
use Rattle.std.proofs.lemmas.Option.{slice_get_within, slice_get-get_or}
use Rattle.sat_trail.specs.Trail.{is_assigned, place_of}
use Rattle.sat_trail.proofs.Codes.{lit_kept}
use Rattle.sat_trail.proofs.Members.{has_append, has_head, has_tail, none_at, or_both, same_is}
use Rattle.cnf_form.specs.Cnf.{IsLiteral, AreLiterals}
use Rattle.lrat_check.specs.Sets.{has, is_false, negs, IsLit, AreLits}
use Rattle.sat_search.proofs.Places.{push_cases}
use Rattle.sat_cubes.specs.Cubes.{open_vars, new_number, cube_of, signed_as, renumbered, reduced, is_satisfied, restricted, ids_from}
use Rattle.sat_cubes.specs.Splits.{occurrences, occurrences_in, is_split, Precedes, IsNext}
use Rattle.sat_cubes.specs.Parts.{AreFound, AreNumbered, NoneLeft, PrecedesBy, IsNextBy}
use Rattle.sat_cubes.specs.Values.{value_at, merged}
use Rattle.sat_cubes.proofs.Others.{others_open, others_among, length_open, length_among, length_others}
use Rattle.sat_cubes.proofs.Renumbers.{abs_neg, apart_assigned, new_within}
use Rattle.sat_cubes.proofs.Mirrors.{left_literals}

append_nothing : {X : Type 0} (xs : List X) → xs ++ [] ≡ xs
append_nothing [] = refl
append_nothing (x ∷ xs) = ap (λ ys. x ∷ ys) (append_nothing xs)

turned : (l m : ℤ) → int_eq l m ≡ int_eq m l
turned l m = grind arith

or_nothing : (b : Bool) → (b || false) ≡ b
or_nothing true = refl
or_nothing false = refl

eqb_self : (a b : ℕ) → a ≡ b → eqb a b ≡ true
eqb_self a b e = grind arith

eqb_apart : (a b : ℕ) → (a ≡ b → ⊥) → eqb a b ≡ false
eqb_apart a b n = grind arith

-- ---- the literals of a cube

found_at : (b : Bool) (old : ℕ) (h : Bool) → not (eqb old 0) ≡ h → not (eqb (cond b 1 old) 0) ≡ (h || b)
found_at true old true e = refl
found_at true old false e = refl
found_at false old h e = e ∙ sym (or_nothing h)

pub found_more : (cube : List ℤ) (k : ℕ) (lit : ℤ) (old now : List ℕ) → k < length cube → lit ≡ get_or cube k lit
    → ((l : ℤ) → place_of now l ≡ cond (int_eq lit l) 1 (place_of old l)) → AreFound (take k cube) old
    → AreFound (take (k + 1) cube) now
found_more cube k lit old now h e puts found l =
    ap (λ p. not (eqb p 0)) (puts l)
    ∙ found_at (int_eq lit l) (place_of old l) (has (take k cube) l) (found l)
    ∙ ap (λ b. has (take k cube) l || b) (turned lit l ∙ sym (or_nothing (int_eq l lit)))
    ∙ sym (has_append (take k cube) (lit ∷ []) l)
    ∙ ap (λ x. has (take k cube ++ x ∷ []) l) e ∙ ap (λ xs. has xs l) (sym (take_more cube k lit h))

pub found_all : (cube : List ℤ) (k : ℕ) (places : List ℕ) → length cube ≤ k → AreFound (take k cube) places
    → AreFound cube places
found_all cube k places h found l = found l ∙ ap (λ xs. has xs l) (take_all k cube h)

-- ---- the variables that are left

pub numbered_among : (cube : List ℤ) (n : ℕ) (places : List ℕ) → is_assigned cube (n + 1) ≡ true
    → AreNumbered cube n places → AreNumbered cube (n + 1) places
numbered_among cube n places e numbered var s h o =
    numbered var s (within (cases_eq var (n + 1))) o where
      within : (var ≡ n + 1) ⊎ (var ≡ n + 1 → ⊥) → var ≤ n
      within (inl f) = absurd (false≢true (sym o ∙ ap (is_assigned cube) f ∙ e))
      within (inr f) = omega (arith, h, f)

pub vars_among : (cube : List ℤ) (n : ℕ) → is_assigned cube (n + 1) ≡ true
    → open_vars cube n ≡ open_vars cube (n + 1)
vars_among cube n e =
    sym (append_nothing (open_vars cube n)) ∙ sym (others_among (is_assigned cube) n e)

pub vars_open : (cube : List ℤ) (n : ℕ) → is_assigned cube (n + 1) ≡ false
    → open_vars cube n ++ (n + 1) ∷ [] ≡ open_vars cube (n + 1)
vars_open cube n e = sym (others_open (is_assigned cube) n e)

pos_apart : (a b : ℕ) → (b ≡ a → ⊥) → int_eq (pos a) (pos b) ≡ false
pos_apart a b n = at (int_eq (pos a) (pos b)) refl where
  at : (t : Bool) → int_eq (pos a) (pos b) ≡ t → t ≡ false
  at true e = absurd (n (let f : pos a ≡ pos b = same_is (pos a) (pos b) e in let g : a ≡ b = cc in sym g))
  at false e = refl

pos_same : (a b : ℕ) → b ≡ a → int_eq (pos a) (pos b) ≡ true
pos_same a b e = grind (arith, e)

pub numbered_open : (cube : List ℤ) (n : ℕ) (old now : List ℕ) (many : ℕ) → is_assigned cube (n + 1) ≡ false
    → many ≡ new_number cube (n + 1)
    → ((l : ℤ) → place_of now l ≡ cond (int_eq (pos (n + 1)) l) many (place_of old l))
    → AreNumbered cube n old → AreNumbered cube (n + 1) now
numbered_open cube n old now many e is puts numbered var s h o = at (cases_eq var (n + 1)) where
  at : (var ≡ n + 1) ⊎ (var ≡ n + 1 → ⊥) → place_of now (pos var) ≡ new_number cube var
  at (inl f) = puts (pos var) ∙ ap (λ b. cond b many (place_of old (pos var))) (pos_same (n + 1) var f)
      ∙ is ∙ ap (new_number cube) (sym f)
  at (inr f) = puts (pos var) ∙ ap (λ b. cond b many (place_of old (pos var))) (pos_apart (n + 1) var f)
      ∙ numbered var s (omega (arith, h, f)) o

-- ---- counts

in_append : (var : ℕ) (xs ys : List ℤ) → occurrences_in var (xs ++ ys) ≡ occurrences_in var xs + occurrences_in var ys
in_append var [] ys = omega arith
in_append var (x ∷ xs) ys = let h = in_append var xs ys in omega (arith, h)

pub counts_in : (clause : List ℤ) (k : ℕ) (lit : ℤ) (var : ℕ) → k < length clause → lit ≡ get_or clause k lit
    → occurrences_in var (take (k + 1) clause)
    ≡ occurrences_in var (take k clause) + cond (eqb (unsigned_abs lit) var) 1 0
counts_in clause k lit var h e =
    let t : take (k + 1) clause ≡ take k clause ++ lit ∷ [] =
    take_more clause k lit h ∙ ap (λ x. take k clause ++ x ∷ []) (sym e) in
    let a = in_append var (take k clause) (lit ∷ []) in
    let f = ap (occurrences_in var) t in
    omega (arith, a, f)

all_append : (var : ℕ) (xs ys : List (List ℤ)) → occurrences var (xs ++ ys) ≡ occurrences var xs + occurrences var ys
all_append var [] ys = omega arith
all_append var (x ∷ xs) ys = let h = all_append var xs ys in omega (arith, h)

pub counts_all : (clauses : List (List ℤ)) (k : ℕ) (clause : List ℤ) (var : ℕ) → k < length clauses
    → clause ≡ get_or clauses k clause
    → occurrences var (take (k + 1) clauses) ≡ occurrences var (take k clauses) + occurrences_in var clause
counts_all clauses k clause var h e =
    let t : take (k + 1) clauses ≡ take k clauses ++ clause ∷ [] =
    take_more clauses k clause h ∙ ap (λ x. take k clauses ++ x ∷ []) (sym e) in
    let a = all_append var (take k clauses) (clause ∷ []) in
    let f = ap (occurrences var) t in
    omega (arith, a, f)

-- ---- the first variable by counts

module _ (counts taken : List ℕ) (i : ℕ) where
  count_at : ℕ → ℕ
  count_at var = get_or counts (var - 1) 0

  pub none_more : NoneLeft i taken → is_split taken (i + 1) ≡ true → NoneLeft (i + 1) taken
  none_more none e var s h = at (cases_eq var (i + 1)) where
    at : (var ≡ i + 1) ⊎ (var ≡ i + 1 → ⊥) → is_split taken var ≡ true
    at (inl f) = ap (is_split taken) f ∙ e
    at (inr f) = none var s (omega (arith, h, f))

  pub first_one : NoneLeft i taken → is_split taken (i + 1) ≡ false → IsNextBy counts (i + 1) taken (i + 1)
  first_one none e = record {
    some = omega arith;
    within = omega arith;
    fresh = e;
    first = λ other s h free apart.
        absurd (false≢true (sym free ∙ none other s (omega (arith, h, apart))));
  }

  module _ (var : ℕ) (next : IsNextBy counts i taken var) where
    pub next_taken : is_split taken (i + 1) ≡ true → IsNextBy counts (i + 1) taken var
    next_taken e = record {
      some = next.some;
      within = (let w = next.within in omega (arith, w));
      fresh = next.fresh;
      first = λ other s h free apart. next.first other s (below other h free (cases_eq other (i + 1))) free apart;
    } where
      below : (other : ℕ) → other ≤ i + 1 → is_split taken other ≡ false
          → (other ≡ i + 1) ⊎ (other ≡ i + 1 → ⊥) → other ≤ i
      below other h free (inl f) = absurd (false≢true (sym free ∙ ap (is_split taken) f ∙ e))
      below other h free (inr f) = omega (arith, h, f)

    pub next_stays : get_or counts i 0 ≤ get_or counts (var - 1) 0 → IsNextBy counts (i + 1) taken var
    next_stays least = record {
      some = next.some;
      within = (let w = next.within in omega (arith, w));
      fresh = next.fresh;
      first = λ other s h free apart. at other s h free apart (cases_eq other (i + 1));
    } where
      new : (other : ℕ) → other ≡ i + 1 → PrecedesBy counts var other
      new other f =
          let q : other - 1 ≡ i = omega (arith, f) in
          let p = ap (λ k. get_or counts k 0) q in
          let w = next.within in
          by (cases_lt (get_or counts (other - 1) 0) (get_or counts (var - 1) 0)) p w where
            by : (get_or counts (other - 1) 0 < get_or counts (var - 1) 0)
                ⊎ (get_or counts (var - 1) 0 ≤ get_or counts (other - 1) 0)
                → get_or counts (other - 1) 0 ≡ get_or counts i 0 → var ≤ i → PrecedesBy counts var other
            by (inl l) p w = inl l
            by (inr l) p w = inr (omega (arith, l, p, least), omega (arith, w, f))

      at : (other : ℕ) → 0 < other → other ≤ i + 1 → is_split taken other ≡ false → (other ≡ var → ⊥)
          → (other ≡ i + 1) ⊎ (other ≡ i + 1 → ⊥) → PrecedesBy counts var other
      at other s h free apart (inl f) = new other f
      at other s h free apart (inr f) = next.first other s (omega (arith, h, f)) free apart

    pub next_new : get_or counts (var - 1) 0 < get_or counts i 0 → is_split taken (i + 1) ≡ false
        → IsNextBy counts (i + 1) taken (i + 1)
    next_new more e = record {
      some = omega arith;
      within = omega arith;
      fresh = e;
      first = λ other s h free apart. at other s (omega (arith, h, apart)) free (cases_eq other var);
    } where
      here : i + 1 - 1 ≡ i
      here = omega arith

      larger : (other : ℕ) → get_or counts (other - 1) 0 ≤ get_or counts (var - 1) 0
          → PrecedesBy counts (i + 1) other
      larger other l =
          let p = ap (λ k. get_or counts k 0) here in inl (omega (arith, l, more, p))

      by : (other : ℕ) → PrecedesBy counts var other → PrecedesBy counts (i + 1) other
      by other (inl l) = larger other (omega (arith, l))
      by other (inr l) = larger other (omega (arith, l.0))

      at : (other : ℕ) → 0 < other → other ≤ i → is_split taken other ≡ false
          → (other ≡ var) ⊎ (other ≡ var → ⊥) → PrecedesBy counts (i + 1) other
      at other s h free (inl f) =
          larger other (let p = ap (λ k. get_or counts (k - 1) 0) f in omega (arith, p))
      at other s h free (inr f) = by other (next.first other s h free f)

-- ---- split variables

-- by counts, and so by how many literals there are
pub next_by : (clauses : List (List ℤ)) (vars : ℕ) (counts taken : List ℕ) (var : ℕ)
    → ((k : ℕ) → k < vars → get_or counts k 0 ≡ occurrences (k + 1) clauses) → IsNextBy counts vars taken var
    → IsNext clauses vars taken var
next_by clauses vars counts taken var each next = record {
  some = next.some;
  within = next.within;
  fresh = next.fresh;
  first = λ other s h free apart. by other s h (next.first other s h free apart);
} where
  count : (n : ℕ) → 0 < n → n ≤ vars → get_or counts (n - 1) 0 ≡ occurrences n clauses
  count n s h =
      let q : n - 1 + 1 ≡ n = omega (arith, s) in
      each (n - 1) (omega (arith, s, h)) ∙ ap (λ k. occurrences k clauses) q

  by : (other : ℕ) → 0 < other → other ≤ vars → PrecedesBy counts var other → Precedes clauses var other
  by other s h (inl l) =
      let p = count other s h in
      let q = count var next.some next.within in
      inl (omega (arith, l, p, q))
  by other s h (inr l) =
      let p = count other s h in
      let q = count var next.some next.within in
      inr (omega (arith, l.0, p, q), l.1)

take_front : (xs : List ℕ) (x k : ℕ) → k ≤ length xs → take k (xs ++ x ∷ []) ≡ take k xs
take_front xs x zero h = refl
take_front [] x (suc k) h = absurd (omega (arith, h))
take_front (y ∷ ys) x (suc k) h = ap (λ zs. y ∷ zs) (take_front ys x k (omega (arith, h)))

pub each_more : (clauses : List (List ℤ)) (vars : ℕ) (split : List ℕ) (var : ℕ)
    → ((k n : ℕ) → slice_get split k ≡ Some n → IsNext clauses vars (take k split) n)
    → IsNext clauses vars split var → (k n : ℕ) → slice_get (split ++ var ∷ []) k ≡ Some n
    → IsNext clauses vars (take k (split ++ var ∷ [])) n
each_more clauses vars split var each next k n e = at (push_cases split var k n e) where
  at : (slice_get split k ≡ Some n) ⊎ ((k ≡ length split) × (var ≡ n))
      → IsNext clauses vars (take k (split ++ var ∷ [])) n
  at (inl f) =
      subst (λ xs. IsNext clauses vars xs n)
      (sym (take_front split var k (let h = slice_get_within split k n f in omega (arith, h)))) (each k n f)
  at (inr f) =
      let t : split ≡ take k (split ++ var ∷ []) =
      sym (take_front split var k (omega (arith, f.0)) ∙ take_all k split (omega (arith, f.0))) in
      subst (λ m. IsNext clauses vars (take k (split ++ var ∷ [])) m) f.1
      (subst (λ xs. IsNext clauses vars xs var) t next)

-- ---- a cube, from its highest bit on

pub cube_low : (split : List ℕ) (b rest v : ℕ) (done all : List ℤ) → b < length split → rest < 2 ^ b
    → v ≡ get_or split b 0 → done ++ cube_of split (suc b) rest ≡ all
    → (done ++ neg_ℤ (pos v) ∷ []) ++ cube_of split b rest ≡ all
cube_low split b rest v done all h l e so_far =
    append_assoc done (neg_ℤ (pos v) ∷ []) (cube_of split b rest)
    ∙ ap (λ n. done ++ neg_ℤ (pos n) ∷ cube_of split b rest) e
    ∙ ap (λ t. done ++ cond t (neg_ℤ (pos (get_or split b 0)) ∷ cube_of split b rest)
    (pos (get_or split b 0) ∷ cube_of split b (rest - 2 ^ b))) (sym (lt-ltb rest (2 ^ b) l)) ∙ so_far

ltb_not : (a b : ℕ) → b ≤ a → ltb a b ≡ false
ltb_not a b h = grind arith

pub cube_high : (split : List ℕ) (b rest v : ℕ) (done all : List ℤ) → b < length split → 2 ^ b ≤ rest
    → v ≡ get_or split b 0 → done ++ cube_of split (suc b) rest ≡ all
    → (done ++ pos v ∷ []) ++ cube_of split b (rest - 2 ^ b) ≡ all
cube_high split b rest v done all h l e so_far =
    append_assoc done (pos v ∷ []) (cube_of split b (rest - 2 ^ b))
    ∙ ap (λ n. done ++ pos n ∷ cube_of split b (rest - 2 ^ b)) e
    ∙ ap (λ t. done ++ cond t (neg_ℤ (pos (get_or split b 0)) ∷ cube_of split b rest)
    (pos (get_or split b 0) ∷ cube_of split b (rest - 2 ^ b))) (sym (ltb_not rest (2 ^ b) l)) ∙ so_far

-- ---- what is left of clauses

module _ (q : List ℤ) (cs : List (List ℤ)) (i : ℕ) (c : List ℤ) (h : i < length cs) (e : c ≡ get_or cs i c) where
  rest_is : drop i cs ≡ c ∷ drop (i + 1) cs
  rest_is = drop_more cs i c h ∙ ap (λ x. x ∷ drop (i + 1) cs) (sym e)

  pub clause_satisfied : (done all : List (List ℤ)) → is_satisfied q c ≡ true
      → done ++ restricted q (drop i cs) ≡ all → done ++ restricted q (drop (i + 1) cs) ≡ all
  clause_satisfied done all s so_far =
      sym (ap (λ xs. done ++ restricted q xs) rest_is
      ∙ ap (λ b. done ++ cond b (restricted q (drop (i + 1) cs))
      (map (renumbered q) (reduced q c) ∷ restricted q (drop (i + 1) cs))) s) ∙ so_far

  pub clause_left : (done all : List (List ℤ)) (lits : List ℤ) → is_satisfied q c ≡ false
      → lits ≡ map (renumbered q) (reduced q c) → done ++ restricted q (drop i cs) ≡ all
      → (done ++ lits ∷ []) ++ restricted q (drop (i + 1) cs) ≡ all
  clause_left done all lits s l so_far =
      append_assoc done (lits ∷ []) (restricted q (drop (i + 1) cs))
      ∙ ap (λ x. done ++ x ∷ restricted q (drop (i + 1) cs)) l
      ∙ sym (ap (λ xs. done ++ restricted q xs) rest_is
      ∙ ap (λ b. done ++ cond b (restricted q (drop (i + 1) cs))
      (map (renumbered q) (reduced q c) ∷ restricted q (drop (i + 1) cs))) s) ∙ so_far

  pub id_satisfied : (done all : List ℕ) (id : ℕ) → is_satisfied q c ≡ true
      → done ++ ids_from q id (drop i cs) ≡ all → done ++ ids_from q (id + 1) (drop (i + 1) cs) ≡ all
  id_satisfied done all id s so_far =
      sym (ap (λ xs. done ++ ids_from q id xs) rest_is
      ∙ ap (λ b. done ++ cond b (ids_from q (id + 1) (drop (i + 1) cs))
      (id ∷ ids_from q (id + 1) (drop (i + 1) cs))) s) ∙ so_far

  pub id_left : (done all : List ℕ) (id : ℕ) → is_satisfied q c ≡ false
      → done ++ ids_from q id (drop i cs) ≡ all
      → (done ++ id ∷ []) ++ ids_from q (id + 1) (drop (i + 1) cs) ≡ all
  id_left done all id s so_far =
      append_assoc done (id ∷ []) (ids_from q (id + 1) (drop (i + 1) cs))
      ∙ sym (ap (λ xs. done ++ ids_from q id xs) rest_is
      ∙ ap (λ b. done ++ cond b (ids_from q (id + 1) (drop (i + 1) cs))
      (id ∷ ids_from q (id + 1) (drop (i + 1) cs))) s) ∙ so_far

-- the literals that are left, one by one
filter_append : (p : ℤ → Bool) (xs ys : List ℤ) → filter p (xs ++ ys) ≡ filter p xs ++ filter p ys
filter_append p [] ys = refl
filter_append p (x ∷ xs) ys = at (p x) (filter_append p xs ys) where
  at : (b : Bool) → filter p (xs ++ ys) ≡ filter p xs ++ filter p ys
      → cond b (x ∷ filter p (xs ++ ys)) (filter p (xs ++ ys)) ≡ cond b (x ∷ filter p xs) (filter p xs) ++ filter p ys
  at true e = ap (λ zs. x ∷ zs) e
  at false e = e

map_append : (f : ℤ → ℤ) (xs ys : List ℤ) → map f (xs ++ ys) ≡ map f xs ++ map f ys
map_append f [] ys = refl
map_append f (x ∷ xs) ys = ap (λ zs. f x ∷ zs) (map_append f xs ys)

module _ (q clause : List ℤ) (k : ℕ) (lit : ℤ) (h : k < length clause) (e : lit ≡ get_or clause k lit) where
  part_is : map (renumbered q) (reduced q (take (k + 1) clause))
      ≡ map (renumbered q) (reduced q (take k clause)) ++ map (renumbered q) (reduced q (lit ∷ []))
  part_is =
      ap (λ xs. map (renumbered q) (reduced q xs))
      (take_more clause k lit h ∙ ap (λ x. take k clause ++ x ∷ []) (sym e))
      ∙ ap (map (renumbered q)) (filter_append (λ l. not (is_false q l)) (take k clause) (lit ∷ []))
      ∙ map_append (renumbered q) (reduced q (take k clause)) (reduced q (lit ∷ []))

  pub literal_false : (lits : List ℤ) → is_false q lit ≡ true
      → lits ≡ map (renumbered q) (reduced q (take k clause))
      → lits ≡ map (renumbered q) (reduced q (take (k + 1) clause))
  literal_false lits f so_far =
      so_far ∙ sym (append_nothing (map (renumbered q) (reduced q (take k clause))))
      ∙ ap (λ b. map (renumbered q) (reduced q (take k clause))
      ++ map (renumbered q) (cond (not b) (lit ∷ []) [])) (sym f) ∙ sym part_is

  pub literal_left : (lits : List ℤ) → is_false q lit ≡ false
      → lits ≡ map (renumbered q) (reduced q (take k clause))
      → lits ++ renumbered q lit ∷ [] ≡ map (renumbered q) (reduced q (take (k + 1) clause))
  literal_left lits f so_far =
      ap (λ xs. xs ++ renumbered q lit ∷ []) so_far
      ∙ ap (λ b. map (renumbered q) (reduced q (take k clause))
      ++ map (renumbered q) (cond (not b) (lit ∷ []) [])) (sym f) ∙ sym part_is

-- ---- small numbers

-- the powers of two that one digit of a cube may have
pub power_few : (n : ℕ) → n ≤ 6 → 1 * 2 ^ n % 18446744073709551616 ≤ 64
power_few zero h = omega arith
power_few (suc zero) h = omega arith
power_few (suc (suc zero)) h = omega arith
power_few (suc (suc (suc zero))) h = omega arith
power_few (suc (suc (suc (suc zero)))) h = omega arith
power_few (suc (suc (suc (suc (suc zero))))) h = omega arith
power_few (suc (suc (suc (suc (suc (suc zero)))))) h = omega arith
power_few (suc (suc (suc (suc (suc (suc (suc n))))))) h = absurd (omega (arith, h))

-- ---- literals of a list, as they are read

get_or_any : (xs : List ℤ) (i : ℕ) (d e : ℤ) → i < length xs → get_or xs i d ≡ get_or xs i e
get_or_any [] i d e h = absurd (omega (arith, h))
get_or_any (x ∷ xs) zero d e h = refl
get_or_any (x ∷ xs) (suc i) d e h = get_or_any xs i d e (omega (arith, h))

pub read_at : (xs : List ℤ) (i : ℕ) → i < length xs → get_or xs i (pos 0) ≡ get_or xs i (get_or xs i (pos 0))
read_at xs i h = get_or_any xs i (pos 0) (get_or xs i (pos 0)) h

lit_at : (xs : List ℤ) (i : ℕ) → AreLits xs → i < length xs → IsLit (get_or xs i (pos 0))
lit_at [] i a h = absurd (omega (arith, h))
lit_at (x ∷ xs) zero a h = a.0
lit_at (x ∷ xs) (suc i) a h = lit_at xs i a.1 (omega (arith, h))

pub literal_read : (vars : ℕ) (xs : List ℤ) (i : ℕ) → AreLiterals vars xs → i < length xs
    → IsLiteral vars (get_or xs i (pos 0))
literal_read vars [] i a h = absurd (omega (arith, h))
literal_read vars (x ∷ xs) zero a h = a.0
literal_read vars (x ∷ xs) (suc i) a h = literal_read vars xs i a.1 (omega (arith, h))

-- as it is passed on
pub passed_at : (xs : List ℤ) (i : ℕ) → AreLits xs → i < length xs
    → to_z w64 (of_z w64 (get_or xs i (pos 0))) ≡ get_or xs i (pos 0)
passed_at xs i a h = lit_kept (get_or xs i (pos 0)) (lit_at xs i a h)

neg_lit : (l : ℤ) → IsLit l → IsLit (neg_ℤ l)
neg_lit l h = (subst (λ n. 0 < n) (sym (abs_neg l)) h.0, subst (λ n. n < 2 ^ 63) (sym (abs_neg l)) h.1)

less_is : (l : ℤ) → pos 0 -ℤ l ≡ neg_ℤ l
less_is l = grind (arith, ints)

pub neg_passed : (xs : List ℤ) (i : ℕ) → AreLits xs → i < length xs
    → to_z w64 (of_z w64 (pos 0 -ℤ to_z w64 (of_z w64 (get_or xs i (pos 0))))) ≡ neg_ℤ (get_or xs i (pos 0))
neg_passed xs i a h =
    ap (λ z. to_z w64 (of_z w64 (pos 0 -ℤ z))) (passed_at xs i a h)
    ∙ ap (λ z. to_z w64 (of_z w64 z)) (less_is (get_or xs i (pos 0)))
    ∙ lit_kept (neg_ℤ (get_or xs i (pos 0))) (neg_lit (get_or xs i (pos 0)) (lit_at xs i a h))

-- a count that is raised
pub count_set : (now old : List ℕ) (clause : List ℤ) (i : ℕ) (lit : ℤ) (n many : ℕ) → i < length clause
    → lit ≡ get_or clause i lit → n ≡ unsigned_abs lit → 0 < n → n ≤ length old → length now ≡ length old
    → ((k : ℕ) → k < length old → get_or now k 0 ≡ get_or old k 0 + occurrences_in (k + 1) (take i clause))
    → many ≡ get_or now (n - 1) 0 + 1
    → (length (set now (n - 1) many) ≡ length old)
    × ((k : ℕ) → k < length old
    → get_or (set now (n - 1) many) k 0 ≡ get_or old k 0 + occurrences_in (k + 1) (take (i + 1) clause))
count_set now old clause i lit n many h e is some within long each more =
    (length-set now (n - 1) many ∙ long, λ k l. at k l (cases_eq k (n - 1))) where
      at : (k : ℕ) → k < length old → (k ≡ n - 1) ⊎ (k ≡ n - 1 → ⊥)
          → get_or (set now (n - 1) many) k 0 ≡ get_or old k 0 + occurrences_in (k + 1) (take (i + 1) clause)
      at k l (inl f) =
          let a : get_or (set now (n - 1) many) k 0 ≡ many =
          ap (λ j. get_or (set now (n - 1) many) j 0) f
          ∙ get_or-set_same now (n - 1) many 0 (omega (arith, f, l, long)) in
          let b : get_or now (n - 1) 0 ≡ get_or now k 0 = ap (λ j. get_or now j 0) (sym f) in
          let c = each k l in
          let d = counts_in clause i lit (k + 1) h e in
          let g : eqb (unsigned_abs lit) (k + 1) ≡ true = eqb_self (unsigned_abs lit) (k + 1) (omega (arith, f, is, some)) in
          let u = ap {B = ℕ} (λ t. cond t 1 0) g in
          omega (arith, a, b, c, d, u, more)
      at k l (inr f) =
          let a = get_or-set_other now (n - 1) k many 0 f in
          let c = each k l in
          let d = counts_in clause i lit (k + 1) h e in
          let g : eqb (unsigned_abs lit) (k + 1) ≡ false =
          eqb_apart (unsigned_abs lit) (k + 1) (λ q. f (omega (arith, q, is, some))) in
          let u = ap {B = ℕ} (λ t. cond t 1 0) g in
          omega (arith, a, c, d, u)

-- one more clause is counted
pub counts_more : (vars i : ℕ) (clauses : List (List ℤ)) (clause : List ℤ) (before now : List ℕ)
    → i < length clauses → clause ≡ get_or clauses i clause → length before ≡ vars → length now ≡ length before
    → ((k : ℕ) → k < vars → get_or before k 0 ≡ occurrences (k + 1) (take i clauses))
    → ((k : ℕ) → k < length before → get_or now k 0 ≡ get_or before k 0 + occurrences_in (k + 1) clause)
    → (length now ≡ vars)
    × ((k : ℕ) → k < vars → get_or now k 0 ≡ occurrences (k + 1) (take (i + 1) clauses))
counts_more vars i clauses clause before now h e long same so_far more = (
  same ∙ long,
  λ k l.
      let a = so_far k l in
      let b = more k (omega (arith, l, long)) in
      let c = counts_all clauses i clause (k + 1) h e in
      omega (arith, a, b, c),
)

-- one more complement
pub negs_more : (lits : List ℤ) (i : ℕ) (lit m : ℤ) (done : List ℤ) → i < length lits → lit ≡ get_or lits i lit
    → m ≡ neg_ℤ lit → done ≡ negs (take i lits) → done ++ m ∷ [] ≡ negs (take (i + 1) lits)
negs_more lits i lit m done h e is so_far =
    ap (λ xs. xs ++ m ∷ []) so_far ∙ ap (λ x. negs (take i lits) ++ x ∷ []) is
    ∙ sym (map_append neg_ℤ (take i lits) (lit ∷ []))
    ∙ ap (λ x. negs (take i lits ++ x ∷ [])) e ∙ ap negs (sym (take_more lits i lit h))

-- ---- a literal that is left, as it is looked up

has_at : (xs : List ℤ) (i : ℕ) → i < length xs → has xs (get_or xs i (pos 0)) ≡ true
has_at [] i h = absurd (omega (arith, h))
has_at (x ∷ xs) zero h = has_head x xs
has_at (x ∷ xs) (suc i) h = has_tail (get_or xs i (pos 0)) x xs (has_at xs i (omega (arith, h)))

module _ (q : List ℤ) (vars : ℕ) (clause : List ℤ) (i : ℕ) (places : List ℕ) (small : vars < 2 ^ 63)
    (a : AreLiterals vars clause) (o : is_satisfied q clause ≡ false) (h : i < length clause)
    (f : is_false q (get_or clause i (pos 0)) ≡ false) (numbered : AreNumbered q vars places) where
  abbrev lit : ℤ
  lit = get_or clause i (pos 0)

  lit_is : IsLiteral vars lit
  lit_is = literal_read vars clause i a h

  lit_free : is_assigned q (unsigned_abs lit) ≡ false
  lit_free = apart_assigned q lit lit_is.0 (none_at (has q) clause lit o (has_at clause i h)) f

  new_is : signed_as lit (place_of places (pos (unsigned_abs lit))) ≡ renumbered q lit
  new_is = ap (signed_as lit) (numbered (unsigned_abs lit) lit_is.0 lit_is.1 lit_free)

  new_lit : IsLit (renumbered q lit)
  new_lit =
      let w = new_within q vars lit lit_is lit_free in
      let m = length_others (is_assigned q) vars in
      (w.0, omega (arith, w.1, m, small))

  pub left_is : (r : ℤ) → r ≡ signed_as lit (place_of places (pos (unsigned_abs lit)))
      → to_z w64 (of_z w64 r) ≡ renumbered q lit
  left_is r e = ap (λ z. to_z w64 (of_z w64 z)) (e ∙ new_is) ∙ lit_kept (renumbered q lit) new_lit

-- a clause that is left, over the variables that are left
pub left_within : (q set clause lits : List ℤ) (vars n : ℕ) → AreLiterals vars clause → set ≡ q
    → is_satisfied set clause ≡ false → lits ≡ map (renumbered set) (reduced set clause)
    → n ≡ length (open_vars q vars) → AreLiterals n lits
left_within q set clause lits vars n a e o is m =
    let open_q : is_satisfied q clause ≡ false = ap (λ s. is_satisfied s clause) (sym e) ∙ o in
    let lits_q : lits ≡ map (renumbered q) (reduced q clause) =
    is ∙ ap (λ s. map (renumbered s) (reduced s clause)) e in
    subst (λ k. AreLiterals k lits) (sym m)
    (subst (AreLiterals (length (open_vars q vars))) (sym lits_q) (left_literals q vars clause a open_q))

-- ---- values

value_cases : (q : List ℤ) (values : List Bool) (var k m : ℕ) (b d : Bool) → has q (pos var) ≡ b
    → is_false q (pos var) ≡ d → (is_assigned q var ≡ false → k ≡ m)
    → value_at q values k var ≡ value_at q values m var
value_cases q values var k m true d e f same =
    ap (λ t. cond t true (cond (is_false q (pos var)) false (get_or values k false))) e
    ∙ sym (ap (λ t. cond t true (cond (is_false q (pos var)) false (get_or values m false))) e)
value_cases q values var k m false true e f same =
    ap (λ t. cond (has q (pos var)) true (cond t false (get_or values k false))) f
    ∙ sym (ap (λ t. cond (has q (pos var)) true (cond t false (get_or values m false))) f)
value_cases q values var k m false false e f same =
    ap (λ n. value_at q values n var) (same (or_both (has q (pos var)) (is_false q (pos var)) e f))

pub merged_more : (q : List ℤ) (values : List Bool) (n next : ℕ) (v : Bool) (all : List Bool)
    → next ≡ new_number q n → v ≡ value_at q values next (n + 1) → all ≡ merged q values n
    → all ++ v ∷ [] ≡ merged q values (n + 1)
merged_more q values n next v all e is so_far =
    let q1 : n + 1 ≡ suc n = omega arith in
    ap (λ xs. xs ++ v ∷ []) so_far
    ∙ ap (λ x. merged q values n ++ x ∷ []) (is
    ∙ value_cases q values (n + 1) next (new_number q (n + 1) - 1) (has q (pos (n + 1))) (is_false q (pos (n + 1))) refl
    refl (λ o. let l = length_open (is_assigned q) n o in omega (arith, l, e)))
    ∙ ap (merged q values) (sym q1)

pub next_open : (q : List ℤ) (n next : ℕ) → is_assigned q (n + 1) ≡ false → next ≡ new_number q n
    → next + 1 ≡ new_number q (n + 1)
next_open q n next o e = let l = length_open (is_assigned q) n o in omega (arith, l, e)

pub next_among : (q : List ℤ) (n next : ℕ) → is_assigned q (n + 1) ≡ true → next ≡ new_number q n
    → next ≡ new_number q (n + 1)
next_among q n next o e = let l = length_among (is_assigned q) n o in omega (arith, l, e)

pub next_few : (q : List ℤ) (n next : ℕ) → next ≡ new_number q n → next ≤ n
next_few q n next e = let l = length_others (is_assigned q) n in omega (arith, l, e)
