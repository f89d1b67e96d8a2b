-- The cubes of split variables, and steps that join the clauses of two.
use Rattle.std.proofs.Common.{◌≡◌, ℕ, zero, suc, ◌+◌, ◌-◌, ◌<◌, ◌≤◌, ◌^◌, Bool, true, false, cond, eqb, ltb, ◌||◌}
use Rattle.std.proofs.Common.{List, [], ◌∷◌, ◌++◌, ℤ, pos, negsuc, neg_ℤ, map, length, take, get_or, Some, None}
use Rattle.std.proofs.Common.{refl, ap, sym, subst, ◌∙◌, ◌⊎◌, inl, inr, arith}
use Rattle.std.specs.Prelude.{unsigned_abs, slice_get}
use Rattle.std.specs.List.{list_any}
use Rattle.std.specs.Ordering.{int_eq}
use Rattle.std.proofs.lemmas.Bool.{false≢true}
use Rattle.std.proofs.lemmas.List.{take_more, take_all}
use Rattle.std.proofs.lemmas.Option.{slice_get-get_or}
use Rattle.cnf_form.specs.Cnf.{IsLiteral, AreLiterals}
use Rattle.lrat_check.specs.declared.reading.Reading.TheVariants as read
use Rattle.lrat_check.specs.Sets.{has, is_false, negs, reading}
use Rattle.lrat_check.specs.Steps.{Held, add_fault, walk, is_negative, is_empty}
use Rattle.sat_trail.specs.Trail.{is_assigned}
use Rattle.sat_trail.proofs.Members.{same_is, same_self, neg_neg, or_left, or_right, or_cases, or_both, has_head}
use Rattle.sat_trail.proofs.Members.{has_append, has_tail}
use Rattle.sat_trail.proofs.Readings.{false_from, unit_from}
use Rattle.sat_cubes.specs.Cubes.{IsCube, NoneTwice, others, open_vars, cube_of}
use Rattle.sat_cubes.specs.Splits.{is_split}
use Rattle.sat_cubes.proofs.Renumbers.{abs_neg, assigned_apart}
use Rattle.sat_cubes.proofs.Mirrors.{from_not, both_ways, has_negs, no_pair}
use Rattle.sat_cubes.proofs.Walks.{accepted, walk_unit, walk_false, not_negative}

-- ---- variables

split_append : (xs ys : List ℕ) (n : ℕ) → is_split (xs ++ ys) n ≡ (is_split xs n || is_split ys n)
split_append [] ys n = refl
split_append (x ∷ xs) ys n =
    ap (λ b. eqb n x || b) (split_append xs ys n) ∙ or_assoc (eqb n x) (is_split xs n) (is_split ys n) where
      or_assoc : (a b c : Bool) → (a || (b || c)) ≡ ((a || b) || c)
      or_assoc true b c = refl
      or_assoc false b c = refl

or_nothing : (b : Bool) → (b || false) ≡ b
or_nothing true = refl
or_nothing false = refl

split_more : (split : List ℕ) (b n : ℕ) → b < length split
    → is_split (take (b + 1) split) n ≡ (is_split (take b split) n || eqb n (get_or split b 0))
split_more split b n h =
    ap (λ xs. is_split xs n) (take_more split b 0 h)
    ∙ split_append (take b split) (get_or split b 0 ∷ []) n
    ∙ ap (λ c. is_split (take b split) n || c) (or_nothing (eqb n (get_or split b 0)))

eqb_self : (a b : ℕ) → a ≡ b → eqb a b ≡ true
eqb_self a b e = grind arith

eqb_is : (a b : ℕ) → eqb a b ≡ true → a ≡ b
eqb_is a b e = grind arith

pos_neg : (a b : ℕ) → 0 < a → pos a ≡ neg_ℤ (pos b) → ⊥
pos_neg a zero s e = (let f : a ≡ zero = cc in omega (arith, f, s))
pos_neg a (suc b) s e = cc

pos_is : (a b : ℕ) → pos a ≡ pos b → a ≡ b
pos_is a b e = cc

neg_is : (a b : ℕ) → neg_ℤ (pos a) ≡ neg_ℤ (pos b) → a ≡ b
neg_is a b e = pos_is a b (sym (neg_neg (pos a)) ∙ ap neg_ℤ e ∙ neg_neg (pos b))

-- the literal is the variable or its complement
abbrev IsOf : ℤ → ℕ → Type 0
IsOf l v = (l ≡ pos v) ⊎ (l ≡ neg_ℤ (pos v))

of_same : (l : ℤ) (n v : ℕ) → 0 < n → IsOf l v → IsOf l n → n ≡ v
of_same l n v s (inl e) (inl f) = pos_is n v (sym f ∙ e)
of_same l n v s (inl e) (inr f) = absurd (pos_zero (sym f ∙ e)) where
  pos_zero : neg_ℤ (pos n) ≡ pos v → ⊥
  pos_zero k = pos_neg n v s (sym (neg_neg (pos n)) ∙ ap neg_ℤ k)
of_same l n v s (inr e) (inl f) = absurd (pos_neg n v s (sym f ∙ e))
of_same l n v s (inr e) (inr f) = neg_is n v (sym f ∙ e)

module _ (l : ℤ) (ls : List ℤ) (n v : ℕ) (s : 0 < n) (o : IsOf l v) where
  assigned_to : is_assigned (l ∷ ls) n ≡ true → (is_assigned ls n || eqb n v) ≡ true
  assigned_to h = at (or_cases (has (l ∷ ls) (pos n)) (is_false (l ∷ ls) (pos n)) h) where
    is_var : IsOf l n → (is_assigned ls n || eqb n v) ≡ true
    is_var f = or_right (is_assigned ls n) (eqb n v) (eqb_self n v (of_same l n v s o f))

    first : (int_eq (pos n) l ≡ true) ⊎ (has ls (pos n) ≡ true) → (is_assigned ls n || eqb n v) ≡ true
    first (inl e) = is_var (inl (sym (same_is (pos n) l e)))
    first (inr e) = or_left (is_assigned ls n) (eqb n v) (or_left (has ls (pos n)) (is_false ls (pos n)) e)

    second : (int_eq (neg_ℤ (pos n)) l ≡ true) ⊎ (is_false ls (pos n) ≡ true)
        → (is_assigned ls n || eqb n v) ≡ true
    second (inl e) = is_var (inr (sym (same_is (neg_ℤ (pos n)) l e)))
    second (inr e) = or_left (is_assigned ls n) (eqb n v) (or_right (has ls (pos n)) (is_false ls (pos n)) e)

    at : (has (l ∷ ls) (pos n) ≡ true) ⊎ (is_false (l ∷ ls) (pos n) ≡ true)
        → (is_assigned ls n || eqb n v) ≡ true
    at (inl e) = first (or_cases (int_eq (pos n) l) (has ls (pos n)) e)
    at (inr e) = second (or_cases (int_eq (neg_ℤ (pos n)) l) (is_false ls (pos n)) e)

  assigned_from : (is_assigned ls n || eqb n v) ≡ true → is_assigned (l ∷ ls) n ≡ true
  assigned_from h = at (or_cases (is_assigned ls n) (eqb n v) h) where
    later : (has ls (pos n) ≡ true) ⊎ (is_false ls (pos n) ≡ true) → is_assigned (l ∷ ls) n ≡ true
    later (inl e) = or_left (has (l ∷ ls) (pos n)) (is_false (l ∷ ls) (pos n)) (has_tail (pos n) l ls e)
    later (inr e) =
        or_right (has (l ∷ ls) (pos n)) (is_false (l ∷ ls) (pos n)) (has_tail (neg_ℤ (pos n)) l ls e)

    here : n ≡ v → IsOf l v → is_assigned (l ∷ ls) n ≡ true
    here e (inl f) = or_left (has (l ∷ ls) (pos n)) (is_false (l ∷ ls) (pos n))
        (or_left (int_eq (pos n) l) (has ls (pos n)) (same_self (pos n) l (ap pos e ∙ sym f)))
    here e (inr f) = or_right (has (l ∷ ls) (pos n)) (is_false (l ∷ ls) (pos n))
        (or_left (int_eq (neg_ℤ (pos n)) l) (has ls (neg_ℤ (pos n)))
        (same_self (neg_ℤ (pos n)) l (ap (λ k. neg_ℤ (pos k)) e ∙ sym f)))

    at : (is_assigned ls n ≡ true) ⊎ (eqb n v ≡ true) → is_assigned (l ∷ ls) n ≡ true
    at (inl e) = later (or_cases (has ls (pos n)) (is_false ls (pos n)) e)
    at (inr e) = here (eqb_is n v e) o

  assigned_more : is_assigned (l ∷ ls) n ≡ (is_assigned ls n || eqb n v)
  assigned_more = both_ways (is_assigned (l ∷ ls) n) (is_assigned ls n || eqb n v) assigned_to assigned_from

-- different variables, each of which is one of so many
abbrev pub AreApart : ℕ → List ℕ → Type 0
AreApart vars split = (k var : ℕ) → slice_get split k ≡ Some var
    → (0 < var) × (var ≤ vars) × (is_split (take k split) var ≡ false)

module _ (vars : ℕ) (split : List ℕ) (d : AreApart vars split) where
  abbrev var_at : ℕ → ℕ
  var_at b = get_or split b 0

  var_is : (b : ℕ) → b < length split
      → (0 < var_at b) × (var_at b ≤ vars) × (is_split (take b split) (var_at b) ≡ false)
  var_is b h = d b (var_at b) (slice_get-get_or split b 0 h)

  -- what holds of both literals, each before a cube of the variables before, holds of a cube
  of_cube : (P : List ℤ → Type 0) (b i : ℕ)
      → ((l : ℤ) (j : ℕ) → IsOf l (var_at b) → P (l ∷ cube_of split b j)) → P (cube_of split (suc b) i)
  of_cube P b i f = at (ltb i (2 ^ b)) where
    at : (t : Bool) → P (cond t (neg_ℤ (pos (var_at b)) ∷ cube_of split b i)
        (pos (var_at b) ∷ cube_of split b (i - 2 ^ b)))
    at true = f (neg_ℤ (pos (var_at b))) i (inr refl)
    at false = f (pos (var_at b)) (i - 2 ^ b) (inl refl)

  pub cube_assigned : (b i n : ℕ) → b ≤ length split → 0 < n
      → is_assigned (cube_of split b i) n ≡ is_split (take b split) n
  cube_assigned zero i n h s = refl
  cube_assigned (suc b) i n h s =
      of_cube (λ c. is_assigned c n ≡ is_split (take (suc b) split) n) b i (λ l j o.
      assigned_more l (cube_of split b j) n (var_at b) s o
      ∙ ap (λ c. c || eqb n (var_at b)) (cube_assigned b j n (omega (arith, h)) s)
      ∙ sym (split_more split b n (omega (arith, h)))
      ∙ ap (λ k. is_split (take k split) n) next) where
        next : b + 1 ≡ suc b
        next = omega arith

  abs_of : (l : ℤ) (v : ℕ) → IsOf l v → unsigned_abs l ≡ v
  abs_of l v (inl e) = ap unsigned_abs e
  abs_of l v (inr e) = ap unsigned_abs e ∙ abs_neg (pos v)

  cube_more : (b j : ℕ) (l : ℤ) → b < length split → IsOf l (var_at b) → IsCube vars (cube_of split b j)
      → IsCube vars (l ∷ cube_of split b j)
  cube_more b j l h o c =
      let v = var_is b h in
      let e = abs_of l (var_at b) o in
      let within : IsLiteral vars l =
      (subst (λ n. 0 < n) (sym e) v.0, subst (λ n. n ≤ vars) (sym e) v.1) in
      let apart : is_assigned (cube_of split b j) (unsigned_abs l) ≡ false =
      ap (is_assigned (cube_of split b j)) e
      ∙ cube_assigned b j (var_at b) (omega (arith, h)) v.0 ∙ v.2 in
      ((within, c.0), (apart, c.1))

  pub cube_is : (b i : ℕ) → b ≤ length split → IsCube vars (cube_of split b i)
  cube_is zero i h = (tt, tt)
  cube_is (suc b) i h =
      of_cube (IsCube vars) b i (λ l j o.
      cube_more b j l (omega (arith, h)) o (cube_is b j (omega (arith, h))))

  -- the variables that a cube of all split ones leaves open are those that aren't split
  pub cube_open : (i n : ℕ) → open_vars (cube_of split (length split) i) n ≡ others (is_split split) n
  cube_open i zero = refl
  cube_open i (suc n) =
      ap (λ xs. xs ++ cond (is_assigned (cube_of split (length split) i) (n + 1)) [] ((n + 1) ∷ []))
      (cube_open i n)
      ∙ ap (λ b. others (is_split split) n ++ cond b [] ((n + 1) ∷ []))
      (cube_assigned (length split) i (n + 1) (omega arith) (omega arith)
      ∙ ap (λ xs. is_split xs (n + 1)) (take_all (length split) split (omega arith)))

-- ---- joins

module _ (vars : ℕ) (q : List ℤ) (l : ℤ) (c : IsCube vars (l ∷ q)) where
  pairless : (y : ℤ) → has (l ∷ q) y ≡ true → has (l ∷ q) (neg_ℤ y) ≡ true → ⊥
  pairless y h k = no_pair vars (l ∷ q) c.0 c.1 y h k

  in_tail : (y : ℤ) → has q y ≡ true → has (l ∷ q) y ≡ true
  in_tail y h = has_tail y l q h

  abbrev set : List ℤ
  set = negs (negs q)

  set_is : (y : ℤ) → has set y ≡ has q y
  set_is y = has_negs (negs q) y ∙ has_negs q (neg_ℤ y) ∙ ap (has q) (neg_neg y)

  -- the complement's complement, as the first clause has it
  abbrev back : ℤ
  back = neg_ℤ (neg_ℤ l)

  untrue : has q l ≡ false
  untrue = (assigned_apart q l c.0.0.0 c.1.0).0

  unfalse : is_false q l ≡ false
  unfalse = (assigned_apart q l c.0.0.0 c.1.0).1

  member_cases : (m : ℤ) (y : ℤ) → has (m ∷ negs q) y ≡ true → (y ≡ m) ⊎ (has q (neg_ℤ y) ≡ true)
  member_cases m y h = at (or_cases (int_eq y m) (has (negs q) y) h) where
    at : (int_eq y m ≡ true) ⊎ (has (negs q) y ≡ true) → (y ≡ m) ⊎ (has q (neg_ℤ y) ≡ true)
    at (inl e) = inl (same_is y m e)
    at (inr e) = inr (sym (has_negs q y) ∙ e)

  not_both : (y : ℤ) → has q (neg_ℤ y) ≡ true → has q y ≡ false
  not_both y h = from_not (has q y) (λ k. pairless y (in_tail y k) (in_tail (neg_ℤ y) h))

  falsified : (y : ℤ) → has q (neg_ℤ y) ≡ true → is_false set y ≡ true
  falsified y h = set_is (neg_ℤ y) ∙ h

  back_untrue : has set back ≡ false
  back_untrue = set_is back ∙ ap (has q) (neg_neg l) ∙ untrue

  first_reads : reading set (back ∷ negs q) ≡ read.Unit back
  first_reads = unit_from set (back ∷ negs q) back (record {
    member = has_head back (negs q);
    unfalse = set_is (neg_ℤ back) ∙ ap (λ z. has q (neg_ℤ z)) (neg_neg l) ∙ unfalse;
    untrue = back_untrue;
    others = λ y h e. other y e (member_cases back y h);
    none = λ y h. none y (member_cases back y h);
  }) where
    other : (y : ℤ) → int_eq back y ≡ false → (y ≡ back) ⊎ (has q (neg_ℤ y) ≡ true) → is_false set y ≡ true
    other y e (inl f) = absurd (false≢true (sym e ∙ same_self back y (sym f)))
    other y e (inr f) = falsified y f

    none : (y : ℤ) → (y ≡ back) ⊎ (has q (neg_ℤ y) ≡ true) → has set y ≡ false
    none y (inl f) = ap (has set) f ∙ back_untrue
    none y (inr f) = set_is y ∙ not_both y f

  abbrev more : List ℤ
  more = set ++ back ∷ []

  more_is : (y : ℤ) → has more y ≡ (has set y || (int_eq y back || false))
  more_is y = has_append set (back ∷ []) y

  second_reads : reading more (neg_ℤ l ∷ negs q) ≡ read.False
  second_reads = false_from more (neg_ℤ l ∷ negs q)
      (λ y h. all y (member_cases (neg_ℤ l) y h)) (λ y h. none y (member_cases (neg_ℤ l) y h)) where
        all : (y : ℤ) → (y ≡ neg_ℤ l) ⊎ (has q (neg_ℤ y) ≡ true) → is_false more y ≡ true
        all y (inl f) = more_is (neg_ℤ y)
            ∙ or_right (has set (neg_ℤ y)) (int_eq (neg_ℤ y) back || false)
            (or_left (int_eq (neg_ℤ y) back) false (same_self (neg_ℤ y) back (ap neg_ℤ f)))
        all y (inr f) = more_is (neg_ℤ y)
            ∙ or_left (has set (neg_ℤ y)) (int_eq (neg_ℤ y) back || false) (falsified y f)

        apart : (y : ℤ) → (y ≡ neg_ℤ l) ⊎ (has q (neg_ℤ y) ≡ true) → int_eq y back ≡ true → ⊥
        apart y (inl f) e =
            pairless l (has_head l q) (ap (has (l ∷ q)) (sym f ∙ same_is y back e ∙ neg_neg l) ∙ has_head l q)
        apart y (inr f) e =
            false≢true (sym unfalse ∙ ap (λ z. has q (neg_ℤ z)) (sym (neg_neg l) ∙ sym (same_is y back e)) ∙ f)

        unset : (y : ℤ) → (y ≡ neg_ℤ l) ⊎ (has q (neg_ℤ y) ≡ true) → has set y ≡ false
        unset y (inl f) = set_is y ∙ ap (has q) f ∙ unfalse
        unset y (inr f) = set_is y ∙ not_both y f

        none : (y : ℤ) → (y ≡ neg_ℤ l) ⊎ (has q (neg_ℤ y) ≡ true) → has more y ≡ false
        none y m = more_is y ∙ or_both (has set y) (int_eq y back || false) (unset y m)
            (or_both (int_eq y back) false (from_not (int_eq y back) (apart y m)) refl)

  -- the clauses of two cubes that differ in one variable lead to that of the others
  pub joins : (held : Held) (top one other : ℕ) → held one ≡ Some (negs (neg_ℤ l ∷ q))
      → held other ≡ Some (negs (l ∷ q)) → add_fault held top (top + 1) (negs q) (pos one ∷ pos other ∷ []) ≡ None
  joins held top one other h k =
      accepted held top (negs q) (pos one ∷ pos other ∷ [])
      (or_both (is_negative (pos one)) (is_negative (pos other) || false) (not_negative one)
      (or_both (is_negative (pos other)) false (not_negative other) refl))
      (walk_unit held (top + 1) set (pos one) (pos other ∷ []) (back ∷ negs q) back h first_reads
      ∙ walk_false held (top + 1) more (pos other) [] (neg_ℤ l ∷ negs q) k second_reads)
