-- Calm clauses have a true literal or two different open ones; codes of literals and literals.
use Rattle.std.proofs.Common.{◌≡◌, ℕ, zero, suc, ◌<◌, Bool, true, false, eqb, ◌||◌, List, [], ◌∷◌, ℤ, neg_ℤ, length}
use Rattle.std.proofs.Common.{get_or, Option, Some, None, refl, ap, sym, subst, ◌∙◌, inl, inr, arith}
use Rattle.std.specs.Prelude.{IfSome}
use Rattle.std.specs.List.{list_any}
use Rattle.std.specs.Ordering.{int_eq}
use Rattle.std.proofs.lemmas.Bool.{false≢true, cases_Bool}
use Rattle.lrat_check.specs.Codes.{code_of, lit_of, codes_of, lits_of}
use Rattle.lrat_check.specs.Sets.{has, is_false, reading, IsLit, AreLits}
use Rattle.lrat_check.specs.Resolved.{is_open, Closed}
use Rattle.lrat_check.specs.Store.{Clauses, Coded, coded, literals, held_of}
use Rattle.sat_trail.specs.Clauses.{AllFalse}
use Rattle.sat_trail.specs.Trail.{has_code}
use Rattle.lrat_check.proofs.Codes.{lit_code, code_lit, flip_code}
use Rattle.sat_trail.proofs.Codes.{codes_has}
use Rattle.sat_trail.proofs.Members.{same_is, same_self, or_cases, none_at}
use Rattle.sat_trail.proofs.Readings.{Two, open_from}
use Rattle.sat_propagate.specs.Watching.{is_false_code, satisfied, AllFalseCodes, AloneCode, Calm}
use Rattle.sat_propagate.specs.Watching.{Stops}
use Rattle.sat_propagate.specs.Watches.{Forced, Sees, scan_at}
use Rattle.sat_propagate.proofs.Quiets.{eq_is, eq_self}
use Rattle.sat_propagate.proofs.Looks.{has_index}

-- a clause that has all its codes from literals
codes_back : (c : List ℕ) → AreLits (lits_of c) → codes_of (lits_of c) ≡ c
codes_back [] a = refl
codes_back (x ∷ c) a = ap (λ z. z ∷ codes_of (lits_of c)) (code_lit x a.0) ∙ ap (λ z. x ∷ z) (codes_back c a.1)

pub has_lits : (c : List ℕ) (l : ℤ) → AreLits (lits_of c) → has_code c (code_of l) ≡ has (lits_of c) l
has_lits c l a = ap (λ z. has_code z (code_of l)) (sym (codes_back c a)) ∙ codes_has (lits_of c) l

-- the literals that have a code in the clause
lit_in : (c : List ℕ) (l : ℤ) → AreLits (lits_of c) → has (lits_of c) l ≡ true → IsLit l
lit_in [] l a h = absurd (false≢true h)
lit_in (x ∷ c) l a h = elim (or_cases (int_eq l (lit_of x)) (has (lits_of c) l) h) [
  | inl e ↦ subst IsLit (sym (same_is l (lit_of x) e)) a.0
  | inr e ↦ lit_in c l a.1 e
]

pub false_lits : (set : List ℤ) (l : ℤ) → IsLit l → is_false_code (codes_of set) (code_of l) ≡ is_false set l
false_lits set l i =
    ap (has_code (codes_of set)) (flip_code (code_of l) (subst IsLit (sym (lit_code l)) i)
    ∙ ap (λ z. code_of (neg_ℤ z)) (lit_code l)) ∙ codes_has set (neg_ℤ l)

pub all_false : (set : List ℤ) (c : List ℕ) → AreLits (lits_of c) → AllFalseCodes (codes_of set) c
    → AllFalse set (lits_of c)
all_false set c a f l h =
    sym (false_lits set l (lit_in c l a h)) ∙ f (code_of l) (has_lits c l a ∙ h)

differ : (l m : ℤ) → int_eq l m ≡ false → eqb (code_of m) (code_of l) ≡ false
differ l m e = elim (cases_Bool (eqb (code_of m) (code_of l))) [
  | inl k ↦ absurd (false≢true (sym e
      ∙ same_self l m (sym (lit_code l) ∙ ap lit_of (sym (eq_is (code_of m) (code_of l) k)) ∙ lit_code m)))
  | inr k ↦ k
]

pub forced : (set : List ℤ) (c : List ℕ) (x : ℕ) → AreLits (lits_of c) → IsLit (lit_of x)
    → AloneCode (codes_of set) c x → Forced set (lits_of c) (lit_of x)
forced set c x a i s =
    let k : code_of (lit_of x) ≡ x = code_lit x i in
    record {
      member = sym (has_lits c (lit_of x) a) ∙ ap (has_code c) k ∙ s.member;
      untrue = sym (codes_has set (lit_of x)) ∙ ap (has_code (codes_of set)) k ∙ s.untrue;
      unfalse = sym (false_lits set (lit_of x) i) ∙ ap (is_false_code (codes_of set)) k ∙ s.unfalse;
      others = λ l h d. sym (false_lits set l (lit_in c l a h))
          ∙ s.others (code_of l) (has_lits c l a ∙ h)
          (ap (eqb (code_of l)) (sym k) ∙ differ (lit_of x) l d);
    }

-- the id's clause as literals
literals_at : (o : Option (List ℕ)) (c : List ℕ) → o ≡ Some c → literals o ≡ Some (lits_of c)
literals_at None c e = cc
literals_at (Some d) c e = cc

code_in : (c : List ℕ) (x : ℕ) → AreLits (lits_of c) → has_code c x ≡ true → IsLit (lit_of x)
code_in [] x a h = absurd (false≢true h)
code_in (y ∷ c) x a h = elim (or_cases (eqb x y) (has_code c x) h) [
  | inl e ↦ subst (λ z. IsLit (lit_of z)) (sym (eq_is x y e)) a.0
  | inr e ↦ code_in c x a.1 e
]

pub seen_at : (store : Clauses) (set : List ℤ) (id : ℕ) (stop : Option ℕ)
    → ((i : ℕ) (c : List ℕ) → coded store i ≡ Some c → AreLits (lits_of c))
    → Stops (coded store) (codes_of set) id stop → Sees (held_of store) set (scan_at id stop)
seen_at store set id None a s =
    (lits_of s.0, literals_at (coded store id) s.0 s.1, all_false set s.0 (a id s.0 s.1) s.2)
seen_at store set id (Some x) a s = (
  lits_of s.0,
  literals_at (coded store id) s.0 s.1,
  forced set s.0 x (a id s.0 s.1) (code_in s.0 x (a id s.0 s.1) s.2.member) s.2,
)

true_reads : (set c : List ℤ) → list_any (has set) c ≡ true → is_open (reading set c) ≡ true
true_reads set c h = grind (arith, h)

-- a clause with a true literal, or two different ones that aren't false
open_clause : (set c : List ℤ) → Two set c → is_open (reading set c) ≡ true
open_clause set c t = elim (cases_Bool (list_any (has set) c)) [
  | inl h ↦ true_reads set c h
  | inr h ↦ ap is_open (open_from set c t (λ x k. none_at (has set) c x h k))
]

satisfied_lits : (set : List ℤ) (c : List ℕ) → AreLits (lits_of c) → satisfied (codes_of set) c ≡ true
    → list_any (has set) (lits_of c) ≡ true
satisfied_lits set [] a h = h
satisfied_lits set (x ∷ c) a h = both (has_code (codes_of set) x) (has set (lit_of x)) (satisfied (codes_of set) c)
    (list_any (has set) (lits_of c))
    (sym (ap (has_code (codes_of set)) (code_lit x a.0)) ∙ codes_has set (lit_of x)) (satisfied_lits set c a.1) h where
      both : (a b c d : Bool) → a ≡ b → (c ≡ true → d ≡ true) → (a || c) ≡ true → (b || d) ≡ true
      both true b c d e f h = ap (λ z. z || d) (sym e)
      both false b c d e f h = ap (λ z. z || d) (sym e) ∙ f h

module _ (store : Clauses) (set : List ℤ) (a : (i : ℕ) (c : List ℕ) → coded store i ≡ Some c → AreLits (lits_of c))
    (two : (id : ℕ) (clause : List ℕ) → coded store id ≡ Some clause → 1 < length clause)
    (apart : (id : ℕ) (clause : List ℕ) → coded store id ≡ Some clause
    → eqb (get_or clause 0 0) (get_or clause 1 0) ≡ false)
    (calm : Calm (coded store) (codes_of set)) where
  lit_there : (id : ℕ) (c : List ℕ) → coded store id ≡ Some c → (place : ℕ) → place < length c
      → IsLit (lit_of (get_or c place 0))
  lit_there id c h place l = at c place (a id c h) l where
    at : (c : List ℕ) (place : ℕ) → AreLits (lits_of c) → place < length c → IsLit (lit_of (get_or c place 0))
    at [] place a l = absurd (omega (arith, l))
    at (x ∷ c) zero a l = a.0
    at (x ∷ c) (suc place) a l = at c place a.1 (omega (arith, l))

  open_at : (id : ℕ) (c : List ℕ) → coded store id ≡ Some c → is_open (reading set (lits_of c)) ≡ true
  open_at id c h = elim (cases_Bool (is_false_code (codes_of set) (get_or c 0 0))) [
    | inl f ↦ true_reads set (lits_of c) (satisfied_lits set c (a id c h) (calm id c 0 h (omega arith) f))
    | inr f ↦ elim (cases_Bool (is_false_code (codes_of set) (get_or c 1 0))) [
      | inl g ↦ true_reads set (lits_of c) (satisfied_lits set c (a id c h) (calm id c 1 h (omega arith) g))
      | inr g ↦
          let long = two id c h in
          let i = lit_there id c h 0 (omega (arith, long)) in
          let j = lit_there id c h 1 long in
          let x = get_or c 0 0 in
          let y = get_or c 1 0 in
          let k : code_of (lit_of x) ≡ x = code_lit x i in
          let m : code_of (lit_of y) ≡ y = code_lit y j in
          open_clause set (lits_of c) (record {
            one = lit_of x;
            two = lit_of y;
            has_one = sym (has_lits c (lit_of x) (a id c h)) ∙ ap (has_code c) k ∙ has_index c 0 (omega (arith, long));
            has_two = sym (has_lits c (lit_of y) (a id c h)) ∙ ap (has_code c) m ∙ has_index c 1 long;
            differ = elim (cases_Bool (int_eq (lit_of x) (lit_of y))) [
              | inl e ↦ absurd (false≢true (sym (apart id c h)
                  ∙ eq_self x y (sym k ∙ ap code_of (same_is (lit_of x) (lit_of y) e) ∙ m)))
              | inr e ↦ e
            ];
            one_unfalse = sym (false_lits set (lit_of x) i) ∙ ap (is_false_code (codes_of set)) k ∙ f;
            two_unfalse = sym (false_lits set (lit_of y) j) ∙ ap (is_false_code (codes_of set)) m ∙ g;
          })
    ]
  ]

  some_literals : (o : Option (List ℕ)) (c : List ℤ) → literals o ≡ Some c → (d : List ℕ) × (o ≡ Some d)
      × (lits_of d ≡ c)
  some_literals None c e = absurd (cc)
  some_literals (Some d) c e = (d, refl, cc)

  -- each held clause has a true literal or two different open ones
  pub closes : Closed (held_of store) set
  closes id c h = let r = some_literals (coded store id) c h in
      ap (λ z. is_open (reading set z)) (sym r.2) ∙ open_at id r.0 r.1

-- a literal that is forced has a complement
pub forced_lit : (held : Coded) (set : List ℕ) (id : ℕ) (stop : Option ℕ)
    → ((i : ℕ) (c : List ℕ) → held i ≡ Some c → AreLits (lits_of c)) → Stops held set id stop
    → IfSome stop (λ code. IsLit (lit_of code))
forced_lit held set id None a s = tt
forced_lit held set id (Some x) a s = code_in s.0 x (a id s.0 s.1) s.2.member
