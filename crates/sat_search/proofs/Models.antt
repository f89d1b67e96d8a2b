-- Where all clauses are settled and each variable has a value, the trail's values make the clauses true.
use Rattle.std.proofs.Common.{◌≡◌, ℕ, zero, suc, ◌+◌, ◌-◌, ◌<◌, true, false, List, [], ◌∷◌}
use Rattle.std.proofs.Common.{◌++◌, ℤ, pos, negsuc}
use Rattle.std.proofs.Common.{neg_ℤ, length, get_or, Some, refl, ap, sym, ◌∙◌, inl, inr, length-append, arith}
use Rattle.std.proofs.Math.Seq.{get_or-append_seam}
use Rattle.std.proofs.lemmas.List.{get_or_append_left}
use Rattle.std.proofs.lemmas.Bool.{false≢true, cases_lt, and_from, and_parts, or_from, not_from_false}
use Rattle.std.proofs.lemmas.Bool.{false_from_ne_true}
use Rattle.std.specs.Prelude.{slice_get}
use Rattle.cnf_form.specs.Cnf.{IsLiteral, AreLiterals, AreClauses, literal_true, clause_true, formula_true, value_of}
use Rattle.lrat_check.specs.declared.reading.Reading.{Reading}
use Rattle.lrat_check.specs.declared.reading.Reading.TheVariants as read
use Rattle.lrat_check.specs.Sets.{has, is_false, reading}
use Rattle.lrat_check.specs.Resolved.{is_open}
use Rattle.sat_trail.specs.Trail.{Entries, lits, settled, Stand, AllAssigned, values_of}
use Rattle.sat_trail.proofs.Members.{any_from}
use Rattle.sat_trail.proofs.Readings.{open_to}
use Rattle.sat_propagate.proofs.Consistent.{no_pair}
use Rattle.sat_learn.proofs.News.{true_has}
use Rattle.sat_search.proofs.Dropping.{clause_at}
use Rattle.sat_search.proofs.Places.{none_some, some_is}
use Rattle.sat_search.proofs.Literals.{literal_at, by_variable, neg_next}

pub length_values : (vars : ℕ) (set : List ℤ) → length (values_of vars set) ≡ vars
length_values zero set = refl
length_values (suc n) set = let e = length-append (values_of n set) (has set (pos (n + 1)) ∷ [])
    in let h = length_values n set in omega (arith, e, h)

values_at : (vars : ℕ) (set : List ℤ) (n : ℕ) → n < vars → get_or (values_of vars set) n false ≡ has set (pos (n + 1))
values_at zero set n h = absurd (omega arith)
values_at (suc m) set n h =
    let long = length_values m set in
    elim (cases_lt n m) [
      | inl k ↦ get_or_append_left (values_of m set) (has set (pos (m + 1)) ∷ []) false n (omega (arith, long, k))
          ∙ values_at m set n k
      | inr k ↦
          let e : n ≡ length (values_of m set) = omega (arith, long, k, h) in
          let f : m ≡ n = omega (arith, k, h) in
          ap (λ i. get_or (values_of m set ++ has set (pos (m + 1)) ∷ []) i false) e
          ∙ get_or-append_seam (values_of m set) (has set (pos (m + 1))) [] false ∙ ap (λ i. has set (pos (i + 1))) f
    ]

value_is : (vars : ℕ) (set : List ℤ) (n : ℕ) → n < vars → value_of (values_of vars set) (n + 1) ≡ has set (pos (n + 1))
value_is vars set n h =
    let e : n + 1 - 1 ≡ n = omega arith in ap (λ i. get_or (values_of vars set) i false) e ∙ values_at vars set n h

open_at : (set : List ℤ) (cs : List (List ℤ)) (place : ℕ) (c : List ℤ) → settled cs set ≡ true
    → slice_get cs place ≡ Some c → is_open (reading set c) ≡ true
open_at set [] place c h e = absurd (none_some c e)
open_at set (d ∷ ds) zero c h e =
    ap (λ z. is_open (reading set z)) (sym (some_is d c e))
    ∙ (and_parts (is_open (reading set d)) (settled ds set) h).0
open_at set (d ∷ ds) (suc place) c h e =
    open_at set ds place c (and_parts (is_open (reading set d)) (settled ds set) h).1 e

module _ (vars : ℕ) (all_clauses : List (List ℤ)) (t : Entries) (s : Stand all_clauses t)
    (a : AllAssigned vars (lits t)) where
  -- a true literal of the trail is true under its values
  on_trail : (x : ℤ) → IsLiteral vars x → has (lits t) x ≡ true
      → literal_true (value_of (values_of vars (lits t))) x ≡ true
  on_trail = by_variable vars (λ x. has (lits t) x ≡ true → literal_true (value_of (values_of vars (lits t))) x ≡ true)
      (λ n k h. value_is vars (lits t) n k ∙ h)
      (λ n k h. not_from_false (value_of (values_of vars (lits t)) (n + 1)) (value_is vars (lits t) n k
      ∙ false_from_ne_true (has (lits t) (pos (n + 1)))
      (λ f. no_pair all_clauses t s (pos (n + 1)) f (ap (has (lits t)) (neg_next n) ∙ h))))

  -- a literal that is neither true nor false has a variable without a value
  valued : (x : ℤ) → IsLiteral vars x → has (lits t) x ≡ false → is_false (lits t) x ≡ false → ⊥
  valued = by_variable vars (λ x. has (lits t) x ≡ false → is_false (lits t) x ≡ false → ⊥)
      (λ n k h f. false≢true (sym (or_from (has (lits t) (pos (n + 1))) (is_false (lits t) (pos (n + 1))) h f) ∙ a n k))
      (λ n k h f.
      let e : neg_ℤ (negsuc n) ≡ pos (n + 1) = (let q : suc n ≡ n + 1 = omega arith in ap pos q) in
      false≢true (sym (or_from (has (lits t) (pos (n + 1))) (is_false (lits t) (pos (n + 1)))
      (ap (has (lits t)) (sym e) ∙ f) (ap (has (lits t)) (neg_next n) ∙ h)) ∙ a n k))

  clause_holds : (c : List ℤ) (now : Reading) → AreLiterals vars c → reading (lits t) c ≡ now → is_open now ≡ true
      → clause_true (value_of (values_of vars (lits t))) c ≡ true
  clause_holds c read.True k e o =
      let x = true_has (lits t) c e in
      any_from (literal_true (value_of (values_of vars (lits t)))) c x.0 x.1
      (on_trail x.0 (literal_at vars c x.0 k x.1) x.2)
  clause_holds c read.False k e o = absurd (false≢true o)
  clause_holds c (read.Unit l) k e o = absurd (false≢true o)
  clause_holds c read.Open k e o =
      let p = open_to (lits t) c e in
      absurd (valued p.0.one (literal_at vars c p.0.one k p.0.has_one) (p.1 p.0.one p.0.has_one) p.0.one_unfalse)

  -- each of the clauses does, by its place
  holds_at : (cs : List (List ℤ)) (place : ℕ) (c : List ℤ) → AreClauses vars cs → settled cs (lits t) ≡ true
      → slice_get cs place ≡ Some c → clause_true (value_of (values_of vars (lits t))) c ≡ true
  holds_at cs place c k h e =
      clause_holds c (reading (lits t) c) (clause_at vars cs place c k e) refl (open_at (lits t) cs place c h e)

  all_hold : (cs : List (List ℤ))
      → ((place : ℕ) (c : List ℤ) → slice_get cs place ≡ Some c
      → clause_true (value_of (values_of vars (lits t))) c ≡ true)
      → formula_true (value_of (values_of vars (lits t))) cs ≡ true
  all_hold [] h = refl
  all_hold (c ∷ cs) h =
      and_from (clause_true (value_of (values_of vars (lits t))) c)
      (formula_true (value_of (values_of vars (lits t))) cs) (h zero c refl)
      (all_hold cs (λ place d e. h (suc place) d e))

  -- and so the formula's, which have the first places
  pub models : (formula : List (List ℤ))
      → ((place : ℕ) (c : List ℤ) → slice_get formula place ≡ Some c → slice_get all_clauses place ≡ Some c)
      → AreClauses vars all_clauses → settled all_clauses (lits t) ≡ true
      → formula_true (value_of (values_of vars (lits t))) formula ≡ true
  models formula begins k h =
      all_hold formula (λ place c e. holds_at all_clauses place c k h (begins place c e))
