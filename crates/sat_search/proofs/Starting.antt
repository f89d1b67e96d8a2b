-- The clauses of a formula, before any step.
use Rattle.std.proofs.Common.{◌≡◌, ℕ, zero, suc, ◌+◌, ◌-◌, ◌^◌, ◌<◌, true, false, List, [], ◌∷◌, ℤ, length}
use Rattle.std.proofs.Common.{get_or, Some, refl, ap, sym, subst, ◌∙◌, inl, inr, arith}
use Rattle.std.specs.Prelude.{slice_get}
use Rattle.std.specs.List.{list_any}
use Rattle.std.proofs.lemmas.Bool.{false≢true, or_cases}
use Rattle.std.proofs.lemmas.List.{append-nil, length_push}
use Rattle.std.proofs.lemmas.Map.Keys.{any_passes_from_place}
use Rattle.std.proofs.lemmas.Option.{slice_get_within, slice_get-get_or}
use Rattle.cnf_form.specs.Cnf.{AreClauses}
use Rattle.lrat_check.specs.declared.step.Step.{Step}
use Rattle.lrat_check.specs.Sets.{same_set}
use Rattle.lrat_check.specs.Steps.{numbered}
use Rattle.lrat_check.specs.Resolved.{derived_from}
use Rattle.sat_trail.specs.Known.{Clauses, contains}
use Rattle.sat_search.specs.Ledger.{State, ids_to, IsAmong, HoldsBy, Tells}
use Rattle.sat_search.proofs.Places.{none_some, push_cases}

pub length_ids : (n : ℕ) → length (ids_to n) ≡ n
length_ids zero = refl
length_ids (suc n) = let e = length_push (ids_to n) (n + 1) in let h = length_ids n in omega (arith, e, h)

id_is : (n place id : ℕ) → slice_get (ids_to n) place ≡ Some id → id ≡ place + 1
id_is zero place id e = absurd (none_some id e)
id_is (suc n) place id e = elim (push_cases (ids_to n) (n + 1) place id e) [
  | inl h ↦ id_is n place id h
  | inr h ↦ (let l = length_ids n in let a = h.0 in let b = h.1 in omega (arith, l, a, b))
]

has_id : (n place : ℕ) → place < n → slice_get (ids_to n) place ≡ Some (place + 1)
has_id n place h =
    let l = length_ids n in
    let w : place < length (ids_to n) = omega (arith, l, h) in
    let e = slice_get-get_or (ids_to n) place 0 w in
    e ∙ ap Some (id_is n place (get_or (ids_to n) place 0) e)

pub among_from : (cs : List (List ℤ)) (c : List ℤ) → list_any (same_set c) cs ≡ true → IsAmong cs c
among_from [] c h = absurd (false≢true h)
among_from (d ∷ ds) c h = elim (or_cases (same_set c d) (list_any (same_set c) ds) h) [
  | inl e ↦ (zero, d, refl, e)
  | inr e ↦ let r = among_from ds c e in (suc r.0, r.1, r.2, r.3)
]

pub among_any : (cs : List (List ℤ)) (c : List ℤ) → IsAmong cs c → list_any (same_set c) cs ≡ true
among_any cs c a = any_passes_from_place (same_set c) cs a.0 a.1 a.2 a.3

-- a formula's clauses have the ids from 1 on
holds_first : (formula : List (List ℤ)) → HoldsBy (numbered formula) (ids_to (length formula)) formula
holds_first formula = record {
  many = length_ids (length formula);
  at = λ place id c e f.
      let q : id ≡ suc place = (let r = id_is (length formula) place id e in omega (arith, r)) in
      ap (numbered formula) q ∙ f;
  of = of;
  apart = λ j k id e f.
      let a = id_is (length formula) j id e in let b = id_is (length formula) k id f in omega (arith, a, b);
} where
  of : (id : ℕ) (c : List ℤ) → numbered formula id ≡ Some c
      → (place : ℕ) × (slice_get (ids_to (length formula)) place ≡ Some id) × (slice_get formula place ≡ Some c)
  of zero c e = absurd (none_some c e)
  of (suc place) c e =
      let w = slice_get_within formula place c e in
      let q : place + 1 ≡ suc place = omega arith in
      (place, has_id (length formula) place w ∙ ap Some q, e)

abbrev state_of : List (List ℤ) → List ℕ → ℕ → ℕ → List Step → Clauses → State
state_of clauses ids first top steps dropped = record {
  clauses = clauses;
  ids = ids;
  first = first;
  top = top;
  steps = steps;
  dropped = dropped;
}

module _ (vars : ℕ) (formula : List (List ℤ)) (v : vars < 2 ^ 63) (k : AreClauses vars formula)
    (few : length formula < 10 ^ 18) (dropped : Clauses) (none : (c : List ℤ) → contains dropped c ≡ false) where
  begins_so : Tells vars formula [] (state_of formula (ids_to (length formula)) (length formula) (length formula) []
      dropped)
  begins_so = record {
    small = v;
    names = k;
    first_is = refl;
    begins = λ place c e. e;
    few = omega arith;
    most = few;
    some_ids = λ place id e. (let q = id_is (length formula) place id e in omega (arith, q));
    up_to = λ place id e.
        let w = slice_get_within (ids_to (length formula)) place id e in
        let l = length_ids (length formula) in
        let q = id_is (length formula) place id e in
        omega (arith, w, l, q);
    held = numbered formula;
    holds = holds_first formula;
    tells = λ more. refl;
    resolved = λ more h. h;
    derives = λ more. ap (λ z. derived_from z more) (sym (append-nil formula));
    added = λ more h. h;
    short = λ w more h. h;
    seen = λ c h. inl (among_from formula c (ap (list_any (same_set c)) (sym (append-nil formula)) ∙ h));
    known = λ c a. ap (list_any (same_set c)) (append-nil formula) ∙ among_any formula c a;
    gone = λ c h. absurd (false≢true (sym (none c) ∙ h));
  }

  pub starts : (clauses : List (List ℤ)) (ids : List ℕ) (first top : ℕ) (steps : List Step) → clauses ≡ formula
      → ids ≡ ids_to (length formula) → first ≡ length formula → top ≡ length formula → steps ≡ []
      → Tells vars formula [] (state_of clauses ids first top steps dropped)
  starts clauses ids first top steps a b c d e =
      let P : List (List ℤ) → List ℕ → ℕ → ℕ → List Step → Type 0 =
      λ p q x y z. Tells vars formula [] (state_of p q x y z dropped) in
      let n = length formula in
      subst (λ p. P p ids first top steps) (sym a) (subst (λ q. P formula q first top steps) (sym b)
      (subst (λ x. P formula (ids_to n) x top steps) (sym c) (subst (λ y. P formula (ids_to n) n y steps) (sym d)
      (subst (λ z. P formula (ids_to n) n n z) (sym e) begins_so))))
