-- What each round of the search owes to the calls that it makes.
use Rattle.std.proofs.Common.{◌≡◌, ℕ, ◌+◌, ◌<◌, true, false, List, [], ◌∷◌, ◌++◌, ℤ, neg_ℤ, pos}
use Rattle.std.proofs.Common.{Some, None, ap, sym, subst, ◌∙◌}
use Rattle.std.proofs.Common.{w64}
use Rattle.std.proofs.Common.{to_z, of_z, arith}
use Rattle.std.specs.Prelude.{slice_get}
use Rattle.std.proofs.lemmas.Bool.{or_parts}
use Rattle.std.proofs.lemmas.Int.{to_z-of_z, fits_signed_from_abs}
use Rattle.cnf_form.specs.Cnf.{IsLiteral}
use Rattle.lrat_check.specs.Sets.{has, is_false, IsLit}
use Rattle.sat_trail.specs.declared.trail.Entry.{Entry}
use Rattle.sat_propagate.specs.declared.unit_scan.Scan.TheVariants as scan
use Rattle.sat_trail.specs.Trail.{Entries, lits, Stand, IsOpenVar, IsOpenLit, is_decision, settled}
use Rattle.sat_propagate.specs.declared.unit_scan.Scan.{Scan}
use Rattle.sat_propagate.specs.Propagation.{AllLits, Sees, Taken, Holds, HoldsOn}
use Rattle.sat_propagate.proofs.Going.{cut_to, joined_by}
use Rattle.sat_learn.specs.Learning.{Learns}
use Rattle.sat_learn.specs.Analysis.{IsConflict}
use Rattle.sat_search.specs.Ledger.{State as Ledger}
use Rattle.sat_search.specs.Searching.{Searching, rounds}
use Rattle.sat_trail.proofs.Members.{neg_neg}
use Rattle.sat_trail.proofs.Readings.{Alone, unit_to}
use Rattle.sat_propagate.proofs.ByPlace.{lits_at}
use Rattle.sat_search.proofs.Literals.{literal_at, neg_literal, lit_of, all_lits}
use Rattle.sat_search.proofs.Dropping.{clause_at}
use Rattle.sat_search.proofs.Searches.{pushed_on}
use Rattle.sat_search.proofs.Rounds.{value_falls}

-- a variable without a value, and its complement
pub open_var : (vars : ℕ) (set : List ℤ) (l : ℤ) → IsOpenVar vars set l → IsOpenLit vars set l
open_var vars set l h =
    let P : ℤ → Type 0 = λ z. IsOpenLit vars set z in
    let k = h.1 in
    let o = or_parts (has set (pos (h.0 + 1))) (is_false set (pos (h.0 + 1))) h.3 in
    subst P (sym h.2) ((omega arith, omega (arith, k)), o.0, o.1)

pub open_neg : (vars : ℕ) (set : List ℤ) (l : ℤ) → IsOpenLit vars set l → IsOpenLit vars set (neg_ℤ l)
open_neg vars set l h = (
  neg_literal vars (neg_ℤ l) (subst (IsLiteral vars) (sym (neg_neg l)) h.0),
  h.2,
  ap (has set) (neg_neg l) ∙ h.1,
)

module _ (vars budget : ℕ) (formula : List (List ℤ)) (book : Ledger) (t : Entries) (left : ℕ)
    (s : Searching vars budget formula book t left) (seen : List (List ℤ)) (same : seen ≡ book.clauses) where
  pub seen_lits : AllLits seen
  seen_lits = subst AllLits (sym same) (all_lits vars book.clauses s.told.small s.told.names)

  pub conflict_at : (place : ℕ) (other : List (List ℤ)) → other ≡ book.clauses
      → Sees seen (lits t) (scan.Conflict place) → IsConflict other t place
  conflict_at place other o h =
      let P : List (List ℤ) → Type 0 = λ z. slice_get z place ≡ Some h.0 in
      let Q : List (List ℤ) → Type 0 = λ z. Stand z t in
      let found : slice_get other place ≡ Some h.0 = subst P (same ∙ sym o) h.1 in
      record {
        stand = subst Q (sym o) s.stand;
        clause = h.0;
        found = found;
        false_there = h.2;
        all_lits = lits_at other place h.0 (subst AllLits (same ∙ sym o) seen_lits) found;
      }

  module _ (place : ℕ) (l : ℤ) (h : Sees seen (lits t) (scan.Unit place l)) where
    unit_found : slice_get book.clauses place ≡ Some h.0
    unit_found = let P : List (List ℤ) → Type 0 = λ z. slice_get z place ≡ Some h.0 in subst P same h.1

    unit_alone : Alone (lits t) h.0 l
    unit_alone = unit_to (lits t) h.0 l h.2

    unit_literal : IsLiteral vars l
    unit_literal =
        literal_at vars h.0 l (clause_at vars book.clauses place h.0 s.told.names unit_found) unit_alone.member

    pub unit_kept : to_z w64 (of_z w64 l) ≡ l
    unit_kept = to_z-of_z w64 l (fits_signed_from_abs w64 l (lit_of vars l s.told.small unit_literal).1)

    pub unit_lit : IsLit (to_z w64 (of_z w64 l))
    unit_lit = subst IsLit (sym unit_kept) (lit_of vars l s.told.small unit_literal)

    pub unit_free : has (lits t) (to_z w64 (of_z w64 l)) ≡ false
    unit_free = ap (has (lits t)) unit_kept ∙ unit_alone.untrue

    module _ (whole : Entries) (w : whole ≡ (record { lit = to_z w64 (of_z w64 l); reason = Some place }) ∷ t) where
      entry_is : whole ≡ (record { lit = l; reason = Some place }) ∷ t
      entry_is = w ∙ ap (λ z. (let e : Entry = record { lit = z; reason = Some place } in e) ∷ t) unit_kept

      pub unit_on : Searching vars budget formula book whole left
      unit_on = pushed_on vars budget formula book t left s
          (record { lit = l; reason = Some place }) whole entry_is unit_literal
          (record {
            lit = lit_of vars l s.told.small unit_literal;
            free = unit_alone.untrue;
            unfalse = unit_alone.unfalse;
            because = (h.0, unit_found, h.2);
          })

      pub unit_falls : (rest : ℕ) → rounds vars rest whole < rounds vars rest t
      unit_falls rest = value_falls vars rest (record {
        lit = l;
        reason = Some place;
      }) t whole entry_is unit_literal unit_alone.untrue unit_alone.unfalse

  module _ (l : ℤ) (h : IsOpenLit vars (lits t) l) where
    var_kept : to_z w64 (of_z w64 l) ≡ l
    var_kept = to_z-of_z w64 l (fits_signed_from_abs w64 l (lit_of vars l s.told.small h.0).1)

    module _ (whole : Entries) (w : whole ≡ (record { lit = to_z w64 (of_z w64 l); reason = None }) ∷ t) where
      decision_is : whole ≡ (record { lit = l; reason = None }) ∷ t
      decision_is = w ∙ ap (λ z. (let e : Entry = record { lit = z; reason = None } in e) ∷ t) var_kept

      pub decision_falls : (rest : ℕ) → rounds vars rest whole < rounds vars rest t
      decision_falls rest = value_falls vars rest (record {
        lit = l;
        reason = None;
      }) t whole decision_is h.0 h.1 h.2

      pub decision_on : settled seen (lits t) ≡ true → Searching vars budget formula book whole left
      decision_on k = pushed_on vars budget formula book t left s
          (record { lit = l; reason = None }) whole decision_is h.0
          (record {
            lit = lit_of vars l s.told.small h.0;
            free = h.1;
            unfalse = h.2;
            because = ap (λ z. settled z (lits t)) (sym same) ∙ k;
          })

-- what is kept of the watches, behind an entry that comes
pub holds_behind : (cs seen : List (List ℤ)) (t whole : Entries) (p : Taken) (e : Entry) (found : Scan) → seen ≡ cs
    → whole ≡ e ∷ t → HoldsOn seen t p found → (is_decision e ≡ true → found ≡ scan.Settled) → Holds cs whole p
holds_behind cs seen t whole p e found same w h d =
    subst (λ z. Holds cs z p) (sym w) (subst (λ z. Holds z (e ∷ t) p) same (h.1 e d))

-- and where a clause is learnt
pub learnt_holds : (cs more : List (List ℤ)) (r hints : List ℤ) (t cut : Entries) (p : Taken) → Stand cs t
    → Holds cs t p → Learns cs r hints t cut → more ≡ cs ++ r ∷ [] → Holds more cut p
learnt_holds cs more r hints t cut p s h w e =
    subst (λ z. Holds z cut p) (sym e) (joined_by cs r cut p (cut_to cs t cut p s h w.older))
