-- What a store holds at the place of an id, before and after a change.
use Rattle.std.proofs.Common.{◌≡◌, ℕ, ◌+◌, ◌<◌, Bool, false, cond, List, length, get_or, set, Some, None}
use Rattle.std.proofs.Common.{refl, ap, sym, subst, ◌∙◌, arith}
use Rattle.std.specs.Prelude.{slice_range}
use Rattle.std.specs.List.{swap}
use Rattle.std.proofs.lemmas.List.Edits.{length-swap}
use Rattle.cnf_form.specs.Flat.{end_at}
use Rattle.lrat_check.specs.Store.{Span, Coded, part, found, number_at, span_at, spans, with_code, NoId}
use Rattle.lrat_check.specs.Store.{IsId, Lies, Removes}
use Rattle.lrat_check.proofs.Spans.{found_at, found_none, in_range, swapped, removes}
use Rattle.lrat_check.proofs.Rows.{span_of, spans_set, at, is_span, no_span}

module _ (all ids starts : List ℕ) (held : List Bool) (next : ℕ) (l : Lies ids starts held (length all) next) where
  abbrev parts : List Span
  parts = spans ids starts held (length all)

  pub holds : (id k : ℕ) (b : Bool) → IsId ids id k → get_or held k false ≡ b → found all parts id
      ≡ cond b (Some (slice_range all (number_at starts k) (end_at starts k (length all)))) None
  holds id k b r e =
      found_at all parts k id l.laid.climbing (is_span ids starts held (length all) next l id k r)
      ∙ ap (part all) (at ids starts held (length all) next l k r.0)
      ∙ ap (λ b. cond b (Some (slice_range all (number_at starts k) (end_at starts k (length all)))) None) e

  pub holds_none : (id : ℕ) → NoId ids id → found all parts id ≡ None
  holds_none id n = found_none all parts id (no_span ids starts held (length all) next l id n)

  -- two places of a clause lie among the codes
  pub in_codes : (id k a b : ℕ) (clause : List ℕ) → IsId ids id k → found all parts id ≡ Some clause
      → a < length clause → b < length clause
      → (number_at starts k + a < length all) × (number_at starts k + b < length all)
  in_codes id k a b clause r f ha hb =
      let s = ap (λ x. x.start) (at ids starts held (length all) next l k r.0) in
      let d = in_range all parts next id k a b clause l.laid
      (is_span ids starts held (length all) next l id k r) f ha hb in
      (omega (arith, d.0, s), omega (arith, d.1, s))

  -- they are exchanged
  pub exchanged : (id k a b : ℕ) (clause codes : List ℕ) → IsId ids id k → found all parts id ≡ Some clause
      → a < length clause → b < length clause → codes ≡ swap all (number_at starts k + a) (number_at starts k + b)
      → found codes (spans ids starts held (length codes)) ≡ with_code (found all parts) id (swap clause a b)
  exchanged id k a b clause codes r f ha hb e =
      let s = ap (λ x. x.start) (at ids starts held (length all) next l k r.0) in
      ap (λ z. found z (spans ids starts held (length z)))
      (e ∙ ap (λ z. swap all (z + a) (z + b)) (sym s))
      ∙ ap (λ n. found (swap all ((span_at parts k).start + a) ((span_at parts k).start + b)) (spans ids starts held n))
      (length-swap all ((span_at parts k).start + a) ((span_at parts k).start + b))
      ∙ swapped all parts next id k a b clause l.laid (is_span ids starts held (length all) next l id k r) f ha hb

  -- it is held no longer
  pub removed : (id k : ℕ) (b : Bool) (before : Coded) → IsId ids id k → get_or held k false ≡ b
      → before ≡ found all parts
      → Removes before (found all (spans ids starts (set held k false) (length all))) id b
  removed id k b before r e f =
      let end = length all in
      let now : Span = record {
        id = number_at ids k;
        start = number_at starts k;
        end = end_at starts k end;
        held = false;
      } in
      subst (λ z. Removes before (found all z) id b)
      (sym (spans_set ids starts held end k l.begun l.marked r.0))
      (removes all parts id k (span_of ids starts held end k) now before b e l.laid.climbing
      (is_span ids starts held end next l id k r) (sym (at ids starts held end next l k r.0)) f refl refl)
