-- A store that was packed holds what it held.
use Rattle.std.proofs.Common.{◌≡◌, ℕ, zero, suc, ◌+◌, ◌-◌, ◌<◌, ◌≤◌, Bool, true, false, cond, List, [], ◌∷◌, ◌++◌}
use Rattle.std.proofs.Common.{length, take, replicate, Some, None, refl, ap, sym, subst, ◌∙◌}
use Rattle.std.proofs.Common.{inl, inr, arith, length-append}
use Rattle.std.specs.Prelude.{slice_range}
use Rattle.std.proofs.lemmas.Bool.{cases_eq}
use Rattle.std.proofs.lemmas.List.{append_assoc, length-replicate, take_at, drop_at}
use Rattle.std.proofs.lemmas.List.Edits.{length-between}
use mathlib.Core.Path.{fun_ext}
use Rattle.cnf_form.specs.Flat.{start_of, Mounting}
use Rattle.cnf_form.proofs.Starts.{up}
use Rattle.lrat_check.specs.Store.{Span, part, found, span_at, spans, Laid, Lies}
use Rattle.lrat_check.specs.Store.{marked, packed_starts, packed}
use Rattle.lrat_check.proofs.Spans.{eq_self, eq_apart, found_none}
use Rattle.lrat_check.proofs.Rows.{mounts, mounts_from, rest}

-- ids rise from one on, below another one
abbrev pub Ordered : ℕ → List ℕ → ℕ → Type 0
Ordered low [] next = Unit {0}
Ordered low (id ∷ ids) next = (low ≤ id) × (id < next) × Ordered (id + 1) ids next

ordered_from : (low more : ℕ) (ids : List ℕ) (next : ℕ) → low ≤ more → Ordered more ids next → Ordered low ids next
ordered_from low more [] next h o = tt
ordered_from low more (id ∷ ids) next h o = (omega (arith, h, o.0), o.1, o.2)

-- spans that lie one behind the other, from a place and an id on
record Follow (spans : List Span) (at low end next : ℕ) : Type 0 where
  pub laid : Laid spans end next
  pub above : (k : ℕ) → k < length spans → (at ≤ (span_at spans k).start) × (low ≤ (span_at spans k).id)

follow_none : (at low end next : ℕ) → Follow [] at low end next
follow_none at low end next = record {
  laid = record {
    within = λ k h. absurd (omega (arith, h));
    behind = λ i k h m. absurd (omega (arith, m));
    climbing = λ i k h m. absurd (omega (arith, m));
  };
  above = λ k h. absurd (omega (arith, h));
}

module _ (span : Span) (spans : List Span) (at low end next : ℕ) (f : Follow spans span.end (span.id + 1) end next)
    (s : at ≤ span.start) (e : span.start ≤ span.end) (m : span.end ≤ end) (b : low ≤ span.id) (t : span.id < next)
  where
    within_at : (k : ℕ) → k < length (span ∷ spans)
        → ((span_at (span ∷ spans) k).start ≤ (span_at (span ∷ spans) k).end)
        × ((span_at (span ∷ spans) k).end ≤ end) × ((span_at (span ∷ spans) k).id < next)
    within_at zero h = (e, m, t)
    within_at (suc k) h = f.laid.within k (omega (arith, h))

    behind_at : (i k : ℕ) → i < k → k < length (span ∷ spans)
        → ((span_at (span ∷ spans) i).end ≤ (span_at (span ∷ spans) k).start)
        × ((span_at (span ∷ spans) i).id < (span_at (span ∷ spans) k).id)
    behind_at i zero h q = absurd (omega (arith, h))
    behind_at zero (suc k) h q = let a = f.above k (omega (arith, q)) in (a.0, omega (arith, a.1))
    behind_at (suc i) (suc k) h q = (
      f.laid.behind i k (omega (arith, h)) (omega (arith, q)),
      f.laid.climbing i k (omega (arith, h)) (omega (arith, q)),
    )

    above_at : (k : ℕ) → k < length (span ∷ spans)
        → (at ≤ (span_at (span ∷ spans) k).start) × (low ≤ (span_at (span ∷ spans) k).id)
    above_at zero h = (s, b)
    above_at (suc k) h = let a = f.above k (omega (arith, h)) in (omega (arith, s, e, a.0), omega (arith, b, a.1))

    follow_more : Follow (span ∷ spans) at low end next
    follow_more = record {
      laid = record {
        within = within_at;
        behind = λ i k h q. (behind_at i k h q).0;
        climbing = λ i k h q. (behind_at i k h q).1;
      };
      above = above_at;
    }

follows : (ids starts : List ℕ) (held : List Bool) (low end next : ℕ) → Ordered low ids next → Mounting starts end
    → Follow (spans ids starts held end) (start_of starts end) low end next
follows [] starts held low end next o m = follow_none (start_of starts end) low end next
follows (id ∷ ids) [] held low end next o m = follow_none end low end next
follows (id ∷ ids) (s ∷ starts) [] low end next o m = follow_none s low end next
follows (id ∷ ids) (s ∷ starts) (h ∷ held) low end next o m =
    follow_more (record { id = id; start = s; end = start_of starts end; held = h }) (spans ids starts held end) s low
    end next (follows ids starts held (id + 1) end next o.2 m.1) (omega arith) m.0 (up starts end m.1) o.0 o.1

ordered : (ids starts : List ℕ) (held : List Bool) (low end next : ℕ) → length starts ≡ length ids
    → length held ≡ length ids → Laid (spans ids starts held end) end next
    → ((k : ℕ) → k < length (spans ids starts held end) → low ≤ (span_at (spans ids starts held end) k).id)
    → Ordered low ids next
ordered [] starts held low end next b m l f = tt
ordered (id ∷ ids) [] held low end next b m l f = absurd (omega (arith, b))
ordered (id ∷ ids) (s ∷ starts) [] low end next b m l f = absurd (omega (arith, m))
ordered (id ∷ ids) (s ∷ starts) (h ∷ held) low end next b m l f = (
  f 0 (omega arith),
  (l.within 0 (omega arith)).2,
  ordered ids starts held (id + 1) end next (omega (arith, b)) (omega (arith, m))
      (rest (record { id = id; start = s; end = start_of starts end; held = h }) (spans ids starts held end) end next l)
      (λ k q. let c : id < (span_at (spans ids starts held end) k).id =
      l.climbing 0 (suc k) (omega arith) (omega (arith, q)) in omega (arith, c)),
)

ordered_marked : (ids : List ℕ) (held : List Bool) (low next : ℕ) → Ordered low ids next
    → Ordered low (marked ids held) next
ordered_marked [] held low next o = tt
ordered_marked (id ∷ ids) [] low next o = tt
ordered_marked (id ∷ ids) (true ∷ held) low next o = (o.0, o.1, ordered_marked ids held (id + 1) next o.2)
ordered_marked (id ∷ ids) (false ∷ held) low next o =
    ordered_from low (id + 1) (marked ids held) next (omega (arith, o.0)) (ordered_marked ids held (id + 1) next o.2)

-- as many starts as ids stay
starts_long : (ids starts : List ℕ) (held : List Bool) (end from : ℕ) → length starts ≡ length ids
    → length (packed_starts starts held end from) ≡ length (marked ids held)
starts_long [] [] held end from b = refl
starts_long [] (s ∷ starts) held end from b = absurd (omega (arith, b))
starts_long (id ∷ ids) [] held end from b = absurd (omega (arith, b))
starts_long (id ∷ ids) (s ∷ starts) [] end from b = refl
starts_long (id ∷ ids) (s ∷ starts) (true ∷ held) end from b =
    let q : length (packed_starts starts held end (from + (start_of starts end - s))) ≡ length (marked ids held) =
    starts_long ids starts held end (from + (start_of starts end - s)) (omega (arith, b)) in omega (arith, q)
starts_long (id ∷ ids) (s ∷ starts) (false ∷ held) end from b =
    starts_long ids starts held end from (omega (arith, b))

-- the first clause that stays begins where the packing begins
begins : (all starts : List ℕ) (held : List Bool) (end from last : ℕ)
    → last ≡ from + length (packed all starts held) → start_of (packed_starts starts held end from) last ≡ from
begins all [] held end from last e = omega (arith, e)
begins all (s ∷ starts) [] end from last e = omega (arith, e)
begins all (s ∷ starts) (true ∷ held) end from last e = refl
begins all (s ∷ starts) (false ∷ held) end from last e = begins all starts held end from last e

module _ (all : List ℕ) where
  -- the codes of a clause
  size : (s : ℕ) (starts : List ℕ) → Mounting (s ∷ starts) (length all)
      → length (slice_range all s (start_of starts (length all))) ≡ start_of starts (length all) - s
  size s starts m = length-between all s (start_of starts (length all)) (up starts (length all) m.1)

  split : (s : ℕ) (starts : List ℕ) (held : List Bool) (from last : ℕ) → Mounting (s ∷ starts) (length all)
      → last ≡ from + length (slice_range all s (start_of starts (length all)) ++ packed all starts held)
      → last ≡ (from + (start_of starts (length all) - s)) + length (packed all starts held)
  split s starts held from last m e = omega (
    arith,
    e,
    size s starts m,
    length-append (slice_range all s (start_of starts (length all))) (packed all starts held),
  )

  mounting : (starts : List ℕ) (held : List Bool) (from last : ℕ) → Mounting starts (length all)
      → last ≡ from + length (packed all starts held)
      → Mounting (packed_starts starts held (length all) from) last
  mounting [] held from last m e = tt
  mounting (s ∷ starts) [] from last m e = tt
  mounting (s ∷ starts) (true ∷ held) from last m e =
      let q = split s starts held from last m e in
      let n = from + (start_of starts (length all) - s) in (
        omega (arith, begins all starts held (length all) n last q),
        mounting starts held n last m.1 q,
      )
  mounting (s ∷ starts) (false ∷ held) from last m e = mounting starts held from last m.1 e

  -- what a span of the packed codes holds
  part_here : (before mid behind : List ℕ) (id from end : ℕ) → from ≡ length before → end ≡ from + length mid
      → part (before ++ (mid ++ behind)) (record { id = id; start = from; end = end; held = true }) ≡ Some mid
  part_here before mid behind id from end s e =
      let d : end - from ≡ length mid = omega (arith, e) in
      ap (λ z. Some (take (end - from) z)) (drop_at before (mid ++ behind) from (sym s))
      ∙ ap Some (take_at mid behind (end - from) (sym d))

  abbrev then : List ℕ → List ℕ → List ℕ → List Bool → ℕ → List Span
  then before ids starts held last =
      spans (marked ids held) (packed_starts starts held (length all) (length before))
      (replicate (length (marked ids held)) true) last

  module _ (next i : ℕ) where
    same_at : (ids starts : List ℕ) (held : List Bool) (before : List ℕ) (last : ℕ) → length starts ≡ length ids
        → length held ≡ length ids → Laid (spans ids starts held (length all)) (length all) next
        → last ≡ length before + length (packed all starts held)
        → found (before ++ packed all starts held) (then before ids starts held last) i
        ≡ found all (spans ids starts held (length all)) i
    same_at [] starts held before last b m l e = refl
    same_at (id ∷ ids) [] held before last b m l e = absurd (omega (arith, b))
    same_at (id ∷ ids) (s ∷ starts) [] before last b m l e = absurd (omega (arith, m))
    same_at (id ∷ ids) (s ∷ starts) (true ∷ held) before last b m l e =
        let end = length all in
        let p = start_of starts end in
        let mid = slice_range all s p in
        let more = packed all starts held in
        let from = length before in
        let n = from + (p - s) in
        let span : Span = record { id = id; start = s; end = p; held = true } in
        let r : Laid (spans ids starts held end) end next = rest span (spans ids starts held end) end next l in
        let mount : Mounting (s ∷ starts) end = mounts_from (id ∷ ids) (s ∷ starts) (true ∷ held) end next b m l in
        let q : last ≡ n + length more = split s starts held from last mount e in
        let z : n ≡ length (before ++ mid) = omega (arith, length-append before mid, size s starts mount) in
        let e_new = start_of (packed_starts starts held end n) last in
        let new : Span = record { id = id; start = from; end = e_new; held = true } in
        let marks = replicate (length (marked ids held)) true in
        let tail : ℕ → List Span = λ x. spans (marked ids held) (packed_starts starts held end x) marks last in
        let codes = before ++ (mid ++ more) in
        let then_all = found all (spans ids starts held end) i in
        elim (cases_eq id i) [
          | inl k ↦
              ap (λ c. cond c (part codes new) (found codes (tail n) i)) (eq_self id i k)
              ∙ part_here before mid more id from e_new refl
              (begins all starts held end n last q ∙ ap (λ x. from + x) (sym (size s starts mount)))
              ∙ sym (ap (λ c. cond c (Some mid) then_all) (eq_self id i k))
          | inr k ↦
              ap (λ c. cond c (part codes new) (found codes (tail n) i)) (eq_apart id i k)
              ∙ ap (λ x. found x (tail n) i) (sym (append_assoc before mid more))
              ∙ ap (λ x. found ((before ++ mid) ++ more) (tail x) i) z
              ∙ same_at ids starts held (before ++ mid) last (omega (arith, b)) (omega (arith, m)) r
              (omega (arith, q, z))
              ∙ sym (ap (λ c. cond c (Some mid) then_all) (eq_apart id i k))
        ]
    same_at (id ∷ ids) (s ∷ starts) (false ∷ held) before last b m l e =
        let end = length all in
        let span : Span = record { id = id; start = s; end = start_of starts end; held = false } in
        let r : Laid (spans ids starts held end) end next = rest span (spans ids starts held end) end next l in
        same_at ids starts held before last (omega (arith, b)) (omega (arith, m)) r e
        ∙ elim (cases_eq id i) [
          | inl k ↦
              found_none all (spans ids starts held end) i
              (λ j h x. let c : id < (span_at (spans ids starts held end) j).id =
              l.climbing 0 (suc j) (omega arith) (omega (arith, h)) in omega (arith, c, x, k))
              ∙ sym (ap (λ c. cond c None (found all (spans ids starts held end) i)) (eq_self id i k))
          | inr k ↦ sym (ap (λ c. cond c None (found all (spans ids starts held end) i)) (eq_apart id i k))
        ]

module _ (all ids starts : List ℕ) (held : List Bool) (next : ℕ) (l : Lies ids starts held (length all) next)
    (codes ids_now starts_now : List ℕ) (held_now : List Bool) (c : codes ≡ packed all starts held)
    (i : ids_now ≡ marked ids held) (s : starts_now ≡ packed_starts starts held (length all) 0)
    (h : held_now ≡ replicate (length starts_now) true) where
  abbrev end : ℕ
  end = length (packed all starts held)

  many : length starts_now ≡ length (marked ids held)
  many = ap length s ∙ starts_long ids starts held (length all) 0 l.begun

  held_is : held_now ≡ replicate (length (marked ids held)) true
  held_is = h ∙ ap (λ n. replicate n true) many

  laid_now : Laid (spans (marked ids held) (packed_starts starts held (length all) 0)
      (replicate (length (marked ids held)) true) end) end next
  laid_now = (follows (marked ids held) (packed_starts starts held (length all) 0)
      (replicate (length (marked ids held)) true) 0 end next
      (ordered_marked ids held 0 next (ordered ids starts held 0 (length all) next l.begun l.marked l.laid
      (λ k q. omega arith)))
      (mounting all starts held 0 end (mounts ids starts held (length all) next l) (omega arith))).laid

  spans_are : (n : ℕ) → spans ids_now starts_now held_now n
      ≡ spans (marked ids held) (packed_starts starts held (length all) 0) (replicate (length (marked ids held)) true) n
  spans_are n =
      ap (λ z. spans z starts_now held_now n) i ∙ ap (λ z. spans (marked ids held) z held_now n) s
      ∙ ap (λ z. spans (marked ids held) (packed_starts starts held (length all) 0) z n) held_is

  -- the clauses that stay lie one behind the other
  pub lies_packed : Lies ids_now starts_now held_now (length codes) next
  lies_packed =
      let n : length ids_now ≡ length (marked ids held) = ap length i in
      let m : length held_now ≡ length starts_now = ap length h ∙ length-replicate (length starts_now) true in
      record {
        begun = omega (arith, n, many);
        marked = omega (arith, n, m, many);
        laid = subst (λ z. Laid (spans ids_now starts_now held_now z) z next) (ap length (sym c))
            (subst (λ z. Laid z end next) (sym (spans_are end)) laid_now);
      }

  -- and are held as before
  pub same_packed : found codes (spans ids_now starts_now held_now (length codes))
      ≡ found all (spans ids starts held (length all))
  same_packed =
      ap (λ z. found z (spans ids_now starts_now held_now (length z))) c
      ∙ ap (found (packed all starts held)) (spans_are end)
      ∙ fun_ext (λ k. same_at all next k ids starts held [] end l.begun l.marked l.laid (omega arith))
