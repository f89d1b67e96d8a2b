-- Ids, starts and marks, and the spans that they stand for.
use Rattle.std.proofs.Common.{◌≡◌, ℕ, zero, suc, ◌+◌, ◌<◌, ◌≤◌, Bool, true, false, List, [], ◌∷◌, ◌++◌, length}
use Rattle.std.proofs.Common.{get_or, set, refl, ap, sym, subst, ◌∙◌, arith, length-append, length-set}
use Rattle.std.proofs.lemmas.List.{length_push}
use Rattle.cnf_form.specs.Flat.{start_of, end_at, Mounting}
use Rattle.cnf_form.proofs.Starts.{start_push}
use Rattle.lrat_check.specs.Store.{Span, number_at, span_at, spans, Rising}
use Rattle.lrat_check.specs.Store.{NoId, IsId, NoSpan, IsSpan, Laid, Lies, found, with_code}
use Rattle.lrat_check.proofs.Spans.{laid_push, laid_set, pushed}

-- between two ids the number rises by as much as the place, or more
pub spread : (ids : List ℕ) (i d k : ℕ) → Rising ids → k ≡ i + d → k < length ids
    → number_at ids i + d ≤ number_at ids k
spread ids i zero k r e l = let q : i ≡ k = omega (arith, e) in
    subst (λ j. number_at ids i + 0 ≤ number_at ids j) q (omega arith)
spread ids i (suc d) k r e l =
    let m : number_at ids i + d ≤ number_at ids (i + d) = spread ids i d (i + d) r refl (omega (arith, e, l)) in
    let n : number_at ids (i + d) < number_at ids k = r (i + d) k (omega (arith, e)) l in omega (arith, m, n)

pub spans_long : (ids starts : List ℕ) (held : List Bool) (end : ℕ) → length starts ≡ length ids
    → length held ≡ length ids → length (spans ids starts held end) ≡ length ids
spans_long [] starts held end b m = refl
spans_long (id ∷ ids) [] held end b m = absurd (omega (arith, b))
spans_long (id ∷ ids) (s ∷ starts) [] end b m = absurd (omega (arith, m))
spans_long (id ∷ ids) (s ∷ starts) (h ∷ held) end b m =
    let k : length (spans ids starts held end) ≡ length ids =
    spans_long ids starts held end (omega (arith, b)) (omega (arith, m)) in omega (arith, k)

-- the span of the id at a place
abbrev pub span_of : List ℕ → List ℕ → List Bool → ℕ → ℕ → Span
span_of ids starts held end k = record {
  id = number_at ids k;
  start = number_at starts k;
  end = end_at starts k end;
  held = get_or held k false;
}

pub spans_at : (ids starts : List ℕ) (held : List Bool) (end k : ℕ) → length starts ≡ length ids
    → length held ≡ length ids → k < length ids
    → span_at (spans ids starts held end) k ≡ span_of ids starts held end k
spans_at [] starts held end k b m h = absurd (omega (arith, h))
spans_at (id ∷ ids) [] held end k b m h = absurd (omega (arith, b))
spans_at (id ∷ ids) (s ∷ starts) [] end k b m h = absurd (omega (arith, m))
spans_at (id ∷ ids) (s ∷ starts) (h ∷ held) end zero b m l = refl
spans_at (id ∷ ids) (s ∷ starts) (h ∷ held) end (suc k) b m l =
    spans_at ids starts held end k (omega (arith, b)) (omega (arith, m)) (omega (arith, l))

-- one clause more, which begins where all before it end
pub spans_push : (ids starts : List ℕ) (held : List Bool) (id s more : ℕ) → length starts ≡ length ids
    → length held ≡ length ids
    → spans (ids ++ id ∷ []) (starts ++ s ∷ []) (held ++ true ∷ []) more
    ≡ spans ids starts held s ++ (record { id = id; start = s; end = more; held = true }) ∷ []
spans_push [] [] [] id s more b m = refl
spans_push [] [] (h ∷ held) id s more b m = absurd (omega (arith, m))
spans_push [] (t ∷ starts) held id s more b m = absurd (omega (arith, b))
spans_push (i ∷ ids) [] held id s more b m = absurd (omega (arith, b))
spans_push (i ∷ ids) (t ∷ starts) [] id s more b m = absurd (omega (arith, m))
spans_push (i ∷ ids) (t ∷ starts) (h ∷ held) id s more b m =
    let P : ℕ → Span = λ end. record { id = i; start = t; end = end; held = h } in
    ap (λ end. P end ∷ spans (ids ++ id ∷ []) (starts ++ s ∷ []) (held ++ true ∷ []) more) (start_push starts s more)
    ∙ ap (λ z. P (start_of starts s) ∷ z)
    (spans_push ids starts held id s more (omega (arith, b)) (omega (arith, m)))

-- the span of an id that is held no longer
pub spans_set : (ids starts : List ℕ) (held : List Bool) (end place : ℕ) → length starts ≡ length ids
    → length held ≡ length ids → place < length ids → spans ids starts (set held place false) end
    ≡ set (spans ids starts held end) place (record {
      id = number_at ids place;
      start = number_at starts place;
      end = end_at starts place end;
      held = false;
    })
spans_set [] starts held end place b m l = absurd (omega (arith, l))
spans_set (id ∷ ids) [] held end place b m l = absurd (omega (arith, b))
spans_set (id ∷ ids) (s ∷ starts) [] end place b m l = absurd (omega (arith, m))
spans_set (id ∷ ids) (s ∷ starts) (h ∷ held) end zero b m l = refl
spans_set (id ∷ ids) (s ∷ starts) (h ∷ held) end (suc place) b m l =
    let P : Span = record { id = id; start = s; end = start_of starts end; held = h } in
    ap (λ z. P ∷ z) (spans_set ids starts held end place (omega (arith, b)) (omega (arith, m)) (omega (arith, l)))

pub rest : (span : Span) (spans : List Span) (end next : ℕ) → Laid (span ∷ spans) end next → Laid spans end next
rest span spans end next l = record {
  within = λ k h. l.within (suc k) (omega (arith, h));
  behind = λ i k h m. l.behind (suc i) (suc k) (omega (arith, h)) (omega (arith, m));
  climbing = λ i k h m. l.climbing (suc i) (suc k) (omega (arith, h)) (omega (arith, m));
}

pub mounts_from : (ids starts : List ℕ) (held : List Bool) (end next : ℕ) → length starts ≡ length ids
    → length held ≡ length ids → Laid (spans ids starts held end) end next → Mounting starts end
mounts_from ids [] held end next b m l = tt
mounts_from [] (s ∷ starts) held end next b m l = absurd (omega (arith, b))
mounts_from (id ∷ ids) (s ∷ starts) [] end next b m l = absurd (omega (arith, m))
mounts_from (id ∷ ids) (s ∷ starts) (h ∷ held) end next b m l = (
  (l.within 0 (omega arith)).0,
  mounts_from ids starts held end next (omega (arith, b)) (omega (arith, m))
      (rest (record { id = id; start = s; end = start_of starts end; held = h }) (spans ids starts held end) end next
      l),
)

module _ (ids starts : List ℕ) (held : List Bool) (end next : ℕ) (l : Lies ids starts held end next) where
  long : length (spans ids starts held end) ≡ length ids
  long = spans_long ids starts held end l.begun l.marked

  pub at : (k : ℕ) → k < length ids → span_at (spans ids starts held end) k ≡ span_of ids starts held end k
  at k h = spans_at ids starts held end k l.begun l.marked h

  id_of : (k : ℕ) → k < length ids → (span_at (spans ids starts held end) k).id ≡ number_at ids k
  id_of k h = ap (λ x. x.id) (at k h)

  -- the ids rise
  pub rises : Rising ids
  rises i k h q =
      let m : (span_at (spans ids starts held end) i).id < (span_at (spans ids starts held end) k).id =
      l.laid.climbing i k h (omega (arith, q, long)) in
      omega (arith, m, id_of i (omega (arith, h, q)), id_of k q)

  pub is_span : (id k : ℕ) → IsId ids id k → IsSpan (spans ids starts held end) id k
  is_span id k h = (omega (arith, h.0, long), id_of k h.0 ∙ h.1)

  pub no_span : (id : ℕ) → NoId ids id → NoSpan (spans ids starts held end) id
  no_span id n k q e = n k (omega (arith, q, long)) (sym (id_of k (omega (arith, q, long))) ∙ e)

  -- where a clause lies
  pub bounds : (place : ℕ) → place < length ids
      → (number_at starts place ≤ end_at starts place end) × (end_at starts place end ≤ end)
  bounds place h =
      let w = l.laid.within place (omega (arith, h, long)) in
      let s = at place h in (
        omega (arith, w.0, ap (λ x. x.start) s, ap (λ x. x.end) s),
        omega (arith, w.1, ap (λ x. x.end) s),
      )

  -- each clause begins at or before the next one
  pub mounts : Mounting starts end
  mounts = mounts_from ids starts held end next l.begun l.marked l.laid

  -- a clause that is held no longer lies where it lay
  pub lies_set : (place : ℕ) → place < length ids → Lies ids starts (set held place false) end next
  lies_set place h =
      let s = at place h in
      let r : Span = record {
        id = number_at ids place;
        start = number_at starts place;
        end = end_at starts place end;
        held = false;
      } in
      record {
        begun = l.begun;
        marked = length-set held place false ∙ l.marked;
        laid = subst (λ z. Laid z end next) (sym (spans_set ids starts held end place l.begun l.marked h))
            (laid_set (spans ids starts held end) place end next r (omega (arith, h, long)) l.laid
            (sym (ap (λ x. x.start) s)) (sym (ap (λ x. x.end) s)) (sym (ap (λ x. x.id) s)));
      }

module _ (ids starts : List ℕ) (held : List Bool) (end next id s : ℕ) (l : Lies ids starts held end next)
    (e : s ≡ end) (above : next ≤ id) where
  -- with one clause more they still lie one behind the other
  pub lies_push : (more : ℕ) → end ≤ more
      → Lies (ids ++ id ∷ []) (starts ++ s ∷ []) (held ++ true ∷ []) more (id + 1)
  lies_push more m =
      let R : ℕ → Type 0 = λ z. Laid (spans ids starts held z) end next in
      let x = length_push ids id in
      let y = length_push starts s in
      let z = length_push held true in
      record {
        begun = omega (arith, x, y, l.begun);
        marked = omega (arith, x, z, l.marked);
        laid = subst (λ z. Laid z more (id + 1)) (sym (spans_push ids starts held id s more l.begun l.marked))
            (laid_push (spans ids starts held s) (record { id = id; start = s; end = more; held = true }) end more next
            (subst R (sym e) l.laid) above e refl m);
      }

  -- and its id holds the codes that came behind the others
  pub holds_push : (all more : List ℕ) → end ≡ length all
      → found (all ++ more) (spans (ids ++ id ∷ []) (starts ++ s ∷ []) (held ++ true ∷ []) (length (all ++ more)))
      ≡ with_code (found all (spans ids starts held (length all))) id more
  holds_push all more a =
      let b : s ≡ length all = e ∙ a in
      let R : ℕ → Type 0 = λ z. Laid (spans ids starts held z) z next in
      let Q : Laid (spans ids starts held s) (length all) next =
      subst (λ z. Laid (spans ids starts held z) (length all) next) (sym b) (subst R a l.laid) in
      ap (found (all ++ more)) (spans_push ids starts held id s (length (all ++ more)) l.begun l.marked)
      ∙ pushed all more (spans ids starts held s)
      (record { id = id; start = s; end = length (all ++ more); held = true }) next Q above refl b refl
      ∙ ap (λ z. with_code (found all (spans ids starts held z)) id more) b

module _ (ids starts : List ℕ) (held : List Bool) (all : List ℕ) (next id s : ℕ)
    (l : Lies ids starts held (length all) next) (e : s ≡ length all) (above : next ≤ id) (more codes ids_now : List ℕ)
    (starts_now : List ℕ) (held_now : List Bool) (c : codes ≡ all ++ more) (i : ids_now ≡ ids ++ id ∷ [])
    (t : starts_now ≡ starts ++ s ∷ []) (h : held_now ≡ held ++ true ∷ []) where
  spans_are : (n : ℕ) → spans ids_now starts_now held_now n
      ≡ spans (ids ++ id ∷ []) (starts ++ s ∷ []) (held ++ true ∷ []) n
  spans_are n =
      ap (λ z. spans z starts_now held_now n) i ∙ ap (λ z. spans (ids ++ id ∷ []) z held_now n) t
      ∙ ap (λ z. spans (ids ++ id ∷ []) (starts ++ s ∷ []) z n) h

  pub lies_pushed : Lies ids_now starts_now held_now (length codes) (id + 1)
  lies_pushed =
      let q = lies_push ids starts held (length all) next id s l e above (length (all ++ more))
      (omega (arith, length-append all more)) in
      let x : length ids_now ≡ length (ids ++ id ∷ []) = ap length i in
      let y : length starts_now ≡ length (starts ++ s ∷ []) = ap length t in
      let z : length held_now ≡ length (held ++ true ∷ []) = ap length h in
      record {
        begun = omega (arith, x, y, q.begun);
        marked = omega (arith, x, z, q.marked);
        laid = subst (λ n. Laid (spans ids_now starts_now held_now n) n (id + 1)) (sym (ap length c))
            (subst (λ z. Laid z (length (all ++ more)) (id + 1)) (sym (spans_are (length (all ++ more)))) q.laid);
      }

  pub holds_pushed : found codes (spans ids_now starts_now held_now (length codes))
      ≡ with_code (found all (spans ids starts held (length all))) id more
  holds_pushed =
      ap (λ z. found z (spans ids_now starts_now held_now (length z))) c
      ∙ ap (found (all ++ more)) (spans_are (length (all ++ more)))
      ∙ holds_push ids starts held (length all) next id s l e above all more refl
