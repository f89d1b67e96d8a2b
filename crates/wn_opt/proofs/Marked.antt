-- New numbers of marked nodes, one after the other.
use Rattle.std.specs.Prelude.{◌≡◌, refl, ℕ, ◌<◌, Bool, true, false, List, [], ◌∷◌, ◌++◌, length, map}
use Rattle.std.specs.Prelude.{Some, None, Option, is_none, slice_get}
use Rattle.std.proofs.Common.{ap, sym, ◌∙◌, arith, subst, true≢false, ◌⊎◌, inl, inr}
use Rattle.std.proofs.lemmas.Option.{same_Some}
use Rattle.fv_graph.proofs.Lists.{get_front, get_last, get_cases, length_more}
use Rattle.fv_graph.proofs.Moves.{same_or_not}
use Rattle.wn_opt.specs.Needed.{IsIn}
use Rattle.wn_opt.specs.Cone.{IsPlace, HasPlace, place}
use Rattle.wn_opt.specs.Marks.{IsSet}
use Rattle.wn_opt.specs.Rebuilt.{AreMarked}
use Rattle.wn_opt.proofs.Copying.{place_is}
use Rattle.wn_opt.proofs.In.{in_here, in_next}

-- ---- places with one more behind them

pub place_or_none : (t : List (Option ℕ)) (id at : ℕ) → IsPlace (t ++ None ∷ []) id at → IsPlace t id at
place_or_none t id at p = by (get_cases t None id (Some at) p)
  where
    by : (slice_get t id ≡ Some (Some at)) ⊎ ((id ≡ length t) × (None ≡ Some at)) → IsPlace t id at
    by (inl e) = e
    by (inr e) = absurd (true≢false (ap is_none e.1))

-- what holds of the old places and of the last one holds of all
pub place_cases : (P : ℕ → ℕ → Type 0) (t : List (Option ℕ)) (at : ℕ) → ((id k : ℕ) → IsPlace t id k → P id k)
    → P (length t) at → (id k : ℕ) → IsPlace (t ++ Some at ∷ []) id k → P id k
place_cases P t at front last id k p = by (get_cases t (Some at) id (Some k) p)
  where
    by : (slice_get t id ≡ Some (Some k)) ⊎ ((id ≡ length t) × (Some at ≡ Some k)) → P id k
    by (inl e) = front id k e
    by (inr e) =
        let Q : ℕ → Type 0 = λ i. P i at in subst (λ j. P id j) (same_Some at k e.1) (subst Q (sym e.0) last)

less_or_last : (t : List (Option ℕ)) (o : Option ℕ) (id : ℕ) → id < length (t ++ o ∷ [])
    → (id < length t) ⊎ (id ≡ length t)
less_or_last t o id low = by (same_or_not id (length t))
  where
    by : (id ≡ length t) ⊎ (id ≡ length t → ⊥) → (id < length t) ⊎ (id ≡ length t)
    by (inl e) = inr e
    by (inr other) = inl (omega (arith, low, length_more t o, other))

-- ---- the steps

pub marked_first : (marks : List Bool) → AreMarked marks []
marked_first marks = record {
  marked = λ id p. absurd (true≢false (ap is_none p.1));
  placed = λ id low s. absurd (omega (arith, low));
}

pub marked_none : (marks : List Bool) (t : List (Option ℕ)) → AreMarked marks t
    → slice_get marks (length t) ≡ Some false → AreMarked marks (t ++ None ∷ [])
marked_none marks t h off = record {
  marked = λ id p. h.marked id (p.0, place_or_none t id p.0 p.1);
  placed = λ id low s. by id s (less_or_last t None id low);
}
  where
    by : (id : ℕ) → IsSet marks id → (id < length t) ⊎ (id ≡ length t) → HasPlace (t ++ None ∷ []) id
    by id s (inl less) = let q = h.placed id less s in (q.0, get_front t None id (Some q.0) q.1)
    by id s (inr is) = absurd (true≢false (same_Some true false (sym s ∙ ap (slice_get marks) is ∙ off)))

pub marked_some : (marks : List Bool) (t : List (Option ℕ)) (at : ℕ) → AreMarked marks t → IsSet marks (length t)
    → AreMarked marks (t ++ Some at ∷ [])
marked_some marks t at h on = record {
  marked = λ id p. place_cases (λ i k. IsSet marks i) t at (λ i k q. h.marked i (k, q)) on id p.0 p.1;
  placed = λ id low s. by id s (less_or_last t (Some at) id low);
}
  where
    by : (id : ℕ) → IsSet marks id → (id < length t) ⊎ (id ≡ length t) → HasPlace (t ++ Some at ∷ []) id
    by id s (inl less) = let q = h.placed id less s in (q.0, get_front t (Some at) id (Some q.0) q.1)
    by id s (inr is) = (at, ap (slice_get (t ++ Some at ∷ [])) is ∙ get_last t (Some at))

-- ---- new numbers of some nodes

pub map_places : (f g : ℕ → ℕ) (t : List (Option ℕ)) (ids : List ℕ) → ((id : ℕ) → IsIn ids id → HasPlace t id)
    → ((id at : ℕ) → IsPlace t id at → f at ≡ g id) → map f (map (place t) ids) ≡ map g ids
map_places f g t [] placed same = refl
map_places f g t (id ∷ ids) placed same =
    let p = placed id (in_here id ids) in
    let head : f (place t id) ≡ g id = ap f (place_is t id p.0 p.1) ∙ same id p.0 p.1 in
    let rest = map_places f g t ids (λ i h. placed i (in_next id ids i h)) same in
    λ i. head i ∷ rest i
