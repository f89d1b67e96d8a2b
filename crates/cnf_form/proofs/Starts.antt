-- Where clauses begin and end in one list.
use Rattle.std.proofs.Common.{◌≡◌, ℕ, zero, suc, ◌+◌, ◌<◌, ◌≤◌, List, [], ◌∷◌, ◌++◌, length, drop, get_or, ap, sym, subst}
use Rattle.std.proofs.Common.{refl, ◌∙◌, arith}
use Rattle.std.proofs.lemmas.List.{drop_more}
use Rattle.cnf_form.specs.Flat.{start_of, end_at, Mounting}

-- the last clause ends where all do
pub end_last : (starts : List ℕ) (place end : ℕ) → length starts ≤ place + 1 → end_at starts place end ≡ end
end_last [] place end h = refl
end_last (s ∷ []) zero end h = refl
end_last (s ∷ next ∷ starts) zero end h = absurd (omega (arith, h))
end_last (s ∷ starts) (suc place) end h = end_last starts place end (omega (arith, h))

-- another one ends where the next one begins
pub end_next : (starts : List ℕ) (place end : ℕ) → place + 1 < length starts
    → end_at starts place end ≡ get_or starts (place + 1) 0
end_next [] place end h = absurd (omega (arith, h))
end_next (s ∷ []) zero end h = absurd (omega (arith, h))
end_next (s ∷ next ∷ starts) zero end h = refl
end_next (s ∷ starts) (suc place) end h =
    let e : suc (place + 1) ≡ suc place + 1 = omega arith in
    end_next starts place end (omega (arith, h)) ∙ ap (λ i. get_or (s ∷ starts) i 0) e

-- the clauses from a place on begin where the one at the place does
pub start_at : (starts : List ℕ) (i end : ℕ) → i < length starts
    → start_of (drop i starts) end ≡ get_or starts i 0
start_at starts i end h = ap (λ z. start_of z end) (drop_more starts i 0 h)

-- and those behind it begin where it ends
pub start_behind : (starts : List ℕ) (i end : ℕ) → i < length starts
    → end_at starts i end ≡ start_of (drop (i + 1) starts) end
start_behind [] i end h = absurd (omega (arith, h))
start_behind (s ∷ starts) zero end h = refl
start_behind (s ∷ starts) (suc i) end h =
    let e : suc (i + 1) ≡ suc i + 1 = omega arith in
    start_behind starts i end (omega (arith, h)) ∙ ap (λ z. start_of (drop z (s ∷ starts)) end) e

pub start_push : (starts : List ℕ) (s more : ℕ) → start_of (starts ++ s ∷ []) more ≡ start_of starts s
start_push [] s more = refl
start_push (t ∷ starts) s more = refl

-- the first clause begins at or before the end
pub up : (starts : List ℕ) (end : ℕ) → Mounting starts end → start_of starts end ≤ end
up [] end m = omega arith
up (s ∷ starts) end m = omega (arith, m.0, up starts end m.1)

pub mounting_at : (starts : List ℕ) (i end : ℕ) → Mounting starts end → Mounting (drop i starts) end
mounting_at starts zero end m = m
mounting_at [] (suc i) end m = tt
mounting_at (s ∷ starts) (suc i) end m = mounting_at starts i end m.1

pub part_mounts : (starts : List ℕ) (i end : ℕ) → Mounting starts end → i < length starts
    → (get_or starts i 0 ≤ end_at starts i end) × (end_at starts i end ≤ end)
part_mounts starts i end m h =
    let a : Mounting (get_or starts i 0 ∷ drop (i + 1) starts) end =
    subst (λ z. Mounting z end) (drop_more starts i 0 h) (mounting_at starts i end m) in
    let u = up (drop (i + 1) starts) end a.1 in
    let e = start_behind starts i end h in (omega (arith, a.0, e), omega (arith, u, e))

-- one clause more begins where all end
pub mounting_push : (starts : List ℕ) (end more : ℕ) → Mounting starts end → end ≤ more
    → Mounting (starts ++ end ∷ []) more
mounting_push [] end more m l = (l, tt)
mounting_push (s ∷ starts) end more m l =
    (subst (λ e. s ≤ e) (sym (start_push starts end more)) m.0, mounting_push starts end more m.1 l)
