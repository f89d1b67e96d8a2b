-- Numbers by their digits, cut and capped on the way.
use Rattle.std.proofs.Common.{◌≡◌, ℕ, ◌+◌, ◌*◌, ◌%◌, ◌<◌, ◌≤◌, min, Bool, true, false, not, cond, ◌==◌, List, [], ◌∷◌}
use Rattle.std.proofs.Common.{length, drop, get_or, zero, suc, add-one, refl, ap, sym, ◌∙◌, subst, arith}
use Rattle.std.specs.Prelude.{fold}
use Rattle.std.proofs.Math.Seq.{drop-cons}
use Rattle.std.proofs.Math.Nat.{mod-mod, mod-add-mod}
use Rattle.std.proofs.lemmas.Nat.{mul-mod_first}
use Rattle.vl_token.specs.Number.{digits_of}

abbrev pub steps : (ℕ → ℕ) → ℕ → ℕ → List ℕ → ℕ
steps count r v ds = fold (λ n b. n * r + count b) v ds

step_mod : (v r k m : ℕ) → (v % m * r + k) % m ≡ (v * r + k) % m
step_mod v r k m =
    sym (mod-add-mod (v % m * r) m k) ∙ (ap (λ x. (x + k) % m) (mul-mod_first v r m) ∙ mod-add-mod (v * r) m k)

pub steps_mod : (count : ℕ → ℕ) (r v m : ℕ) (ds : List ℕ) → steps count r (v % m) ds % m ≡ steps count r v ds % m
steps_mod count r v m [] = mod-mod v m
steps_mod count r v m (d ∷ ds) =
    sym (steps_mod count r (v % m * r + count d) m ds)
    ∙ (ap (λ x. steps count r x ds % m) (step_mod v r (count d) m) ∙ steps_mod count r (v * r + count d) m ds)

capped_step : (v r k l : ℕ) → min (min v l * suc r + k) l ≡ min (v * suc r + k) l
capped_step v r k l = grind arith

pub steps_min : (count : ℕ → ℕ) (r v l : ℕ) (ds : List ℕ)
    → min (steps count (suc r) (min v l) ds) l ≡ min (steps count (suc r) v ds) l
steps_min count r v l [] = omega arith
steps_min count r v l (d ∷ ds) =
    sym (steps_min count r (min v l * suc r + count d) l ds)
    ∙ (ap (λ x. min (steps count (suc r) x ds) l) (capped_step v r (count d) l)
    ∙ steps_min count r (v * suc r + count d) l ds)

-- the digits from a place on, and those behind it
drop_more : (bytes : List ℕ) (i : ℕ) → i < length bytes → drop i bytes ≡ get_or bytes i 0 ∷ drop (i + 1) bytes
drop_more bytes i h = rw add-one (drop-cons bytes i 0 h)

long_at : (count : ℕ → ℕ) (r v b m : ℕ) (ds : List ℕ) (c : Bool)
    → steps count r (cond c v ((v * r + count b) % m)) ds % m ≡ steps count r v (cond (not c) (b ∷ ds) ds) % m
long_at count r v b m ds true = refl
long_at count r v b m ds false = steps_mod count r (v * r + count b) m ds

pub long_more : (count : ℕ → ℕ) (r v k x m : ℕ) (bytes : List ℕ) (i : ℕ) → i < length bytes
    → k ≡ count (get_or bytes i 0)
    → x ≡ cond (get_or bytes i 0 == 95) v ((v * r + k) % m)
    → steps count r x (digits_of (drop (i + 1) bytes)) % m ≡ steps count r v (digits_of (drop i bytes)) % m
long_more count r v k x m bytes i h ek ex =
    let ey : x ≡ cond (get_or bytes i 0 == 95) v ((v * r + count (get_or bytes i 0)) % m) = subst
    (λ z. x ≡ cond (get_or bytes i 0 == 95) v ((v * r + z) % m)) ek ex in
    ap (λ z. steps count r z (digits_of (drop (i + 1) bytes)) % m) ey
    ∙ (long_at count r v (get_or bytes i 0) m (digits_of (drop (i + 1) bytes)) (get_or bytes i 0 == 95)
    ∙ ap (λ z. steps count r v (digits_of z) % m) (sym (drop_more bytes i h)))

long_small_at : (v y m : ℕ) (c : Bool) → v < m → cond c v (y % m) < m
long_small_at v y m true h = h
long_small_at v y m false h = omega arith

pub long_small : (v y x m : ℕ) (c : Bool) → v < m → x ≡ cond c v (y % m) → x < m
long_small v y x m c h e = rw e (long_small_at v y m c h)

short_at : (count : ℕ → ℕ) (r v b l : ℕ) (ds : List ℕ) (c : Bool)
    → min (steps count (suc r) (cond c v (min (v * suc r + count b) l)) ds) l
    ≡ min (steps count (suc r) v (cond (not c) (b ∷ ds) ds)) l
short_at count r v b l ds true = refl
short_at count r v b l ds false = steps_min count r (v * suc r + count b) l ds

short_more_suc : (count : ℕ → ℕ) (r v x l : ℕ) (bytes : List ℕ) (i : ℕ) → i < length bytes
    → x ≡ cond (get_or bytes i 0 == 95) v (min (v * suc r + count (get_or bytes i 0)) l)
    → min (steps count (suc r) x (digits_of (drop (i + 1) bytes))) l
    ≡ min (steps count (suc r) v (digits_of (drop i bytes))) l
short_more_suc count r v x l bytes i h ex =
    ap (λ z. min (steps count (suc r) z (digits_of (drop (i + 1) bytes))) l) ex
    ∙ (short_at count r v (get_or bytes i 0) l (digits_of (drop (i + 1) bytes)) (get_or bytes i 0 == 95)
    ∙ ap (λ z. min (steps count (suc r) v (digits_of z)) l) (sym (drop_more bytes i h)))

pub short_more : (count : ℕ → ℕ) (r v x l : ℕ) (bytes : List ℕ) (i : ℕ) → 1 ≤ r → i < length bytes
    → x ≡ cond (get_or bytes i 0 == 95) v (min (v * r + count (get_or bytes i 0)) l)
    → min (steps count r x (digits_of (drop (i + 1) bytes))) l ≡ min (steps count r v (digits_of (drop i bytes))) l
short_more count zero v x l bytes i pos h ex = absurd (let f : ⊥ = absurd (omega arith) in f)
short_more count (suc r) v x l bytes i pos h ex = short_more_suc count r v x l bytes i h ex

short_small_at : (v y l : ℕ) (c : Bool) → v ≤ l → cond c v (min y l) ≤ l
short_small_at v y l true h = h
short_small_at v y l false h = omega arith

pub short_small : (v y x l : ℕ) (c : Bool) → v ≤ l → x ≡ cond c v (min y l) → x ≤ l
short_small v y x l c h e = rw e (short_small_at v y l c h)
