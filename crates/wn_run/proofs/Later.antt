-- Bounds of what a loop has seen.
use Rattle.std.specs.Prelude.{◌≡◌, ℕ, ◌+◌, ◌<◌, ◌≤◌, Bool, true, false, nat_lt, List, [], length, map, slice_index}
use Rattle.std.specs.Prelude.{slice_index_or}
use Rattle.std.proofs.Common.{ap, sym, ◌∙◌, arith, subst, refl}
use Rattle.std.proofs.lemmas.Bool.Decides.{nat_tests}
use Rattle.std.proofs.lemmas.List.{get_or-map, get_or_default}
use Rattle.wn_net.specs.declared.parts.Mem.{Mem}
use Rattle.wn_net.specs.declared.parts.MemWrite.{MemWrite}
use Rattle.wn_run.specs.Named.{AreWritesBelow}
use Rattle.wn_run.proofs.Front.{writes_more}

-- one more
pub one_more : (P : ℕ → Type 0) (i : ℕ) → ((k : ℕ) → k < i → P k) → P i → (k : ℕ) → k < i + 1 → P k
one_more P i before here k below = by (nat_lt k i) refl
  where
    by : (b : Bool) → nat_lt k i ≡ b → P k
    by true q = before k (grind (arith, nat_tests, q))
    by false q =
        let same : k ≡ i = grind (arith, nat_tests, q, below) in
        subst P (sym same) here

pub next_below : (ids : List ℕ) (i last more id : ℕ) → last ≤ more
    → ((k : ℕ) → k < i → slice_index ids k < last + 1) → slice_index ids i ≡ id → id < more + 1
    → (k : ℕ) → k < i + 1 → slice_index ids k < more + 1
next_below ids i last more id up before is here =
    one_more (λ k. slice_index ids k < more + 1) i (λ k below. omega (arith, before k below, up)) (omega (arith, is, here))

-- of what the elements name
pub next_named : {A : Type 0} (f : A → ℕ) (xs : List A) (i last more : ℕ) (d : A) → i < length xs → last ≤ more
    → ((k : ℕ) → k < i → slice_index (map f xs) k < last + 1) → f (slice_index_or xs i d) < more + 1
    → (k : ℕ) → k < i + 1 → slice_index (map f xs) k < more + 1
next_named f xs i last more d within up before here =
    next_below (map f xs) i last more (f (slice_index_or xs i d)) up before (get_or-map f xs i d 0 within) here

pub next_id : (ids : List ℕ) (i last more d : ℕ) → i < length ids → last ≤ more
    → ((k : ℕ) → k < i → slice_index ids k < last + 1) → slice_index_or ids i d < more + 1
    → (k : ℕ) → k < i + 1 → slice_index ids k < more + 1
next_id ids i last more d within up before here =
    next_below ids i last more (slice_index_or ids i d) up before (sym (get_or_default ids i d 0 within)) here

pub next_mem : (ms : List Mem) (i last more : ℕ) (m : Mem) (ws : List MemWrite) → i < length ms → last ≤ more
    → ((k : ℕ) → k < i → AreWritesBelow (slice_index_or (map (λ m. m.writes) ms) k []) (last + 1))
    → m ≡ slice_index_or ms i m → ws ≡ m.writes → AreWritesBelow ws (more + 1)
    → (k : ℕ) → k < i + 1 → AreWritesBelow (slice_index_or (map (λ m. m.writes) ms) k []) (more + 1)
next_mem ms i last more m ws within up before is own here =
    let P : ℕ → Type 0 = λ k. AreWritesBelow (slice_index_or (map (λ m. m.writes) ms) k []) (more + 1) in
    let Q : List MemWrite → Type 0 = λ ws. AreWritesBelow ws (more + 1) in
    let same : ws ≡ slice_index_or (map (λ m. m.writes) ms) i [] =
    own ∙ ap (λ m. m.writes) is ∙ sym (get_or-map (λ (m : Mem). m.writes) ms i m [] within) in
    one_more P i
    (λ k below. writes_more (slice_index_or (map (λ m. m.writes) ms) k []) (last + 1) (more + 1) (omega (arith, up))
    (before k below)) (subst Q same here)
