-- Turns of lifting the steps of one cube.
use Rattle.std.proofs.Common.{◌≡◌, ℕ, zero, suc, ◌+◌, ◌<◌, ◌≤◌, ◌^◌, Bool, true, false, cond, eqb, List, [], ◌∷◌, ◌++◌, ℤ}
use Rattle.std.proofs.Common.{pos, length, map, drop, take, get_or, Option, Some, None, refl, ap, sym, subst, ◌∙◌}
use Rattle.std.proofs.Common.{◌⊎◌, inl, inr, append_assoc, arith}
use Rattle.std.specs.Prelude.{unsigned_abs, slice_get}
use Rattle.std.proofs.lemmas.Bool.{cases_eq, cases_lt}
use Rattle.std.proofs.lemmas.List.{drop_more, get_or_past, get_or_append_left}
use Rattle.std.proofs.Math.Seq.{get_or-append_seam}
use mathlib.Core.Path.{fun_ext}
use Rattle.lrat_check.specs.declared.step.Step.{Step}
use Rattle.lrat_check.specs.declared.step.Step.TheVariants.{Add, Delete}
use Rattle.lrat_check.specs.Steps.{is_empty}
use Rattle.sat_cubes.specs.Lifting.{Ids, first_ids, with_id, listed, lifted, lifted_hints}
use Rattle.sat_cubes.specs.Lifting as lifting
use Rattle.sat_cubes.specs.Joined.{State, Adds}

-- the item at a place, and those behind it
pub item_then : (steps : List Step) (k : ℕ) (step : Step) → k < length steps → step ≡ get_or steps k step
    → drop k steps ≡ step ∷ drop (k + 1) steps
item_then steps k step h e = drop_more steps k step h ∙ ap (λ s. s ∷ drop (k + 1) steps) (sym e)

module _ (old : ℤ → ℤ) (block : List ℤ) (all : List Step) (high : ℕ) where
  -- what came in so far, and what is still to come in, is all
  abbrev pub Goes : State → Ids → List Step → Type 0
  Goes s ids steps = (s.steps ++ lifted old block ids s.top steps ≡ all)
      × (s.top + length (lifted old block ids s.top steps) ≡ high)

  module _ (s now : State) (ids : Ids) (id : ℕ) (lits hints : List ℤ) (rest : List Step)
      (adds : Adds s now (map old lits ++ block) (lifted_hints ids hints)) where
    abbrev step : Step
    step = Add (s.top + 1) (map old lits ++ block) (lifted_hints ids hints)

    abbrev further : List Step
    further = lifted old block (with_id ids id (s.top + 1)) (s.top + 1) rest

    begins_with : (b : Bool) → is_empty lits ≡ b
        → lifted old block ids s.top (Add id lits hints ∷ rest) ≡ step ∷ cond b [] further
    begins_with b e = ap (λ x. step ∷ cond x [] further) e

    pub goes_on : is_empty lits ≡ false → Goes s ids (Add id lits hints ∷ rest)
        → Goes now (with_id ids id now.top) rest
    goes_on e g =
        let top = adds.top in
        let f = begins_with false e in (
          ap (λ x. x ++ lifted old block (with_id ids id now.top) now.top rest) adds.steps
              ∙ append_assoc s.steps (step ∷ []) (lifted old block (with_id ids id now.top) now.top rest)
              ∙ ap (λ t. s.steps ++ step ∷ lifted old block (with_id ids id t) t rest) top
              ∙ sym (ap (λ x. s.steps ++ x) f) ∙ g.0,
          (
              let n : length (lifted old block ids s.top (Add id lits hints ∷ rest)) ≡ suc (length further) =
              ap length f in
              let m : length (lifted old block (with_id ids id now.top) now.top rest) ≡ length further =
              ap (λ t. length (lifted old block (with_id ids id t) t rest)) top in
              omega (arith, n, m, top, g.1)
              ),
        )

    pub goes_out : is_empty lits ≡ true → Goes s ids (Add id lits hints ∷ rest) → (now.steps ≡ all) × (now.top ≡ high)
    goes_out e g =
        let top = adds.top in
        let f = begins_with true e in (
          adds.steps ∙ sym (ap (λ x. s.steps ++ x) f) ∙ g.0,
          (
              let n : length (lifted old block ids s.top (Add id lits hints ∷ rest)) ≡ 1 = ap length f in
              omega (arith, n, top, g.1)
              ),
        )

  pub goes_past : (s : State) (ids : Ids) (id : ℕ) (gone : List ℕ) (rest : List Step)
      → Goes s ids (Delete id gone ∷ rest) → Goes s ids rest
  goes_past s ids id gone rest g = g

  pub goes_end : (s : State) (ids : Ids) → Goes s ids [] → (s.steps ≡ all) × (s.top ≡ high)
  goes_end s ids g = (sym (append_nothing s.steps) ∙ g.0, omega (arith, g.1)) where
    append_nothing : (xs : List Step) → xs ++ [] ≡ xs
    append_nothing [] = refl
    append_nothing (x ∷ xs) = ap (λ ys. x ∷ ys) (append_nothing xs)

-- ---- hints

pub hint_there : (ids : Ids) (h : ℤ) (hs : List ℤ) (id : ℕ) (done all : List ℤ) → ids (unsigned_abs h) ≡ Some id
    → done ++ lifted_hints ids (h ∷ hs) ≡ all → (done ++ pos id ∷ []) ++ lifted_hints ids hs ≡ all
hint_there ids h hs id done all e g =
    append_assoc done (pos id ∷ []) (lifted_hints ids hs)
    ∙ sym (ap (λ o. done ++ lifting.with_hint o (lifted_hints ids hs)) e) ∙ g

pub hint_none : (ids : Ids) (h : ℤ) (hs : List ℤ) (done all : List ℤ) → ids (unsigned_abs h) ≡ None
    → done ++ lifted_hints ids (h ∷ hs) ≡ all → done ++ lifted_hints ids hs ≡ all
hint_none ids h hs done all e g = sym (ap (λ o. done ++ lifting.with_hint o (lifted_hints ids hs)) e) ∙ g

pub literal_then : (hints : List ℤ) (k : ℕ) (h : ℤ) → k < length hints → h ≡ get_or hints k h
    → drop k hints ≡ h ∷ drop (k + 1) hints
literal_then hints k h l e = drop_more hints k h l ∙ ap (λ s. s ∷ drop (k + 1) hints) (sym e)

-- ---- ids by place

none_behind : (items : List (Option ℕ)) (i : ℕ) → get_or (items ++ None ∷ []) i None ≡ get_or items i None
none_behind [] zero = refl
none_behind [] (suc i) = refl
none_behind (x ∷ xs) zero = refl
none_behind (x ∷ xs) (suc i) = none_behind xs i

pub widened : (items : List (Option ℕ)) → listed (items ++ None ∷ []) ≡ listed items
widened items = fun_ext (none_behind items)

first_at : (ids : List ℕ) (i : ℕ) → get_or (map (λ id. Some id) ids) i None ≡ slice_get ids i
first_at [] i = refl
first_at (x ∷ xs) zero = refl
first_at (x ∷ xs) (suc i) = first_at xs i

pub first_listed : (ids : List ℕ) → listed (None ∷ map (λ id. Some id) ids) ≡ first_ids ids
first_listed ids = fun_ext at where
  at : (i : ℕ) → listed (None ∷ map (λ id. Some id) ids) i ≡ first_ids ids i
  at zero = refl
  at (suc i) = first_at ids i

eqb_self : (a b : ℕ) → a ≡ b → eqb a b ≡ true
eqb_self a b e = grind arith

eqb_apart : (a b : ℕ) → (a ≡ b → ⊥) → eqb a b ≡ false
eqb_apart a b n = grind arith

-- a place that is written
pub written : (old now : List (Option ℕ)) (id to : ℕ)
    → ((i : ℕ) → (i ≡ id → ⊥) → get_or now i None ≡ get_or old i None) → get_or now id None ≡ Some to
    → listed now ≡ with_id (listed old) id to
written old now id to others here = fun_ext (λ i. at i (cases_eq id i)) where
  at : (i : ℕ) → (id ≡ i) ⊎ (id ≡ i → ⊥) → listed now i ≡ with_id (listed old) id to i
  at i (inl e) =
      ap (λ k. get_or now k None) (sym e) ∙ here
      ∙ sym (ap (λ b. cond b (Some to) (listed old i)) (eqb_self id i e))
  at i (inr n) =
      others i (λ e. n (sym e)) ∙ sym (ap (λ b. cond b (Some to) (listed old i)) (eqb_apart id i n))
