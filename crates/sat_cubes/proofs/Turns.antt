-- Turns of lifting and of joining, with what is known of the cubes' refutations.
use Rattle.std.proofs.Common.{◌≡◌, ℕ, zero, suc, ◌+◌, ◌-◌, ◌<◌, ◌≤◌, ◌^◌, Bool, true, false, cond, ltb, List, [], ◌∷◌, ◌++◌}
use Rattle.std.proofs.Common.{ℤ, pos, neg_ℤ, length, get_or, Option, Some, None, refl, ap, sym, subst, ◌∙◌, ◌⊎◌, inl, inr}
use Rattle.std.proofs.Common.{arith}
use Rattle.std.specs.Prelude.{slice_get}
use Rattle.std.proofs.lemmas.Bool.{cases_lt}
use Rattle.std.proofs.lemmas.List.{get_or_past}
use Rattle.std.proofs.lemmas.Option.{slice_get-get_or}
use Rattle.cnf_form.specs.Cnf.{Cnf, AreClauses}
use Rattle.lrat_check.specs.Sets.{negs}
use Rattle.lrat_check.specs.Steps.{Held, numbered, is_empty, judged, verdict, AreSteps}
use Rattle.lrat_check.specs.Texts.{AreShort}
use Rattle.sat_trail.specs.Trail.{is_assigned}
use Rattle.sat_cubes.specs.Cubes.{IsCube, open_vars, old_literal, cube_of, ids_from}
use Rattle.sat_cubes.specs.Lifting.{first_ids, lifted}
use Rattle.sat_cubes.specs.Splits.{AddsClause}
use Rattle.sat_cubes.specs.Joined.{State, AreSmall, AreVars, CanSplit, Lifts, Stands, AreBlocks, Reaches, Tells, StaysAdded}
use Rattle.sat_cubes.specs.Joined.{AreRefuting}
use Rattle.sat_cubes.specs.Parts.{IsRefutation, AreRefutations, AreAllSmall}
use Rattle.sat_cubes.specs.declared.part.Refutation.{Refutation}
use Rattle.sat_cubes.proofs.Others.{IsOther, other_at}
use Rattle.sat_cubes.proofs.Renumbers.{old}
use Rattle.sat_cubes.proofs.Blocks.{cube_is}
use Rattle.sat_cubes.proofs.Begins.{after, after_at, after_keeps, goes_up, stands_after, refutes_alone, tells}
use Rattle.sat_cubes.proofs.Standing.{blocks_keep, blocks_push, stays_added}

pub vars_of : (formula : Cnf) (split : List ℕ) → CanSplit formula split → AreVars split
vars_of formula split can k h =
    let v = can.each k (get_or split k 0) (slice_get-get_or split k 0 h) in
    let small = can.small in
    (v.0, omega (arith, v.1, small))

pub small_open : (q : List ℤ) (vars : ℕ) → vars < 2 ^ 63 → AreSmall (open_vars q vars)
small_open q vars small k = at (cases_lt k (length (open_vars q vars))) where
  at : (k < length (open_vars q vars)) ⊎ (length (open_vars q vars) ≤ k) → get_or (open_vars q vars) k 0 < 2 ^ 63
  at (inl h) = let w = (other_at (is_assigned q) vars k h).within in omega (arith, w, small)
  at (inr h) = let e : get_or (open_vars q vars) k 0 ≡ 0 = get_or_past (open_vars q vars) k 0 h in omega (arith, e)

pub all_small : (formula : Cnf) (split : List ℕ) (refutations : List Refutation) → CanSplit formula split
    → AreRefutations formula split refutations → AreAllSmall refutations
all_small formula split refutations can parts i r e =
    subst AreSmall (sym (parts.each i r e).numbers)
    (small_open (cube_of split (length split) i) formula.vars can.small)

nonempty : (split : List ℕ) (b i : ℕ) → 0 < b → is_empty (negs (cube_of split b i)) ≡ false
nonempty split zero i h = absurd (omega (arith, h))
nonempty split (suc b) i h = by (ltb i (2 ^ b)) where
  by : (t : Bool) → is_empty (negs (cond t (neg_ℤ (pos (get_or split b 0)) ∷ cube_of split b i)
      (pos (get_or split b 0) ∷ cube_of split b (i - 2 ^ b)))) ≡ false
  by true = refl
  by false = refl

module _ (formula : Cnf) (split : List ℕ) (k : ℕ) (r : Refutation) (s now : State) (can : CanSplit formula split)
    (names : AreClauses formula.vars formula.clauses)
    (part : IsRefutation formula (cube_of split (length split) k) r)
    (lifts : Lifts s now (lifted (old_literal r.numbers) (negs (cube_of split (length split) k)) (first_ids r.ids)
    s.top r.steps)) where
  abbrev q : List ℤ
  q = cube_of split (length split) k

  cube : IsCube formula.vars q
  cube = cube_is formula.vars split can.each (length split) k (omega arith)

  lifts_to : Lifts s now (lifted (old q formula.vars) (negs q) (first_ids (ids_from q 1 formula.clauses)) s.top r.steps)
  lifts_to =
      let P : List ℕ → Type 0 = λ ns. Lifts s now (lifted (old_literal ns) (negs q)
      (first_ids (ids_from q 1 formula.clauses)) s.top r.steps) in
      let Q : List ℕ → Type 0 = λ is. Lifts s now (lifted (old_literal r.numbers) (negs q) (first_ids is) s.top r.steps)
      in
      subst P part.numbers (subst Q part.ids lifts)

  -- one more cube's clause comes in
  pub lift_next : (ids : List ℕ) → 0 < length split → Reaches formula split (length split) k s ids
      → Tells split k s.steps
      → Reaches formula split (length split) (k + 1) now (ids ++ now.top ∷ []) × Tells split (k + 1) now.steps
  lift_next ids some reaches told = (
    record {
      held = now_held;
      stands = stands_after formula q r.steps part.id s now reaches.held cube can.small names part.refutes
          part.added reaches.stands lifts_to (nonempty split (length split) k some);
      blocks = blocks_push now_held now.top split (length split) k ids now.top
          (blocks_keep reaches.held now_held s.top now.top split (length split) k ids reaches.blocks
          (omega (arith, up)) keeps) (omega (arith, up)) (omega arith)
          (after_at formula q r.steps part.id s now reaches.held cube can.small names part.refutes part.added
          reaches.stands lifts_to);
    },
    λ i h. at i h (cases_lt i k),
  ) where
    now_held : Held
    now_held = after formula q r.steps part.id s now reaches.held cube can.small names part.refutes part.added
        reaches.stands lifts_to

    up : s.top < now.top
    up = goes_up formula q r.steps part.id s now reaches.held cube can.small names part.refutes part.added
        reaches.stands lifts_to

    keeps : (i : ℕ) → i ≤ s.top → now_held i ≡ reaches.held i
    keeps = after_keeps formula q r.steps part.id s now reaches.held cube can.small names part.refutes part.added
        reaches.stands lifts_to

    last : AddsClause now.steps (negs q)
    last = tells formula q r.steps part.id s now reaches.held cube can.small names part.refutes part.added
        reaches.stands lifts_to

    at : (i : ℕ) → i < k + 1 → (i < k) ⊎ (k ≤ i) → AddsClause now.steps (negs (cube_of split (length split) i))
    at i h (inl l) =
        stays_added s.steps (lifted (old_literal r.numbers) (negs q) (first_ids r.ids) s.top r.steps) now.steps
        (negs (cube_of split (length split) i)) lifts.steps_are (told i l)
    at i h (inr l) =
        let e : k ≡ i = omega (arith, h, l) in
        subst (λ j. AddsClause now.steps (negs (cube_of split (length split) j))) e last

  -- the one cube of no variable
  pub lift_alone : length split ≡ 0 → Stands formula s (numbered formula.clauses)
      → AreRefuting formula now.steps × AddsClause now.steps (negs q)
  lift_alone e stands = (
    refutes_alone formula q r.steps part.id s now (numbered formula.clauses) cube can.small names part.refutes
        part.added stands lifts_to (ap (λ b. negs (cube_of split b k)) e),
    tells formula q r.steps part.id s now (numbered formula.clauses) cube can.small names part.refutes
        part.added stands lifts_to,
  )

-- nothing came in yet
pub begun : (formula : Cnf) (s : State) → s.steps ≡ [] → s.top ≡ length formula.clauses → s.top < 10 ^ 18
    → Stands formula s (numbered formula.clauses)
begun formula s e f m = record {
  leads = λ more. ap (λ x. judged formula.clauses (x ++ more)) e
      ∙ ap (λ t. verdict (numbered formula.clauses) t more) (sym f);
  first = omega (arith, f);
  keeps = λ id h. refl;
  most = m;
  are_steps = subst AreSteps (sym e) tt;
  short = λ v. subst AreShort (sym e) tt;
}
