-- No run of any length fails the property.
use Rattle.std.specs.Prelude.{◌≡◌, refl, ℕ, ◌+◌, ◌≤◌, Bool, true, false, List, take, drop}
use Rattle.std.proofs.Common.{ap, ◌∙◌, arith}
use Rattle.vl_size.specs.Size.{Values}
use Rattle.vl_mean.specs.Parts.{Part}
use Rattle.vl_mean.specs.Runs.{Each, HasReset, Holds, Init, IsAssumed, IsRun, KeepsOnce, Next, PartAssumes}
use Rattle.vl_mean.specs.Scopes.{no_values}
use Rattle.bm_induct.specs.Lengths.{HoldsBehind, HoldsFirst}
use Rattle.bm_induct.proofs.ByLength.{each_length}
use Rattle.ck_induct.specs.Steps.{FailsAt, IsStepRun, NoneFails, map_at}
use Rattle.ck_induct.proofs.Cuts as cut

-- what isn't false
not_false : (b : Bool) → (b ≡ false → ⊥) → b ≡ true
not_false true h = refl
not_false false h = absurd (h refl)

module _ (ps : List Part) (has : Values → Bool) (k last : ℕ) (run : List Values) (is_run : IsRun ps last run)
    (assumed : IsAssumed ps run) where
  abbrev holds : ℕ → Bool
  holds j = has (map_at run j)

  -- the first maps are a run up to an earlier cycle
  first_run : (j : ℕ) → j ≤ last → IsRun ps j (take (j + 1) run)
  first_run j within = record {
    cycles = cut.taken_long (j + 1) run (omega (arith, is_run.cycles, within));
    holds = cut.each_taken (Holds ps) (j + 1) run is_run.holds;
    steps = cut.neighbours_taken (Next ps) (j + 1) run is_run.steps;
    begins = cut.first_taken (Init ps) (j + 1) run is_run.begins;
    reset = cut.first_taken (HasReset ps 1) (j + 1) run is_run.reset;
    no_reset = cut.rest_taken (HasReset ps 0) (j + 1) run is_run.no_reset;
    once = cut.neighbours_taken (KeepsOnce ps) (j + 1) run is_run.once;
  }

  first_hold : ((j : ℕ) (r : List Values) → 1 ≤ j → j ≤ k → FailsAt ps has j r → ⊥) → HoldsFirst holds k last
  first_hold none j some few within =
      not_false (holds j) (λ fails. none j (take (j + 1) run) some few (record {
        is_run = first_run j within;
        assumed = cut.each_taken (λ v. Each (PartAssumes v) ps) (j + 1) run assumed;
        fails = ap has (cut.taken_at no_values (j + 1) j run (omega arith)) ∙ fails;
      }))

  -- the map of a part
  part_at : (i j : ℕ) → j ≤ k → map_at (take (k + 1) (drop i run)) j ≡ map_at run (i + j)
  part_at i j most =
      cut.taken_at no_values (k + 1) j (drop i run) (omega (arith, most)) ∙ cut.left_at no_values i j run

  behind_hold : ((r : List Values) → IsStepRun ps has k r → ⊥) → HoldsBehind holds k last
  behind_hold none i some within before =
      let part = drop i run in
      let long = cut.left_long i run in
      not_false (holds (i + k)) (λ fails. none (take (k + 1) part) (record {
        cycles = cut.taken_long (k + 1) part (omega (arith, long, is_run.cycles, within));
        holds = cut.each_taken (Holds ps) (k + 1) part (cut.each_left (Holds ps) i run is_run.holds);
        steps = cut.neighbours_taken (Next ps) (k + 1) part (cut.neighbours_left (Next ps) i run is_run.steps);
        no_reset =
            cut.each_taken (HasReset ps 0) (k + 1) part
            (cut.rest_left (HasReset ps 0) i run some is_run.no_reset);
        once =
            cut.neighbours_taken (KeepsOnce ps) (k + 1) part
            (cut.neighbours_left (KeepsOnce ps) i run is_run.once);
        assumed =
            cut.each_taken (λ v. Each (PartAssumes v) ps) (k + 1) part
            (cut.each_left (λ v. Each (PartAssumes v) ps) i run assumed);
        before = λ j less. ap has (part_at i j (omega (arith, less))) ∙ before j less;
        fails = ap has (part_at i k (omega arith)) ∙ fails;
      }))

pub none_fails : NoneFails
none_fails ps has k base step j run some is_run assumed =
    each_length (holds ps has k j run is_run assumed) k j (first_hold ps has k j run is_run assumed base)
    (behind_hold ps has k j run is_run assumed step) j some (omega arith)
