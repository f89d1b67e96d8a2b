-- The first cycles of a run are a run.
use Rattle.std.specs.Prelude.{◌≡◌, refl, ℕ, zero, suc, ◌+◌, ◌≤◌, true, List, [], ◌∷◌, Option, Some, length, take}
use Rattle.std.specs.List.{AllByRecursion}
use Rattle.std.proofs.Common.{ap, arith, subst}
use Rattle.rv_table.specs.declared.retire.Opts.{Opts}
use Rattle.vl_size.specs.Size.{Values}
use Rattle.vl_mean.specs.Parts.{Part}
use Rattle.vl_mean.specs.Runs.{Each, FollowedBy, Neighbours, First, Rest, IsRun, IsAssumed, Next, KeepsOnce, Init}
use Rattle.vl_mean.specs.Runs.{Holds, HasReset, PartAssumes}
use Rattle.rvfi_port.specs.declared.port.Wants.{Wants}
use Rattle.ck_cfg.specs.declared.check.Check.{Check}
use Rattle.ck_cfg.specs.declared.kind.CheckKind.{CheckKind}
use Rattle.ck_cfg.specs.Kind.{is_kind}
use Rattle.ck_cover.specs.Targets.{greatest, any_target}
use Rattle.ck_cover.specs.Laws.{IsAtMost}
use Rattle.ck_cover.proofs.Greatest.{each_has_its_target}
use Rattle.ck_ask.specs.declared.question.Question.TheVariants as question
use Rattle.ck_design.specs.Findings.{IsFound, HasRunUpTo, ReachedKindsHaveRuns}

each_take : {A : Type 0} (P : A → Type 0) (n : ℕ) (xs : List A) → Each P xs → Each P (take n xs)
each_take P zero xs h = tt
each_take P (suc n) [] h = tt
each_take P (suc n) (x ∷ xs) h = (h.0, each_take P n xs h.1)

followed_take : {A : Type 0} (R : A → A → Type 0) (n : ℕ) (x : A) (ys : List A) → FollowedBy R x ys
    → FollowedBy R x (take n ys)
followed_take R zero x ys h = tt
followed_take R (suc n) x [] h = tt
followed_take R (suc n) x (y ∷ ys) h = (h.0, followed_take R n y ys h.1)

neighbours_take : {A : Type 0} (R : A → A → Type 0) (n : ℕ) (xs : List A) → Neighbours R xs → Neighbours R (take n xs)
neighbours_take R zero xs h = tt
neighbours_take R (suc n) [] h = tt
neighbours_take R (suc n) (x ∷ xs) h = followed_take R n x xs h

first_take : {A : Type 0} (P : A → Type 0) (n : ℕ) (xs : List A) → First P xs → First P (take n xs)
first_take P zero xs h = tt
first_take P (suc n) [] h = tt
first_take P (suc n) (x ∷ xs) h = h

rest_take : {A : Type 0} (P : A → Type 0) (n : ℕ) (xs : List A) → Rest P xs → Rest P (take n xs)
rest_take P zero xs h = tt
rest_take P (suc n) [] h = tt
rest_take P (suc n) (x ∷ xs) h = each_take P n xs h

length_take : {A : Type 0} (n : ℕ) (xs : List A) → n ≤ length xs → length (take n xs) ≡ n
length_take zero xs h = refl
length_take (suc n) [] h = absurd (omega (arith, h))
length_take (suc n) (x ∷ xs) h = ap suc (length_take n xs (omega (arith, h)))

shorter_run : (ps : List Part) (d k : ℕ) (run : List Values) → k ≤ d → IsRun ps d run → IsRun ps k (take (k + 1) run)
shorter_run ps d k run within r = record {
  cycles = length_take (k + 1) run (omega (arith, within, r.cycles));
  holds = each_take (Holds ps) (k + 1) run r.holds;
  steps = neighbours_take (Next ps) (k + 1) run r.steps;
  begins = first_take (Init ps) (k + 1) run r.begins;
  reset = first_take (HasReset ps 1) (k + 1) run r.reset;
  no_reset = rest_take (HasReset ps 0) (k + 1) run r.no_reset;
  once = neighbours_take (KeepsOnce ps) (k + 1) run r.once;
}

shorter_assumed : (ps : List Part) (n : ℕ) (run : List Values) → IsAssumed ps run → IsAssumed ps (take n run)
shorter_assumed ps n run h = each_take (λ v. Each (PartAssumes v) ps) n run h

all_map : {X : Type 0} (P Q : X → Type 0) (xs : List X) → ((x : X) → P x → Q x) → AllByRecursion P xs
    → AllByRecursion Q xs
all_map P Q [] f a = tt
all_map P Q (x ∷ xs) f a = (f x a.0, all_map P Q xs f a.1)

pub reached_kinds : ReachedKindsHaveRuns
reached_kinds ps channels wants opts kind checks cycle run e found =
    all_map (λ x. is_kind x.kind kind ≡ true → IsAtMost x.cycle (greatest kind checks))
    (λ x. is_kind x.kind kind ≡ true → HasRunUpTo ps x.cycle) checks
    (λ x within is.
    let P : Option ℕ → Type 0 = λ o. IsAtMost x.cycle o in
    let below : x.cycle ≤ cycle = subst P e (within is) in
    record {
      run = take (x.cycle + 1) run;
      is_run = shorter_run ps cycle x.cycle run below found.is_run;
      assumed = shorter_assumed ps (x.cycle + 1) run found.assumed;
    })
    (each_has_its_target kind checks)
