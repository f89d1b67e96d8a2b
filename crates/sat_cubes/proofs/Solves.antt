-- What all cubes come to, by what each does.
use Rattle.std.proofs.Common.{◌≡◌, ℕ, zero, suc, ◌+◌, ◌<◌, ◌≤◌, ◌^◌, Bool, true, List, [], ◌∷◌, length, map, Option, Some, None}
use Rattle.std.proofs.Common.{refl, ap, sym, subst, ◌∙◌, arith}
use Rattle.std.specs.Prelude.{slice_get, ◌/◌, Result, Ok, Err, IfOk}
use Rattle.cnf_form.specs.Cnf.{Cnf, formula_true, value_of}
use Rattle.lrat_check.specs.declared.step.Step.{Step}
use Rattle.rvf_jobs.specs.Answers.{AreAnswers}
use Rattle.sat_search.specs.Found.{IfRefuted}
use Rattle.sat_search.specs.declared.found.Found.{Found}
use Rattle.sat_search.specs.declared.found.Found.TheVariants as found
use Rattle.sat_cubes.specs.Cubes.{others, cube_of}
use Rattle.sat_cubes.specs.Splits.{AreSplit, is_split, TellsCubes}
use Rattle.sat_cubes.specs.Joined.{CanSplit, Tells}
use Rattle.sat_cubes.specs.Parts.{IsPart, IsRefutation, AreRefutations}
use Rattle.sat_cubes.specs.declared.part.Part.{Part}
use Rattle.sat_cubes.specs.declared.part.Part.TheVariants.{Model, Refuted, Spent}
use Rattle.sat_cubes.specs.declared.part.Refutation.{Refutation}

none_some : {X : Type 0} (x : X) → None ≡ Some x → ⊥
none_some x e = cc

some_is : {X : Type 0} (x y : X) → Some x ≡ Some y → x ≡ y
some_is x y e = cc

pub can_split : (formula : Cnf) (many : ℕ) (split : List ℕ) → AreSplit formula many split → many ≤ 6
    → formula.vars < 2 ^ 63 → CanSplit formula split
can_split formula many split are h small = record {
  few = (let f = are.few in omega (arith, f, h));
  small = small;
  each = λ k var e. (let n = are.each k var e in (n.some, n.within, n.fresh));
}

get_map : (rs : List Refutation) (i : ℕ) (r : Refutation) → slice_get rs i ≡ Some r
    → slice_get (map Refuted rs) i ≡ Some (Refuted r)
get_map [] i r e = absurd (none_some r e)
get_map (x ∷ xs) zero r e = ap (λ y. Some (Refuted y)) (some_is x r e)
get_map (x ∷ xs) (suc i) r e = get_map xs i r e

length_map : (rs : List Refutation) → length (map Refuted rs) ≡ length rs
length_map [] = refl
length_map (x ∷ xs) = ap suc (length_map xs)

module _ (formula : Cnf) (split : List ℕ) (share count : ℕ) (parts : List Part)
    (all : AreAnswers (IsPart formula split share) 0 count parts) where
  part_at : (k : ℕ) (part : Part) → slice_get parts k ≡ Some part → IsPart formula split share k part
  part_at k part e =
      let same : 0 + k ≡ k = omega arith in
      subst (λ i. IsPart formula split share i part) same (all.each k part e)

  pub refutations_of : (rs : List Refutation) → count ≡ 2 ^ length split → map Refuted rs ≡ parts
      → AreRefutations formula split rs
  refutations_of rs c e = record {
    whole = sym (length_map rs) ∙ ap length e ∙ all.whole ∙ c;
    each = λ i r f. part_at i (Refuted r) (ap (λ xs. slice_get xs i) (sym e) ∙ get_map rs i r f);
  }

  pub model_of : (values : List Bool) → (k : ℕ) × (slice_get parts k ≡ Some (Model values))
      → (length values ≡ formula.vars) × (formula_true (value_of values) formula.clauses ≡ true)
  model_of values w = part_at w.0 (Model values) w.1

  -- a cube's share is used up only where it is small
  pub spent_of : (k : ℕ) × (slice_get parts k ≡ Some Spent) → share < 3 ^ length (others (is_split split) formula.vars)
  spent_of w = part_at w.0 Spent w.1

pub told_of : (formula : Cnf) (many budget : ℕ) (split : List ℕ) (steps : List Step) → AreSplit formula many split
    → Tells split (2 ^ length split) steps → TellsCubes formula many budget steps
told_of formula many budget split steps are tells = (split, are, λ h. tells)

pub told_none : (formula : Cnf) (many budget share : ℕ) (split : List ℕ) (steps : List Step)
    → AreSplit formula many split → budget / 2 ^ length split ≤ share
    → share < 3 ^ length (others (is_split split) formula.vars) → TellsCubes formula many budget steps
told_none formula many budget share split steps are least less =
    (split, are, λ h. absurd (omega (arith, least, less, h)))

if_refuted : (P : List Step → Type 0) → ((steps : List Step) → P steps) → (f : Found) → IfRefuted f P
if_refuted P h (found.Model values) = tt
if_refuted P h (found.Refuted steps) = h steps
if_refuted P h (found.Spent steps) = tt

pub ok_refuted : {E : Type 0} (P : List Step → Type 0) → ((steps : List Step) → P steps) → (r : Result Found E)
    → IfOk r (λ f. IfRefuted f P)
ok_refuted P h (Ok f) = if_refuted P h f
ok_refuted P h (Err e) = tt
