-- The checks of one cycle, check by check.
use Rattle.std.specs.Prelude.{◌≡◌, refl, ℕ, Bool, true, false, List, [], ◌∷◌, ◌++◌, map}
use Rattle.std.specs.List.{filter}
use Rattle.std.proofs.Common.{ap, sym, ◌∙◌, cond}
use Rattle.std.proofs.lemmas.List.{map-append}
use Rattle.ck_cfg.specs.declared.check.Check.{Check}
use Rattle.ck_ask.specs.declared.question.Question.{Question}
use Rattle.ck_ask.specs.declared.question.Question.TheVariants as question
use Rattle.ck_gen.specs.Monitors.{is_of_one_cycle}
use Rattle.ck_induct.specs.OneCycle.{in_cycle}
use Rattle.rvf_case.specs.Texts.{of_one_cycle}

abbrev asked : List Check → List Question
asked xs = map (λ x. question.Check x) xs

-- those of two lists one behind the other
both : (k : ℕ) (xs ys : List Check) → of_one_cycle k (xs ++ ys) ≡ of_one_cycle k xs ++ of_one_cycle k ys
both k [] ys = refl
both k (x ∷ xs) ys = step (is_of_one_cycle x.kind) (both k xs ys) where
  step : (b : Bool) → of_one_cycle k (xs ++ ys) ≡ of_one_cycle k xs ++ of_one_cycle k ys
      → map (λ y. in_cycle y k) (cond b (x ∷ filter (λ y. is_of_one_cycle y.kind) (xs ++ ys))
      (filter (λ y. is_of_one_cycle y.kind) (xs ++ ys)))
      ≡ map (λ y. in_cycle y k) (cond b (x ∷ filter (λ y. is_of_one_cycle y.kind) xs)
      (filter (λ y. is_of_one_cycle y.kind) xs))
      ++ of_one_cycle k ys
  step true rest = ap (λ zs. in_cycle x k ∷ zs) rest
  step false rest = rest

pub length_step : (k : ℕ) (ys : List Check) (x : Check) (made more : List Question)
    → made ≡ map (λ y. question.Check y) (of_one_cycle k ys)
    → more ≡ made ++ map (λ y. question.Check y) (of_one_cycle k (x ∷ []))
    → more ≡ map (λ y. question.Check y) (of_one_cycle k (ys ++ x ∷ []))
length_step k ys x made more e m =
    m ∙ ap (λ qs. qs ++ asked (of_one_cycle k (x ∷ []))) e
    ∙ sym (map-append (λ y. question.Check y) (of_one_cycle k ys) (of_one_cycle k (x ∷ [])))
    ∙ ap asked (sym (both k ys (x ∷ [])))
