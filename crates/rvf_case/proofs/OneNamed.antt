-- The first check with a name, check by check.
use Rattle.std.specs.Prelude.{◌≡◌, refl, ℕ, ◌==◌, ◌&&◌, Bool, true, false, List, [], ◌∷◌, ◌++◌, length, map}
use Rattle.std.specs.Prelude.{if◌then◌else◌}
use Rattle.std.proofs.Common.{ap, arith, sym, ◌∙◌, subst}
use Rattle.std.proofs.lemmas.Bool.{ne_eqb}
use Rattle.std.proofs.lemmas.List.{length-map}
use Rattle.ck_cfg.specs.declared.check.Check.{Check}
use Rattle.ck_cfg.specs.Checks.{is_named}
use Rattle.ck_ask.specs.declared.question.Question.{Question}
use Rattle.ck_ask.specs.declared.question.Question.TheVariants as question
use Rattle.rvf_case.specs.Texts.{only_named}

-- behind checks of which none has the name, the next one counts
one_more : (name : List ℕ) (ys : List Check) (x : Check) → only_named name (ys ++ x ∷ [])
    ≡ (if length (only_named name ys) == 0 then only_named name (x ∷ []) else only_named name ys)
one_more name [] x = refl
one_more name (y ∷ ys) x = by (is_named name y) (one_more name ys x) where
  by : (b : Bool) → only_named name (ys ++ x ∷ [])
      ≡ (if length (only_named name ys) == 0 then only_named name (x ∷ []) else only_named name ys)
      → (if b then y ∷ [] else only_named name (ys ++ x ∷ []))
      ≡ (if length (if b then y ∷ [] else only_named name ys) == 0 then only_named name (x ∷ [])
      else (if b then y ∷ [] else only_named name ys))
  by true rest = refl
  by false rest = rest

abbrev asked : List Check → List Question
asked xs = map (λ x. question.Check x) xs

-- the questions behind the next check
abbrev Adds : List ℕ → List Check → Check → List Question → Type 0
Adds name ys x m =
    (if length m == 0 && is_named name x then m ++ question.Check x ∷ [] else m)
    ≡ asked (only_named name (ys ++ x ∷ []))

first : (x : Check) (b : Bool) → (if b then question.Check x ∷ [] else []) ≡ asked (if b then x ∷ [] else [])
first x true = refl
first x false = refl

by_found : (name : List ℕ) (ys : List Check) (x : Check) (l : List Check)
    → only_named name (ys ++ x ∷ []) ≡ (if length l == 0 then only_named name (x ∷ []) else l)
    → Adds name ys x (asked l)
by_found name ys x [] h = first x (is_named name x) ∙ sym (ap asked h)
by_found name ys x (z ∷ zs) h =
    let some : (length (z ∷ zs) == 0) ≡ false = ne_eqb (length (z ∷ zs)) 0 (λ e. omega (arith, e)) in
    let e : length (asked (z ∷ zs)) ≡ length (z ∷ zs) = length-map (z ∷ zs) (λ y. question.Check y) in
    let none : (length (asked (z ∷ zs)) == 0) ≡ false = ap (λ n. n == 0) e ∙ some in
    let m = asked (z ∷ zs) in
    let left : (if length m == 0 && is_named name x then m ++ question.Check x ∷ [] else m) ≡ m =
    ap (λ b. if b && is_named name x then m ++ question.Check x ∷ [] else m) none in
    let right : (if length (z ∷ zs) == 0 then only_named name (x ∷ []) else z ∷ zs) ≡ z ∷ zs =
    ap (λ b. if b then only_named name (x ∷ []) else z ∷ zs) some in
    left ∙ sym (ap asked (h ∙ right))

pub named_step : (name : List ℕ) (ys : List Check) (x : Check) (made : List Question)
    → made ≡ map (λ y. question.Check y) (only_named name ys)
    → (if length made == 0 && is_named name x then made ++ question.Check x ∷ [] else made)
    ≡ map (λ y. question.Check y) (only_named name (ys ++ x ∷ []))
named_step name ys x made e =
    subst (Adds name ys x) (sym e) (by_found name ys x (only_named name ys) (one_more name ys x))
