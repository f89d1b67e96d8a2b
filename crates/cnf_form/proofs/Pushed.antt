-- Clauses that come behind others in one list, and the clause at a place.
use Rattle.std.proofs.Common.{◌≡◌, ℕ, zero, suc, ◌<◌, ◌≤◌, List, [], ◌∷◌, ◌++◌, ℤ, length, get_or, Some, None}
use Rattle.std.proofs.Common.{◌^◌, refl, ap, sym, subst, ◌∙◌, arith, length-append}
use Rattle.std.specs.Prelude.{slice_range, slice_get}
use Rattle.std.specs.List.{AllByRecursion}
use Rattle.cnf_form.specs.Cnf.{AreLiterals, AreClauses}
use Rattle.cnf_form.specs.Flat.{start_of, end_at, Mounting, Fills, clauses_from}
use Rattle.cnf_form.proofs.Starts.{up, start_push, mounting_push}
use Rattle.cnf_form.proofs.Parts.{part_kept, part_last}

pub many : (all : List ℤ) (starts : List ℕ) → length (clauses_from all starts) ≡ length starts
many all [] = refl
many all (s ∷ starts) = ap suc (many all starts)

pub pushed : (all more : List ℤ) (starts : List ℕ) → Mounting starts (length all)
    → clauses_from (all ++ more) (starts ++ length all ∷ []) ≡ clauses_from all starts ++ more ∷ []
pushed all more [] m = ap (λ c. c ∷ []) (part_last all more (length all) (length (all ++ more)) refl refl)
pushed all more (s ∷ starts) m =
    ap (λ e. slice_range (all ++ more) s e ∷ clauses_from (all ++ more) (starts ++ length all ∷ []))
    (start_push starts (length all) (length (all ++ more)))
    ∙ ap (λ c. c ∷ clauses_from (all ++ more) (starts ++ length all ∷ []))
    (part_kept all more s (start_of starts (length all)) m.0 (up starts (length all) m.1))
    ∙ ap (λ cs. slice_range all s (start_of starts (length all)) ∷ cs) (pushed all more starts m.1)

-- the clause at a place
pub clause_is : (all : List ℤ) (starts : List ℕ) (i : ℕ) → i < length starts
    → slice_get (clauses_from all starts) i
    ≡ Some (slice_range all (get_or starts i 0) (end_at starts i (length all)))
clause_is all [] i h = absurd (omega (arith, h))
clause_is all (s ∷ starts) zero h = refl
clause_is all (s ∷ starts) (suc i) h = clause_is all starts i (omega (arith, h))

pub clause_none : (all : List ℤ) (starts : List ℕ) (i : ℕ) → length starts ≤ i
    → slice_get (clauses_from all starts) i ≡ None
clause_none all [] i h = refl
clause_none all (s ∷ starts) zero h = absurd (omega (arith, h))
clause_none all (s ∷ starts) (suc i) h = clause_none all starts i (omega (arith, h))

pub pushed_of : (all more : List ℤ) (starts : List ℕ) (start : ℕ) (literals : List ℤ) (begun : List ℕ)
    → literals ≡ all ++ more → start ≡ length all → begun ≡ starts ++ start ∷ [] → Mounting starts (length all)
    → clauses_from literals begun ≡ clauses_from all starts ++ more ∷ []
pushed_of all more starts start literals begun a s b m =
    ap (λ l. clauses_from l begun) a
    ∙ ap (clauses_from (all ++ more)) (b ∙ ap (λ n. starts ++ n ∷ []) s)
    ∙ pushed all more starts m

mounts : (all more : List ℤ) (starts : List ℕ) → Fills starts (length all)
    → Fills (starts ++ length all ∷ []) (length (all ++ more))
mounts all more starts m = (
  start_push starts (length all) (length (all ++ more)) ∙ m.0,
  mounting_push starts (length all) (length (all ++ more)) m.1 (omega (arith, length-append all more)),
)

pub all_append : {A : Type 0} → (P : A → Type 0) (xs ys : List A) → AllByRecursion P xs → AllByRecursion P ys
    → AllByRecursion P (xs ++ ys)
all_append P [] ys a b = b
all_append P (x ∷ xs) ys a b = (a.0, all_append P xs ys a.1 b)

-- what holds of a formula's clauses
abbrev pub Holds : ℕ → List ℤ → List ℕ → Type 0
Holds vars all starts =
    (vars < 2 ^ 63) × AreClauses vars (clauses_from all starts) × Fills starts (length all)

-- holds with one clause more
pub pushes : (vars : ℕ) (all more : List ℤ) (starts : List ℕ) (start : ℕ) (literals : List ℤ) (begun : List ℕ)
    → literals ≡ all ++ more → start ≡ length all → begun ≡ starts ++ start ∷ [] → AreLiterals vars more
    → Holds vars all starts → Holds vars literals begun
pushes vars all more starts start literals begun a s b l i = (
  i.0,
  subst (AreClauses vars) (sym (pushed_of all more starts start literals begun a s b i.2.1))
      (all_append (AreLiterals vars) (clauses_from all starts) (more ∷ []) i.1 (l, tt)),
  subst (λ z. Fills begun (length z)) (sym a)
      (subst (λ z. Fills z (length (all ++ more))) (sym (b ∙ ap (λ n. starts ++ n ∷ []) s))
      (mounts all more starts i.2)),
)
