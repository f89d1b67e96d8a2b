-- What comes of one cube, and of all so far.
use Rattle.std.proofs.Common.{◌≡◌, ℕ, zero, suc, ◌+◌, ◌<◌, ◌≤◌, ◌^◌, Bool, true, false, List, [], ◌∷◌, ◌++◌, ℤ, length}
use Rattle.std.proofs.Common.{map, get_or, take, eqb}
use Rattle.std.proofs.Math.Nat.{pow-suc}
use Rattle.std.proofs.Common.{Option, Some, refl, ap, sym, subst, ◌∙◌, ◌⊎◌, inl, inr, length-append, arith}
use Rattle.std.specs.Prelude.{slice_get, MatchBool, Result, Ok, Err, OnOk}
use Rattle.cnf_form.specs.Cnf.{Cnf, AreClauses, formula_true, value_of}
use Rattle.lrat_check.specs.declared.step.Step.{Step}
use Rattle.sat_search.specs.Found.{IfModel, IfSpent}
use Rattle.sat_search.specs.declared.found.Found.{Found}
use Rattle.sat_search.specs.declared.found.Found.TheVariants as found
use Rattle.rvf_jobs.specs.Answers.{AreAnswers}
use Rattle.sat_search.proofs.Places.{push_last}
use Rattle.sat_cubes.specs.Cubes.{IsCube, open_vars, others, restricted, cube_of}
use Rattle.sat_cubes.specs.Splits.{is_split, AreSplit, IsNext}
use Rattle.sat_cubes.specs.Joined.{AreSmall, CanSplit}
use Rattle.sat_cubes.specs.Parts.{NoneLeft, IsNextBy}
use Rattle.sat_cubes.specs.Values.{merged}
use Rattle.sat_cubes.specs.declared.part.Part.{Part}
use Rattle.sat_cubes.specs.declared.part.Part.TheVariants.{Refuted, Spent}
use Rattle.sat_cubes.specs.declared.part.Refutation.{Refutation}
use Rattle.sat_cubes.proofs.Blocks.{cube_is, cube_open}
use Rattle.sat_cubes.proofs.Merging.{length_merged, merged_true}
use Rattle.sat_cubes.proofs.Standing.{get_left}
use Rattle.sat_cubes.proofs.Steps.{each_more}

-- ---- one cube

pub cube_at : (formula : Cnf) (split : List ℕ) (index : ℕ) (lits : List ℤ) → CanSplit formula split
    → lits ≡ cube_of split (length split) index → IsCube formula.vars lits
cube_at formula split index lits can e =
    subst (IsCube formula.vars) (sym e) (cube_is formula.vars split can.each (length split) index (omega arith))

pub model_at : (formula : Cnf) (q set : List ℤ) (values all : List Bool) (vars : ℕ) (left : List (List ℤ)) (f : Found)
    → IsCube formula.vars q → AreClauses formula.vars formula.clauses → set ≡ q → vars ≡ formula.vars
    → all ≡ merged set values vars → left ≡ restricted q formula.clauses → f ≡ found.Model values
    → IfModel f (λ vs. formula_true (value_of vs) left ≡ true)
    → (length all ≡ formula.vars) × (formula_true (value_of all) formula.clauses ≡ true)
model_at formula q set values all vars left f cube names e v is l m true_left =
    let is_q : all ≡ merged q values formula.vars =
    is ∙ ap (λ s. merged s values vars) e ∙ ap (merged q values) v in
    let t : formula_true (value_of values) left ≡ true =
    subst (λ x. IfModel x (λ vs. formula_true (value_of vs) left ≡ true)) m true_left in (
      ap length is_q ∙ length_merged q values formula.vars,
      ap (λ z. formula_true (value_of z) formula.clauses) is_q
          ∙ merged_true q values formula.vars cube formula.clauses names
          (ap (formula_true (value_of values)) (sym l) ∙ t),
    )

pub spent_at : (formula : Cnf) (split : List ℕ) (index share vars : ℕ) (q : List ℤ) (steps : List Step) (f : Found)
    → CanSplit formula split → q ≡ cube_of split (length split) index → vars ≡ length (open_vars q formula.vars)
    → f ≡ found.Spent steps → IfSpent f (λ s. share < 3 ^ vars)
    → share < 3 ^ length (others (is_split split) formula.vars)
spent_at formula split index share vars q steps f can e v is h =
    let less : share < 3 ^ vars = subst (λ x. IfSpent x (λ s. share < 3 ^ vars)) is h in
    let same : vars ≡ length (others (is_split split) formula.vars) =
    v ∙ ap (λ c. length (open_vars c formula.vars)) e
    ∙ ap length (cube_open formula.vars split can.each index formula.vars) in
    subst (λ n. share < 3 ^ n) same less

-- ---- all so far

-- some cube so far has used up its share, or each has its steps
abbrev pub SoFar : Bool → List Refutation → List Part → Type 0
SoFar is_spent refutations parts =
    MatchBool is_spent ((k : ℕ) × (slice_get parts k ≡ Some Spent)) (map Refuted refutations ≡ parts)

map_more : (rs : List Refutation) (r : Refutation) → map Refuted (rs ++ r ∷ []) ≡ map Refuted rs ++ Refuted r ∷ []
map_more [] r = refl
map_more (x ∷ xs) r = ap (λ ys. Refuted x ∷ ys) (map_more xs r)

pub refuted_more : (is_spent : Bool) (rs now : List Refutation) (r : Refutation) (parts : List Part) (part : Part)
    → part ≡ Refuted r → now ≡ rs ++ r ∷ [] → SoFar is_spent rs parts → SoFar is_spent now (parts ++ part ∷ [])
refuted_more true rs now r parts part e n h = (h.0, get_left parts (part ∷ []) h.0 Spent h.1)
refuted_more false rs now r parts part e n h =
    ap (map Refuted) n ∙ map_more rs r ∙ ap (λ xs. xs ++ Refuted r ∷ []) h ∙ ap (λ x. parts ++ x ∷ []) (sym e)

pub spent_more : (parts : List Part) (part : Part) → part ≡ Spent
    → (k : ℕ) × (slice_get (parts ++ part ∷ []) k ≡ Some Spent)
spent_more parts part e = (length parts, push_last parts part (length parts) refl ∙ ap Some e)

-- ---- numbers

get_small : (xs : List ℕ) (x k : ℕ) → AreSmall xs → x < 2 ^ 63 → get_or (xs ++ x ∷ []) k 0 < 2 ^ 63
get_small [] x zero h l = l
get_small [] x (suc k) h l = h 0
get_small (y ∷ ys) x zero h l = h 0
get_small (y ∷ ys) x (suc k) h l = get_small ys x k (λ i. h (suc i)) l

pub small_push : (xs now : List ℕ) (x : ℕ) → AreSmall xs → x < 2 ^ 63 → now ≡ xs ++ x ∷ [] → AreSmall now
small_push xs now x h l e k = subst (λ ys. get_or ys k 0 < 2 ^ 63) (sym e) (get_small xs x k h l)

pub no_small : AreSmall []
no_small k = omega arith

-- ---- split variables

-- so many were chosen, and none is left
pub split_all : (formula : Cnf) (many : ℕ) (split : List ℕ)
    → ((k var : ℕ) → slice_get split k ≡ Some var → IsNext formula.clauses formula.vars (take k split) var)
    → length split ≤ many → NoneLeft formula.vars split → AreSplit formula many split
split_all formula many split each few none = record {
  each = each;
  few = few;
  all = λ less var some within. none var some within;
}

pub split_many : (formula : Cnf) (many : ℕ) (split : List ℕ)
    → ((k var : ℕ) → slice_get split k ≡ Some var → IsNext formula.clauses formula.vars (take k split) var)
    → length split ≡ many → AreSplit formula many split
split_many formula many split each e = record {
  each = each;
  few = omega (arith, e);
  all = λ less. absurd (omega (arith, less, e));
}

-- as the code looks them up
pub next_read : (seen counts taken split : List ℕ) (vars var : ℕ) → seen ≡ counts → taken ≡ split
    → length counts ≡ vars → IsNextBy seen (length seen) taken var → IsNextBy counts vars split var
next_read seen counts taken split vars var e f l next =
    subst (λ n. IsNextBy counts n split var) l
    (subst (λ xs. IsNextBy counts (length counts) xs var) f (subst (λ xs. IsNextBy xs (length xs) taken var) e next))

pub turn_more : (formula : Cnf) (split now : List ℕ) (var many : ℕ) → now ≡ split ++ var ∷ [] → length split ≡ many
    → ((k n : ℕ) → slice_get split k ≡ Some n → IsNext formula.clauses formula.vars (take k split) n)
    → IsNext formula.clauses formula.vars split var
    → (length now ≡ many + 1)
    × ((k n : ℕ) → slice_get now k ≡ Some n → IsNext formula.clauses formula.vars (take k now) n)
turn_more formula split now var many e l each next =
    let P : List ℕ → Type 0 = λ xs. (length xs ≡ many + 1)
    × ((k n : ℕ) → slice_get xs k ≡ Some n → IsNext formula.clauses formula.vars (take k xs) n) in
    subst P (sym e) (
      length-append split (var ∷ []) ∙ ap (λ n. n + 1) l,
      each_more formula.clauses formula.vars split var each next,
    )

-- ---- batches

get_cases : (xs ys : List Part) (i : ℕ) (a : Part) → slice_get (xs ++ ys) i ≡ Some a
    → (slice_get xs i ≡ Some a) ⊎ ((j : ℕ) × (length xs + j ≡ i) × (slice_get ys j ≡ Some a))
get_cases [] ys i a e = inr (i, omega arith, e)
get_cases (x ∷ xs) ys zero a e = inl e
get_cases (x ∷ xs) ys (suc i) a e = at (get_cases xs ys i a e) where
  at : (slice_get xs i ≡ Some a) ⊎ ((j : ℕ) × (length xs + j ≡ i) × (slice_get ys j ≡ Some a))
      → (slice_get xs i ≡ Some a) ⊎ ((j : ℕ) × (suc (length xs) + j ≡ suc i) × (slice_get ys j ≡ Some a))
  at (inl h) = inl h
  at (inr h) = let f = h.1 in inr (h.0, omega (arith, f), h.2)

pub answers_more : (P : ℕ → Part → Type 0) (xs ys all : List Part) (first many : ℕ)
    → AreAnswers P 0 (length xs) xs → AreAnswers P first many ys → first ≡ length xs → all ≡ xs ++ ys
    → AreAnswers P 0 (length all) all
answers_more P xs ys all first many one other e is = record {
  whole = refl;
  each = λ i a f. at i a (get_cases xs ys i a (ap (λ zs. slice_get zs i) (sym is) ∙ f));
} where
  at : (i : ℕ) (a : Part) → (slice_get xs i ≡ Some a) ⊎ ((j : ℕ) × (length xs + j ≡ i) × (slice_get ys j ≡ Some a))
      → P (0 + i) a
  at i a (inl h) = one.each i a h
  at i a (inr h) =
      let f = h.1 in
      let same : first + h.0 ≡ 0 + i = omega (arith, e, f) in
      subst (λ n. P n a) same (other.each h.0 a h.2)

pub answers_all : (P : ℕ → Part → Type 0) (xs : List Part) (count : ℕ) → AreAnswers P 0 (length xs) xs
    → length xs ≡ count → AreAnswers P 0 count xs
answers_all P xs count h e = subst (λ n. AreAnswers P 0 n xs) e h

pub on_ok : {X E : Type 0} (P Q : Type 0) → (P → Q) → (r : Result X E) → OnOk r P → OnOk r Q
on_ok P Q f (Ok x) h = f h
on_ok P Q f (Err e) h = tt

pub doubled : (n : ℕ) → 2 ^ (n + 1) ≡ 2 ^ n + 2 ^ n
doubled n =
    let q : n + 1 ≡ suc n = omega arith in
    let e = ap (λ k. 2 ^ k) q in
    let p = pow-suc 2 n in
    omega (arith, e, p)

pub none_from : (n : ℕ) → eqb n 0 ≡ true → n ≡ 0
none_from n e = grind (arith, e)

pub some_from : (n : ℕ) → eqb n 0 ≡ false → 0 < n
some_from zero e = absurd (let f : ⊥ = cc in f)
some_from (suc n) e = omega arith
