-- What the clauses of covers say.
use Rattle.std.specs.Prelude.{◌≡◌, refl, ℕ, zero, suc, ◌+◌, ◌*◌, ◌/◌, ◌%◌, ◌<◌, ◌≤◌, ◌==◌, if◌then◌else◌, Bool}
use Rattle.std.specs.Prelude.{true, false, not, ◌&&◌, ◌||◌, List, [], ◌∷◌, ◌++◌, length, drop, slice_index_or, ℤ}
use Rattle.std.proofs.Common.{ap, sym, ◌∙◌, arith, append_assoc, append-nil}
use Rattle.std.proofs.lemmas.List.{drop_all, drop_more}
use Rattle.std.proofs.lemmas.Bool.{ne_eqb}
use Rattle.std.proofs.lemmas.List.Folds.{list_all-append}
use Rattle.cnf_form.specs.Cnf.{clause_true, formula_true}
use Rattle.bb_aig.specs.Graph.{turned}
use Rattle.bb_clauses.proofs.ClauseLaws.{at, lit_true, clause_law, agree}
use Rattle.bb_cuts.specs.declared.leaves.Leaves.{Leaves}
use Rattle.bb_cuts.specs.declared.cube.Sign.{Sign}
use Rattle.bb_cuts.specs.declared.cube.Sign.TheVariants as s
use Rattle.bb_cuts.specs.declared.cube.Cube.{Cube}
use Rattle.bb_cuts.specs.Rows.{row_of, has_row, sign_holds, cube_holds, cover_holds}
use Rattle.bb_cuts.specs.Covers.{sign_literal, cube_clause, cover_clauses, both_clauses, IsCover}
use Rattle.bb_cuts.proofs.RowLaws.{row_small}
use Rattle.bb_cuts.specs.Variables.{var_at}

pub var_some : (v : ℕ → Bool) (k : ℕ) → 1 ≤ k → var_at v k ≡ v k
var_some v k some = ap (λ b. if b then false else v k) (ne_eqb k 0 (λ e. omega (arith, e)))

pub at_is : (v : ℕ → Bool) (k : ℕ) → at v k ≡ var_at v k
at_is v zero = refl
at_is v (suc k) = sym (var_some v (suc k) (omega arith))

pub even : (v : ℕ → Bool) (k : ℕ) → lit_true v (2 * k) ≡ var_at v k
even v k =
    let r : 2 * k % 2 ≡ 0 = omega arith in
    let e : 2 * k / 2 ≡ k = omega arith in
    ap (λ r. turned (r == 1) (at v (2 * k / 2))) r ∙ ap (at v) e ∙ at_is v k

pub odd : (v : ℕ → Bool) (k : ℕ) → lit_true v (2 * k + 1) ≡ not (var_at v k)
odd v k =
    let r : (2 * k + 1) % 2 ≡ 1 = omega arith in
    let e : (2 * k + 1) / 2 ≡ k = omega arith in
    ap (λ r. turned (r == 1) (at v ((2 * k + 1) / 2))) r ∙ ap (λ j. not (at v j)) e ∙ ap not (at_is v k)

twice : (b : Bool) → b ≡ not (not b)
twice true = refl
twice false = refl

sign_law : (v : ℕ → Bool) (sign : Sign) (var : ℕ)
    → lit_true v (sign_literal sign var) ≡ not (sign_holds sign (var_at v var))
sign_law v s.Absent var = refl
sign_law v s.Plain var = odd v var
sign_law v s.Turned var = even v var ∙ twice (var_at v var)

none_of_four : (a b c d o : Bool)
    → (not a || (not b || (not c || (not d || (o || false))))) ≡ (not ((a && b) && (c && d)) || o)
none_of_four false b c d o = refl
none_of_four true false c d o = refl
none_of_four true true false d o = refl
none_of_four true true true false o = refl
none_of_four true true true true true = refl
none_of_four true true true true false = refl

cube_clause_law : (v : ℕ → Bool) (vars : Leaves) (out : ℕ) (c : Cube)
    → formula_true v (cube_clause vars out c) ≡ (not (cube_holds (var_at v) vars c) || lit_true v out)
cube_clause_law v vars out c =
    let t = lit_true v in
    let A = sign_holds c.first (var_at v vars.first) in
    let B = sign_holds c.second (var_at v vars.second) in
    let C = sign_holds c.third (var_at v vars.third) in
    let D = sign_holds c.fourth (var_at v vars.fourth) in
    let p = sign_literal c.first vars.first in
    let q = sign_literal c.second vars.second in
    let r = sign_literal c.third vars.third in
    let u = sign_literal c.fourth vars.fourth in
    clause_law v [] (p ∷ q ∷ r ∷ u ∷ out ∷ [])
    ∙ ap (λ b. b || (t q || (t r || (t u || (t out || false))))) (sign_law v c.first vars.first)
    ∙ ap (λ b. not A || (b || (t r || (t u || (t out || false))))) (sign_law v c.second vars.second)
    ∙ ap (λ b. not A || (not B || (b || (t u || (t out || false))))) (sign_law v c.third vars.third)
    ∙ ap (λ b. not A || (not B || (not C || (b || (t out || false))))) (sign_law v c.fourth vars.fourth)
    ∙ none_of_four A B C D (t out)

none_of_both : (a b o : Bool) → ((not a || o) && (not b || o)) ≡ (not (a || b) || o)
none_of_both false b o = refl
none_of_both true b false = refl
none_of_both true true true = refl
none_of_both true false true = refl

pub cover_law : (v : ℕ → Bool) (vars : Leaves) (out : ℕ) (cs : List Cube)
    → formula_true v (cover_clauses vars out cs) ≡ (not (cover_holds (var_at v) vars cs) || lit_true v out)
cover_law v vars out [] = refl
cover_law v vars out (c ∷ cs) =
    list_all-append (clause_true v) (cube_clause vars out c) (cover_clauses vars out cs)
    ∙ ap (λ b. b && formula_true v (cover_clauses vars out cs)) (cube_clause_law v vars out c)
    ∙ ap (λ b. (not (cube_holds (var_at v) vars c) || lit_true v out) && b) (cover_law v vars out cs)
    ∙ none_of_both (cube_holds (var_at v) vars c) (cover_holds (var_at v) vars cs) (lit_true v out)

agreed : (t o : Bool) → ((not t || o) && (not (not t) || not o)) ≡ agree o t
agreed true true = refl
agreed true false = refl
agreed false true = refl
agreed false false = refl

-- the clauses of a cover say that a variable has the value of the table
pub both_law : (v : ℕ → Bool) (vars : Leaves) (var : ℕ) (on off : List Cube) (table : ℕ)
    → IsCover (var_at v) vars on off table
    → formula_true v (both_clauses vars var on off)
    ≡ agree (var_at v var) (has_row table (row_of (var_at v) vars))
both_law v vars var on off table h =
    let t = has_row table (row_of (var_at v) vars) in
    let P = cover_clauses vars (2 * var) on in
    let Q = cover_clauses vars (2 * var + 1) off in
    list_all-append (clause_true v) P Q
    ∙ ap (λ b. b && formula_true v Q) (cover_law v vars (2 * var) on)
    ∙ ap (λ b. (not b || lit_true v (2 * var)) && formula_true v Q) h.true_in
    ∙ ap (λ b. (not t || b) && formula_true v Q) (even v var)
    ∙ ap (λ b. (not t || var_at v var) && b) (cover_law v vars (2 * var + 1) off)
    ∙ ap (λ b. (not t || var_at v var) && (not b || lit_true v (2 * var + 1))) h.false_in
    ∙ ap (λ b. (not t || var_at v var) && (not (not t) || b)) (odd v var)
    ∙ agreed t (var_at v var)

pub agree_same : (a b : Bool) → agree a b ≡ true → a ≡ b
agree_same true b h = sym h
agree_same false true h = h
agree_same false false h = refl

pub same_agree : (a b : Bool) → a ≡ b → agree a b ≡ true
same_agree true true h = refl
same_agree true false h = sym h
same_agree false true h = h
same_agree false false h = refl

-- ---- the loop over cubes

pub covers_next : (vars : Leaves) (out : ℕ) (cubes : List Cube) (i : ℕ) (d : Cube) (so_far next all : List (List ℤ))
    → i < length cubes → so_far ++ cover_clauses vars out (drop i cubes) ≡ all
    → next ≡ so_far ++ cube_clause vars out (slice_index_or cubes i d)
    → next ++ cover_clauses vars out (drop (i + 1) cubes) ≡ all
covers_next vars out cubes i d so_far next all below left is =
    let rest = cover_clauses vars out (drop (i + 1) cubes) in
    ap (λ cs. cs ++ rest) is ∙ append_assoc so_far (cube_clause vars out (slice_index_or cubes i d)) rest
    ∙ ap (λ cs. so_far ++ cover_clauses vars out cs) (sym (drop_more cubes i d below)) ∙ left

pub covers_done : (vars : Leaves) (out : ℕ) (cubes : List Cube) (i : ℕ) (so_far all : List (List ℤ))
    → length cubes ≤ i → so_far ++ cover_clauses vars out (drop i cubes) ≡ all → so_far ≡ all
covers_done vars out cubes i so_far all past left =
    sym (append-nil so_far) ∙ ap (λ cs. so_far ++ cover_clauses vars out cs) (sym (drop_all i cubes past)) ∙ left

-- cubes whose rows are those of a table, and cubes whose rows are the others
pub cover_is : (on off : List Cube) (table own other flip : ℕ)
    → ((value : ℕ → Bool) (leaves : Leaves) → has_row own (row_of value leaves) ≡ cover_holds value leaves on)
    → ((value : ℕ → Bool) (leaves : Leaves) → has_row other (row_of value leaves) ≡ cover_holds value leaves off)
    → ((r : ℕ) → r < 16 → has_row flip r ≡ not (has_row table r)) → own ≡ table → other ≡ flip
    → (value : ℕ → Bool) (leaves : Leaves) → IsCover value leaves on off table
cover_is on off table own other flip h k law e f value leaves =
    let r = row_of value leaves in
    record {
      true_in = sym (h value leaves) ∙ ap (λ t. has_row t r) e;
      false_in = sym (k value leaves) ∙ ap (λ t. has_row t r) f ∙ law r (row_small value leaves);
    }
