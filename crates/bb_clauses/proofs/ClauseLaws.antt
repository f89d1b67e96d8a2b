-- What the clauses of a graph say.
use Rattle.std.specs.Prelude.{◌≡◌, refl, ℕ, zero, suc, ◌+◌, ◌-◌, ◌*◌, ◌/◌, ◌%◌, ◌<◌, ◌≤◌, ◌==◌, if◌then◌else◌, Bool}
use Rattle.std.specs.Prelude.{true, false, not, ◌&&◌, ◌||◌, cond, List, [], ◌∷◌, ◌++◌, length, slice_get}
use Rattle.std.specs.Prelude.{slice_index_or, drop, Some, ℤ, pos, negsuc, IsTrue}
use Rattle.std.specs.List.{list_any, list_all}
use Rattle.std.proofs.Common.{ap, sym, ◌∙◌, arith, subst, inl, inr, ◌⊎◌, append_assoc, append-nil}
use Rattle.std.proofs.lemmas.List.{drop_all, drop_more}
use Rattle.std.proofs.lemmas.List.Folds.{list_all-append, list_any-append}
use Rattle.std.proofs.lemmas.Bool.{cases_Bool, cases_eq, eqb-true, eqb-false}
use Rattle.bb_aig.specs.declared.node.AigNode.{AigNode}
use Rattle.bb_aig.specs.declared.node.AigNode.TheVariants as n
use Rattle.bb_aig.specs.Graph.{is_negated, complement, turned, literal, value, values, values_of, lit_at, IsFitting}
use Rattle.bb_aig.specs.Graph.{inputs_after, AreFitting, IsGraph}
use Rattle.cnf_form.specs.Cnf.{literal_true, clause_true, formula_true}
use Rattle.bb_clauses.specs.Clauses.{to_literal, clause_of, and_clauses, node_clauses, clauses_from, clauses_before}

-- the value of a variable; that of variable 0 is false
abbrev pub at : (ℕ → Bool) → ℕ → Bool
at v zero = false
at v (suc k) = v (suc k)

abbrev pub lit_true : (ℕ → Bool) → ℕ → Bool
lit_true v lit = turned (is_negated lit) (at v (lit / 2))

pub at_some : (v : ℕ → Bool) (k : ℕ) → 1 ≤ k → at v k ≡ v k
at_some v zero h = absurd (omega arith)
at_some v (suc k) h = refl

-- a literal of a variable
variable_of : (v : ℕ → Bool) (l : ℕ) → 2 ≤ l → literal_true v (to_literal l) ≡ lit_true v l
variable_of v l h = elim (cases_Bool (l % 2 == 1)) [
  | inl odd ↦
      let e : l / 2 - 1 + 1 ≡ l / 2 = omega arith in
      ap (λ b. literal_true v (cond b (negsuc (l / 2 - 1)) (pos (l / 2)))) odd ∙ ap (λ k. not (v k)) e
      ∙ ap not (sym (at_some v (l / 2) (omega arith))) ∙ ap (λ b. turned b (at v (l / 2))) (sym odd)
  | inr even ↦
      ap (λ b. literal_true v (cond b (negsuc (l / 2 - 1)) (pos (l / 2)))) even
      ∙ sym (at_some v (l / 2) (omega arith)) ∙ ap (λ b. turned b (at v (l / 2))) (sym even)
]

or_false : (b : Bool) → (b && true) ≡ (b || false)
or_false true = refl
or_false false = refl

or_true : (a b : Bool) → true ≡ (a || (true || b))
or_true true b = refl
or_true false b = refl

or_skip : (a b : Bool) → (a || b) ≡ (a || (false || b))
or_skip a b = refl

or_more : (a b c : Bool) → ((a || (b || false)) || c) ≡ (a || (b || c))
or_more true b c = refl
or_more false true c = refl
or_more false false c = refl

two_or_more : (k : ℕ) → (k ≡ 0 → ⊥) → (k ≡ 1 → ⊥) → 2 ≤ k
two_or_more zero a b = absurd (a refl)
two_or_more (suc zero) a b = absurd (b refl)
two_or_more (suc (suc k)) a b = omega arith

-- one more literal, by what the clauses of the rest say
clause_step : (v : ℕ → Bool) (taken : List ℤ) (l : ℕ) (ls : List ℕ)
    → formula_true v (clause_of taken ls) ≡ (clause_true v taken || list_any (lit_true v) ls)
    → formula_true v (clause_of (taken ++ to_literal l ∷ []) ls)
    ≡ (clause_true v (taken ++ to_literal l ∷ []) || list_any (lit_true v) ls)
    → ((l == 1) ≡ true) ⊎ ((l == 1) ≡ false) → ((l == 0) ≡ true) ⊎ ((l == 0) ≡ false)
    → formula_true v (clause_of taken (l ∷ ls)) ≡ (clause_true v taken || (lit_true v l || list_any (lit_true v) ls))
clause_step v taken l ls same more (inl one) zeros =
    let is : l ≡ 1 = eqb-true l 1 one in
    ap (λ b. formula_true v (cond b [] (cond (l == 0) (clause_of taken ls)
    (clause_of (taken ++ to_literal l ∷ []) ls)))) one
    ∙ or_true (clause_true v taken) (list_any (lit_true v) ls)
    ∙ ap (λ k. clause_true v taken || (lit_true v k || list_any (lit_true v) ls)) (sym is)
clause_step v taken l ls same more (inr other) (inl none) =
    let is : l ≡ 0 = eqb-true l 0 none in
    ap (λ b. formula_true v (cond b [] (cond (l == 0) (clause_of taken ls)
    (clause_of (taken ++ to_literal l ∷ []) ls)))) other
    ∙ ap (λ b. formula_true v (cond b (clause_of taken ls) (clause_of (taken ++ to_literal l ∷ []) ls))) none
    ∙ same
    ∙ or_skip (clause_true v taken) (list_any (lit_true v) ls)
    ∙ ap (λ k. clause_true v taken || (lit_true v k || list_any (lit_true v) ls)) (sym is)
clause_step v taken l ls same more (inr other) (inr some) =
    let high : 2 ≤ l = two_or_more l (eqb-false l 0 some) (eqb-false l 1 other) in
    ap (λ b. formula_true v (cond b [] (cond (l == 0) (clause_of taken ls)
    (clause_of (taken ++ to_literal l ∷ []) ls)))) other
    ∙ ap (λ b. formula_true v (cond b (clause_of taken ls) (clause_of (taken ++ to_literal l ∷ []) ls))) some
    ∙ more
    ∙ ap (λ b. b || list_any (lit_true v) ls) (list_any-append (literal_true v) taken (to_literal l ∷ []))
    ∙ ap (λ b. (clause_true v taken || (b || false)) || list_any (lit_true v) ls) (variable_of v l high)
    ∙ or_more (clause_true v taken) (lit_true v l) (list_any (lit_true v) ls)

pub clause_law : (v : ℕ → Bool) (taken : List ℤ) (ls : List ℕ)
    → formula_true v (clause_of taken ls) ≡ (clause_true v taken || list_any (lit_true v) ls)
clause_law v taken [] = or_false (clause_true v taken)
clause_law v taken (l ∷ ls) =
    clause_step v taken l ls (clause_law v taken ls) (clause_law v (taken ++ to_literal l ∷ []) ls)
    (cases_Bool (l == 1)) (cases_Bool (l == 0))

-- the complement of a literal has the other value
pub complement_law : (v : ℕ → Bool) (l : ℕ) → lit_true v (complement l) ≡ not (lit_true v l)
complement_law v l = elim (cases_Bool (l % 2 == 1)) [
  | inl odd ↦
      let e : (l - 1) % 2 ≡ 0 = omega (arith, eqb-true (l % 2) 1 odd) in
      let f : (l - 1) / 2 ≡ l / 2 = omega (arith, eqb-true (l % 2) 1 odd) in
      ap (λ b. lit_true v (cond b (l - 1) (l + 1))) odd ∙ ap (λ r. turned (r == 1) (at v ((l - 1) / 2))) e
      ∙ ap (at v) f ∙ twice (at v (l / 2)) ∙ ap (λ b. not (turned b (at v (l / 2)))) (sym odd)
  | inr even ↦
      let z : l % 2 ≡ 0 = rest_zero l even in
      let e : (l + 1) % 2 ≡ 1 = omega arith in
      let f : (l + 1) / 2 ≡ l / 2 = omega arith in
      ap (λ b. lit_true v (cond b (l - 1) (l + 1))) even ∙ ap (λ r. turned (r == 1) (at v ((l + 1) / 2))) e
      ∙ ap (λ k. not (at v k)) f ∙ ap (λ b. not (turned b (at v (l / 2)))) (sym even)
]
  where
    twice : (b : Bool) → b ≡ not (not b)
    twice true = refl
    twice false = refl

    rest_zero : (l : ℕ) → (l % 2 == 1) ≡ false → l % 2 ≡ 0
    rest_zero l h = elim (cases_eq (l % 2) 1) [ inl e ↦ absurd (eqb-false (l % 2) 1 h e) | inr ne ↦ omega arith ]

-- three clauses say that a literal is that of a and b
abbrev pub agree : Bool → Bool → Bool
agree true b = b
agree false b = not b

three : (l a b : Bool) → ((((not l || (a || false)) && (not l || (b || false))))
    && (l || (not a || (not b || false)))) ≡ agree l (a && b)
three true true true = refl
three true true false = refl
three true false true = refl
three true false false = refl
three false true true = refl
three false true false = refl
three false false true = refl
three false false false = refl

pub and_law : (v : ℕ → Bool) (l a b : ℕ)
    → formula_true v (and_clauses l a b) ≡ agree (lit_true v l) (lit_true v a && lit_true v b)
and_law v l a b =
    let T = clause_true v in
    let t = lit_true v in
    let P = clause_of [] (complement l ∷ a ∷ []) in
    let Q = clause_of [] (complement l ∷ b ∷ []) in
    let R = clause_of [] (l ∷ complement a ∷ complement b ∷ []) in
    list_all-append T (P ++ Q) R ∙ ap (λ c. c && formula_true v R) (list_all-append T P Q)
    ∙ ap (λ c. (c && formula_true v Q) && formula_true v R) (clause_law v [] (complement l ∷ a ∷ []))
    ∙ ap (λ c. ((t (complement l) || (t a || false)) && c) && formula_true v R)
    (clause_law v [] (complement l ∷ b ∷ []))
    ∙ ap (λ c. ((t (complement l) || (t a || false)) && (t (complement l) || (t b || false))) && c)
    (clause_law v [] (l ∷ complement a ∷ complement b ∷ []))
    ∙ ap (λ c. ((c || (t a || false)) && (c || (t b || false)))
    && (t l || (t (complement a) || (t (complement b) || false)))) (complement_law v l)
    ∙ ap (λ c. ((not (t l) || (t a || false)) && (not (t l) || (t b || false)))
    && (t l || (c || (t (complement b) || false)))) (complement_law v a)
    ∙ ap (λ c. ((not (t l) || (t a || false)) && (not (t l) || (t b || false)))
    && (t l || (not (t a) || (c || false)))) (complement_law v b)
    ∙ three (t l) (t a) (t b)

clauses-append : (k : ℕ) (gs hs : List AigNode)
    → clauses_from k (gs ++ hs) ≡ clauses_from k gs ++ clauses_from (k + length gs) hs
clauses-append k [] hs = let e : k ≡ k + 0 = omega arith in ap (λ j. clauses_from j hs) e
clauses-append k (g ∷ gs) hs =
    let e : k + 1 + length gs ≡ k + length (g ∷ gs) = omega arith in
    ap (λ cs. node_clauses k g ++ cs) (clauses-append (k + 1) gs hs
    ∙ ap (λ j. clauses_from (k + 1) gs ++ clauses_from j hs) e)
    ∙ sym (append_assoc (node_clauses k g) (clauses_from (k + 1) gs) (clauses_from (k + length (g ∷ gs)) hs))

-- ---- the loop over the nodes behind node 0

pub begun : (graph behind : List AigNode) → graph ≡ n.False ∷ behind
    → clauses_from (0 + 1) behind ≡ clauses_from 0 graph
begun graph behind e = ap (clauses_from 0) (sym e)

pub fits_begun : (graph behind : List AigNode) → graph ≡ n.False ∷ behind → IsGraph graph → AreFitting (0 + 1) 0 behind
fits_begun graph behind e whole =
    let P : List AigNode → Type 0 = λ gs. AreFitting 0 0 gs in
    let all : AreFitting 0 0 (n.False ∷ behind) = subst P e whole.fitting in all.1

pub clauses_next : (items : List AigNode) (i : ℕ) (d : AigNode) (so_far next all : List (List ℤ)) → i < length items
    → so_far ++ clauses_from (i + 1) (drop i items) ≡ all
    → next ≡ so_far ++ node_clauses (i + 1) (slice_index_or items i d)
    → next ++ clauses_from (i + 1 + 1) (drop (i + 1) items) ≡ all
clauses_next items i d so_far next all below left is =
    let g = slice_index_or items i d in
    ap (λ cs. cs ++ clauses_from (i + 1 + 1) (drop (i + 1) items)) is
    ∙ append_assoc so_far (node_clauses (i + 1) g) (clauses_from (i + 1 + 1) (drop (i + 1) items))
    ∙ ap (λ gs. so_far ++ clauses_from (i + 1) gs) (sym (drop_more items i d below)) ∙ left

pub fits_next : (items : List AigNode) (i k : ℕ) (d : AigNode) → i < length items → AreFitting (i + 1) k (drop i items)
    → (j : ℕ) × AreFitting (i + 1 + 1) j (drop (i + 1) items)
fits_next items i k d below h =
    let P : List AigNode → Type 0 = λ gs. AreFitting (i + 1) k gs in
    let here : AreFitting (i + 1) k (slice_index_or items i d ∷ drop (i + 1) items) = subst P
    (drop_more items i d below) h in
    (inputs_after k (slice_index_or items i d), here.1)

-- what is pushed in the end
pub all_clauses : (graph behind : List AigNode) (root i count : ℕ) (so_far next : List (List ℤ))
    → so_far ++ clauses_from (i + 1) (drop i behind) ≡ clauses_from 0 graph → length behind ≤ i → count ≡ length graph
    → next ≡ so_far ++ and_clauses (2 * count) root 1 → next ≡ clauses_before graph root
all_clauses graph behind root i count so_far next left past is e =
    let z : 0 + length graph ≡ count = omega (arith, is) in
    let done : so_far ≡ clauses_from 0 graph =
    sym (append-nil so_far) ∙ ap (λ gs. so_far ++ clauses_from (i + 1) gs) (sym (drop_all i behind past)) ∙ left in
    e ∙ ap (λ cs. cs ++ and_clauses (2 * count) root 1) done
    ∙ ap (λ cs. clauses_from 0 graph ++ cs) (sym (append-nil (and_clauses (2 * count) root 1)))
    ∙ ap (λ j. clauses_from 0 graph ++ clauses_from j (n.And root 1 ∷ [])) (sym z)
    ∙ sym (clauses-append 0 graph (n.And root 1 ∷ []))
