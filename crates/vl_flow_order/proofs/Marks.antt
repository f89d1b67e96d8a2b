-- Marks of the groups that are visited.
use Rattle.std.specs.Prelude.{◌≡◌, refl, ℕ, zero, suc, ◌<◌, ◌+◌, ◌≤◌, ◌==◌, List, [], ◌∷◌, ◌++◌, slice_get}
use Rattle.std.specs.Prelude.{Bool, true, false, ◌&&◌, ◌||◌, Some, None, is_none}
use Rattle.std.proofs.Common.{ap, sym, ◌∙◌, arith, subst, true≢false, ◌⊎◌, inl, inr}
use Rattle.std.proofs.lemmas.Bool.{and_parts, and_from, cases_order, or_cases}
use Rattle.std.proofs.lemmas.Bool.Decides.{nat_tests}
use Rattle.std.proofs.lemmas.Nat.Bits.{bit_at_above}
use Rattle.std.proofs.lemmas.Option.{same_Some}
use Rattle.std.specs.Int.{bit_at}
use Rattle.fv_bit_sets.specs.declared.step.Step.{Step}
use Rattle.fv_bit_sets.specs.Cells.{has, is_set, IsBare}
use Rattle.fv_graph.proofs.Lists.{get_less}
use Rattle.vl_flow_order.specs.declared.reads_groups.Groups.{Groups}
use Rattle.vl_flow_order.specs.declared.visit.Visit.{Visit}
use Rattle.vl_flow_order.specs.Visits.{AreVisits}
use Rattle.vl_flow_order.specs.Sets.{some_has}
use Rattle.vl_flow_order.specs.Named.{AreMarks, AreNamesOf, HasBitOf, IsMark, some_visits}
use Rattle.vl_flow_order.proofs.Halves.{some_append}
use Rattle.vl_flow_order.proofs.Tests.{or_none, and_or}

pub visits_append : (vs ws : List Visit) (g : ℕ) → some_visits (vs ++ ws) g ≡ (some_visits vs g || some_visits ws g)
visits_append [] ws g = refl
visits_append (v ∷ vs) ws g =
    ap (λ b. (g == v.group) || b) (visits_append vs ws g)
    ∙ sym (assoc (g == v.group) (some_visits vs g) (some_visits ws g))
  where
    assoc : (a b c : Bool) → ((a || b) || c) ≡ (a || (b || c))
    assoc true b c = refl
    assoc false b c = refl

pub no_marks : (marks : List (List Step)) → marks ≡ [] → AreMarks [] marks
no_marks marks e c i = ap (λ ms. some_has ms c i) e

pub one_mark_more : (vs : List Visit) (v : Visit) (marks more : List (List Step)) (mark : List Step)
    → AreMarks vs marks → IsMark v.group mark → more ≡ marks ++ mark ∷ [] → AreMarks (vs ++ v ∷ []) more
one_mark_more vs v marks more mark were is e c i =
    ap (λ ms. some_has ms c i) e ∙ some_append marks (mark ∷ []) c i
    ∙ (λ j. were c i j || (is c i j || false))
    ∙ ap (λ b. (some_visits vs c && (i == 0)) || b) (or_none ((c == v.group) && (i == 0)))
    ∙ and_or (some_visits vs c) (c == v.group) (i == 0)
    ∙ ap (λ b. (some_visits vs c || b) && (i == 0)) (sym (or_none (c == v.group)))
    ∙ ap (λ b. b && (i == 0)) (sym (visits_append vs (v ∷ []) c))

-- ---- the groups that have bits

visit_found : (vs : List Visit) (g : ℕ) → some_visits vs g ≡ true
    → (m : ℕ) × (v : Visit) × (slice_get vs m ≡ Some v) × (g ≡ v.group)
visit_found [] g h = absurd (true≢false (sym h))
visit_found (v ∷ vs) g h = by (visit_found vs g) (or_cases (g == v.group) (some_visits vs g) h)
  where
    by : (some_visits vs g ≡ true → (m : ℕ) × (w : Visit) × (slice_get vs m ≡ Some w) × (g ≡ w.group))
        → ((g == v.group) ≡ true) ⊎ (some_visits vs g ≡ true)
        → (m : ℕ) × (w : Visit) × (slice_get (v ∷ vs) m ≡ Some w) × (g ≡ w.group)
    by f (inl t) = (0, v, refl, grind (arith, nat_tests, t))
    by f (inr t) = let r = f t in (suc r.0, r.1, r.2, r.3)

visit_there : (vs : List Visit) (m : ℕ) (v : Visit) → slice_get vs m ≡ Some v → some_visits vs v.group ≡ true
visit_there [] m v e = absurd (true≢false (ap is_none e))
visit_there (w ∷ vs) zero v e =
    let same : (v.group == w.group) ≡ true = grind (arith, nat_tests, ap (λ z. z.group) (same_Some w v e)) in
    ap (λ b. b || some_visits vs v.group) same
visit_there (w ∷ vs) (suc m) v e = right (v.group == w.group) (some_visits vs v.group) (visit_there vs m v e)
  where
    right : (a b : Bool) → b ≡ true → (a || b) ≡ true
    right true b h = refl
    right false b h = h

pub names_of : (groups : Groups) (bits made : List Step) (visits found : List Visit) (marks all : List (List Step))
    → AreVisits groups bits visits None → found ≡ visits → AreMarks found marks → all ≡ marks
    → ((c i : ℕ) → has made c i ≡ some_has all c i) → AreNamesOf groups bits made
names_of groups bits made visits found marks all are same marked whole is = record {
  some = λ g h. some g (visit_found visits g (parts g 0 (sym (is_marked g 0) ∙ h)).0);
  all = λ g h. is_marked g 0 ∙ and_from (some_visits visits g) (0 == 0) (all_there g h) refl;
  alone = λ g i less. is_marked g i ∙ none (some_visits visits g) (i == 0) (grind (arith, nat_tests, less));
}
  where
    is_marked : (g i : ℕ) → has made g i ≡ (some_visits visits g && (i == 0))
    is_marked g i = is g i ∙ ap (λ ms. some_has ms g i) whole ∙ marked g i
        ∙ ap (λ vs. some_visits vs g && (i == 0)) same

    parts : (g i : ℕ) → (some_visits visits g && (i == 0)) ≡ true → (some_visits visits g ≡ true) × ((i == 0) ≡ true)
    parts g i h = and_parts (some_visits visits g) (i == 0) h

    none : (a b : Bool) → b ≡ false → (a && b) ≡ false
    none true b h = h
    none false b h = refl

    some : (g : ℕ) → ((m : ℕ) × (v : Visit) × (slice_get visits m ≡ Some v) × (g ≡ v.group)) → HasBitOf groups bits g
    some g r =
        let stands = are.each r.0 r.1 r.2 in
        let set = are.set r.0 r.1 r.2 in record {
          cell = r.1.first;
          bit = set.0;
          of = stands.group ∙ ap Some (sym r.3);
          has_it = set.1;
        }

    all_there : (g : ℕ) → HasBitOf groups bits g → some_visits visits g ≡ true
    all_there g h =
        let r = are.all h.cell h.bit tt (get_less groups.of_cells h.cell g h.of) h.has_it in
        let stands = are.each r.0 r.1 r.2 in
        let here = groups.kept.same r.1.first h.cell r.1.group r.1.past stands.group stands.past r.3 r.4 in
        subst (λ k. some_visits visits k ≡ true) (same_Some r.1.group g (sym here ∙ h.of)) (visit_there visits r.0 r.1 r.2)

-- ---- a mark

pub mark_is : (made : List Step) (group first : ℕ) → first ≡ group
    → ((c i : ℕ) → first ≤ c → c < first + 1 → has made c i ≡ is_set 1 i)
    → ((c : ℕ) → c < first → IsBare made c) → ((c : ℕ) → first + 1 ≤ c → IsBare made c) → IsMark group made
mark_is made group first e inside before behind c i = by (cases_order c first)
  where
    lowest : (j : ℕ) → is_set 1 j ≡ (j == 0)
    lowest zero = refl
    lowest (suc j) =
        let none : bit_at 1 (suc j) ≡ 0 = bit_at_above 1 1 (suc j) (omega arith) (omega arith) in
        let above : (suc j == 0) ≡ false = grind (arith, nat_tests) in ap (λ z. z == 1) none ∙ sym above

    other : (c == group) ≡ false → has made c i ≡ false → has made c i ≡ ((c == group) && (i == 0))
    other f h = h ∙ sym (ap (λ b. b && (i == 0)) f)

    by : (c ≡ first) ⊎ ((c < first) ⊎ (first < c)) → has made c i ≡ ((c == group) && (i == 0))
    by (inl same) =
        let here : (c == group) ≡ true = grind (arith, nat_tests, same, e) in
        inside c i (omega (arith, same)) (omega (arith, same)) ∙ lowest i ∙ sym (ap (λ b. b && (i == 0)) here)
    by (inr (inl less)) =
        other (grind (arith, nat_tests, less, e)) (before c less i)
    by (inr (inr more)) =
        other (grind (arith, nat_tests, more, e)) (behind c (omega (arith, more)) i)
