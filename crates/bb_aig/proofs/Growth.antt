-- Graphs to which gates are added, and literals that keep their meaning.
use Rattle.std.specs.Prelude.{◌≡◌, refl, ℕ, zero, suc, ◌+◌, ◌-◌, ◌*◌, ◌/◌, ◌%◌, ◌<◌, ◌≤◌, ◌==◌, Bool, true, false}
use Rattle.std.specs.Prelude.{not, ◌&&◌, ◌||◌, List, [], ◌∷◌, ◌++◌, length, take, map, slice_index_or, Result, Ok}
use Rattle.std.specs.Prelude.{Err, IfOk, OnErr}
use Rattle.std.proofs.Common.{ap, sym, ◌∙◌, arith, subst, inl, inr, ◌⊎◌}
use Rattle.std.proofs.lemmas.List.{take_all, take_at, take-take, length-take, length_push, map_push}
use Rattle.std.proofs.lemmas.Bool.{cases_Bool, cases_eq, eqb-true, eqb-false}
use Rattle.bb_aig.specs.declared.node.AigNode.{AigNode}
use Rattle.bb_aig.specs.declared.node.AigNode.TheVariants as n
use Rattle.bb_aig.specs.Graph.{is_negated, turned, literal, value, values_of, lit_at, IsLit, IsGraph, inputs_after}
use Rattle.bb_aig.specs.Graph.{inputs_of, count_inputs, Adds}
use Rattle.fv_text.specs.declared.memory.Memory.{Memory}
use Rattle.bb_aig.specs.Bits.{differ, pick}
use Rattle.bb_aig.specs.Gates.{Meaning, Meanings, Grows, IsMade, AreLits, bits, AreMade, Both}
use Rattle.bb_aig.proofs.Values.{count_push}
use Rattle.bb_aig.proofs.AigGates.{first_value}
use Rattle.bb_aig.proofs.Others.{other_value}

pub grows_none : (graph : List AigNode) → Grows graph graph
grows_none graph = record {
  begun = take_all (length graph) graph (omega arith);
  longer = omega arith;
  counted = refl;
  kept = λ x l h. refl;
}

pub lit_on : (old new : List AigNode) (l : ℕ) → Grows old new → IsLit old l → IsLit new l
lit_on old new l g h = omega (arith, g.longer, h)

pub grows_on : (a b c : List AigNode) → Grows a b → Grows b c → Grows a c
grows_on a b c h k = record {
  begun = sym (take-take (length a) (length b) c h.longer) ∙ ap (take (length a)) k.begun ∙ h.begun;
  longer = omega (arith, h.longer, k.longer);
  counted = k.counted ∙ h.counted;
  kept = λ x l there. k.kept x l (lit_on a b l h there) ∙ h.kept x l there;
}

-- a gate
pub grows_gate : (old new : List AigNode) (a b l : ℕ) → Adds old new (n.And a b) l → Grows old new
grows_gate old new a b l h =
    let gate = n.And a b in
    record {
      begun = ap (take (length old)) h.nodes ∙ take_at old (gate ∷ []) (length old) refl;
      longer = omega (arith, ap length h.nodes, length_push old gate);
      counted = ap inputs_of h.nodes ∙ count_push 0 old gate;
      kept = h.kept;
    }

pub made_on : (old new : List AigNode) (f : Meaning) (l : ℕ) → Grows old new → IsMade old f l → IsMade new f l
made_on old new f l g h = record { there = lit_on old new l g h.there; value = λ x. g.kept x l h.there ∙ h.value x }

pub made_by : (graph : List AigNode) (f h : Meaning) (l : ℕ) → ((x : ℕ → Bool) → f x ≡ h x) → IsMade graph f l
    → IsMade graph h l
made_by graph f h l e m = record { there = m.there; value = λ x. m.value x ∙ e x }

-- a gate means both
pub made_gate : (old new : List AigNode) (a b l : ℕ) (f h : Meaning) → Adds old new (n.And a b) l → IsMade old f a
    → IsMade old h b
    → IsMade new (λ x. f x && h x) l
made_gate old new a b l f h add p q = record {
  there = omega (arith, ap length add.nodes, length_push old (n.And a b), add.place);
  value = λ x.
      add.value x ∙ ap (λ v. v && lit_at old x b) (p.value x) ∙ ap (λ v. f x && v) (q.value x);
}

-- the other literal
pub made_other : (graph : List AigNode) (f : Meaning) (l k : ℕ) → (IsLit graph l → IsLit graph k)
    → ((x : ℕ → Bool) → lit_at graph x k ≡ not (lit_at graph x l)) → IsMade graph f l → IsMade graph (λ x. not (f x)) k
made_other graph f l k there turned m = record { there = there m.there; value = λ x. turned x ∙ ap not (m.value x) }

-- constants
pub made_false : (graph : List AigNode) → IsGraph graph → 1 ≤ length graph → IsMade graph (λ x. false) 0
made_false graph g some = record { there = omega arith; value = λ x. first_value graph x g.begins }

pub made_true : (graph : List AigNode) → IsGraph graph → 1 ≤ length graph → IsMade graph (λ x. true) 1
made_true graph g some = record { there = omega arith; value = λ x. ap not (first_value graph x g.begins) }

and_true : (b : Bool) → (b && true) ≡ b
and_true true = refl
and_true false = refl

and_false : (b : Bool) → (b && false) ≡ false
and_false true = refl
and_false false = refl

and_same : (b : Bool) → (b && b) ≡ b
and_same true = refl
and_same false = refl

and_not : (b : Bool) → (b && not b) ≡ false
and_not true = refl
and_not false = refl

pub both_left_0 : (graph : List AigNode) (a b : ℕ) → IsGraph graph → a ≡ 0 → Both graph a b a
both_left_0 graph a b g e x =
    let z : lit_at graph x a ≡ false = ap (lit_at graph x) e ∙ first_value graph x g.begins in
    z ∙ sym (ap (λ v. v && lit_at graph x b) z)

pub both_left_1 : (graph : List AigNode) (a b : ℕ) → IsGraph graph → a ≡ 1 → Both graph a b b
both_left_1 graph a b g e x =
    let z : lit_at graph x a ≡ true = ap (lit_at graph x) e ∙ ap not (first_value graph x g.begins) in
    sym (ap (λ v. v && lit_at graph x b) z)

pub both_right_0 : (graph : List AigNode) (a b : ℕ) → IsGraph graph → b ≡ 0 → Both graph a b b
both_right_0 graph a b g e x =
    let z : lit_at graph x b ≡ false = ap (lit_at graph x) e ∙ first_value graph x g.begins in
    z ∙ sym (ap (λ v. lit_at graph x a && v) z ∙ and_false (lit_at graph x a))

pub both_right_1 : (graph : List AigNode) (a b : ℕ) → IsGraph graph → b ≡ 1 → Both graph a b a
both_right_1 graph a b g e x =
    let z : lit_at graph x b ≡ true = ap (lit_at graph x) e ∙ ap not (first_value graph x g.begins) in
    sym (ap (λ v. lit_at graph x a && v) z ∙ and_true (lit_at graph x a))

pub both_same : (graph : List AigNode) (a b : ℕ) → a ≡ b → Both graph a b a
both_same graph a b e x = sym (ap (λ l. lit_at graph x a && lit_at graph x l) (sym e) ∙ and_same (lit_at graph x a))

pub both_other : (graph : List AigNode) (a b : ℕ) → IsGraph graph → a / 2 ≡ b / 2 → (a ≡ b → ⊥) → Both graph a b 0
both_other graph a b g e ne x =
    first_value graph x g.begins
    ∙ sym (ap (λ v. lit_at graph x a && v) (other_value (values_of graph x) a b e (λ o. omega arith)
    (λ z. omega arith)) ∙ and_not (lit_at graph x a))

pub made_both : (graph : List AigNode) (a b l : ℕ) (f h : Meaning) → IsLit graph l → Both graph a b l
    → IsMade graph f a → IsMade graph h b
    → IsMade graph (λ x. f x && h x) l
made_both graph a b l f h there e p q = record {
  there = there;
  value = λ x. e x ∙ ap (λ v. v && lit_at graph x b) (p.value x) ∙ ap (λ v. f x && v) (q.value x);
}

pub grows_result : (old new : List AigNode) (a b : ℕ) (r : Result ℕ Memory) → IfOk r (Adds old new (n.And a b))
    → OnErr r (new ≡ old) → Grows old new
grows_result old new a b (Ok l) h k = grows_gate old new a b l h
grows_result old new a b (Err e) h k =
    let P : List AigNode → Type 0 = λ g. Grows old g in subst P (sym k) (grows_none old)

pub made_self : (graph : List AigNode) (l : ℕ) → IsLit graph l → IsMade graph (λ x. lit_at graph x l) l
made_self graph l h = record { there = h; value = λ x. refl }

pub or_of : (a b : Bool) → not (not a && not b) ≡ (a || b)
or_of true b = refl
or_of false true = refl
or_of false false = refl

pub two_of : (a b : Bool) → (not (a && b) && not (not a && not b)) ≡ differ a b
two_of true true = refl
two_of true false = refl
two_of false true = refl
two_of false false = refl

pub pick_of : (t a b : Bool) → ((t && a) || (not t && b)) ≡ pick t a b
pick_of true true b = refl
pick_of true false b = refl
pick_of false a b = refl

pub and_turned : (a b : Bool) → (b && a) ≡ (a && b)
and_turned true true = refl
and_turned true false = refl
and_turned false true = refl
and_turned false false = refl
