-- The two literals of a node.
use Rattle.std.specs.Prelude.{◌≡◌, refl, ℕ, ◌+◌, ◌-◌, ◌*◌, ◌/◌, ◌%◌, ◌<◌, ◌==◌, Bool, true, false, not, List}
use Rattle.std.specs.Prelude.{slice_index_or}
use Rattle.std.proofs.Common.{ap, sym, ◌∙◌, arith, inl, inr, ◌⊎◌}
use Rattle.std.proofs.lemmas.Bool.{cases_eq}
use Rattle.bb_aig.specs.declared.node.AigNode.{AigNode}
use Rattle.bb_aig.specs.Graph.{turned, literal, values_of, lit_at, IsLit}

odd_or_even : (l : ℕ) → (l % 2 ≡ 1) ⊎ (l % 2 ≡ 0)
odd_or_even l = elim (cases_eq (l % 2) 1) [ inl e ↦ inl e | inr ne ↦ inr (omega arith) ]

twice : (b : Bool) → b ≡ not (not b)
twice true = refl
twice false = refl

pub other_value : (vs : List Bool) (l k : ℕ) → l / 2 ≡ k / 2 → (l % 2 ≡ 1 → k % 2 ≡ 0) → (l % 2 ≡ 0 → k % 2 ≡ 1)
    → literal vs k ≡ not (literal vs l)
other_value vs l k e odd even = elim (odd_or_even l) [
  | inl o ↦
      ap (λ r. turned (r == 1) (slice_index_or vs (k / 2) false)) (odd o) ∙ ap (λ j. slice_index_or vs j false) (sym e)
      ∙ twice (slice_index_or vs (l / 2) false)
      ∙ ap (λ r. not (turned (r == 1) (slice_index_or vs (l / 2) false))) (sym o)
  | inr z ↦
      ap (λ r. turned (r == 1) (slice_index_or vs (k / 2) false)) (even z)
      ∙ ap (λ j. not (slice_index_or vs j false)) (sym e)
      ∙ ap (λ r. not (turned (r == 1) (slice_index_or vs (l / 2) false))) (sym z)
]

-- an odd literal and the even one before it
pub odd_turned : (graph : List AigNode) (x : ℕ → Bool) (l k : ℕ) → l % 2 ≡ 1 → k ≡ l - 1
    → lit_at graph x k ≡ not (lit_at graph x l)
odd_turned graph x l k o e =
    other_value (values_of graph x) l k (omega (arith, e, o)) (λ h. omega (arith, e, o)) (λ h. omega (arith, e, o))

-- and an even one with the odd one behind it
pub even_turned : (graph : List AigNode) (x : ℕ → Bool) (l k : ℕ) → (l % 2 ≡ 1 → ⊥) → k ≡ l + 1
    → lit_at graph x k ≡ not (lit_at graph x l)
even_turned graph x l k ne e =
    let z : l % 2 ≡ 0 = omega arith in
    other_value (values_of graph x) l k (omega (arith, e, z)) (λ h. omega (arith, e, z)) (λ h. omega (arith, e, z))

pub even_there : (graph : List AigNode) (l k : ℕ) → (l % 2 ≡ 1 → ⊥) → k ≡ l + 1 → IsLit graph l → IsLit graph k
even_there graph l k ne e h = let z : l % 2 ≡ 0 = omega arith in omega (arith, e, z, h)

pub ruleset others = (odd_turned, even_turned, even_there)
