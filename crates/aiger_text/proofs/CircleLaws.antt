-- Where ranks don't rise, a node of which all targets have lower ranks is on no circle.
use Rattle.std.proofs.Common.{◌≡◌, ℕ, ◌+◌, ◌<◌, ◌≤◌, List, [], ◌∷◌, length, Some, ap, sym, ◌∙◌, subst, ◌⊎◌}
use Rattle.std.proofs.Common.{arith}
use Rattle.std.specs.Prelude.{slice_get, All}
use Rattle.std.proofs.lemmas.Bool.{cases_eq}
use Rattle.std.proofs.lemmas.Option.{slice_get_within, get_or_from_slice_get}
use Rattle.fv_graph.specs.Graph.{Leads, targets, IsChain, last_node}
use Rattle.aiger_text.specs.Circles.{IsOnCircle, NoneRises, NoneAbove, AllBelow, rank}
use Rattle.aiger_text.proofs.SearchLaws.{cases_of}
use Rattle.aiger_text.proofs.DependLaws.{leads_there}

chain_falls : (graph : List (List ℕ)) (ranks : List ℕ) → NoneRises graph ranks → (i : ℕ) (is : List ℕ)
    → IsChain graph i is → rank ranks (last_node i is) ≤ rank ranks i
chain_falls graph ranks n i [] c = omega arith
chain_falls graph ranks n i (j ∷ js) c =
    let first = n i j c.0 in
    let later = chain_falls graph ranks n j js c.1 in
    omega (arith, first, later)

-- what holds of all in a row holds of each target
at_target : (P : ℕ → Type 0) (graph : List (List ℕ)) (row : List ℕ) (i j : ℕ) → targets graph i ≡ row → All P row
    → Leads graph i j → P j
at_target P graph row i j t a l =
    let e : slice_get row l.0 ≡ Some j = ap (λ r. slice_get r l.0) (sym t) ∙ l.1 in
    subst P (get_or_from_slice_get row l.0 j 0 e) (a l.0 0 (slice_get_within row l.0 j e))

-- each target of a node has a lower rank
target_below : (graph : List (List ℕ)) (ranks row : List ℕ) (i j : ℕ) → targets graph i ≡ row
    → AllBelow ranks row (rank ranks i) → Leads graph i j → rank ranks j < rank ranks i
target_below graph ranks row i j t b l = at_target (λ k. rank ranks k < rank ranks i) graph row i j t b l

pub not_on_circle : (graph : List (List ℕ)) (ranks row : List ℕ) (i : ℕ) → NoneRises graph ranks
    → targets graph i ≡ row → AllBelow ranks row (rank ranks i) → IsOnCircle graph i → ⊥
not_on_circle graph ranks row i n t b c = by c.0 c.1.0 c.1.1 where
  by : (is : List ℕ) → IsChain graph i is → Leads graph (last_node i is) i → ⊥
  by [] d l = let h = target_below graph ranks row i i t b l in absurd (omega (arith, h))
  by (j ∷ js) d l =
      let first = target_below graph ranks row i j t b d.0 in
      let later = chain_falls graph ranks n j js d.1 in
      let back = n (last_node j js) i l in
      absurd (omega (arith, first, later, back))

-- ---- one row more

abbrev pub NoneRisesBelow : List (List ℕ) → List ℕ → ℕ → Type 0
NoneRisesBelow graph ranks n = (i j : ℕ) → i < n → Leads graph i j → rank ranks j ≤ rank ranks i

pub rises_more : (graph : List (List ℕ)) (ranks row : List ℕ) (n : ℕ) → targets graph n ≡ row
    → NoneAbove ranks row (rank ranks n) → NoneRisesBelow graph ranks n → NoneRisesBelow graph ranks (n + 1)
rises_more graph ranks row n t h before i j below lead = cases_of (cases_eq i n)
    (λ s. let l : Leads graph n j = subst (λ k. Leads graph k j) s lead in
    let r = at_target (λ k. rank ranks k ≤ rank ranks n) graph row n j t h l in
    subst (λ k. rank ranks j ≤ rank ranks k) (sym s) r)
    (λ d. let lower : i < n = omega (arith, below, d) in before i j lower lead)

pub rises_end : (graph : List (List ℕ)) (ranks : List ℕ) (n : ℕ) → length graph ≤ n → NoneRisesBelow graph ranks n
    → NoneRises graph ranks
rises_end graph ranks n past before i j lead =
    let l = leads_there graph i j lead in
    before i j (omega (arith, l, past)) lead

-- ---- one node more

abbrev pub NoneOnCircleBelow : List (List ℕ) → ℕ → Type 0
NoneOnCircleBelow graph n = (i : ℕ) → i < n → IsOnCircle graph i → ⊥

pub none_more : (graph : List (List ℕ)) (n : ℕ) → (IsOnCircle graph n → ⊥) → NoneOnCircleBelow graph n
    → NoneOnCircleBelow graph (n + 1)
none_more graph n none before i below c = cases_of (cases_eq i n) (λ s. none (subst (IsOnCircle graph) s c))
    (λ d. let lower : i < n = omega (arith, below, d) in before i lower c)

circle_there : (graph : List (List ℕ)) (i : ℕ) → IsOnCircle graph i → i < length graph
circle_there graph i c = by c.0 c.1.0 c.1.1 where
  by : (is : List ℕ) → IsChain graph i is → Leads graph (last_node i is) i → i < length graph
  by [] d l = leads_there graph i i l
  by (j ∷ js) d l = leads_there graph i j d.0

pub none_at_all : (graph : List (List ℕ)) (n : ℕ) → length graph ≤ n → NoneOnCircleBelow graph n
    → (i : ℕ) → IsOnCircle graph i → ⊥
none_at_all graph n past before i c =
    let l = circle_there graph i c in
    before i (omega (arith, l, past)) c
