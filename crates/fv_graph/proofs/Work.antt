-- Each turn of a walk leaves less to do.
use Rattle.std.specs.Prelude.{◌≡◌, refl, ℕ, zero, suc, ◌+◌, ◌-◌, ◌<◌, List, [], ◌∷◌}
use Rattle.std.specs.Prelude.{◌++◌, length}
use Rattle.std.specs.Prelude.{Some, is_none, slice_get, slice_set}
use Rattle.std.proofs.Common.{ap, arith, true≢false}
use Rattle.std.proofs.lemmas.Option.{same_Some}
use Rattle.fv_graph.specs.declared.state.Progress.{Progress}
use Rattle.fv_graph.specs.declared.state.Progress.TheVariants as p
use Rattle.fv_graph.specs.declared.state.Step.{Step}
use Rattle.fv_graph.specs.Graph.{targets}
use Rattle.fv_graph.specs.Walking.{waiting, remaining, work}
use Rattle.fv_graph.proofs.Lists.{get_less}
use Rattle.fv_graph.proofs.Moves.{further, begun}

-- ---- nodes that are new

abbrev weight : Progress → List ℕ → ℕ
weight p.New r = length r + 1
weight p.Open r = 0
weight p.Done r = 0

waiting_first : (x : Progress) (xs : List Progress) (r : List ℕ) (rows : List (List ℕ))
    → waiting (x ∷ xs) (r ∷ rows) ≡ weight x r + waiting xs rows
waiting_first p.New xs r rows = refl
waiting_first p.Open xs r rows = omega arith
waiting_first p.Done xs r rows = omega arith

waiting_set : (ps : List Progress) (g : List (List ℕ)) (i : ℕ) (x y : Progress) → length ps ≡ length g
    → slice_get ps i ≡ Some x
    → waiting (slice_set ps i y) g + weight x (targets g i) ≡ waiting ps g + weight y (targets g i)
waiting_set [] g i x y same e = absurd (true≢false (ap is_none e))
waiting_set (z ∷ zs) [] i x y same e = absurd (omega (arith, same))
waiting_set (z ∷ zs) (r ∷ rows) zero x y same e =
    let is : weight z r ≡ weight x r = ap (λ q. weight q r) (same_Some z x e) in
    omega (arith, waiting_first y zs r rows, waiting_first z zs r rows, is)
waiting_set (z ∷ zs) (r ∷ rows) (suc i) x y same e =
    let rest = waiting_set zs rows i x y (omega (arith, same)) e in
    omega (arith, waiting_first z (slice_set zs i y) r rows, waiting_first z zs r rows, rest)

pub waiting_opened : (ps : List Progress) (g : List (List ℕ)) (i : ℕ) → length ps ≡ length g
    → slice_get ps i ≡ Some p.New → waiting (slice_set ps i p.Open) g + length (targets g i) + 1 ≡ waiting ps g
waiting_opened ps g i same e = let h = waiting_set ps g i p.New p.Open same e in omega (arith, h)

pub waiting_done : (ps : List Progress) (g : List (List ℕ)) (i : ℕ) → length ps ≡ length g
    → slice_get ps i ≡ Some p.Open → waiting (slice_set ps i p.Done) g ≡ waiting ps g
waiting_done ps g i same e = let h = waiting_set ps g i p.Open p.Done same e in omega (arith, h)

-- ---- the path

pub remaining_more : (g : List (List ℕ)) (path : List Step) (s : Step)
    → remaining g (path ++ s ∷ []) ≡ remaining g path + (length (targets g s.node) - s.next + 1)
remaining_more g [] s = omega arith
remaining_more g (x ∷ path) s = let h = remaining_more g path s in omega (arith, h)

-- ---- turns

pub less_passed : (g : List (List ℕ)) (ps : List Progress) (front : List Step) (s : Step) (t : ℕ)
    → slice_get (targets g s.node) s.next ≡ Some t
    → work g ps (front ++ further s ∷ []) < work g ps (front ++ s ∷ [])
less_passed g ps front s t e =
    let less = get_less (targets g s.node) s.next t e in
    omega (arith, less, remaining_more g front (further s), remaining_more g front s)

pub less_opened : (g : List (List ℕ)) (ps : List Progress) (front : List Step) (s : Step) (t : ℕ) → length ps ≡ length g
    → slice_get (targets g s.node) s.next ≡ Some t → slice_get ps t ≡ Some p.New
    → work g (slice_set ps t p.Open) ((front ++ further s ∷ []) ++ begun t ∷ []) < work g ps (front ++ s ∷ [])
less_opened g ps front s t same e new =
    let less = get_less (targets g s.node) s.next t e in
    omega (
      arith,
      less,
      remaining_more g (front ++ further s ∷ []) (begun t),
      remaining_more g front (further s),
      remaining_more g front s,
      waiting_opened ps g t same new,
    )

pub less_done : (g : List (List ℕ)) (ps : List Progress) (front : List Step) (s : Step) → length ps ≡ length g
    → slice_get ps s.node ≡ Some p.Open
    → work g (slice_set ps s.node p.Done) front < work g ps (front ++ s ∷ [])
less_done g ps front s same is = omega (arith, remaining_more g front s, waiting_done ps g s.node same is)
