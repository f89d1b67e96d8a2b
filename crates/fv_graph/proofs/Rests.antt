-- The nodes of a path up to a place.
use Rattle.std.specs.Prelude.{◌≡◌, refl, ℕ, zero, suc, ◌+◌, ◌<◌, List, [], ◌∷◌, ◌++◌, length, take}
use Rattle.std.proofs.Common.{ap, sym, ◌∙◌, arith, get_or}
use Rattle.fv_graph.specs.declared.state.Step.{Step}
use Rattle.fv_graph.specs.Walking.{nodes_of}

nodes_at : (path : List Step) (i : ℕ) (d : Step) → i < length path
    → nodes_of (take (suc i) path) ≡ nodes_of (take i path) ++ (get_or path i d).node ∷ []
nodes_at [] i d h = absurd (omega (arith, h))
nodes_at (x ∷ path) zero d h = refl
nodes_at (x ∷ path) (suc i) d h = ap (λ zs. x.node ∷ zs) (nodes_at path i d (omega (arith, h)))

pub one_more_node : (path : List Step) (i : ℕ) (d : Step) (found more : List ℕ) → i < length path
    → found ≡ nodes_of (take i path) → more ≡ found ++ (get_or path i d).node ∷ []
    → more ≡ nodes_of (take (i + 1) path)
one_more_node path i d found more h e f =
    let next : suc i ≡ i + 1 = omega arith in
    f ∙ ap (λ zs. zs ++ (get_or path i d).node ∷ []) e ∙ sym (nodes_at path i d h)
    ∙ ap (λ k. nodes_of (take k path)) next
