-- What each turn comes to, in the words of its function.
use Rattle.std.specs.Prelude.{◌≡◌, refl, false, ℕ, suc, ◌<◌, List, [], ◌∷◌, ◌++◌}
use Rattle.std.specs.Prelude.{length, Some, None, slice_get, slice_set}
use Rattle.std.proofs.Common.{ap, sym, ◌∙◌, arith, get_or, subst, true≢false, ◌⊎◌, inl, inr}
use Rattle.std.proofs.lemmas.Option.{same_Some, slice_get-get_or}
use Rattle.fv_graph.specs.declared.state.Progress.{Progress}
use Rattle.fv_graph.specs.declared.state.Progress.TheVariants as p
use Rattle.fv_graph.specs.declared.state.Step.{Step}
use Rattle.fv_graph.specs.Graph.{targets, Leads, IsSimpleCircle}
use Rattle.fv_graph.specs.Walking.{Walks, AreFewer, nodes_from, work}
use Rattle.fv_graph.proofs.Circles.{closes, from_once}
use Rattle.fv_graph.proofs.Lists.{get_set, get_unset, get_less, get_last, get_front, get_cases, length_more}
use Rattle.fv_graph.proofs.Moves.{is_new, same_or_not, further, begun, begins, passes, opens, finishes}
use Rattle.fv_graph.proofs.Work.{less_passed, less_opened, less_done}

-- a node that is written isn't new
pub fewer_set : (ps : List Progress) (t : ℕ) (x : Progress) → t < length ps → is_new x ≡ false
    → AreFewer ps (slice_set ps t x)
fewer_set ps t x less old i e = by (same_or_not i t)
  where
    by : (i ≡ t) ⊎ (i ≡ t → ⊥) → slice_get ps i ≡ Some p.New
    by (inl same) =
        let here : slice_get (slice_set ps t x) i ≡ Some x = ap (slice_get (slice_set ps t x)) same ∙ get_set ps t x less in
        absurd (true≢false (ap is_new (sym (same_Some x p.New (sym here ∙ e))) ∙ old))
    by (inr other) = sym (get_unset ps t i x other) ∙ e

-- a progress that was read
pub stands_as : (g : List (List ℕ)) (ps qs : List Progress) (t : ℕ) (x : Progress) → length ps ≡ length g
    → t < length g → qs ≡ ps → get_or qs t p.New ≡ x → slice_get ps t ≡ Some x
stands_as g ps qs t x size within same read =
    let less : t < length ps = omega (arith, size, within) in
    slice_get-get_or ps t p.New less ∙ ap (λ xs. Some (get_or xs t p.New)) (sym same) ∙ ap Some read

-- a node on the path is one of the graph
pub node_within : (g : List (List ℕ)) (ps : List Progress) (path : List Step) (done : List ℕ) (s : Step)
    → Walks g ps (path ++ s ∷ []) done → s.node < length g
node_within g ps path done s w =
    let less = get_less ps s.node p.Open (w.standing (length path) s (get_last path s)) in
    omega (arith, less, w.size)

module _ (g : List (List ℕ)) (ps : List Progress) (path : List Step) (done : List ℕ) (s : Step)
    (w : Walks g ps (path ++ s ∷ []) done) where
  abbrev Less : List Progress → List Step → List ℕ → Type 0
  Less qs trail ended = Walks g qs trail ended × (work g qs trail < work g ps (path ++ s ∷ [])) × AreFewer ps qs

  pub to_done : (t : ℕ) → slice_get (targets g s.node) s.next ≡ Some t → slice_get ps t ≡ Some p.Done
      → (qs : List Progress) (trail : List Step) (ended : List ℕ) → qs ≡ ps → trail ≡ path ++ further s ∷ []
      → ended ≡ done → Less qs trail ended
  to_done t target is qs trail ended e f h =
      subst (λ x. Less x trail ended) (sym e) (subst (λ x. Less ps x ended) (sym f)
      (subst (λ x. Less ps (path ++ further s ∷ []) x) (sym h)
      (passes g ps done path s w t target is, less_passed g ps path s t target, λ i e. e)))

  pub to_new : (t : ℕ) → slice_get (targets g s.node) s.next ≡ Some t → slice_get ps t ≡ Some p.New
      → (qs : List Progress) (trail : List Step) (ended : List ℕ) → qs ≡ slice_set ps t p.Open
      → trail ≡ (path ++ further s ∷ []) ++ begun t ∷ [] → ended ≡ done → Less qs trail ended
  to_new t target new qs trail ended e f h =
      subst (λ x. Less x trail ended) (sym e) (subst (λ x. Less (slice_set ps t p.Open) x ended) (sym f)
      (subst (λ x. Less (slice_set ps t p.Open) ((path ++ further s ∷ []) ++ begun t ∷ []) x) (sym h) (
        opens g ps done path s w t target new,
        less_opened g ps path s t w.size target new,
        fewer_set ps t p.Open (get_less ps t p.New new) refl,
      )))

  pub to_end : slice_get (targets g s.node) s.next ≡ None
      → (qs : List Progress) (trail : List Step) (ended : List ℕ) → qs ≡ slice_set ps s.node p.Done → trail ≡ path
      → ended ≡ done ++ s.node ∷ [] → Less qs trail ended
  to_end none qs trail ended e f h =
      subst (λ x. Less x trail ended) (sym e) (subst (λ x. Less (slice_set ps s.node p.Done) x ended) (sym f)
      (subst (λ x. Less (slice_set ps s.node p.Done) path x) (sym h) (
        finishes g ps done path s w none,
        less_done g ps path s w.size (w.standing (length path) s (get_last path s)),
        fewer_set ps s.node p.Done (get_less ps s.node p.Open (w.standing (length path) s (get_last path s))) refl,
      )))

  pub to_open : (t : ℕ) → slice_get (targets g s.node) s.next ≡ Some t → slice_get ps t ≡ Some p.Open
      → (trail : List Step) → trail ≡ path ++ further s ∷ [] → IsSimpleCircle g (nodes_from trail t)
  to_open t target is trail f =
      subst (λ x. IsSimpleCircle g (nodes_from x t)) (sym f)
      (circle (w.opened t is))
    where
      moved : List Step
      moved = path ++ further s ∷ []

      older : (a : ℕ) (x : Step) → slice_get moved a ≡ Some x
          → (y : Step) × (slice_get (path ++ s ∷ []) a ≡ Some y) × (y.node ≡ x.node)
      older a x e = by (get_cases path (further s) a x e)
        where
          by : (slice_get path a ≡ Some x) ⊎ ((a ≡ length path) × (further s ≡ x))
              → (y : Step) × (slice_get (path ++ s ∷ []) a ≡ Some y) × (y.node ≡ x.node)
          by (inl h) = (x, get_front path s a x h, refl)
          by (inr h) = (s, ap (slice_get (path ++ s ∷ [])) h.0 ∙ get_last path s, ap (λ z. z.node) h.1)

      newer : (a : ℕ) (x : Step) → slice_get (path ++ s ∷ []) a ≡ Some x
          → (y : Step) × (slice_get moved a ≡ Some y) × (y.node ≡ x.node)
      newer a x e = by (get_cases path s a x e)
        where
          by : (slice_get path a ≡ Some x) ⊎ ((a ≡ length path) × (s ≡ x))
              → (y : Step) × (slice_get moved a ≡ Some y) × (y.node ≡ x.node)
          by (inl h) = (x, get_front path (further s) a x h, refl)
          by (inr h) = (further s, ap (slice_get moved) h.0 ∙ get_last path (further s), ap (λ z. z.node) h.1)

      follows : (a : ℕ) (x y : Step) → slice_get moved a ≡ Some x → slice_get moved (suc a) ≡ Some y
          → Leads g x.node y.node
      follows a x y e f =
          let q = older a x e in
          let r = older (suc a) y f in
          subst (λ m. Leads g m y.node) q.2 (subst (λ m. Leads g q.0.node m) r.2 (w.follows a q.0 r.0 q.1 r.1))

      apart : (a b : ℕ) (x y : Step) → slice_get moved a ≡ Some x → slice_get moved b ≡ Some y → x.node ≡ y.node
          → a ≡ b
      apart a b x y e f same =
          let q = older a x e in
          let r = older b y f in w.apart a b q.0 r.0 q.1 r.1 (q.2 ∙ same ∙ sym r.2)

      circle : (a : ℕ) × (x : Step) × (slice_get (path ++ s ∷ []) a ≡ Some x) × (x.node ≡ t)
          → IsSimpleCircle g (nodes_from moved t)
      circle r =
          let n = newer r.0 r.1 r.2 in (
            closes g moved t follows r.0 n.0 n.1 (n.2 ∙ r.3) (λ b x e f.
                let last : b ≡ length path = omega (arith, e, length_more path (further s)) in
                let same : further s ≡ x =
                same_Some (further s) x (sym (get_last path (further s)) ∙ ap (slice_get moved) (sym last) ∙ f) in
                subst (λ m. Leads g m t) (ap (λ z. z.node) same) (s.next, target)),
            from_once moved t apart,
          )

-- ---- a new node on an empty path, and the end

pub begun_walk : (g : List (List ℕ)) (ps : List Progress) (path : List Step) (done : List ℕ) (t : ℕ)
    → Walks g ps path done → path ≡ [] → slice_get ps t ≡ Some p.New
    → (qs : List Progress) (trail : List Step) (ended : List ℕ) → qs ≡ slice_set ps t p.Open
    → trail ≡ path ++ begun t ∷ [] → ended ≡ done → Walks g qs trail ended
begun_walk g ps path done t w empty new qs trail ended e f h =
    subst (λ x. Walks g x trail ended) (sym e)
    (subst (λ x. Walks g (slice_set ps t p.Open) x ended) (sym (f ∙ ap (λ x. x ++ begun t ∷ []) empty))
    (subst (λ x. Walks g (slice_set ps t p.Open) (begun t ∷ []) x) (sym h)
    (begins g ps done (subst (λ x. Walks g ps x done) empty w) t new)))

pub fewer_both : (ps qs rs : List Progress) → AreFewer ps qs → AreFewer qs rs → AreFewer ps rs
fewer_both ps qs rs f h i e = f i (h i e)

-- a node that was opened isn't new
pub no_more_new : (ps qs rs : List Progress) (t : ℕ) → slice_get ps t ≡ Some p.New → qs ≡ slice_set ps t p.Open
    → AreFewer qs rs → slice_get rs t ≡ Some p.New → ⊥
no_more_new ps qs rs t new e f h =
    let here : slice_get qs t ≡ Some p.Open =
    ap (λ x. slice_get x t) e ∙ get_set ps t p.Open (get_less ps t p.New new) in
    absurd (true≢false (ap is_new (sym (same_Some p.Open p.New (sym here ∙ f t h)))))

pub fewer_opened : (ps qs : List Progress) (t : ℕ) → slice_get ps t ≡ Some p.New → qs ≡ slice_set ps t p.Open
    → AreFewer ps qs
fewer_opened ps qs t new e =
    subst (AreFewer ps) (sym e) (fewer_set ps t p.Open (get_less ps t p.New new) refl)
