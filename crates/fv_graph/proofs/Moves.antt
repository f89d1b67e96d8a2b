-- What each turn of a walk keeps: a new node is put on the path, a target that is done is passed, and a node without
-- further targets is done.
use Rattle.std.specs.Prelude.{◌≡◌, refl, ℕ, zero, suc, ◌+◌, ◌<◌, ◌≤◌, ◌==◌, List, []}
use Rattle.std.specs.Prelude.{◌∷◌, ◌++◌, length, Bool, true}
use Rattle.std.specs.Prelude.{false, ◌||◌, Option, Some, None, is_none, slice_get, slice_set}
use Rattle.std.proofs.Common.{ap, sym, ◌∙◌, arith, subst, true≢false, ◌⊎◌, inl, inr}
use Rattle.std.proofs.lemmas.Bool.Decides.{nat_tests}
use Rattle.std.proofs.lemmas.Option.{same_Some}
use Rattle.fv_graph.specs.declared.state.Progress.{Progress}
use Rattle.fv_graph.specs.declared.state.Progress.TheVariants as p
use Rattle.fv_graph.specs.declared.state.Step.{Step}
use Rattle.fv_graph.specs.Graph.{targets, Leads, has_node}
use Rattle.fv_graph.specs.Walking.{Walks}
use Rattle.fv_graph.proofs.Lists.{get_less, get_front, get_last, get_cases, get_set, get_unset, length_set}
use Rattle.fv_graph.proofs.Lists.{length_more}

-- ---- which progress

abbrev pub is_new : Progress → Bool
is_new p.New = true
is_new x = false

abbrev is_open : Progress → Bool
is_open p.Open = true
is_open x = false

abbrev test : (Progress → Bool) → Option Progress → Bool
test f None = false
test f (Some x) = f x

not_new_open : {A : Type 0} (o : Option Progress) → o ≡ Some p.New → o ≡ Some p.Open → A
not_new_open o e f = absurd (true≢false (sym (ap (test is_new) e) ∙ ap (test is_new) f))

not_new_done : {A : Type 0} (o : Option Progress) → o ≡ Some p.New → o ≡ Some p.Done → A
not_new_done o e f = absurd (true≢false (sym (ap (test is_new) e) ∙ ap (test is_new) f))

not_open_done : {A : Type 0} (o : Option Progress) → o ≡ Some p.Open → o ≡ Some p.Done → A
not_open_done o e f = absurd (true≢false (sym (ap (test is_open) e) ∙ ap (test is_open) f))

pub same_or_not : (i j : ℕ) → (i ≡ j) ⊎ (i ≡ j → ⊥)
same_or_not i j = by (i == j) refl
  where
    by : (b : Bool) → (i == j) ≡ b → (i ≡ j) ⊎ (i ≡ j → ⊥)
    by true e = inl (grind (arith, nat_tests, e))
    by false e = inr (λ s. grind (arith, nat_tests, e, s))

-- ---- nodes that are done

pub has_front : (is : List ℕ) (j i : ℕ) → has_node is i ≡ true → has_node (is ++ j ∷ []) i ≡ true
has_front [] j i h = absurd (true≢false (sym h))
has_front (x ∷ is) j i h = by (i == x) (has_front is j i) h
  where
    by : (b : Bool) → (has_node is i ≡ true → has_node (is ++ j ∷ []) i ≡ true) → (b || has_node is i) ≡ true
        → (b || has_node (is ++ j ∷ []) i) ≡ true
    by true f h = refl
    by false f h = f h

pub has_last : (is : List ℕ) (j : ℕ) → has_node (is ++ j ∷ []) j ≡ true
has_last [] j = by (j == j) (grind (arith, nat_tests))
  where
    by : (b : Bool) → b ≡ true → (b || false) ≡ true
    by true e = refl
    by false e = e
has_last (x ∷ is) j = by (j == x) (has_last is j)
  where
    by : (b : Bool) → has_node (is ++ j ∷ []) j ≡ true → (b || has_node (is ++ j ∷ []) j) ≡ true
    by true e = refl
    by false e = e

pub place_of : (is : List ℕ) (i : ℕ) → has_node is i ≡ true → (a : ℕ) × (slice_get is a ≡ Some i)
place_of [] i h = absurd (true≢false (sym h))
place_of (x ∷ is) i h = by (i == x) refl (place_of is i) h
  where
    by : (b : Bool) → (i == x) ≡ b → (has_node is i ≡ true → (a : ℕ) × (slice_get is a ≡ Some i))
        → (b || has_node is i) ≡ true
        → (a : ℕ) × (slice_get (x ∷ is) a ≡ Some i)
    by true e f h = let same : x ≡ i = grind (arith, nat_tests, e) in (zero, ap Some same)
    by false e f h = let r = f h in (suc r.0, r.1)

abbrev pub further : Step → Step
further s = record { node = s.node; next = s.next + 1 }

abbrev pub begun : ℕ → Step
begun t = record { node = t; next = 0 }

-- a walk at its begin
pub starts : (g : List (List ℕ)) (ps : List Progress) → length ps ≡ length g
    → ((i : ℕ) (x : Progress) → slice_get ps i ≡ Some x → x ≡ p.New) → Walks g ps [] []
starts g ps same new = record {
  size = same;
  finished = λ i e. absurd (true≢false (sym (ap is_new (new i p.Done e))));
  listed = λ a i e. absurd (true≢false (ap is_none e));
  once = λ a b i e f. absurd (true≢false (ap is_none e));
  closed = λ a i j e f. absurd (true≢false (ap is_none e));
  standing = λ a s e. absurd (true≢false (ap is_none e));
  opened = λ i e. absurd (true≢false (sym (ap is_new (new i p.Open e))));
  apart = λ a b s t e f same. absurd (true≢false (ap is_none e));
  passed = λ a s k j e less at. absurd (true≢false (ap is_none e));
  follows = λ a s t e f. absurd (true≢false (ap is_none e));
}

module _ (g : List (List ℕ)) (ps : List Progress) (done : List ℕ) where
  -- a new node on an empty path
  pub begins : Walks g ps [] done → (t : ℕ) → slice_get ps t ≡ Some p.New
      → Walks g (slice_set ps t p.Open) (begun t ∷ []) done
  begins w t new = record {
    size = length_set ps t p.Open ∙ w.size;
    finished = λ i e. finished i e (same_or_not i t);
    listed = λ a i e. listed i (w.listed a i e) (same_or_not i t);
    once = w.once;
    closed = w.closed;
    standing = λ a s e. standing a s e;
    opened = λ i e. opened i e (same_or_not i t);
    apart = λ a b s u e f same. one a s e ∙ sym (one b u f);
    passed = λ a s k j e less at. nothing a s k e less;
    follows = λ a s u e f. absurd (true≢false (ap is_none f));
  }
    where
      finished : (i : ℕ) → slice_get (slice_set ps t p.Open) i ≡ Some p.Done → (i ≡ t) ⊎ (i ≡ t → ⊥)
          → has_node done i ≡ true
      finished i e (inl same) =
          not_open_done (slice_get (slice_set ps t p.Open) t) (get_set ps t p.Open (get_less ps t p.New new))
          (ap (slice_get (slice_set ps t p.Open)) (sym same) ∙ e)
      finished i e (inr other) = w.finished i (sym (get_unset ps t i p.Open other) ∙ e)

      listed : (i : ℕ) → slice_get ps i ≡ Some p.Done → (i ≡ t) ⊎ (i ≡ t → ⊥)
          → slice_get (slice_set ps t p.Open) i ≡ Some p.Done
      listed i e (inl same) = not_new_done (slice_get ps t) new (ap (slice_get ps) (sym same) ∙ e)
      listed i e (inr other) = get_unset ps t i p.Open other ∙ e

      one : (a : ℕ) (s : Step) → slice_get (begun t ∷ []) a ≡ Some s → a ≡ zero
      one zero s e = refl
      one (suc a) s e = absurd (true≢false (ap is_none e))

      standing : (a : ℕ) (s : Step) → slice_get (begun t ∷ []) a ≡ Some s
          → slice_get (slice_set ps t p.Open) s.node ≡ Some p.Open
      standing zero s e =
          ap (λ x. slice_get (slice_set ps t p.Open) x.node) (sym (same_Some (begun t) s e))
          ∙ get_set ps t p.Open (get_less ps t p.New new)
      standing (suc a) s e = absurd (true≢false (ap is_none e))

      opened : (i : ℕ) → slice_get (slice_set ps t p.Open) i ≡ Some p.Open → (i ≡ t) ⊎ (i ≡ t → ⊥)
          → (a : ℕ) × (s : Step) × (slice_get (begun t ∷ []) a ≡ Some s) × (s.node ≡ i)
      opened i e (inl same) = (zero, begun t, refl, sym same)
      opened i e (inr other) =
          let r = w.opened i (sym (get_unset ps t i p.Open other) ∙ e) in absurd (true≢false (ap is_none r.2))

      nothing : {A : Type 0} (a : ℕ) (s : Step) (k : ℕ) → slice_get (begun t ∷ []) a ≡ Some s → k < s.next → A
      nothing zero s k e less =
          let same : 0 ≡ s.next = ap (λ x. x.next) (same_Some (begun t) s e) in absurd (omega (arith, less, same))
      nothing (suc a) s k e less = absurd (true≢false (ap is_none e))

  module _ (front : List Step) (s : Step) (w : Walks g ps (front ++ s ∷ []) done) where
    abbrev path : List Step
    path = front ++ s ∷ []

    abbrev moved : List Step
    moved = front ++ further s ∷ []

    -- the same nodes stand at the same places
    older : (a : ℕ) (x : Step) → slice_get moved a ≡ Some x
        → (y : Step) × (slice_get path a ≡ Some y) × (y.node ≡ x.node)
    older a x e = by (get_cases front (further s) a x e)
      where
        by : (slice_get front a ≡ Some x) ⊎ ((a ≡ length front) × (further s ≡ x))
            → (y : Step) × (slice_get path a ≡ Some y) × (y.node ≡ x.node)
        by (inl h) = (x, get_front front s a x h, refl)
        by (inr h) = (s, ap (slice_get path) h.0 ∙ get_last front s, ap (λ z. z.node) h.1)

    newer : (a : ℕ) (x : Step) → slice_get path a ≡ Some x
        → (y : Step) × (slice_get moved a ≡ Some y) × (y.node ≡ x.node)
    newer a x e = by (get_cases front s a x e)
      where
        by : (slice_get front a ≡ Some x) ⊎ ((a ≡ length front) × (s ≡ x))
            → (y : Step) × (slice_get moved a ≡ Some y) × (y.node ≡ x.node)
        by (inl h) = (x, get_front front (further s) a x h, refl)
        by (inr h) = (further s, ap (slice_get moved) h.0 ∙ get_last front (further s), ap (λ z. z.node) h.1)

    top : slice_get path (length front) ≡ Some s
    top = get_last front s

    none_above : {A : Type 0} (x : Step) → slice_get path (suc (length front)) ≡ Some x → A
    none_above x e =
        let less = get_less path (suc (length front)) x e in absurd (omega (arith, less, length_more front s))

    -- what the top leads to before its next target is done
    all_passed : (k j : ℕ) → k < s.next → slice_get (targets g s.node) k ≡ Some j → has_node done j ≡ true
    all_passed k j less at = by (w.passed (length front) s k j top less at)
      where
        by : (has_node done j ≡ true) ⊎ ((t : Step) × (slice_get path (suc (length front)) ≡ Some t) × (t.node ≡ j))
            → has_node done j ≡ true
        by (inl h) = h
        by (inr h) = none_above h.0 h.1

    moved_apart : (a b : ℕ) (x y : Step) → slice_get moved a ≡ Some x → slice_get moved b ≡ Some y
        → x.node ≡ y.node → a ≡ b
    moved_apart a b x y e f same =
        let q = older a x e in let r = older b y f in w.apart a b q.0 r.0 q.1 r.1 (q.2 ∙ same ∙ sym r.2)

    moved_follows : (a : ℕ) (x y : Step) → slice_get moved a ≡ Some x → slice_get moved (suc a) ≡ Some y
        → Leads g x.node y.node
    moved_follows a x y e f =
        let q = older a x e in
        let r = older (suc a) y f in
        subst (λ m. Leads g m y.node) q.2 (subst (λ m. Leads g q.0.node m) r.2 (w.follows a q.0 r.0 q.1 r.1))

    moved_standing : (a : ℕ) (x : Step) → slice_get moved a ≡ Some x → slice_get ps x.node ≡ Some p.Open
    moved_standing a x e =
        let q = older a x e in ap (slice_get ps) (sym q.2) ∙ w.standing a q.0 q.1

    moved_opened : (i : ℕ) → slice_get ps i ≡ Some p.Open
        → (a : ℕ) × (x : Step) × (slice_get moved a ≡ Some x) × (x.node ≡ i)
    moved_opened i e =
        let r = w.opened i e in
        let n = newer r.0 r.1 r.2 in (r.0, n.0, n.1, n.2 ∙ r.3)

    -- where the target that is passed is done, or stands behind
    moved_passed : (more : List Step) (t : ℕ) → slice_get (targets g s.node) s.next ≡ Some t
        → ((has_node done t ≡ true) ⊎ ((u : Step) × (slice_get (moved ++ more) (suc (length front)) ≡ Some u) × (u.node ≡ t)))
        → ((a : ℕ) (x : Step) → slice_get moved a ≡ Some x → slice_get (moved ++ more) a ≡ Some x)
        → (a : ℕ) (x : Step) (k j : ℕ) → slice_get moved a ≡ Some x → k < x.next
        → slice_get (targets g x.node) k ≡ Some j
        → (has_node done j ≡ true) ⊎ ((u : Step) × (slice_get (moved ++ more) (suc a) ≡ Some u) × (u.node ≡ j))
    moved_passed more t target after kept a x k j e less at = by (get_cases front (further s) a x e)
      where
        before : (has_node done j ≡ true) ⊎ ((u : Step) × (slice_get path (suc a) ≡ Some u) × (u.node ≡ j))
            → (has_node done j ≡ true) ⊎ ((u : Step) × (slice_get (moved ++ more) (suc a) ≡ Some u) × (u.node ≡ j))
        before (inl h) = inl h
        before (inr h) =
            let n = newer (suc a) h.0 h.1 in inr (n.0, kept (suc a) n.0 n.1, n.2 ∙ h.2)

        here : a ≡ length front → further s ≡ x → (k ≡ s.next) ⊎ (k ≡ s.next → ⊥)
            → (has_node done j ≡ true) ⊎ ((u : Step) × (slice_get (moved ++ more) (suc a) ≡ Some u) × (u.node ≡ j))
        here is same (inl last) =
            let t_is : t ≡ j = same_Some t j (sym target ∙ ap (slice_get (targets g s.node)) (sym last)
            ∙ ap (λ z. slice_get (targets g z.node) k) same ∙ at) in
            again after t_is
          where
            again : ((has_node done t ≡ true)
                ⊎ ((u : Step) × (slice_get (moved ++ more) (suc (length front)) ≡ Some u) × (u.node ≡ t))) → t ≡ j
                → (has_node done j ≡ true) ⊎ ((u : Step) × (slice_get (moved ++ more) (suc a) ≡ Some u) × (u.node ≡ j))
            again (inl h) i = inl (subst (λ m. has_node done m ≡ true) i h)
            again (inr h) i = inr (h.0, ap (λ m. slice_get (moved ++ more) (suc m)) is ∙ h.1, h.2 ∙ i)
        here is same (inr other) =
            let bound : k < s.next + 1 = subst (λ z. k < z.next) (sym same) less in
            inl (all_passed k j (omega (arith, bound, other))
            (ap (λ z. slice_get (targets g z.node) k) same ∙ at))

        by : (slice_get front a ≡ Some x) ⊎ ((a ≡ length front) × (further s ≡ x))
            → (has_node done j ≡ true) ⊎ ((u : Step) × (slice_get (moved ++ more) (suc a) ≡ Some u) × (u.node ≡ j))
        by (inl h) = before (w.passed a x k j (get_front front s a x h) less at)
        by (inr h) = here h.0 h.1 (same_or_not k s.next)

    -- ---- a target that is done is passed

    no_more : {A : Type 0} (xs : List A) → xs ++ [] ≡ xs
    no_more [] = refl
    no_more (y ∷ ys) = ap (λ zs. y ∷ zs) (no_more ys)

    pub passes : (t : ℕ) → slice_get (targets g s.node) s.next ≡ Some t → slice_get ps t ≡ Some p.Done
        → Walks g ps moved done
    passes t target is = record {
      size = w.size;
      finished = w.finished;
      listed = w.listed;
      once = w.once;
      closed = w.closed;
      standing = moved_standing;
      opened = moved_opened;
      apart = moved_apart;
      passed = λ a x k j e less at.
          subst (λ q. (has_node done j ≡ true) ⊎ ((u : Step) × (slice_get q (suc a) ≡ Some u) × (u.node ≡ j)))
          (no_more moved)
          (moved_passed [] t target (inl (w.finished t is))
          (λ b y f. ap (λ q. slice_get q b) (no_more moved) ∙ f) a x k j e less at);
      follows = moved_follows;
    }

    -- ---- a new target is put on the path

    pub opens : (t : ℕ) → slice_get (targets g s.node) s.next ≡ Some t → slice_get ps t ≡ Some p.New
        → Walks g (slice_set ps t p.Open) (moved ++ begun t ∷ []) done
    opens t target new = record {
      size = length_set ps t p.Open ∙ w.size;
      finished = λ i e. finished i e (same_or_not i t);
      listed = λ a i e. get_unset ps t i p.Open (λ same.
          not_new_done (slice_get ps t) new (ap (slice_get ps) (sym same) ∙ w.listed a i e)) ∙ w.listed a i e;
      once = w.once;
      closed = w.closed;
      standing = λ a x e. standing a x (get_cases moved (begun t) a x e);
      opened = λ i e. opened i e (same_or_not i t);
      apart = λ a b x y e f same.
          apart a b x y same (get_cases moved (begun t) a x e) (get_cases moved (begun t) b y f);
      passed = λ a x k j e less at. passed a x k j less at (get_cases moved (begun t) a x e);
      follows = λ a x y e f. follows a x y e (get_cases moved (begun t) (suc a) y f);
    }
      where
        finished : (i : ℕ) → slice_get (slice_set ps t p.Open) i ≡ Some p.Done → (i ≡ t) ⊎ (i ≡ t → ⊥)
            → has_node done i ≡ true
        finished i e (inl same) =
            not_open_done (slice_get (slice_set ps t p.Open) t) (get_set ps t p.Open (get_less ps t p.New new))
            (ap (slice_get (slice_set ps t p.Open)) (sym same) ∙ e)
        finished i e (inr other) = w.finished i (sym (get_unset ps t i p.Open other) ∙ e)

        other_node : (a : ℕ) (x : Step) → slice_get moved a ≡ Some x → x.node ≡ t → ⊥
        other_node a x e same =
            not_new_open (slice_get ps t) new (ap (slice_get ps) (sym same) ∙ moved_standing a x e)

        standing : (a : ℕ) (x : Step) → (slice_get moved a ≡ Some x) ⊎ ((a ≡ length moved) × (begun t ≡ x))
            → slice_get (slice_set ps t p.Open) x.node ≡ Some p.Open
        standing a x (inl h) = get_unset ps t x.node p.Open (other_node a x h) ∙ moved_standing a x h
        standing a x (inr h) =
            ap (λ z. slice_get (slice_set ps t p.Open) z.node) (sym h.1) ∙ get_set ps t p.Open (get_less ps t p.New new)

        opened : (i : ℕ) → slice_get (slice_set ps t p.Open) i ≡ Some p.Open → (i ≡ t) ⊎ (i ≡ t → ⊥)
            → (a : ℕ) × (x : Step) × (slice_get (moved ++ begun t ∷ []) a ≡ Some x) × (x.node ≡ i)
        opened i e (inl same) = (length moved, begun t, get_last moved (begun t), sym same)
        opened i e (inr other) =
            let r = moved_opened i (sym (get_unset ps t i p.Open other) ∙ e) in
            (r.0, r.1, get_front moved (begun t) r.0 r.1 r.2, r.3)

        apart : (a b : ℕ) (x y : Step) → x.node ≡ y.node
            → (slice_get moved a ≡ Some x) ⊎ ((a ≡ length moved) × (begun t ≡ x))
            → (slice_get moved b ≡ Some y) ⊎ ((b ≡ length moved) × (begun t ≡ y)) → a ≡ b
        apart a b x y same (inl h) (inl i) = moved_apart a b x y h i same
        apart a b x y same (inl h) (inr i) = absurd (other_node a x h (same ∙ sym (ap (λ z. z.node) i.1)))
        apart a b x y same (inr h) (inl i) = absurd (other_node b y i (sym same ∙ sym (ap (λ z. z.node) h.1)))
        apart a b x y same (inr h) (inr i) = h.0 ∙ sym i.0

        passed : (a : ℕ) (x : Step) (k j : ℕ) → k < x.next → slice_get (targets g x.node) k ≡ Some j
            → (slice_get moved a ≡ Some x) ⊎ ((a ≡ length moved) × (begun t ≡ x))
            → (has_node done j ≡ true) ⊎ ((u : Step) × (slice_get (moved ++ begun t ∷ []) (suc a) ≡ Some u) × (u.node ≡ j))
        passed a x k j less at (inl h) =
            moved_passed (begun t ∷ []) t target
            (inr (
              begun t,
              ap (slice_get (moved ++ begun t ∷ [])) (sym (length_more front (further s)))
                  ∙ get_last moved (begun t),
              refl,
            ))
            (λ b y f. get_front moved (begun t) b y f) a x k j h less at
        passed a x k j less at (inr h) =
            let none : 0 ≡ x.next = ap (λ z. z.next) h.1 in absurd (omega (arith, less, none))

        follows : (a : ℕ) (x y : Step) → slice_get (moved ++ begun t ∷ []) a ≡ Some x
            → (slice_get moved (suc a) ≡ Some y) ⊎ ((suc a ≡ length moved) × (begun t ≡ y))
            → Leads g x.node y.node
        follows a x y e (inl h) = moved_follows a x y (before a x e (get_less moved (suc a) y h)) h
          where
            before : (a : ℕ) (x : Step) → slice_get (moved ++ begun t ∷ []) a ≡ Some x → suc a < length moved
                → slice_get moved a ≡ Some x
            before a x e less = by (get_cases moved (begun t) a x e)
              where
                by : (slice_get moved a ≡ Some x) ⊎ ((a ≡ length moved) × (begun t ≡ x)) → slice_get moved a ≡ Some x
                by (inl h) = h
                by (inr h) = absurd (omega (arith, less, h.0))
        follows a x y e (inr h) =
            let is : a ≡ length front = omega (arith, h.0, length_more front (further s)) in
            let here : slice_get (moved ++ begun t ∷ []) a ≡ Some (further s) =
            ap (slice_get (moved ++ begun t ∷ [])) is
            ∙ get_front moved (begun t) (length front) (further s) (get_last front (further s)) in
            let node : s.node ≡ x.node = ap (λ z. z.node) (same_Some (further s) x (sym here ∙ e)) in
            subst (λ m. Leads g m y.node) node (subst (λ m. Leads g s.node m) (ap (λ z. z.node) h.1) (s.next, target))

    -- ---- a node without further targets is done

    pub finishes : slice_get (targets g s.node) s.next ≡ None
        → Walks g (slice_set ps s.node p.Done) front (done ++ s.node ∷ [])
    finishes none = record {
      size = length_set ps s.node p.Done ∙ w.size;
      finished = λ i e. finished i e (same_or_not i s.node);
      listed = λ a i e. listed a i (get_cases done s.node a i e);
      once = λ a b i e f. once a b i (get_cases done s.node a i e) (get_cases done s.node b i f);
      closed = λ a i j e f. closed a i j f (get_cases done s.node a i e);
      standing = λ a x e.
          get_unset ps s.node x.node p.Done (λ same. below a x e same) ∙ w.standing a x (get_front front s a x e);
      opened = λ i e. opened i e (same_or_not i s.node);
      apart = λ a b x y e f same. w.apart a b x y (get_front front s a x e) (get_front front s b y f) same;
      passed = λ a x k j e less at. passed a j (w.passed a x k j (get_front front s a x e) less at);
      follows = λ a x y e f. w.follows a x y (get_front front s a x e) (get_front front s (suc a) y f);
    }
      where
        is_open_node : slice_get ps s.node ≡ Some p.Open
        is_open_node = w.standing (length front) s top

        now_done : slice_get (slice_set ps s.node p.Done) s.node ≡ Some p.Done
        now_done = get_set ps s.node p.Done (get_less ps s.node p.Open is_open_node)

        below : (a : ℕ) (x : Step) → slice_get front a ≡ Some x → x.node ≡ s.node → ⊥
        below a x e same =
            let less = get_less front a x e in
            let place = w.apart a (length front) x s (get_front front s a x e) top same in
            absurd (omega (arith, less, place))

        finished : (i : ℕ) → slice_get (slice_set ps s.node p.Done) i ≡ Some p.Done → (i ≡ s.node) ⊎ (i ≡ s.node → ⊥)
            → has_node (done ++ s.node ∷ []) i ≡ true
        finished i e (inl same) = subst (λ m. has_node (done ++ s.node ∷ []) m ≡ true) (sym same) (has_last done s.node)
        finished i e (inr other) =
            has_front done s.node i (w.finished i (sym (get_unset ps s.node i p.Done other) ∙ e))

        listed : (a i : ℕ) → (slice_get done a ≡ Some i) ⊎ ((a ≡ length done) × (s.node ≡ i))
            → slice_get (slice_set ps s.node p.Done) i ≡ Some p.Done
        listed a i (inl h) =
            get_unset ps s.node i p.Done (λ same.
            not_open_done (slice_get ps s.node) is_open_node (ap (slice_get ps) (sym same) ∙ w.listed a i h))
            ∙ w.listed a i h
        listed a i (inr h) = ap (slice_get (slice_set ps s.node p.Done)) (sym h.1) ∙ now_done

        not_done : (a i : ℕ) → slice_get done a ≡ Some i → s.node ≡ i → ⊥
        not_done a i h same =
            not_open_done (slice_get ps s.node) is_open_node (ap (slice_get ps) same ∙ w.listed a i h)

        once : (a b i : ℕ) → (slice_get done a ≡ Some i) ⊎ ((a ≡ length done) × (s.node ≡ i))
            → (slice_get done b ≡ Some i) ⊎ ((b ≡ length done) × (s.node ≡ i)) → a ≡ b
        once a b i (inl h) (inl q) = w.once a b i h q
        once a b i (inl h) (inr q) = absurd (not_done a i h q.1)
        once a b i (inr h) (inl q) = absurd (not_done b i q h.1)
        once a b i (inr h) (inr q) = h.0 ∙ sym q.0

        all_done : (j : ℕ) → Leads g s.node j → has_node done j ≡ true
        all_done j lead = by (get_past (targets g s.node) s.next none)
          where
            get_past : (xs : List ℕ) (m : ℕ) → slice_get xs m ≡ None → length xs ≤ m
            get_past [] m e = omega arith
            get_past (x ∷ xs) zero e = absurd (true≢false (sym (ap is_none e)))
            get_past (x ∷ xs) (suc m) e = let less = get_past xs m e in omega (arith, less)

            by : length (targets g s.node) ≤ s.next → has_node done j ≡ true
            by past =
                let less = get_less (targets g s.node) lead.0 j lead.1 in
                all_passed lead.0 j (omega (arith, past, less)) lead.1

        closed : (a i j : ℕ) → Leads g i j → (slice_get done a ≡ Some i) ⊎ ((a ≡ length done) × (s.node ≡ i))
            → (b : ℕ) × (b < a) × (slice_get (done ++ s.node ∷ []) b ≡ Some j)
        closed a i j lead (inl h) =
            let r = w.closed a i j h lead in (r.0, r.1, get_front done s.node r.0 j r.2)
        closed a i j lead (inr h) =
            let r = place_of done j (all_done j (subst (λ m. Leads g m j) (sym h.1) lead)) in
            let less = get_less done r.0 j r.1 in
            (r.0, omega (arith, less, h.0), get_front done s.node r.0 j r.1)

        opened : (i : ℕ) → slice_get (slice_set ps s.node p.Done) i ≡ Some p.Open → (i ≡ s.node) ⊎ (i ≡ s.node → ⊥)
            → (a : ℕ) × (x : Step) × (slice_get front a ≡ Some x) × (x.node ≡ i)
        opened i e (inl same) =
            not_open_done (slice_get (slice_set ps s.node p.Done) s.node)
            (ap (slice_get (slice_set ps s.node p.Done)) (sym same) ∙ e) now_done
        opened i e (inr other) =
            let r = w.opened i (sym (get_unset ps s.node i p.Done other) ∙ e) in
            by r.0 r.1 r.3 (get_cases front s r.0 r.1 r.2)
          where
            by : (a : ℕ) (x : Step) → x.node ≡ i → (slice_get front a ≡ Some x) ⊎ ((a ≡ length front) × (s ≡ x))
                → (a : ℕ) × (x : Step) × (slice_get front a ≡ Some x) × (x.node ≡ i)
            by a x same (inl h) = (a, x, h, same)
            by a x same (inr h) = absurd (other (sym same ∙ sym (ap (λ z. z.node) h.1)))

        passed : (a j : ℕ)
            → (has_node done j ≡ true) ⊎ ((t : Step) × (slice_get path (suc a) ≡ Some t) × (t.node ≡ j))
            → (has_node (done ++ s.node ∷ []) j ≡ true) ⊎ ((t : Step) × (slice_get front (suc a) ≡ Some t) × (t.node ≡ j))
        passed a j (inl h) = inl (has_front done s.node j h)
        passed a j (inr h) = by (get_cases front s (suc a) h.0 h.1)
          where
            by : (slice_get front (suc a) ≡ Some h.0) ⊎ ((suc a ≡ length front) × (s ≡ h.0))
                → (has_node (done ++ s.node ∷ []) j ≡ true)
                ⊎ ((t : Step) × (slice_get front (suc a) ≡ Some t) × (t.node ≡ j))
            by (inl q) = inr (h.0, q, h.2)
            by (inr q) =
                inl (subst (λ m. has_node (done ++ s.node ∷ []) m ≡ true) (ap (λ z. z.node) q.1 ∙ h.2)
                (has_last done s.node))
