-- The sets of effects that are joined.
use Rattle.std.specs.Prelude.{◌≡◌, ℕ, List, [], Bool, ◌&&◌, ◌||◌, not}
use Rattle.std.proofs.Common.{ap, ◌∙◌}
use Rattle.fv_bit_sets.specs.declared.step.Step.{Step}
use Rattle.fv_bit_sets.specs.Cells.{has}
use Rattle.vl_size.specs.declared.decl.Decl.{Decl}
use Rattle.vl_flow_spec.specs.Reads.{Bits}
use Rattle.vl_flow_cells.specs.declared.cell_run.CellRun.{CellRun}
use Rattle.vl_flow_cells.specs.Numbered.{Adds, Shows, any_takes}
use Rattle.vl_flow_effects.specs.declared.effect.Effect.{Effect}
use Rattle.vl_flow_effects.specs.Effects.{HasSets}
use Rattle.vl_flow_effects.specs.Joins.{IsThen, IsEither, IsBehind}
use Rattle.vl_flow_effects.proofs.Tests.{or_assoc}

module _ (ds : List Decl) where
  -- the same bits by another name
  pub shows_as : (marks : ℕ → ℕ → Bool) (J K : Bits) → ((n : List ℕ) (i : ℕ) → J n i ≡ K n i) → Shows ds marks J
      → Shows ds marks K
  shows_as marks J K same h c n i e = h c n i e ∙ same n i

  pub shows_or : (f g r : ℕ → ℕ → Bool) (J K : Bits) → ((c i : ℕ) → r c i ≡ (f c i || g c i)) → Shows ds f J
      → Shows ds g K → Shows ds r (λ n i. J n i || K n i)
  shows_or f g r J K made h k c n i e = made c i ∙ (λ j. h c n i e j || k c n i e j)

  pub shows_and : (f g r : ℕ → ℕ → Bool) (J K : Bits) → ((c i : ℕ) → r c i ≡ (f c i && g c i)) → Shows ds f J
      → Shows ds g K → Shows ds r (λ n i. J n i && K n i)
  shows_and f g r J K made h k c n i e = made c i ∙ (λ j. h c n i e j && k c n i e j)

  shows_later : (f g s r : ℕ → ℕ → Bool) (J K S : Bits)
      → ((c i : ℕ) → r c i ≡ (f c i || (g c i && not (s c i)))) → Shows ds f J → Shows ds g K → Shows ds s S
      → Shows ds r (λ n i. J n i || (K n i && not (S n i)))
  shows_later f g s r J K S made h k t c n i e =
      made c i ∙ (λ j. h c n i e j || (k c n i e j && not (t c n i e j)))

  pub then_sets : (a b made : Effect) (N S T B L N' S' T' B' L' : Bits) → IsThen a b made → HasSets ds a N S T B L
      → HasSets ds b N' S' T' B' L'
      → HasSets ds made (λ n i. N n i || (N' n i && not (S n i))) (λ n i. S n i || S' n i) (λ n i. T n i || T' n i)
      (λ n i. B n i || B' n i) (λ n i. L n i || L' n i)
  then_sets a b made N S T B L N' S' T' B' L' m h k = record {
    needs = shows_later (has a.needs) (has b.needs) (has a.sure) (has made.needs) N N' S m.needs h.needs k.needs h.sure;
    sure = shows_or (has a.sure) (has b.sure) (has made.sure) S S' m.sure h.sure k.sure;
    surely = shows_or (has a.surely) (has b.surely) (has made.surely) T T' m.surely h.surely k.surely;
    blocking = shows_or (has a.blocking) (has b.blocking) (has made.blocking) B B' m.blocking h.blocking k.blocking;
    nonblocking =
        shows_or (has a.nonblocking) (has b.nonblocking) (has made.nonblocking) L L' m.nonblocking h.nonblocking
        k.nonblocking;
  }

  pub either_sets : (a b made : Effect) (N S T B L N' S' T' B' L' : Bits) → IsEither a b made
      → HasSets ds a N S T B L → HasSets ds b N' S' T' B' L'
      → HasSets ds made (λ n i. N n i || N' n i) (λ n i. S n i && S' n i) (λ n i. T n i && T' n i)
      (λ n i. B n i || B' n i) (λ n i. L n i || L' n i)
  either_sets a b made N S T B L N' S' T' B' L' m h k = record {
    needs = shows_or (has a.needs) (has b.needs) (has made.needs) N N' m.needs h.needs k.needs;
    sure = shows_and (has a.sure) (has b.sure) (has made.sure) S S' m.sure h.sure k.sure;
    surely = shows_and (has a.surely) (has b.surely) (has made.surely) T T' m.surely h.surely k.surely;
    blocking = shows_or (has a.blocking) (has b.blocking) (has made.blocking) B B' m.blocking h.blocking k.blocking;
    nonblocking =
        shows_or (has a.nonblocking) (has b.nonblocking) (has made.nonblocking) L L' m.nonblocking h.nonblocking
        k.nonblocking;
  }

  kept : (xs ys : List Step) (K : Bits) → ys ≡ xs → Shows ds (has xs) K → Shows ds (has ys) K
  kept xs ys K same h c n i e = ap (λ zs. has zs c i) same ∙ h c n i e

  pub behind_sets : (a made : Effect) (reads : List Step) (R N S T B L : Bits) → IsBehind a reads made
      → Shows ds (has reads) R → HasSets ds a N S T B L → HasSets ds made (λ n i. R n i || N n i) S T B L
  behind_sets a made reads R N S T B L m r h = record {
    needs = shows_or (has reads) (has a.needs) (has made.needs) R N m.needs r h.needs;
    sure = kept a.sure made.sure S m.sure h.sure;
    surely = kept a.surely made.surely T m.surely h.surely;
    blocking = kept a.blocking made.blocking B m.blocking h.blocking;
    nonblocking = kept a.nonblocking made.nonblocking L m.nonblocking h.nonblocking;
  }

  pub sets_as : (e : Effect) (N S T B L N' S' T' B' L' : Bits) → ((n : List ℕ) (i : ℕ) → N n i ≡ N' n i)
      → ((n : List ℕ) (i : ℕ) → S n i ≡ S' n i) → ((n : List ℕ) (i : ℕ) → T n i ≡ T' n i)
      → ((n : List ℕ) (i : ℕ) → B n i ≡ B' n i) → ((n : List ℕ) (i : ℕ) → L n i ≡ L' n i)
      → HasSets ds e N S T B L → HasSets ds e N' S' T' B' L'
  sets_as e N S T B L N' S' T' B' L' n s t b l h = record {
    needs = shows_as (has e.needs) N N' n h.needs;
    sure = shows_as (has e.sure) S S' s h.sure;
    surely = shows_as (has e.surely) T T' t h.surely;
    blocking = shows_as (has e.blocking) B B' b h.blocking;
    nonblocking = shows_as (has e.nonblocking) L L' l h.nonblocking;
  }

  -- runs that are put behind none
  pub shows_runs : (before after runs : List CellRun) (bits : List Step) (K : Bits) → before ≡ [] → runs ≡ after
      → ((c i : ℕ) → has bits c i ≡ any_takes runs c i) → Adds ds before after K → Shows ds (has bits) K
  shows_runs before after runs bits K none same made adds c n i e =
      made c i ∙ ap (λ xs. any_takes xs c i) same ∙ adds c n i e ∙ ap (λ xs. any_takes xs c i || K n i) none

  pub adds_both : (xs ys zs : List CellRun) (J K : Bits) → Adds ds xs ys J → Adds ds ys zs K
      → Adds ds xs zs (λ n i. J n i || K n i)
  adds_both xs ys zs J K first second c n i e =
      second c n i e ∙ ap (λ b. b || K n i) (first c n i e) ∙ or_assoc (any_takes xs c i) (J n i) (K n i)
