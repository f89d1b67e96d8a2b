-- What assignments of both kinds change is what a statement assigns.
use Rattle.std.specs.Prelude.{◌≡◌, refl, ℕ, List, Bool, ◌&&◌, ◌||◌, not}
use Rattle.std.proofs.Common.{◌∙◌}
use Rattle.vl_tree.specs.Stmt.{
  Stmt,
  Stmts,
  Arms,
  begin,
  if_only,
  if_else,
  case,
  assign,
  assume,
  empty,
  no_stmts,
  more_stmts,
  no_arms,
  labels,
  default,
}
use Rattle.vl_size.specs.declared.decl.Decl.{Decl}
use Rattle.vl_mean.specs.Execution.{assigns, any_assigns, arms_assign}
use Rattle.vl_mean.specs.FlatLaw.{flat_scopes}
use Rattle.vl_mean.specs.Targets.{may_change}
use Rattle.fv_bit_sets.specs.declared.step.Step.{Step}
use Rattle.fv_bit_sets.specs.Cells.{has}
use Rattle.vl_flow_spec.specs.Paths.{is_blocking, is_nonblocking, any_kind, changes, any_changes, arms_change, sure}
use Rattle.vl_flow_cells.specs.Numbered.{Shows}
use Rattle.vl_flow_effects.specs.declared.effect.Effect.{Effect}
use Rattle.vl_flow_effects.specs.Effects.{IsEffectOf}
use Rattle.vl_flow_effects.proofs.Joining.{shows_as, shows_or}
use Rattle.vl_flow_effects.proofs.Tests.{or_pairs, either_way}

module _ (ds : List Decl) where
  two : (a b c d x y : Bool) → (a || c) ≡ x → (b || d) ≡ y → ((a || b) || (c || d)) ≡ (x || y)
  two a b c d x y h k = or_pairs a b c d ∙ (λ i. h i || k i)

  mutual
    pub both_kinds : (s : Stmt) (n : List ℕ) (i : ℕ)
        → (changes ds is_blocking s n i || changes ds is_nonblocking s n i) ≡ assigns (flat_scopes ds) s n i
    both_kinds (begin attrs p label xs) n i = any_both xs n i
    both_kinds (if_only attrs p e x) n i = both_kinds x n i
    both_kinds (if_else attrs p e x y) n i =
        two (changes ds is_blocking x n i) (changes ds is_blocking y n i) (changes ds is_nonblocking x n i)
        (changes ds is_nonblocking y n i) (assigns (flat_scopes ds) x n i) (assigns (flat_scopes ds) y n i)
        (both_kinds x n i) (both_kinds y n i)
    both_kinds (case attrs p kind e arms) n i = arms_both arms n i
    both_kinds (assign attrs p l kind e) n i = either_way (is_blocking kind) (may_change (flat_scopes ds) l n i)
    both_kinds (assume attrs p e) n i = refl
    both_kinds (empty attrs p) n i = refl

    any_both : (xs : Stmts) (n : List ℕ) (i : ℕ)
        → (any_changes ds is_blocking xs n i || any_changes ds is_nonblocking xs n i)
        ≡ any_assigns (flat_scopes ds) xs n i
    any_both no_stmts n i = refl
    any_both (more_stmts x xs) n i =
        two (changes ds is_blocking x n i) (any_changes ds is_blocking xs n i) (changes ds is_nonblocking x n i)
        (any_changes ds is_nonblocking xs n i) (assigns (flat_scopes ds) x n i) (any_assigns (flat_scopes ds) xs n i)
        (both_kinds x n i) (any_both xs n i)

    arms_both : (xs : Arms) (n : List ℕ) (i : ℕ)
        → (arms_change ds is_blocking xs n i || arms_change ds is_nonblocking xs n i)
        ≡ arms_assign (flat_scopes ds) xs n i
    arms_both no_arms n i = refl
    arms_both (labels p es x xs) n i =
        two (changes ds is_blocking x n i) (arms_change ds is_blocking xs n i) (changes ds is_nonblocking x n i)
        (arms_change ds is_nonblocking xs n i) (assigns (flat_scopes ds) x n i) (arms_assign (flat_scopes ds) xs n i)
        (both_kinds x n i) (arms_both xs n i)
    arms_both (default p colon x xs) n i =
        two (changes ds is_blocking x n i) (arms_change ds is_blocking xs n i) (changes ds is_nonblocking x n i)
        (arms_change ds is_nonblocking xs n i) (assigns (flat_scopes ds) x n i) (arms_assign (flat_scopes ds) xs n i)
        (both_kinds x n i) (arms_both xs n i)

  pub all_drives : (s : Stmt) (e : Effect) (drives : List Step)
      → ((c i : ℕ) → has drives c i ≡ (has e.blocking c i || has e.nonblocking c i)) → IsEffectOf ds e s
      → Shows ds (has drives) (assigns (flat_scopes ds) s)
  all_drives s e drives made h =
      shows_as ds (has drives) (λ n i. changes ds is_blocking s n i || changes ds is_nonblocking s n i)
      (assigns (flat_scopes ds) s) (both_kinds s)
      (shows_or ds (has e.blocking) (has e.nonblocking) (has drives) (changes ds is_blocking s)
      (changes ds is_nonblocking s) made h.blocking h.nonblocking)

  pub latches : (s : Stmt) (e : Effect) (drives latched : List Step)
      → ((c i : ℕ) → has latched c i ≡ (has drives c i && not (has e.surely c i)))
      → Shows ds (has drives) (assigns (flat_scopes ds) s) → IsEffectOf ds e s
      → Shows ds (has latched) (λ n i. assigns (flat_scopes ds) s n i && not (sure ds any_kind s n i))
  latches s e drives latched made d h c n i at = made c i ∙ (λ j. d c n i at j && not (h.surely c n i at j))
