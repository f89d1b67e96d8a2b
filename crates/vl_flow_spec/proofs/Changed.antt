-- The bits that a target or a block may change are those of names that may be assigned there.
use Rattle.std.specs.Prelude.{◌≡◌, refl, ℕ, ◌<◌, List, Bool, true, false, ◌&&◌, Option, Some, None, nat_lt}
use Rattle.std.specs.Prelude.{if◌then◌else◌}
use Rattle.std.proofs.Common.{sym, ◌∙◌, arith, subst, true≢false}
use Rattle.std.proofs.lemmas.Bool.Decides.{nat_tests}
use Rattle.fv_text.specs.declared.pos.Pos.{Pos}
use Rattle.vl_tree.specs.Expr.{Selects}
use Rattle.vl_tree.specs.Lval.{Lval, Lvals, named, joined, no_lvals, more_lvals}
use Rattle.vl_tree.specs.Stmt.{
  Stmt,
  Stmts,
  Arms,
  begin,
  if_only,
  if_else,
  case,
  assign,
  assume,
  empty,
  no_stmts,
  more_stmts,
  no_arms,
  labels,
  default,
}
use Rattle.vl_size.specs.declared.context.Context.{Context}
use Rattle.vl_size.specs.declared.decl.Decl.{Decl}
use Rattle.vl_size.specs.Table.{declared_as}
use Rattle.vl_mean.specs.declared.driver.DriverKind.{DriverKind}
use Rattle.vl_mean.specs.declared.driver.DriverKind.TheVariants as k
use Rattle.vl_mean.specs.Cells.{is_cell}
use Rattle.vl_mean.specs.Execution.{assigns, any_assigns, arms_assign}
use Rattle.vl_mean.specs.FlatLaw.{flat_scopes, IsTarget, AreTargets, IsBlock, AreBlocks, AreArms, IsDriver, is_net}
use Rattle.vl_mean.specs.FlatLaw.{is_variable, case_context}
use Rattle.vl_mean.specs.Scopes.{no_values}
use Rattle.vl_mean.specs.Targets.{is_decl, has_spot, may_change, any_may_change}
use Rattle.vl_flow_spec.specs.Drivers.{driven_by}
use Rattle.vl_flow_spec.specs.Reads.{IsCellOf}
use Rattle.vl_flow_spec.proofs.Bools.{or_case, and_left, and_right}
use Rattle.vl_flow_spec.proofs.Flat.{fixed, name_bits}
use Rattle.vl_flow_spec.proofs.Same.{declared_name, selected_at}
use Rattle.vl_flow_spec.proofs.Targets.{name_spot_is}

-- a bit of a declared name of such a kind
pub record IsBitOfKind (ds : List Decl) (may : Decl → Bool) (n : List ℕ) (i : ℕ) : Type 0 where
  pub decl : Decl
  pub of : IsCellOf ds decl n
  pub below : i < decl.width
  pub may_be : may decl ≡ true

module _ (ds : List Decl) (may : Decl → Bool) (fix : Bool) where
  found : (o : Option Decl) → is_decl o may ≡ true → (d : Decl) × (o ≡ Some d) × (may d ≡ true)
  found None h = absurd (true≢false (sym h))
  found (Some d) h = (d, refl, h)

  pub name_changed : (p : Pos) (text : List ℕ) (xs : Selects) → IsTarget ds may fix (named p text xs)
      → (n : List ℕ) (i : ℕ) → may_change (flat_scopes ds) (named p text xs) n i ≡ true
      → (b : IsBitOfKind ds may n i) × (b.decl.name ≡ text)
  name_changed p text xs is n i h =
      let at = bit (fixed ds xs) refl (sym (selected_at ds text xs d e n i) ∙ h) in (
        record { decl = d; of = record { declared = own; cell = at.0 }; below = at.1; may_be = r.2 },
        sym same,
      )
    where
      r : (d : Decl) × (declared_as ds text ≡ Some d) × (may d ≡ true)
      r = found (declared_as ds text) is.1

      d : Decl
      d = r.0

      e : declared_as ds text ≡ Some d
      e = r.1

      same : text ≡ d.name
      same = declared_name ds text d e

      own : declared_as ds d.name ≡ Some d
      own = subst (λ t. declared_as ds t ≡ Some d) same e

      bit : (b : Bool) → fixed ds xs ≡ b
          → (if b then has_spot n i (name_bits ds no_values text xs) else is_cell text d.words n && nat_lt i d.width)
          ≡ true
          → (is_cell d.name d.words n ≡ true) × (i < d.width)
      bit true f s = name_spot_is ds no_values text xs d e n i s
      bit false f s = (
        subst (λ t. is_cell t d.words n ≡ true) same (and_left (is_cell text d.words n) (nat_lt i d.width) s),
        grind (arith, nat_tests, and_right (is_cell text d.words n) (nat_lt i d.width) s),
      )

  mutual
    pub target_changed : (l : Lval) → IsTarget ds may fix l → (n : List ℕ) (i : ℕ)
        → may_change (flat_scopes ds) l n i ≡ true → IsBitOfKind ds may n i
    target_changed (named p text xs) is n i h = (name_changed p text xs is n i h).0
    target_changed (joined p ls) is n i h = targets_changed ls is n i h

    targets_changed : (ls : Lvals) → AreTargets ds may fix ls → (n : List ℕ) (i : ℕ)
        → any_may_change (flat_scopes ds) ls n i ≡ true → IsBitOfKind ds may n i
    targets_changed no_lvals is n i h = absurd (true≢false (sym h))
    targets_changed (more_lvals l ls) is n i h =
        or_case (may_change (flat_scopes ds) l n i) (any_may_change (flat_scopes ds) ls n i)
        (target_changed l is.0 n i) (targets_changed ls is.1 n i) h

module _ (ds : List Decl) where
  mutual
    pub block_changed : (s : Stmt) → IsBlock ds s → (n : List ℕ) (i : ℕ) → assigns (flat_scopes ds) s n i ≡ true
        → IsBitOfKind ds is_variable n i
    block_changed (begin attrs p label xs) is n i h = blocks_changed xs is n i h
    block_changed (if_only attrs p e x) is n i h = block_changed x is.1 n i h
    block_changed (if_else attrs p e x y) is n i h =
        or_case (assigns (flat_scopes ds) x n i) (assigns (flat_scopes ds) y n i) (block_changed x is.1.0 n i)
        (block_changed y is.1.1 n i) h
    block_changed (case attrs p kind e arms) is n i h =
        arms_changed (case_context ds e arms) arms is.1.1 n i h
    block_changed (assign attrs p l kind e) is n i h = target_changed ds is_variable false l is.0.0 n i h
    block_changed (assume attrs p e) is n i h = absurd (true≢false (sym h))
    block_changed (empty attrs p) is n i h = absurd (true≢false (sym h))

    blocks_changed : (xs : Stmts) → AreBlocks ds xs → (n : List ℕ) (i : ℕ)
        → any_assigns (flat_scopes ds) xs n i ≡ true → IsBitOfKind ds is_variable n i
    blocks_changed no_stmts is n i h = absurd (true≢false (sym h))
    blocks_changed (more_stmts x xs) is n i h =
        or_case (assigns (flat_scopes ds) x n i) (any_assigns (flat_scopes ds) xs n i) (block_changed x is.0 n i)
        (blocks_changed xs is.1 n i) h

    arms_changed : (c : Context) (arms : Arms) → AreArms ds c arms → (n : List ℕ) (i : ℕ)
        → arms_assign (flat_scopes ds) arms n i ≡ true → IsBitOfKind ds is_variable n i
    arms_changed c no_arms is n i h = absurd (true≢false (sym h))
    arms_changed c (labels p es x arms) is n i h =
        or_case (assigns (flat_scopes ds) x n i) (arms_assign (flat_scopes ds) arms n i) (block_changed x is.1.0 n i)
        (arms_changed c arms is.1.1 n i) h
    arms_changed c (default p colon x arms) is n i h =
        or_case (assigns (flat_scopes ds) x n i) (arms_assign (flat_scopes ds) arms n i) (block_changed x is.0 n i)
        (arms_changed c arms is.1 n i) h

  -- nets are driven by assignments, variables by blocks
  abbrev pub may_drive : DriverKind → Decl → Bool
  may_drive (k.Assign l e) d = is_net d
  may_drive (k.Comb s) d = is_variable d
  may_drive (k.Clocked s) d = is_variable d

  pub driver_changed : (x : DriverKind) → IsDriver ds x → (n : List ℕ) (i : ℕ) → driven_by ds x n i ≡ true
      → IsBitOfKind ds (may_drive x) n i
  driver_changed (k.Assign l e) is n i h = target_changed ds is_net true l is.0.0 n i h
  driver_changed (k.Comb s) is n i h = block_changed s is n i h
  driver_changed (k.Clocked s) is n i h = block_changed s is n i h
