-- Sizes and signs in the one scope of a design without hierarchy, and targets whose names have sizes.
use Rattle.std.specs.Prelude.{◌≡◌, ℕ, max, Bool, true, false, ◌&&◌, List, ◌∷◌, refl}
use Rattle.std.proofs.Common.{ap, sym, ◌∙◌, arith}
use Rattle.vl_tree.specs.Expr.{Expr}
use Rattle.vl_tree.specs.Lval.{Lval, Lvals, named, joined, no_lvals, more_lvals}
use Rattle.vl_size.specs.declared.decl.Decl.{Decl}
use Rattle.vl_size.specs.Sign.{sign}
use Rattle.vl_size.specs.Size.{Values, cells_in, index_of, operand_of, or_none, size}
use Rattle.vl_mean.specs.Execution.{labels_sign, labels_size}
use Rattle.vl_mean.specs.FlatLaw.{AreTargets, IsTarget, flat_scopes}
use Rattle.vl_mean.specs.Scopes.{no_values, operand_in}
use Rattle.vl_mean_flat.proofs.SameTarget.{flat_operand}
use Rattle.vl_lower_stmt.specs.Located.{AreSizedTargets, IsSizedTarget}

pub max_assoc : (a b c : ℕ) → max a (max b c) ≡ max (max a b) c
max_assoc a b c = omega arith

pub and_assoc : (a b c : Bool) → (a && (b && c)) ≡ ((a && b) && c)
and_assoc true b c = refl
and_assoc false b c = refl

module _ (ds : List Decl) where
  pub size_in : (v : Values) (e : Expr) → (operand_in (flat_scopes ds) v e).size ≡ or_none (size ds e)
  size_in v e = ap (λ x. x.size) (flat_operand ds v e)

  pub sign_in : (v : Values) (e : Expr) → (operand_in (flat_scopes ds) v e).sign ≡ sign ds e
  sign_in v e = ap (λ x. x.sign) (flat_operand ds v e)

  pub index_in : (v : Values) (e : Expr)
      → index_of (operand_of ds (cells_in v) e) ≡ index_of (operand_in (flat_scopes ds) v e)
  index_in v e = ap index_of (sym (flat_operand ds v e))

  -- ---- one label more

  pub labels_wider : (w n : ℕ) (e : Expr) (es : List Expr) → n ≡ max w (or_none (size ds e))
      → max n (labels_size (flat_scopes ds) es) ≡ max w (labels_size (flat_scopes ds) (e ∷ es))
  labels_wider w n e es h =
      ap (λ m. max m (labels_size (flat_scopes ds) es)) h
      ∙ sym (max_assoc w (or_none (size ds e)) (labels_size (flat_scopes ds) es))
      ∙ ap (λ m. max w (max m (labels_size (flat_scopes ds) es))) (sym (size_in no_values e))

  pub labels_signed : (s t : Bool) (e : Expr) (es : List Expr) → t ≡ (s && sign ds e)
      → (t && labels_sign (flat_scopes ds) es) ≡ (s && labels_sign (flat_scopes ds) (e ∷ es))
  labels_signed s t e es h =
      ap (λ b. b && labels_sign (flat_scopes ds) es) h
      ∙ sym (and_assoc s (sign ds e) (labels_sign (flat_scopes ds) es))
      ∙ ap (λ b. s && (b && labels_sign (flat_scopes ds) es)) (sym (sign_in no_values e))

  -- ---- targets

  mutual
    pub sized_target : (may : Decl → Bool) (fixed : Bool) (l : Lval) → IsTarget ds may fixed l → IsSizedTarget ds l
    sized_target may fixed (named p text xs) h = h.0.sized
    sized_target may fixed (joined p ls) h = sized_targets may fixed ls h

    sized_targets : (may : Decl → Bool) (fixed : Bool) (ls : Lvals) → AreTargets ds may fixed ls → AreSizedTargets ds
        ls
    sized_targets may fixed no_lvals h = tt
    sized_targets may fixed (more_lvals l ls) h = (sized_target may fixed l h.0, sized_targets may fixed ls h.1)
