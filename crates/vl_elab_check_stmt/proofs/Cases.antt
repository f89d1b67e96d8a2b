-- The contexts of assignments and of cases, arm by arm.
use Rattle.std.specs.Prelude.{◌≡◌, refl, ℕ, List, Bool, ◌&&◌, Option}
use Rattle.std.proofs.Common.{ap, ◌∙◌}
use Rattle.vl_tree.specs.declared.stmt.Arm.{Arm}
use Rattle.vl_tree.specs.declared.stmt.Arm.TheVariants as a
use Rattle.vl_tree.specs.Expr.{Expr}
use Rattle.vl_tree.specs.Stmt.{Arms}
use Rattle.vl_tree.specs.StmtView.{with_arm}
use Rattle.vl_size.specs.declared.context.Context.{Context}
use Rattle.vl_size.specs.Divisors.{larger, own_context}
use Rattle.vl_elab_spec.specs.Expressions.{known}
use Rattle.vl_elab_spec.specs.Meanings.{Names, objects}
use Rattle.vl_elab_spec.specs.Statements.{widened, assigned_in, with_label, with_labels, case_context}

module _ (ns : List Names) where
  pub in_place : (width n : Option ℕ) (e : Expr) (own : Context) → own ≡ own_context (objects ns) (known ns e)
      → n ≡ widened width own.size → record { size = n; signed = own.signed } ≡ assigned_in ns width e
  in_place width n e own h k =
      λ i. record { size = (k ∙ ap (λ c. widened width c.size) h) i; signed = ap (λ c. c.signed) h i }

  pub label_in : (c own : Context) (n : Option ℕ) (s : Bool) (e : Expr)
      → own ≡ own_context (objects ns) (known ns e)
      → n ≡ larger c.size own.size → s ≡ (c.signed && own.signed)
      → record { size = n; signed = s } ≡ with_label ns c e
  label_in c own n s e h k t =
      λ i. record {
        size = (k ∙ ap (λ x. larger c.size x.size) h) i;
        signed = (t ∙ ap (λ x. c.signed && x.signed) h) i;
      }

  -- with the labels of one arm
  abbrev arm_context : Context → Arm → Context
  arm_context c (a.Labels p es s) = with_labels ns c es
  arm_context c (a.Default p colon s) = c

  pub arm_next : (c : Context) (x : Arm) (rest : Arms)
      → case_context ns c (with_arm x rest) ≡ case_context ns (arm_context c x) rest
  arm_next c (a.Labels p es s) rest = refl
  arm_next c (a.Default p colon s) rest = refl

pub ruleset steps = (arm_next)
