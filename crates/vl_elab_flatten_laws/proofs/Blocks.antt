-- A statement that isn't refused is one of a design without hierarchy.
use Rattle.std.specs.Prelude.{◌≡◌, refl, ℕ, ◌+◌, ◌≤◌, max, List, [], ◌∷◌, ◌++◌, All, Bool, true, false, ◌&&◌, Some}
use Rattle.std.proofs.Common.{ap, sym, ◌∙◌, subst, arith}
use Rattle.std.proofs.lemmas.List.Elements.{All-nil, All-cons}
use Rattle.vl_tree.specs.declared.stmt.CaseKind.{CaseKind}
use Rattle.vl_tree.specs.declared.stmt.CaseKind.TheVariants as kinds
use Rattle.vl_tree.specs.Expr.{Expr, number}
use Rattle.vl_tree.specs.ExprWellFormed as expr
use Rattle.vl_tree.specs.Stmt.{
  Stmt,
  Stmts,
  Arms,
  begin,
  if_only,
  if_else,
  case,
  assign,
  assume,
  empty,
  no_stmts,
  more_stmts,
  no_arms,
  labels,
  default,
}
use Rattle.vl_tree.specs.StmtWellFormed as stmt
use Rattle.vl_tree.specs.StmtWellFormed.{IsLabel, default_count}
use Rattle.vl_size.specs.declared.context.Context.{Context}
use Rattle.vl_size.specs.declared.decl.Decl.{Decl}
use Rattle.vl_size.specs.Divisors.{larger}
use Rattle.vl_size.specs.Sign.{sign}
use Rattle.vl_size.specs.Size.{or_none, size}
use Rattle.vl_mean.specs.Execution.{arms_sign, arms_size, labels_sign, labels_size}
use Rattle.vl_mean.specs.FlatLaw.{AreArms, AreBlocks, IsBlock, IsReadIn, case_context as flat_context, flat_scopes}
use Rattle.vl_mean.specs.Runs.{Each}
use Rattle.vl_mean.specs.Scopes.{Scope, no_values, operand_in}
use Rattle.vl_mean_flat.specs.FullNames.{flat_arms, flat_expr, flat_exprs, flat_stmt, flat_stmts}
use Rattle.vl_mean_flat.proofs.FoundNames.{AreScopes}
use Rattle.vl_mean_flat.proofs.SameTarget.{flat_operand}
use Rattle.vl_elab_spec.specs.Expressions.{expr_refusals, known, own_refusals}
use Rattle.vl_elab_spec.specs.Meanings.{Names, objects}
use Rattle.vl_elab_spec.specs.Statements.{arms_refusals, assignment_refusals, case_context, labels_refusals}
use Rattle.vl_elab_spec.specs.Statements.{stmt_refusals, stmts_refusals, with_label, with_labels}
use Rattle.vl_elab_accepted_laws.proofs.Fresh.{NoneOf, none-front, none-back}
use Rattle.vl_elab_accepted_laws.proofs.Plain.{all-each}
use Rattle.vl_elab_scope.specs.Seen.{AllNamed}
use Rattle.vl_elab_accepted_laws.specs.Means.{AreMeant}
use Rattle.vl_elab_flatten_laws.proofs.Expressions.{IsFlat, IsNoClock, flat_own, flat_so, read_in}
use Rattle.vl_elab_flatten_laws.proofs.Targets.{flat_assignment}

-- sizes and signs of labels, one behind the other
max_zero : (m : ℕ) → max m 0 ≡ m
max_zero m = omega arith

zero_max : (m : ℕ) → max 0 m ≡ m
zero_max m = omega arith

max_assoc : (a b c : ℕ) → max (max a b) c ≡ max a (max b c)
max_assoc a b c = omega arith

and_true : (b : Bool) → (b && true) ≡ b
and_true true = refl
and_true false = refl

and_assoc : (a b c : Bool) → ((a && b) && c) ≡ (a && (b && c))
and_assoc true b c = refl
and_assoc false b c = refl

abbrev of_size : ℕ → Bool → Context
of_size n b = record { size = Some n; signed = b }

module _ (ns : List Names) (ss : List Scope) (es : List Decl) (named_so : AllNamed ns) (meant : AreMeant ns ss)
    (laid : AreScopes es ss) where
  abbrev Flat : Context → Expr → Type 0
  Flat c e = IsFlat ns ss es named_so meant laid false c e

  -- in a `casez` a label may be a number with wild bits
  flat_label : (kind : CaseKind) (c : Context) (e : Expr) → IsLabel kind e → NoneOf (expr_refusals ns false c e)
      → Flat c e
  flat_label kinds.Case c e w h = flat_so ns ss es named_so meant laid false c e w h
  flat_label kinds.Casez c (number p n) w h = record {
    bits = n.width;
    judged = refl;
    sized = refl;
    some = n.some_bits;
    few = n.few_bits;
    signed = refl;
    divided = refl;
    clockless = All-nil (IsNoClock ns ss es named_so meant laid);
    constant = λ f. refl;
  }
  flat_label kinds.Casez c e w h = flat_so ns ss es named_so meant laid false c e w h

  flat_labels : (kind : CaseKind) (c : Context) (xs : List Expr) → Each (IsLabel kind) xs
      → NoneOf (labels_refusals ns c xs) → Each (Flat c) xs
  flat_labels kind c [] w h = tt
  flat_labels kind c (e ∷ xs) w h = (
    flat_label kind c e w.0 (none-front (expr_refusals ns false c e) (labels_refusals ns c xs) h),
    flat_labels kind c xs w.1 (none-back (expr_refusals ns false c e) (labels_refusals ns c xs) h),
  )

  labels_read : (c : Context) (xs : List Expr) → Each (Flat c) xs → All (IsReadIn es c) (flat_exprs ss xs)
  labels_read c [] h = All-nil (IsReadIn es c)
  labels_read c (e ∷ xs) h =
      All-cons (IsReadIn es c) (flat_expr ss e) (flat_exprs ss xs)
      (read_in ns ss es named_so meant laid false c e h.0) (labels_read c xs h.1)

  -- ---- the context of a case

  abbrev flat : List Scope
  flat = flat_scopes es

  -- an expression's own size and sign, as they stand without hierarchy
  own_size : (c : Context) (e : Expr) (x : Flat c e) → (operand_in flat no_values (flat_expr ss e)).size ≡ x.bits
  own_size c e x = ap (λ o. o.size) (flat_operand es no_values (flat_expr ss e)) ∙ ap or_none x.sized

  own_sign : (e : Expr) → (operand_in flat no_values (flat_expr ss e)).sign ≡ sign es (flat_expr ss e)
  own_sign e = ap (λ o. o.sign) (flat_operand es no_values (flat_expr ss e))

  label_context : (c : Context) (n : ℕ) (b : Bool) (e : Expr) → (x : Flat c e)
      → with_label ns (of_size n b) e ≡ of_size (max n x.bits) (b && sign es (flat_expr ss e))
  label_context c n b e x = λ i. record { size = larger (Some n) (x.judged i); signed = b && sym x.signed i }

  labels_context : (c : Context) (n : ℕ) (b : Bool) (xs : List Expr) → Each (Flat c) xs
      → with_labels ns (of_size n b) xs
      ≡ of_size (max n (labels_size flat (flat_exprs ss xs))) (b && labels_sign flat (flat_exprs ss xs))
  labels_context c n b [] h = λ i. of_size (sym (max_zero n) i) (sym (and_true b) i)
  labels_context c n b (e ∷ xs) h =
      let x : Flat c e = h.0 in
      let s : Bool = sign es (flat_expr ss e) in
      let rest_size : ℕ = labels_size flat (flat_exprs ss xs) in
      let rest_sign : Bool = labels_sign flat (flat_exprs ss xs) in
      ap (λ k. with_labels ns k xs) (label_context c n b e x)
      ∙ labels_context c (max n x.bits) (b && s) xs h.1
      ∙ (λ i. of_size (max_assoc n x.bits rest_size i) (and_assoc b s rest_sign i))
      ∙ (λ i. of_size (max n (max (sym (own_size c e x) i) rest_size)) (b && (sym (own_sign e) i && rest_sign)))

  -- the labels of all arms
  abbrev ArmLabels : Context → Arms → Type 0
  ArmLabels c no_arms = Unit {0}
  ArmLabels c (labels p xs s arms) = Each (Flat c) xs × ArmLabels c arms
  ArmLabels c (default p colon s arms) = ArmLabels c arms

  arms_context : (c : Context) (n : ℕ) (b : Bool) (arms : Arms) → ArmLabels c arms
      → case_context ns (of_size n b) arms
      ≡ of_size (max n (arms_size flat (flat_arms ss arms))) (b && arms_sign flat (flat_arms ss arms))
  arms_context c n b no_arms h = λ i. of_size (sym (max_zero n) i) (sym (and_true b) i)
  arms_context c n b (labels p xs s arms) h =
      let first_size : ℕ = labels_size flat (flat_exprs ss xs) in
      let first_sign : Bool = labels_sign flat (flat_exprs ss xs) in
      let rest_size : ℕ = arms_size flat (flat_arms ss arms) in
      let rest_sign : Bool = arms_sign flat (flat_arms ss arms) in
      ap (λ k. case_context ns k arms) (labels_context c n b xs h.0)
      ∙ arms_context c (max n first_size) (b && first_sign) arms h.1
      ∙ (λ i. of_size (max_assoc n first_size rest_size i) (and_assoc b first_sign rest_sign i))
  arms_context c n b (default p colon s arms) h = arms_context c n b arms h

  flat_case : (c : Context) (e : Expr) (arms : Arms) → (x : Flat c e) → ArmLabels c arms
      → case_context ns (with_label ns (record { size = Some 0; signed = true }) e) arms
      ≡ flat_context es (flat_expr ss e) (flat_arms ss arms)
  flat_case c e arms x h =
      let rest_size : ℕ = arms_size flat (flat_arms ss arms) in
      ap (λ k. case_context ns k arms) (label_context c 0 true e x)
      ∙ ap (λ n. case_context ns (of_size n (sign es (flat_expr ss e))) arms) (zero_max x.bits)
      ∙ arms_context c x.bits (sign es (flat_expr ss e)) arms h
      ∙ (λ i. of_size (max (or_none (sym x.sized i)) rest_size)
      (sign es (flat_expr ss e) && arms_sign flat (flat_arms ss arms)))

  arm_labels : (kind : CaseKind) (c : Context) (arms : Arms) → stmt.AreArms kind arms
      → NoneOf (arms_refusals ns c arms) → ArmLabels c arms
  arm_labels kind c no_arms w h = tt
  arm_labels kind c (labels p xs s arms) w h =
      let front = labels_refusals ns c xs ++ stmt_refusals ns s in
      let two = none-front front (arms_refusals ns c arms) h in (
        flat_labels kind c xs (all-each (IsLabel kind) xs w.0.1)
            (none-front (labels_refusals ns c xs) (stmt_refusals ns s) two),
        arm_labels kind c arms w.2 (none-back front (arms_refusals ns c arms) h),
      )
  arm_labels kind c (default p colon s arms) w h =
      arm_labels kind c arms w.1 (none-back (stmt_refusals ns s) (arms_refusals ns c arms) h)

  same_defaults : (arms : Arms) → default_count (flat_arms ss arms) ≡ default_count arms
  same_defaults no_arms = refl
  same_defaults (labels p xs s arms) = same_defaults arms
  same_defaults (default p colon s arms) = ap (λ n. n + 1) (same_defaults arms)

  -- ---- statements

  mutual
    pub flat_block : (s : Stmt) → stmt.IsWellFormed s → NoneOf (stmt_refusals ns s) → IsBlock es (flat_stmt ss s)
    flat_block (begin attrs p label xs) w h = flat_blocks xs w.2 h
    flat_block (if_only attrs p e x) w h = (
      flat_own ns ss es named_so meant laid false e w.1 (none-front (own_refusals ns false e) (stmt_refusals ns x) h),
      flat_block x w.2 (none-back (own_refusals ns false e) (stmt_refusals ns x) h),
    )
    flat_block (if_else attrs p e x y) w h =
        let front = own_refusals ns false e ++ stmt_refusals ns x in
        let two = none-front front (stmt_refusals ns y) h in (
          flat_own ns ss es named_so meant laid false e w.1
              (none-front (own_refusals ns false e) (stmt_refusals ns x) two),
          (
            flat_block x w.3 (none-back (own_refusals ns false e) (stmt_refusals ns x) two),
            flat_block y w.4 (none-back front (stmt_refusals ns y) h),
          ),
        )
    flat_block (case attrs p kind e arms) w h =
        let c : Context = case_context ns (with_label ns (record { size = Some 0; signed = true }) e) arms in
        let rest = none-back (expr_refusals ns false c e) (arms_refusals ns c arms) h in
        let x : Flat c e = flat_so ns ss es named_so meant laid false c e w.1
        (none-front (expr_refusals ns false c e) (arms_refusals ns c arms) h) in
        let is = flat_case c e arms x (arm_labels kind c arms w.4 rest) in
        let few = w.3 in (
          subst (λ k. IsReadIn es k (flat_expr ss e)) is (read_in ns ss es named_so meant laid false c e x),
          (
            subst (λ n. n ≤ 1) (sym (same_defaults arms)) few,
            subst (λ k. AreArms es k (flat_arms ss arms)) is (flat_all_arms kind c arms w.4 rest),
          ),
        )
    flat_block (assign attrs p l kind e) w h =
        flat_assignment ns ss es named_so meant laid false false false l e w.1 w.2 h
    flat_block (assume attrs p e) w h = flat_own ns ss es named_so meant laid false e w.1 h
    flat_block (empty attrs p) w h = tt

    flat_blocks : (xs : Stmts) → stmt.AreWellFormed xs → NoneOf (stmts_refusals ns xs)
        → AreBlocks es (flat_stmts ss xs)
    flat_blocks no_stmts w h = tt
    flat_blocks (more_stmts x xs) w h = (
      flat_block x w.0 (none-front (stmt_refusals ns x) (stmts_refusals ns xs) h),
      flat_blocks xs w.1 (none-back (stmt_refusals ns x) (stmts_refusals ns xs) h),
    )

    flat_all_arms : (kind : CaseKind) (c : Context) (arms : Arms) → stmt.AreArms kind arms
        → NoneOf (arms_refusals ns c arms) → AreArms es c (flat_arms ss arms)
    flat_all_arms kind c no_arms w h = tt
    flat_all_arms kind c (labels p xs s arms) w h =
        let front = labels_refusals ns c xs ++ stmt_refusals ns s in
        let two = none-front front (arms_refusals ns c arms) h in (
          labels_read c xs (flat_labels kind c xs (all-each (IsLabel kind) xs w.0.1)
              (none-front (labels_refusals ns c xs) (stmt_refusals ns s) two)),
          (
            flat_block s w.1 (none-back (labels_refusals ns c xs) (stmt_refusals ns s) two),
            flat_all_arms kind c arms w.2 (none-back front (arms_refusals ns c arms) h),
          ),
        )
    flat_all_arms kind c (default p colon s arms) w h = (
      flat_block s w.0 (none-front (stmt_refusals ns s) (arms_refusals ns c arms) h),
      flat_all_arms kind c arms w.1 (none-back (stmt_refusals ns s) (arms_refusals ns c arms) h),
    )
