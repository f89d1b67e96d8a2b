-- What statements weigh, from what their parts do.
use Rattle.std.specs.Prelude.{◌≡◌, refl, ℕ, ◌+◌, ◌<◌, ◌^◌, max, List, [], ◌++◌, Option}
use Rattle.std.proofs.Common.{ap, sym, ◌∙◌, arith, subst}
use Rattle.fv_text.specs.declared.pos.Pos.{Pos}
use Rattle.vl_tree.specs.Attributes.{Attributes}
use Rattle.vl_tree.specs.declared.stmt.Arm.{Arm}
use Rattle.vl_tree.specs.declared.stmt.Arm.TheVariants as a
use Rattle.vl_tree.specs.declared.stmt.CaseKind.{CaseKind}
use Rattle.vl_tree.specs.Expr.{Expr}
use Rattle.vl_tree.specs.Lval.{Lval}
use Rattle.vl_tree.specs.Stmt.{Arms, Stmt, case, if_else, labels, no_arms}
use Rattle.vl_tree.specs.StmtView.{with_arm}
use Rattle.vl_size.specs.declared.decl.Decl.{Decl}
use Rattle.vl_size.specs.Size.{or_none, size}
use Rattle.vl_mean.specs.ConstantFaults.{capped}
use Rattle.vl_mean.specs.Execution.{arms_size}
use Rattle.vl_mean.specs.FlatLaw.{flat_scopes, target_size}
use Rattle.vl_mean.specs.Scopes.{no_values, operand_in}
use Rattle.vl_mean_flat.proofs.SameTarget.{flat_operand}
use Rattle.vl_flow_spec.specs.Assigned.{arms_assigned_names, assigned_names}
use Rattle.vl_flow_spec.specs.Paths.{any_kind}
use Rattle.vl_flow_spec.specs.Weight.{arms_weight, assigned_weight, merge_weight}
use Rattle.vl_flow_spec.specs.Weight.{labels_weight, own_size, stmt_weight, target_weight, weight}
use Rattle.std.proofs.lemmas.List.{append-nil}
use Rattle.vl_flow_weight.specs.declared.weighed.Weighed.{Weighed}
use Rattle.vl_flow_weight.specs.Gates.{gates_at}
use Rattle.vl_flow_weight.specs.Weighing.{IsWeightOf}
use Rattle.vl_flow_weight.proofs.Sums.{two}
use Rattle.vl_flow_weight.proofs.Operands.{own_bits}
use Rattle.vl_flow_weight.specs.declared.branch.Branch.{Branch}
use Rattle.fv_bit_sets.specs.Cells.{has}
use Rattle.vl_flow_weight.specs.Branches.{IsBranchOf}
use Rattle.vl_flow_order.specs.Names.{AreNames}
use Rattle.vl_flow_weight.proofs.Adding.{gates_capped, larger_capped}

-- ---- the largest

pub largest_more : (so_far one rest next left all : ℕ) → next ≡ max so_far one → left ≡ max one rest
    → max so_far left ≡ all → max next rest ≡ all
largest_more so_far one rest next left all e f h =
    let assoc : max (max so_far one) rest ≡ max so_far (max one rest) = omega arith in
    ap (λ n. max n rest) e ∙ assoc ∙ ap (max so_far) (sym f) ∙ h

pub largest_done : (so_far left all : ℕ) → left ≡ 0 → max so_far left ≡ all → so_far ≡ all
largest_done so_far left all e h =
    let none : so_far ≡ max so_far 0 = omega arith in none ∙ ap (max so_far) (sym e) ∙ h

module _ (ds : List Decl) where
  -- ---- assignments

  pub assignment_weighs : (l : Lval) (e : Expr) (o : Weighed) (own target large to gates made : ℕ)
      → IsWeightOf ds e o → own ≡ or_none o.size → own < 2 ^ 64 → target ≡ capped (target_size ds l)
      → large ≡ max target own → to ≡ capped (target_weight ds l) → gates ≡ gates_at o.gates large
      → made ≡ capped (to + gates) → made ≡ capped (assigned_weight ds l e)
  assignment_weighs l e o own target large to gates made h is_own few is_target is_large is_to is_gates is =
      let bits = max (target_size ds l) (own_size ds e) in
      let stopped : large ≡ capped (max (target_size ds l) own) =
      larger_capped (target_size ds l) own large few (is_large ∙ ap (λ n. max n own) is_target) in
      let wide : large ≡ capped bits =
      stopped ∙ ap (λ n. capped (max (target_size ds l) n)) (own_bits ds e o own h is_own) in
      two (target_weight ds l) (weight ds bits e) to gates made is_to
      (is_gates ∙ ap (gates_at o.gates) wide ∙ gates_capped o.gates bits ∙ h.gates bits) is

  -- ---- labels

  pub label_size : (e : Expr) (n : ℕ) (o : Option ℕ) → o ≡ size ds e → n ≡ or_none o
      → (operand_in (flat_scopes ds) no_values e).size ≡ n
  label_size e n o h is = ap (λ x. x.size) (flat_operand ds no_values e) ∙ ap or_none (sym h) ∙ sym is

  pub label_weighs : (e : Expr) (o : Weighed) (bits gates one : ℕ) → IsWeightOf ds e o → bits < 2 ^ 64
      → gates ≡ gates_at o.gates bits → one ≡ capped (bits + gates) → one ≡ capped (bits + weight ds bits e)
  label_weighs e o bits gates one h few is_gates is =
      let small : bits ≡ capped bits = omega (arith, few) in
      two bits (weight ds bits e) bits gates one small (is_gates ∙ h.gates bits) is

  -- ---- arms

  pub arm_first : (n : ℕ) (x : Arm) (rest : Arms)
      → arms_weight ds n (with_arm x rest) ≡ arms_weight ds n (with_arm x no_arms) + arms_weight ds n rest
  arm_first n (a.Labels p es s) rest = omega arith
  arm_first n (a.Default p colon s) rest = omega arith

  -- ---- branches

  -- of the same names, in other words
  pub branch_as : (m n : ℕ) (xs ys : List (List ℕ)) (x : Branch) → m ≡ n → xs ≡ ys → IsBranchOf ds m xs x
      → IsBranchOf ds n ys x
  branch_as m n xs ys x e f h = record {
    weight_is = h.weight_is ∙ ap capped e;
    names_are = subst (λ ns. AreNames ds ns (has x.names)) f h.names_are;
  }

  pub else_branch : (attrs : Attributes) (p : Pos) (e : Expr) (x y : Stmt) (made : Branch)
      → IsBranchOf ds (merge_weight ds (assigned_names any_kind x ++ assigned_names any_kind y) + weight ds (own_size ds e) e
      + (stmt_weight ds x + stmt_weight ds y)) (assigned_names any_kind x ++ assigned_names any_kind y) made
      → IsBranchOf ds (stmt_weight ds (if_else attrs p e x y)) (assigned_names any_kind (if_else attrs p e x y)) made
  else_branch attrs p e x y made h =
      let names = assigned_names any_kind x ++ assigned_names any_kind y in
      let assoc : (a b m n : ℕ) → a + b + (m + n) ≡ a + b + m + n = λ a b m n. omega arith in
      branch_as
      (merge_weight ds names + weight ds (own_size ds e) e + (stmt_weight ds x + stmt_weight ds y))
      (stmt_weight ds (if_else attrs p e x y)) names names made
      (assoc (merge_weight ds names) (weight ds (own_size ds e) e) (stmt_weight ds x) (stmt_weight ds y)) refl h

  -- the size at which a case evaluates its labels
  pub case_bits : (e : Expr) (o : Weighed) (xs : Arms) (own labelled bits : ℕ) → IsWeightOf ds e o
      → own ≡ or_none o.size → labelled ≡ arms_size (flat_scopes ds) xs → bits ≡ max own labelled
      → bits ≡ max (own_size ds e) (arms_size (flat_scopes ds) xs)
  case_bits e o xs own labelled bits h is_own is_labelled is =
      is ∙ (λ i. max (own_bits ds e o own h is_own i) (is_labelled i))

  pub case_branch : (attrs : Attributes) (p : Pos) (kind : CaseKind) (e : Expr) (xs : Arms) (bits : ℕ) (made : Branch)
      → bits ≡ max (own_size ds e) (arms_size (flat_scopes ds) xs)
      → IsBranchOf ds (merge_weight ds (arms_assigned_names any_kind xs) + weight ds bits e + arms_weight ds bits xs)
      (arms_assigned_names any_kind xs) made
      → IsBranchOf ds (stmt_weight ds (case attrs p kind e xs)) (assigned_names any_kind (case attrs p kind e xs)) made
  case_branch attrs p kind e xs bits made wide h =
      subst (λ n. IsBranchOf ds (merge_weight ds (arms_assigned_names any_kind xs) + weight ds n e + arms_weight ds n xs)
      (arms_assigned_names any_kind xs) made) wide h

  pub labels_branch : (p : Pos) (es : List Expr) (s : Stmt) (n : ℕ) (made : Branch)
      → IsBranchOf ds (labels_weight ds n es + stmt_weight ds s) (assigned_names any_kind s) made
      → IsBranchOf ds (arms_weight ds n (labels p es s no_arms)) (arms_assigned_names any_kind (labels p es s no_arms)) made
  labels_branch p es s n made h =
      let none : labels_weight ds n es + stmt_weight ds s ≡ labels_weight ds n es + stmt_weight ds s + 0 = omega arith in
      branch_as (labels_weight ds n es + stmt_weight ds s) (labels_weight ds n es + stmt_weight ds s + 0)
      (assigned_names any_kind s) (assigned_names any_kind s ++ []) made none (sym (append-nil (assigned_names any_kind s))) h
