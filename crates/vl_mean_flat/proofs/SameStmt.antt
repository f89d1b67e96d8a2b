-- A statement with full names does the same.
use Rattle.std.specs.Prelude.{◌≡◌, refl, ℕ, ◌+◌, ◌-◌, ◌^◌, ◌==◌, max, Bool, true, false, ◌&&◌, ◌||◌, nat_le}
use Rattle.std.specs.Prelude.{bit_or, if◌then◌else◌, List, [], ◌∷◌, ◌++◌, length, Option, Some, None}
use Rattle.std.proofs.Common.{sym, ◌∙◌, arith, pow_pos}
use Rattle.std.proofs.lemmas.Bool.Decides.{nat_tests}
use Rattle.fv_text.specs.declared.pos.Pos.{Pos}
use Rattle.vl_tree.specs.declared.stmt.CaseKind.{CaseKind}
use Rattle.vl_tree.specs.declared.stmt.CaseKind.TheVariants as c
use Rattle.vl_tree.specs.declared.stmt.AssignKind.TheVariants as a
use Rattle.vl_tree.specs.Expr.{
  Expr,
  Selects,
  number,
  name,
  paren,
  unary,
  binary,
  conditional,
  concat,
  repeat,
  cast,
  whole,
  bit,
  part,
  indexed,
}
use Rattle.vl_tree.specs.Lval.{Lval}
use Rattle.vl_tree.specs.Stmt.{
  Stmt,
  Stmts,
  Arms,
  begin,
  if_only,
  if_else,
  case,
  assign,
  assume,
  empty,
  no_stmts,
  more_stmts,
  no_arms,
  labels,
  default,
}
use Rattle.fv_bits.specs.Bits.{extended, low}
use Rattle.vl_size.specs.declared.decl.Decl.{Decl}
use Rattle.vl_size.specs.Divisors.{valid_size}
use Rattle.vl_size.specs.Size.{Values, cells_in, own, is_true, value}
use Rattle.vl_mean.specs.declared.const_number.Const.{Const}
use Rattle.vl_mean.specs.Constants.{settled_selects, named_constant, number_or, number_of, cut_to}
use Rattle.vl_mean.specs.Constants.{vector_of, values_at}
use Rattle.vl_mean.specs.FlatLaw.{flat_scopes}
use Rattle.vl_mean.specs.Scopes.{Scope, full, constant_in, operand_in, no_values}
use Rattle.vl_mean.specs.Targets.{written, put_all}
use Rattle.vl_mean.specs.Execution.{State, wild_bits, assigned, labels_size, labels_sign, arms_size, arms_sign}
use Rattle.vl_mean.specs.Execution.{matches, exec, exec_all, pick, otherwise, assigns, any_assigns, arms_assign}
use Rattle.vl_mean_flat.specs.Found.{Found}
use Rattle.vl_mean_flat.specs.FullNames.{renamed, flat_expr, flat_exprs, flat_lval, flat_stmt, flat_stmts, flat_arms}
use Rattle.vl_mean_flat.specs.Names.{ExprNames, ExprsNames, TargetNames, StmtNames, StmtsNames, ArmsNames}
use Rattle.vl_mean_flat.proofs.SameTarget.{same_operand_in, same_spots, same_may_change}

-- ---- wild bits: those of a number, which stays; a constant has none

zero_extended : (m w : ℕ) (s : Bool) → extended m w s 0 ≡ 0
zero_extended m w s = by s (nat_le (2 ^ (m - 1)) 0) refl
  where
    low-zero : low w 0 ≡ 0
    low-zero = grind (arith, pow_pos w)

    by : (s b : Bool) → nat_le (2 ^ (m - 1)) 0 ≡ b → low w (if s && b then 0 + (2 ^ w - 2 ^ m) else 0) ≡ 0
    by true true e = absurd (grind (arith, pow_pos (m - 1), e, nat_tests))
    by true false e = low-zero
    by false b e = low-zero

module _ (f : List ℕ → List ℕ) (kind : CaseKind) (w : ℕ) (s : Bool) where
  never_wild : CaseKind → Expr → Type 0
  never_wild k e = wild_bits k w s (renamed f e) ≡ 0

  number_wild : (k : CaseKind) (p : Pos) (x : Const) → wild_bits k w s (number p (number_of x)) ≡ 0
  number_wild c.Casez p x = zero_extended x.width w s
  number_wild c.Case p x = refl

  name_wild : (k : CaseKind) (p : Pos) (text : List ℕ) (xs : Selects) → wild_bits k w s (name p text xs) ≡ 0
  name_wild c.Casez p text xs = refl
  name_wild c.Case p text xs = refl

  chosen_wild : (k : CaseKind) (p : Pos) (o : Option ℕ) (text : List ℕ) (xs : Selects) (g : ℕ → ℕ)
      → wild_bits k w s (renamed f (number_or p o (name p text xs) g)) ≡ 0
  chosen_wild k p None text xs g = name_wild k p _ _
  chosen_wild k p (Some n) text xs g = number_wild k p (cut_to n false (g n))

  constant_wild : (k : CaseKind) (p : Pos) (text : List ℕ) (xs : Selects) (o : Option Const)
      → wild_bits k w s (renamed f (named_constant p text xs o)) ≡ 0
  constant_wild k p text xs None = name_wild k p _ _
  constant_wild k p text whole (Some x) = number_wild k p x
  constant_wild k p text (bit q i xs) (Some x) =
      chosen_wild k p (valid_size (vector_of text x ∷ []) (name p text (bit q i xs))) text (bit q i xs)
      (λ n. value (vector_of text x ∷ []) (cells_in (values_at text x)) n false (name p text (bit q i xs)))
  constant_wild k p text (part q l r xs) (Some x) =
      chosen_wild k p (valid_size (vector_of text x ∷ []) (name p text (part q l r xs))) text (part q l r xs)
      (λ n. value (vector_of text x ∷ []) (cells_in (values_at text x)) n false (name p text (part q l r xs)))
  constant_wild k p text (indexed q i n xs) (Some x) =
      chosen_wild k p (valid_size (vector_of text x ∷ []) (name p text (indexed q i n xs))) text (indexed q i n xs)
      (λ m. value (vector_of text x ∷ []) (cells_in (values_at text x)) m false (name p text (indexed q i n xs)))

same_wild : (ss : List Scope) (kind : CaseKind) (w : ℕ) (s : Bool) (e : Expr)
    → wild_bits kind w s (flat_expr ss e) ≡ wild_bits kind w s e
same_wild ss kind w s (number p n) = refl
same_wild ss kind w s (name p text xs) =
    constant_wild (full ss) kind w s kind p text (settled_selects (constant_in ss) xs) (constant_in ss text)
    ∙ sym (name_wild (full ss) kind w s kind p text xs)
same_wild ss c.Casez w s (paren p x) = refl
same_wild ss c.Casez w s (unary p op x) = refl
same_wild ss c.Casez w s (binary p op x y) = refl
same_wild ss c.Casez w s (conditional p k x y) = refl
same_wild ss c.Casez w s (concat p es) = refl
same_wild ss c.Casez w s (repeat p n es) = refl
same_wild ss c.Casez w s (cast p to x) = refl
same_wild ss c.Case w s (paren p x) = refl
same_wild ss c.Case w s (unary p op x) = refl
same_wild ss c.Case w s (binary p op x y) = refl
same_wild ss c.Case w s (conditional p k x y) = refl
same_wild ss c.Case w s (concat p es) = refl
same_wild ss c.Case w s (repeat p n es) = refl
same_wild ss c.Case w s (cast p to x) = refl

-- ---- an assignment, each side in scopes of its own

pub same_assigned : (es : List Decl) (ts : List Scope) (l : Lval) (ss : List Scope) (e : Expr) (v : Values)
    → TargetNames (Found es ts) ts l → ExprNames (Found es ss) ss e
    → assigned (flat_scopes es) (flat_lval ts l) (flat_scopes es) (flat_expr ss e) v ≡ assigned ts l ss e v
same_assigned es ts l ss e v h k =
    λ i. let bits = same_spots es ts v l h i in let x = same_operand_in es ss v e k i
    in written bits (x.at (max (length bits) x.size) x.sign)

module _ (es : List Decl) (ss : List Scope) where
  abbrev flat : List Scope
  flat = flat_scopes es

  same_labels_size : (xs : List Expr) → ExprsNames (Found es ss) ss xs
      → labels_size flat (flat_exprs ss xs) ≡ labels_size ss xs
  same_labels_size [] h = refl
  same_labels_size (e ∷ xs) h = λ i. max (same_operand_in es ss no_values e h.0 i).size (same_labels_size xs h.1 i)

  same_labels_sign : (xs : List Expr) → ExprsNames (Found es ss) ss xs
      → labels_sign flat (flat_exprs ss xs) ≡ labels_sign ss xs
  same_labels_sign [] h = refl
  same_labels_sign (e ∷ xs) h = λ i. (same_operand_in es ss no_values e h.0 i).sign && same_labels_sign xs h.1 i

  same_arms_size : (arms : Arms) → ArmsNames (Found es ss) ss arms
      → arms_size flat (flat_arms ss arms) ≡ arms_size ss arms
  same_arms_size no_arms h = refl
  same_arms_size (labels p xs x arms) h = λ i. max (same_labels_size xs h.0 i) (same_arms_size arms h.2 i)
  same_arms_size (default p colon x arms) h = same_arms_size arms h.1

  same_arms_sign : (arms : Arms) → ArmsNames (Found es ss) ss arms
      → arms_sign flat (flat_arms ss arms) ≡ arms_sign ss arms
  same_arms_sign no_arms h = refl
  same_arms_sign (labels p xs x arms) h = λ i. same_labels_sign xs h.0 i && same_arms_sign arms h.2 i
  same_arms_sign (default p colon x arms) h = same_arms_sign arms h.1

  same_matches : (kind : CaseKind) (v : Values) (w : ℕ) (s : Bool) (x : ℕ) (xs : List Expr)
      → ExprsNames (Found es ss) ss xs
      → matches flat kind v w s x (flat_exprs ss xs) ≡ matches ss kind v w s x xs
  same_matches kind v w s x [] h = refl
  same_matches kind v w s x (e ∷ xs) h =
      λ i. let wild = same_wild ss kind w s e i in
      (bit_or ((same_operand_in es ss v e h.0 i).at w s) wild == bit_or x wild) || same_matches kind v w s x xs h.1 i

  mutual
    pub same_exec : (x : Stmt) → StmtNames (Found es ss) ss x → (t : State) → exec flat (flat_stmt ss x) t ≡ exec ss x t
    same_exec (begin attrs p label xs) h t = same_exec_all xs h t
    same_exec (if_only attrs p e x) h t =
        λ i. let done = same_exec x h.1 t i in if is_true (same_operand_in es ss t.now e h.0 i) then done else t
    same_exec (if_else attrs p e x y) h t =
        λ i. let first = same_exec x h.1 t i in let second = same_exec y h.2 t i in
        if is_true (same_operand_in es ss t.now e h.0 i) then first else second
    same_exec (case attrs p kind e arms) h t =
        (λ i. let x = same_operand_in es ss t.now e h.0 i in
        let w = max x.size (same_arms_size arms h.1 i) in
        let s = x.sign && same_arms_sign arms h.1 i in
        pick flat (flat_arms ss arms) (λ xs. matches flat kind t.now w s (x.at w s) xs)
        (λ u. otherwise flat (flat_arms ss arms) u) t)
        ∙ (let x = operand_in ss t.now e in
        let w = max x.size (arms_size ss arms) in
        let s = x.sign && arms_sign ss arms in
        same_pick arms h.1 (λ xs. matches flat kind t.now w s (x.at w s) xs)
        (λ xs. matches ss kind t.now w s (x.at w s) xs)
        (λ xs k. same_matches kind t.now w s (x.at w s) xs k)
        (λ u. otherwise flat (flat_arms ss arms) u) (λ u. otherwise ss arms u) (λ u. same_otherwise arms h.1 u) t)
    same_exec (assign attrs p l a.Blocking e) h t =
        λ i. record t { now = put_all (same_assigned es ss l ss e t.now h.0 h.1 i) t.now }
    same_exec (assign attrs p l a.Nonblocking e) h t =
        λ i. record t { pending = t.pending ++ same_assigned es ss l ss e t.now h.0 h.1 i }
    same_exec (assume attrs p e) h t = λ i. record t { seen = t.seen ++ own (same_operand_in es ss t.now e h i) ∷ [] }
    same_exec (empty attrs p) h t = refl

    same_exec_all : (xs : Stmts) → StmtsNames (Found es ss) ss xs → (t : State)
        → exec_all flat (flat_stmts ss xs) t ≡ exec_all ss xs t
    same_exec_all no_stmts h t = refl
    same_exec_all (more_stmts x xs) h t = λ i. same_exec_all xs h.1 (same_exec x h.0 t i) i

    same_pick : (arms : Arms) → ArmsNames (Found es ss) ss arms → (test test_is : List Expr → Bool)
        → ((xs : List Expr) → ExprsNames (Found es ss) ss xs → test (flat_exprs ss xs) ≡ test_is xs)
        → (other other_is : State → State) → ((u : State) → other u ≡ other_is u)
        → (t : State) → pick flat (flat_arms ss arms) test other t ≡ pick ss arms test_is other_is t
    same_pick no_arms h test test_is et other other_is eo t = eo t
    same_pick (labels p xs x arms) h test test_is et other other_is eo t =
        λ i. let first = same_exec x h.1 t i in let there = same_pick arms h.2 test test_is et other other_is eo t i in
        if et xs h.0 i then first else there
    same_pick (default p colon x arms) h test test_is et other other_is eo t =
        same_pick arms h.1 test test_is et other other_is eo t

    same_otherwise : (arms : Arms) → ArmsNames (Found es ss) ss arms → (t : State)
        → otherwise flat (flat_arms ss arms) t ≡ otherwise ss arms t
    same_otherwise no_arms h t = refl
    same_otherwise (labels p xs x arms) h t = same_otherwise arms h.2 t
    same_otherwise (default p colon x arms) h t = same_exec x h.0 t

  mutual
    pub same_assigns : (x : Stmt) → StmtNames (Found es ss) ss x → (n : List ℕ) (k : ℕ)
        → assigns flat (flat_stmt ss x) n k ≡ assigns ss x n k
    same_assigns (begin attrs p label xs) h n k = same_any_assigns xs h n k
    same_assigns (if_only attrs p e x) h n k = same_assigns x h.1 n k
    same_assigns (if_else attrs p e x y) h n k = λ i. same_assigns x h.1 n k i || same_assigns y h.2 n k i
    same_assigns (case attrs p kind e arms) h n k = same_arms_assign arms h.1 n k
    same_assigns (assign attrs p l kind e) h n k = same_may_change es ss l h.0 n k
    same_assigns (assume attrs p e) h n k = refl
    same_assigns (empty attrs p) h n k = refl

    same_any_assigns : (xs : Stmts) → StmtsNames (Found es ss) ss xs → (n : List ℕ) (k : ℕ)
        → any_assigns flat (flat_stmts ss xs) n k ≡ any_assigns ss xs n k
    same_any_assigns no_stmts h n k = refl
    same_any_assigns (more_stmts x xs) h n k = λ i. same_assigns x h.0 n k i || same_any_assigns xs h.1 n k i

    same_arms_assign : (arms : Arms) → ArmsNames (Found es ss) ss arms → (n : List ℕ) (k : ℕ)
        → arms_assign flat (flat_arms ss arms) n k ≡ arms_assign ss arms n k
    same_arms_assign no_arms h n k = refl
    same_arms_assign (labels p xs x arms) h n k = λ i. same_assigns x h.1 n k i || same_arms_assign arms h.2 n k i
    same_arms_assign (default p colon x arms) h n k = λ i. same_assigns x h.0 n k i || same_arms_assign arms h.1 n k i
