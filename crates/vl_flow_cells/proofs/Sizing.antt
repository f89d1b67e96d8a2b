-- What a lawful design has: each name in an expression with a size has selects with a size.
use Rattle.std.specs.Prelude.{ℕ, ◌+◌, max, Bool, true, false, ◌&&◌, is_none, if◌then◌else◌, All, List, [], ◌∷◌}
use Rattle.std.specs.Prelude.{Option, Some, None, IsSome}
use Rattle.std.proofs.Common.{sym, true≢false}
use Rattle.std.proofs.lemmas.List.Elements.{All-head, All-tail}
use Rattle.vl_tree.specs.Expr.{
  Expr,
  Exprs,
  Selects,
  number,
  name,
  paren,
  unary,
  binary,
  conditional,
  concat,
  repeat,
  cast,
  none,
  more,
  whole,
  bit,
  part,
  indexed,
}
use Rattle.vl_tree.specs.Lval.{Lval, Lvals, named, joined, no_lvals, more_lvals}
use Rattle.vl_tree.specs.Stmt.{
  Stmt,
  Stmts,
  Arms,
  begin,
  if_only,
  if_else,
  case,
  assign,
  assume,
  empty,
  no_stmts,
  more_stmts,
  no_arms,
  labels,
  default,
}
use Rattle.vl_size.specs.declared.context.Context.{Context}
use Rattle.vl_size.specs.declared.decl.Decl.{Decl}
use Rattle.vl_size.specs.Sign.{sign}
use Rattle.vl_size.specs.Size.{◌>>=◌, within, some_bits, unary_size, operation_size, part_size, times}
use Rattle.vl_size.specs.Size.{operand, index_of}
use Rattle.vl_size.specs.Size.{is_constant, no_names, size, sizes, vector_size, word_size, value}
use Rattle.vl_size.specs.Table.{declared_as}
use Rattle.vl_mean.specs.declared.driver.DriverKind.{DriverKind}
use Rattle.vl_mean.specs.declared.driver.DriverKind.TheVariants as k
use Rattle.vl_mean.specs.FlatLaw.{case_context}
use Rattle.vl_mean.specs.FlatLaw.{IsTarget, AreTargets, IsReadIn, IsBlock, AreBlocks, AreArms}
use Rattle.vl_mean.specs.FlatLaw.{IsDriver, is_net, is_variable}
use Rattle.vl_flow_spec.proofs.Same.{bind_first, bind_then, bind_next, bind_last, some_size}
use Rattle.vl_flow_cells.specs.Sized.{IsSized, AreSized, SelectsAreSized, TargetIsSized, TargetsAreSized}
use Rattle.vl_flow_cells.specs.Sized.{LabelsAreSized}
use Rattle.vl_flow_cells.specs.Sized.{StmtIsSized, StmtsAreSized, ArmsAreSized, DriverIsSized}

module _ (ds : List Decl) where
  by_words : (xs : Selects) (d : Decl) (b : Bool) → (IsSome (vector_size ds d xs) → SelectsAreSized ds xs)
      → (IsSome (word_size ds d xs) → SelectsAreSized ds xs)
      → IsSome (if b then vector_size ds d xs else word_size ds d xs) → SelectsAreSized ds xs
  by_words xs d true f g h = f h
  by_words xs d false f g h = g h

  by_decl : (xs : Selects) (o : Option Decl) → ((d : Decl) → IsSome (vector_size ds d xs) → SelectsAreSized ds xs)
      → ((d : Decl) → IsSome (word_size ds d xs) → SelectsAreSized ds xs)
      → IsSome (o >>= λ d. if is_none d.words then vector_size ds d xs else word_size ds d xs)
      → SelectsAreSized ds xs
  by_decl xs None f g h = absurd (true≢false (sym h))
  by_decl xs (Some d) f g h = by_words xs d (is_none d.words) (f d) (g d) h

  mutual
    pub sized : (e : Expr) → IsSome (size ds e) → IsSized ds e
    sized (number p x) h = tt
    sized (name p text xs) h =
        (h, by_decl xs (declared_as ds text) (λ d g. vector_sized d xs g) (λ d g. word_sized d xs g) h)
    sized (paren p x) h = sized x h
    sized (unary p op x) h = sized x (bind_first (size ds x) (λ m. Some (unary_size op m)) h)
    sized (binary p op x y) h =
        let t = is_constant x && is_constant y in (
          sized x (bind_first (size ds x) (λ m. size ds y >>= λ n. operation_size op m n t) h),
          sized y (bind_then (size ds x) (size ds y) (λ m n. operation_size op m n t) h),
        )
    sized (conditional p c x y) h = (
      sized c (bind_first (size ds c) (λ k. size ds x >>= λ m. size ds y >>= λ n. Some (max m n)) h),
      (
        sized x (bind_then (size ds c) (size ds x) (λ k m. size ds y >>= λ n. Some (max m n)) h),
        sized y (bind_last (size ds c) (size ds x) (size ds y) (λ k m n. Some (max m n)) h),
      ),
    )
    sized (concat p es) h = all_sized es (some_size (sizes ds es) h)
    sized (repeat p n es) h =
        let f : ℕ → ℕ → Option ℕ = λ k m. if is_constant n
        then times (index_of (operand (Some k) (sign ds n) (λ j t. value ds no_names j t n))) m else None in (
          sized n (bind_first (size ds n) (λ k. some_bits (sizes ds es) >>= f k) h),
          all_sized es (some_size (sizes ds es) (bind_then (size ds n) (some_bits (sizes ds es)) f h)),
        )
    sized (cast p to x) h = sized x h

    all_sized : (es : Exprs) → IsSome (sizes ds es) → AreSized ds es
    all_sized none h = tt
    all_sized (more e es) h = (
      sized e (bind_first (size ds e) (λ m. sizes ds es >>= λ n. within (m + n)) h),
      all_sized es (bind_then (size ds e) (sizes ds es) (λ m n. within (m + n)) h),
    )

    vector_sized : (d : Decl) (xs : Selects) → IsSome (vector_size ds d xs) → SelectsAreSized ds xs
    vector_sized d whole h = tt
    vector_sized d (bit p i whole) h = (sized i (bind_first (size ds i) (λ k. Some 1) h), tt)
    vector_sized d (part p l r whole) h =
        let f : ℕ → ℕ → Option ℕ = λ k j. if is_constant l && is_constant r
        then part_size d (index_of (operand (Some k) (sign ds l) (λ m t. value ds no_names m t l)))
        (index_of (operand (Some j) (sign ds r) (λ m t. value ds no_names m t r)))
        else None in (
          (
            sized l (bind_first (size ds l) (λ k. size ds r >>= f k) h),
            sized r (bind_then (size ds l) (size ds r) f h),
          ),
          tt,
        )
    vector_sized d (indexed p s n whole) h =
        let f : ℕ → ℕ → Option ℕ = λ k j. if is_constant n
        then times (index_of (operand (Some j) (sign ds n) (λ m t. value ds no_names m t n))) 1 else None in (
          (
            sized s (bind_first (size ds s) (λ k. size ds n >>= f k) h),
            sized n (bind_then (size ds s) (size ds n) f h),
          ),
          tt,
        )
    vector_sized d (bit p y (bit q z ys)) h = absurd (true≢false (sym h))
    vector_sized d (bit p y (part q l r ys)) h = absurd (true≢false (sym h))
    vector_sized d (bit p y (indexed q z m ys)) h = absurd (true≢false (sym h))
    vector_sized d (part p a b (bit q z ys)) h = absurd (true≢false (sym h))
    vector_sized d (part p a b (part q l r ys)) h = absurd (true≢false (sym h))
    vector_sized d (part p a b (indexed q z m ys)) h = absurd (true≢false (sym h))
    vector_sized d (indexed p a b (bit q z ys)) h = absurd (true≢false (sym h))
    vector_sized d (indexed p a b (part q l r ys)) h = absurd (true≢false (sym h))
    vector_sized d (indexed p a b (indexed q z m ys)) h = absurd (true≢false (sym h))

    word_sized : (d : Decl) (xs : Selects) → IsSome (word_size ds d xs) → SelectsAreSized ds xs
    word_sized d whole h = absurd (true≢false (sym h))
    word_sized d (bit p i xs) h = (
      sized i (bind_first (size ds i) (λ k. vector_size ds d xs) h),
      vector_sized d xs (bind_next (size ds i) (vector_size ds d xs) h),
    )
    word_sized d (part p l r xs) h = absurd (true≢false (sym h))
    word_sized d (indexed p s n xs) h = absurd (true≢false (sym h))

  -- ---- targets and statements

  mutual
    target_sized : (may : Decl → Bool) (fixed : Bool) (l : Lval) → IsTarget ds may fixed l → TargetIsSized ds l
    target_sized may fixed (named p text xs) h = sized (name p text xs) h.0.sized
    target_sized may fixed (joined p ls) h = targets_sized may fixed ls h

    targets_sized : (may : Decl → Bool) (fixed : Bool) (ls : Lvals) → AreTargets ds may fixed ls
        → TargetsAreSized ds ls
    targets_sized may fixed no_lvals h = tt
    targets_sized may fixed (more_lvals l ls) h = (target_sized may fixed l h.0, targets_sized may fixed ls h.1)

  labels_sized : (c : Context) (es : List Expr) → All (IsReadIn ds c) es → LabelsAreSized ds es
  labels_sized c [] h = tt
  labels_sized c (e ∷ es) h = (
    sized e (All-head (IsReadIn ds c) e es h).sized,
    labels_sized c es (All-tail (IsReadIn ds c) e es h),
  )

  mutual
    pub stmt_sized : (s : Stmt) → IsBlock ds s → StmtIsSized ds s
    stmt_sized (begin attrs p label xs) h = stmts_sized xs h
    stmt_sized (if_only attrs p e x) h = (sized e h.0.sized, stmt_sized x h.1)
    stmt_sized (if_else attrs p e x y) h = (sized e h.0.sized, (stmt_sized x h.1.0, stmt_sized y h.1.1))
    stmt_sized (case attrs p kind e arms) h = (sized e h.0.sized, arms_sized (case_context ds e arms) arms h.1.1)
    stmt_sized (assign attrs p l kind e) h = (target_sized is_variable false l h.0.0, sized e h.1.sized)
    stmt_sized (assume attrs p e) h = sized e h.sized
    stmt_sized (empty attrs p) h = tt

    stmts_sized : (xs : Stmts) → AreBlocks ds xs → StmtsAreSized ds xs
    stmts_sized no_stmts h = tt
    stmts_sized (more_stmts x xs) h = (stmt_sized x h.0, stmts_sized xs h.1)

    arms_sized : (c : Context) (arms : Arms) → AreArms ds c arms → ArmsAreSized ds arms
    arms_sized c no_arms h = tt
    arms_sized c (labels p es x arms) h = (labels_sized c es h.0, (stmt_sized x h.1.0, arms_sized c arms h.1.1))
    arms_sized c (default p colon x arms) h = (stmt_sized x h.0, arms_sized c arms h.1)

  -- each driver of a lawful design
  pub driver_sized : (x : DriverKind) → IsDriver ds x → DriverIsSized ds x
  driver_sized (k.Assign l e) h = (target_sized is_net true l h.0.0, sized e h.1.sized)
  driver_sized (k.Comb s) h = stmt_sized s h
  driver_sized (k.Clocked s) h = stmt_sized s h
