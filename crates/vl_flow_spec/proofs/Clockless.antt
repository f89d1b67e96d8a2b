-- What is accepted in a design without hierarchy reads no bit of the clock.
use Rattle.std.specs.Prelude.{◌≡◌, refl, ℕ, Bool, true, false, ◌&&◌, ◌||◌, not, nat_lt}
use Rattle.std.specs.Prelude.{if◌then◌else◌, List, [], ◌∷◌, ◌++◌, All, Option, Some, None}
use Rattle.std.proofs.Common.{ap, sym, ◌∙◌, subst, true≢false}
use Rattle.std.proofs.lemmas.List.Elements.{All-nil, All-cons, All-head, All-tail}
use Rattle.vl_tree.specs.Expr.{
  Expr,
  Exprs,
  Selects,
  number,
  name,
  paren,
  unary,
  binary,
  conditional,
  concat,
  repeat,
  cast,
  none,
  more,
  whole,
  bit,
  part,
  indexed,
}
use Rattle.vl_tree.specs.Lval.{Lval, Lvals, named, joined, no_lvals, more_lvals}
use Rattle.vl_tree.specs.Stmt.{
  Stmt,
  Stmts,
  Arms,
  begin,
  if_only,
  if_else,
  case,
  assign,
  assume,
  empty,
  no_stmts,
  more_stmts,
  no_arms,
  labels,
  default,
}
use Rattle.vl_size.specs.declared.context.Context.{Context}
use Rattle.vl_size.specs.declared.decl.Decl.{Decl}
use Rattle.vl_size.specs.Table.{declared_as}
use Rattle.vl_mean.specs.Cells.{is_cell}
use Rattle.vl_mean.specs.FlatLaw.{IsReadIn, IsTarget, AreTargets, IsBlock, AreBlocks, AreArms, case_context}
use Rattle.vl_mean.specs.FlatLaw.{is_variable}
use Rattle.vl_mean.specs.FlatLaw.{names_in, names_in_all, names_in_selects}
use Rattle.vl_mean.specs.Scopes.{is_clock_class, is_clock_decl, no_values}
use Rattle.vl_mean.specs.Targets.{is_decl, has_spot}
use Rattle.vl_flow_spec.specs.Reads.{Bits, IsCellOf, selected, reads, parts_read, selects_read}
use Rattle.vl_flow_spec.specs.Paths.{is_blocking, target_reads, targets_read, labels_read, sure, needs, all_need}
use Rattle.vl_flow_spec.specs.Paths.{arms_need}
use Rattle.vl_flow_spec.proofs.Bools.{or_case, and_left, and_right}
use Rattle.vl_flow_spec.proofs.Cells.{HaveOwnCells}
use Rattle.vl_flow_spec.proofs.Flat.{fixed, name_bits, decl_selected, flat_selected}
use Rattle.vl_flow_spec.proofs.Same.{declared_name}
use Rattle.vl_flow_spec.proofs.Targets.{name_spot_is}

module _ {X : Type 0} (P : X → Type 0) where
  all_front : (xs ys : List X) → All P (xs ++ ys) → All P xs
  all_front [] ys h = All-nil P
  all_front (x ∷ xs) ys h = All-cons P x xs (All-head P x (xs ++ ys) h) (all_front xs ys (All-tail P x (xs ++ ys) h))

  all_back : (xs ys : List X) → All P (xs ++ ys) → All P ys
  all_back [] ys h = h
  all_back (x ∷ xs) ys h = all_back xs ys (All-tail P x (xs ++ ys) h)

module _ (ds : List Decl) (cells : HaveOwnCells ds) where
  abbrev pub IsNotClock : List ℕ → Type 0
  IsNotClock text = is_clock_decl (declared_as ds text) ≡ false

  abbrev pub AreClockless : List (List ℕ) → Type 0
  AreClockless names = All IsNotClock names

  -- no bit of the clock is there
  abbrev pub HasNoClock : Bits → Type 0
  HasNoClock K = (d : Decl) (n : List ℕ) (k : ℕ) → IsCellOf ds d n → K n k ≡ true → is_clock_class d.class ≡ false

  selected_no_clock : (text : List ℕ) (xs : Selects) → is_clock_decl (declared_as ds text) ≡ false
      → HasNoClock (selected ds text xs)
  selected_no_clock text xs c d n k of h = by (declared_as ds text) refl (sym (flat_selected ds text xs n k) ∙ h)
    where
      at : (e : Decl) → declared_as ds text ≡ Some e → (b : Bool)
          → (if b then has_spot n k (name_bits ds no_values text xs) else is_cell text e.words n && nat_lt k e.width)
          ≡ true → is_cell e.name e.words n ≡ true
      at e q true t = (name_spot_is ds no_values text xs e q n k t).0
      at e q false t =
          ap (λ s. is_cell s e.words n) (sym (declared_name ds text e q))
          ∙ and_left (is_cell text e.words n) (nat_lt k e.width) t

      by : (o : Option Decl) → declared_as ds text ≡ o → is_decl o (λ e. decl_selected ds e text xs n k) ≡ true
          → is_clock_class d.class ≡ false
      by None q t = absurd (true≢false (sym t))
      by (Some e) q t =
          let own : declared_as ds e.name ≡ Some e =
          subst (λ s. declared_as ds s ≡ Some e) (declared_name ds text e q) q in
          let same : d ≡ e = cells d e n of (record { declared = own; cell = at e q (fixed ds xs) t }) in
          ap (λ x. is_clock_class x.class) same ∙ ap is_clock_decl (sym q) ∙ c

  -- two indices, and the selects behind them
  two_no_clock : (x y : Expr) (xs : Selects) → (AreClockless (names_in x) → HasNoClock (reads ds x))
      → (AreClockless (names_in y) → HasNoClock (reads ds y))
      → (AreClockless (names_in_selects xs) → HasNoClock (selects_read ds xs))
      → AreClockless (names_in x ++ names_in y ++ names_in_selects xs) → (d : Decl) (n : List ℕ) (k : ℕ)
      → IsCellOf ds d n → ((reads ds x n k || reads ds y n k) || selects_read ds xs n k) ≡ true
      → is_clock_class d.class ≡ false
  two_no_clock x y xs f g m c d n k of h =
      let both = all_front IsNotClock (names_in x ++ names_in y) (names_in_selects xs) c in
      or_case (reads ds x n k || reads ds y n k) (selects_read ds xs n k)
      (or_case (reads ds x n k) (reads ds y n k)
      (f (all_front IsNotClock (names_in x) (names_in y) both) d n k of)
      (g (all_back IsNotClock (names_in x) (names_in y) both) d n k of))
      (m (all_back IsNotClock (names_in x ++ names_in y) (names_in_selects xs) c) d n k of) h

  mutual
    pub reads_no_clock : (e : Expr) → AreClockless (names_in e) → HasNoClock (reads ds e)
    reads_no_clock (number p x) c d n k of h = absurd (true≢false (sym h))
    reads_no_clock (name p text xs) c d n k of h =
        or_case (selected ds text xs n k) (selects_read ds xs n k)
        (selected_no_clock text xs (All-head IsNotClock text (names_in_selects xs) c) d n k of)
        (selects_no_clock xs (All-tail IsNotClock text (names_in_selects xs) c) d n k of) h
    reads_no_clock (paren p x) c d n k of h = reads_no_clock x c d n k of h
    reads_no_clock (unary p op x) c d n k of h = reads_no_clock x c d n k of h
    reads_no_clock (binary p op x y) c d n k of h =
        or_case (reads ds x n k) (reads ds y n k)
        (reads_no_clock x (all_front IsNotClock (names_in x) (names_in y) c) d n k of)
        (reads_no_clock y (all_back IsNotClock (names_in x) (names_in y) c) d n k of) h
    reads_no_clock (conditional p q x y) c d n k of h =
        let front = all_front IsNotClock (names_in q ++ names_in x) (names_in y) c in
        or_case (reads ds q n k) (reads ds x n k || reads ds y n k)
        (reads_no_clock q (all_front IsNotClock (names_in q) (names_in x) front) d n k of)
        (or_case (reads ds x n k) (reads ds y n k)
        (reads_no_clock x (all_back IsNotClock (names_in q) (names_in x) front) d n k of)
        (reads_no_clock y (all_back IsNotClock (names_in q ++ names_in x) (names_in y) c) d n k of)) h
    reads_no_clock (concat p es) c d n k of h = parts_no_clock es c d n k of h
    reads_no_clock (repeat p x es) c d n k of h =
        or_case (reads ds x n k) (parts_read ds es n k)
        (reads_no_clock x (all_front IsNotClock (names_in x) (names_in_all es) c) d n k of)
        (parts_no_clock es (all_back IsNotClock (names_in x) (names_in_all es) c) d n k of) h
    reads_no_clock (cast p to x) c d n k of h = reads_no_clock x c d n k of h

    parts_no_clock : (es : Exprs) → AreClockless (names_in_all es) → HasNoClock (parts_read ds es)
    parts_no_clock none c d n k of h = absurd (true≢false (sym h))
    parts_no_clock (more e es) c d n k of h =
        or_case (reads ds e n k) (parts_read ds es n k)
        (reads_no_clock e (all_front IsNotClock (names_in e) (names_in_all es) c) d n k of)
        (parts_no_clock es (all_back IsNotClock (names_in e) (names_in_all es) c) d n k of) h

    selects_no_clock : (xs : Selects) → AreClockless (names_in_selects xs) → HasNoClock (selects_read ds xs)
    selects_no_clock whole c d n k of h = absurd (true≢false (sym h))
    selects_no_clock (bit p i xs) c d n k of h =
        or_case (reads ds i n k) (selects_read ds xs n k)
        (reads_no_clock i (all_front IsNotClock (names_in i) (names_in_selects xs) c) d n k of)
        (selects_no_clock xs (all_back IsNotClock (names_in i) (names_in_selects xs) c) d n k of) h
    selects_no_clock (part p l r xs) c d n k of h =
        two_no_clock l r xs (reads_no_clock l) (reads_no_clock r) (selects_no_clock xs) c d n k of h
    selects_no_clock (indexed p s m xs) c d n k of h =
        two_no_clock s m xs (reads_no_clock s) (reads_no_clock m) (selects_no_clock xs) c d n k of h

  module _ (may : Decl → Bool) (fix : Bool) where
    mutual
      pub target_no_clock : (l : Lval) → IsTarget ds may fix l → HasNoClock (target_reads ds l)
      target_no_clock (named p text xs) is d n k of h =
          selects_no_clock xs (All-tail IsNotClock text (names_in_selects xs) is.0.clockless) d n k of h
      target_no_clock (joined p ls) is d n k of h = targets_no_clock ls is d n k of h

      targets_no_clock : (ls : Lvals) → AreTargets ds may fix ls → HasNoClock (targets_read ds ls)
      targets_no_clock no_lvals is d n k of h = absurd (true≢false (sym h))
      targets_no_clock (more_lvals l ls) is d n k of h =
          or_case (target_reads ds l n k) (targets_read ds ls n k) (target_no_clock l is.0 d n k of)
          (targets_no_clock ls is.1 d n k of) h

  labels_no_clock : (c : Context) (es : List Expr) → All (IsReadIn ds c) es → HasNoClock (labels_read ds es)
  labels_no_clock c [] are d n k of h = absurd (true≢false (sym h))
  labels_no_clock c (e ∷ es) are d n k of h =
      or_case (reads ds e n k) (labels_read ds es n k)
      (reads_no_clock e (All-head (IsReadIn ds c) e es are).clockless d n k of)
      (labels_no_clock c es (All-tail (IsReadIn ds c) e es are) d n k of) h

  mutual
    pub needs_no_clock : (s : Stmt) → IsBlock ds s → HasNoClock (needs ds s)
    needs_no_clock (begin attrs p label xs) is d n k of h = all_no_clock xs is d n k of h
    needs_no_clock (if_only attrs p e x) is d n k of h =
        or_case (reads ds e n k) (needs ds x n k) (reads_no_clock e is.0.clockless d n k of)
        (needs_no_clock x is.1 d n k of) h
    needs_no_clock (if_else attrs p e x y) is d n k of h =
        or_case (reads ds e n k) (needs ds x n k || needs ds y n k) (reads_no_clock e is.0.clockless d n k of)
        (or_case (needs ds x n k) (needs ds y n k) (needs_no_clock x is.1.0 d n k of)
        (needs_no_clock y is.1.1 d n k of)) h
    needs_no_clock (case attrs p kind e arms) is d n k of h =
        or_case (reads ds e n k) (arms_need ds arms n k) (reads_no_clock e is.0.clockless d n k of)
        (arms_no_clock (case_context ds e arms) arms is.1.1 d n k of) h
    needs_no_clock (assign attrs p l kind e) is d n k of h =
        or_case (target_reads ds l n k) (reads ds e n k) (target_no_clock is_variable false l is.0.0 d n k of)
        (reads_no_clock e is.1.clockless d n k of) h
    needs_no_clock (assume attrs p e) is d n k of h = reads_no_clock e is.clockless d n k of h
    needs_no_clock (empty attrs p) is d n k of h = absurd (true≢false (sym h))

    all_no_clock : (xs : Stmts) → AreBlocks ds xs → HasNoClock (all_need ds xs)
    all_no_clock no_stmts is d n k of h = absurd (true≢false (sym h))
    all_no_clock (more_stmts x xs) is d n k of h =
        or_case (needs ds x n k) (not (sure ds is_blocking x n k) && all_need ds xs n k)
        (needs_no_clock x is.0 d n k of)
        (λ t. all_no_clock xs is.1 d n k of (and_right (not (sure ds is_blocking x n k)) (all_need ds xs n k) t)) h

    arms_no_clock : (c : Context) (arms : Arms) → AreArms ds c arms → HasNoClock (arms_need ds arms)
    arms_no_clock c no_arms is d n k of h = absurd (true≢false (sym h))
    arms_no_clock c (labels p es x arms) is d n k of h =
        or_case (labels_read ds es n k) (needs ds x n k || arms_need ds arms n k) (labels_no_clock c es is.0 d n k of)
        (or_case (needs ds x n k) (arms_need ds arms n k) (needs_no_clock x is.1.0 d n k of)
        (arms_no_clock c arms is.1.1 d n k of)) h
    arms_no_clock c (default p colon x arms) is d n k of h =
        or_case (needs ds x n k) (arms_need ds arms n k) (needs_no_clock x is.0 d n k of)
        (arms_no_clock c arms is.1 d n k of) h
