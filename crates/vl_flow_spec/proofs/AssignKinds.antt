-- Names with assignments of some kinds: a bit that such an assignment changes is one of a name that has one.
use Rattle.std.specs.Prelude.{◌≡◌, refl, ℕ, List, [], ◌∷◌, ◌++◌, Bool, true, false, ◌&&◌, ◌||◌, bytes_eq}
use Rattle.std.specs.Prelude.{if◌then◌else◌}
use Rattle.std.proofs.Common.{ap, sym, ◌∙◌, true≢false}
use Rattle.std.proofs.lemmas.Slice.Eq.{bytes_eq-Decides}
use Rattle.vl_tree.specs.declared.stmt.AssignKind.{AssignKind}
use Rattle.vl_tree.specs.declared.stmt.AssignKind.TheVariants as a
use Rattle.vl_tree.specs.Lval.{Lval, Lvals, named, joined, no_lvals, more_lvals}
use Rattle.vl_tree.specs.Stmt.{
  Stmt,
  Stmts,
  Arms,
  begin,
  if_only,
  if_else,
  case,
  assign,
  assume,
  empty,
  no_stmts,
  more_stmts,
  no_arms,
  labels,
  default,
}
use Rattle.vl_size.specs.declared.context.Context.{Context}
use Rattle.vl_size.specs.declared.decl.Decl.{Decl}
use Rattle.vl_mean.specs.Cells.{contains_name}
use Rattle.vl_mean.specs.Execution.{assigns, any_assigns, arms_assign}
use Rattle.vl_mean.specs.FlatLaw.{flat_scopes, is_variable, case_context, IsTarget, AreTargets, IsBlock, AreBlocks, AreArms}
use Rattle.vl_mean.specs.Targets.{may_change, any_may_change}
use Rattle.vl_flow_spec.specs.Assigned.{target_names, all_target_names, assigned_names, all_assigned_names}
use Rattle.vl_flow_spec.specs.Assigned.{arms_assigned_names}
use Rattle.vl_flow_spec.specs.Paths.{is_blocking, is_nonblocking, any_kind, changes, any_changes, arms_change}
use Rattle.vl_flow_spec.proofs.Bools.{or_left, or_right, or_case}
use Rattle.vl_flow_spec.proofs.Changed.{IsBitOfKind, name_changed}

-- ---- lists of names

or_assoc : (a b c : Bool) → (a || (b || c)) ≡ ((a || b) || c)
or_assoc true b c = refl
or_assoc false b c = refl

pub contains_both : (xs ys : List (List ℕ)) (n : List ℕ)
    → contains_name (xs ++ ys) n ≡ (contains_name xs n || contains_name ys n)
contains_both [] ys n = refl
contains_both (x ∷ xs) ys n =
    ap (λ b. bytes_eq n x || b) (contains_both xs ys n)
    ∙ or_assoc (bytes_eq n x) (contains_name xs n) (contains_name ys n)

-- ---- of either kind

or_pairs : (a b c d : Bool) → ((a || b) || (c || d)) ≡ ((a || c) || (b || d))
or_pairs true b c d = refl
or_pairs false true true d = refl
or_pairs false true false d = refl
or_pairs false false c d = refl

or_none : (a : Bool) → a ≡ (a || false)
or_none true = refl
or_none false = refl

-- what two parts have, each by one kind or by the other
parted : (any all now nows later laters : List (List ℕ)) (n : List ℕ)
    → contains_name any n ≡ (contains_name now n || contains_name later n)
    → contains_name all n ≡ (contains_name nows n || contains_name laters n)
    → contains_name (any ++ all) n ≡ (contains_name (now ++ nows) n || contains_name (later ++ laters) n)
parted any all now nows later laters n e f =
    contains_both any all n ∙ (λ i. e i || f i)
    ∙ or_pairs (contains_name now n) (contains_name later n) (contains_name nows n) (contains_name laters n)
    ∙ (λ i. sym (contains_both now nows n) i || sym (contains_both later laters n) i)

mutual
  pub either_kind : (s : Stmt) (n : List ℕ) → contains_name (assigned_names any_kind s) n
      ≡ (contains_name (assigned_names is_blocking s) n || contains_name (assigned_names is_nonblocking s) n)
  either_kind (begin attrs p label xs) n = all_either xs n
  either_kind (if_only attrs p e x) n = either_kind x n
  either_kind (if_else attrs p e x y) n =
      parted (assigned_names any_kind x) (assigned_names any_kind y) (assigned_names is_blocking x)
      (assigned_names is_blocking y) (assigned_names is_nonblocking x) (assigned_names is_nonblocking y) n
      (either_kind x n) (either_kind y n)
  either_kind (case attrs p kind e arms) n = arms_either arms n
  either_kind (assign attrs p l a.Blocking e) n = or_none (contains_name (target_names l) n)
  either_kind (assign attrs p l a.Nonblocking e) n = refl
  either_kind (assume attrs p e) n = refl
  either_kind (empty attrs p) n = refl

  all_either : (xs : Stmts) (n : List ℕ) → contains_name (all_assigned_names any_kind xs) n
      ≡ (contains_name (all_assigned_names is_blocking xs) n || contains_name (all_assigned_names is_nonblocking xs) n)
  all_either no_stmts n = refl
  all_either (more_stmts x xs) n =
      parted (assigned_names any_kind x) (all_assigned_names any_kind xs) (assigned_names is_blocking x)
      (all_assigned_names is_blocking xs) (assigned_names is_nonblocking x) (all_assigned_names is_nonblocking xs) n
      (either_kind x n) (all_either xs n)

  arms_either : (xs : Arms) (n : List ℕ) → contains_name (arms_assigned_names any_kind xs) n
      ≡ (contains_name (arms_assigned_names is_blocking xs) n || contains_name (arms_assigned_names is_nonblocking xs) n)
  arms_either no_arms n = refl
  arms_either (labels p es x xs) n =
      parted (assigned_names any_kind x) (arms_assigned_names any_kind xs) (assigned_names is_blocking x)
      (arms_assigned_names is_blocking xs) (assigned_names is_nonblocking x) (arms_assigned_names is_nonblocking xs) n
      (either_kind x n) (arms_either xs n)
  arms_either (default p colon x xs) n =
      parted (assigned_names any_kind x) (arms_assigned_names any_kind xs) (assigned_names is_blocking x)
      (arms_assigned_names is_blocking xs) (assigned_names is_nonblocking x) (arms_assigned_names is_nonblocking xs) n
      (either_kind x n) (arms_either xs n)

module _ (ds : List Decl) where
  -- ---- what assignments of any kind change

  mutual
    pub any_kind_changes : (s : Stmt) (n : List ℕ) (i : ℕ)
        → changes ds any_kind s n i ≡ assigns (flat_scopes ds) s n i
    any_kind_changes (begin attrs p label xs) n i = all_changes xs n i
    any_kind_changes (if_only attrs p e x) n i = any_kind_changes x n i
    any_kind_changes (if_else attrs p e x y) n i = λ j. any_kind_changes x n i j || any_kind_changes y n i j
    any_kind_changes (case attrs p kind e arms) n i = all_arms_change arms n i
    any_kind_changes (assign attrs p l kind e) n i = refl
    any_kind_changes (assume attrs p e) n i = refl
    any_kind_changes (empty attrs p) n i = refl

    all_changes : (xs : Stmts) (n : List ℕ) (i : ℕ)
        → any_changes ds any_kind xs n i ≡ any_assigns (flat_scopes ds) xs n i
    all_changes no_stmts n i = refl
    all_changes (more_stmts x xs) n i = λ j. any_kind_changes x n i j || all_changes xs n i j

    all_arms_change : (xs : Arms) (n : List ℕ) (i : ℕ)
        → arms_change ds any_kind xs n i ≡ arms_assign (flat_scopes ds) xs n i
    all_arms_change no_arms n i = refl
    all_arms_change (labels p es x xs) n i = λ j. any_kind_changes x n i j || all_arms_change xs n i j
    all_arms_change (default p colon x xs) n i = λ j. any_kind_changes x n i j || all_arms_change xs n i j

  -- ---- a bit of one of the names

  abbrev pub IsNamedBit : List (List ℕ) → List ℕ → ℕ → Type 0
  IsNamedBit names n i = (b : IsBitOfKind ds is_variable n i) × (contains_name names b.decl.name ≡ true)

  of_first : (xs ys : List (List ℕ)) (n : List ℕ) (i : ℕ) → IsNamedBit xs n i → IsNamedBit (xs ++ ys) n i
  of_first xs ys n i h = (
    h.0,
    contains_both xs ys h.0.decl.name ∙ or_left (contains_name xs h.0.decl.name) (contains_name ys h.0.decl.name) h.1,
  )

  of_second : (xs ys : List (List ℕ)) (n : List ℕ) (i : ℕ) → IsNamedBit ys n i → IsNamedBit (xs ++ ys) n i
  of_second xs ys n i h = (
    h.0,
    contains_both xs ys h.0.decl.name ∙ or_right (contains_name xs h.0.decl.name) (contains_name ys h.0.decl.name) h.1,
  )

  of_either : (xs ys : List (List ℕ)) (n : List ℕ) (i : ℕ) (b c : Bool) → (b ≡ true → IsNamedBit xs n i)
      → (c ≡ true → IsNamedBit ys n i) → (b || c) ≡ true → IsNamedBit (xs ++ ys) n i
  of_either xs ys n i b c f g h =
      or_case b c (λ t. of_first xs ys n i (f t)) (λ t. of_second xs ys n i (g t)) h

  mutual
    target_named : (l : Lval) → IsTarget ds is_variable false l → (n : List ℕ) (i : ℕ)
        → may_change (flat_scopes ds) l n i ≡ true → IsNamedBit (target_names l) n i
    target_named (named p text xs) is n i h =
        let r = name_changed ds is_variable false p text xs is n i h in (
          r.0,
          or_left (bytes_eq r.0.decl.name text) false ((bytes_eq-Decides r.0.decl.name text).1 r.1),
        )
    target_named (joined p ls) is n i h = targets_named ls is n i h

    targets_named : (ls : Lvals) → AreTargets ds is_variable false ls → (n : List ℕ) (i : ℕ)
        → any_may_change (flat_scopes ds) ls n i ≡ true → IsNamedBit (all_target_names ls) n i
    targets_named no_lvals is n i h = absurd (true≢false (sym h))
    targets_named (more_lvals l ls) is n i h =
        of_either (target_names l) (all_target_names ls) n i (may_change (flat_scopes ds) l n i)
        (any_may_change (flat_scopes ds) ls n i) (target_named l is.0 n i) (targets_named ls is.1 n i) h

  module _ (counts : AssignKind → Bool) where
    where_counted : (l : Lval) → IsTarget ds is_variable false l → (n : List ℕ) (i : ℕ) (b : Bool)
        → (b && may_change (flat_scopes ds) l n i) ≡ true → IsNamedBit (if b then target_names l else []) n i
    where_counted l is n i true h = target_named l is n i h
    where_counted l is n i false h = absurd (true≢false (sym h))

    mutual
      pub block_named : (s : Stmt) → IsBlock ds s → (n : List ℕ) (i : ℕ) → changes ds counts s n i ≡ true
          → IsNamedBit (assigned_names counts s) n i
      block_named (begin attrs p label xs) is n i h = blocks_named xs is n i h
      block_named (if_only attrs p e x) is n i h = block_named x is.1 n i h
      block_named (if_else attrs p e x y) is n i h =
          of_either (assigned_names counts x) (assigned_names counts y) n i (changes ds counts x n i)
          (changes ds counts y n i) (block_named x is.1.0 n i) (block_named y is.1.1 n i) h
      block_named (case attrs p kind e arms) is n i h = arms_named (case_context ds e arms) arms is.1.1 n i h
      block_named (assign attrs p l kind e) is n i h = where_counted l is.0.0 n i (counts kind) h
      block_named (assume attrs p e) is n i h = absurd (true≢false (sym h))
      block_named (empty attrs p) is n i h = absurd (true≢false (sym h))

      blocks_named : (xs : Stmts) → AreBlocks ds xs → (n : List ℕ) (i : ℕ) → any_changes ds counts xs n i ≡ true
          → IsNamedBit (all_assigned_names counts xs) n i
      blocks_named no_stmts is n i h = absurd (true≢false (sym h))
      blocks_named (more_stmts x xs) is n i h =
          of_either (assigned_names counts x) (all_assigned_names counts xs) n i (changes ds counts x n i)
          (any_changes ds counts xs n i) (block_named x is.0 n i) (blocks_named xs is.1 n i) h

      arms_named : (c : Context) (arms : Arms) → AreArms ds c arms → (n : List ℕ) (i : ℕ)
          → arms_change ds counts arms n i ≡ true → IsNamedBit (arms_assigned_names counts arms) n i
      arms_named c no_arms is n i h = absurd (true≢false (sym h))
      arms_named c (labels p es x arms) is n i h =
          of_either (assigned_names counts x) (arms_assigned_names counts arms) n i (changes ds counts x n i)
          (arms_change ds counts arms n i) (block_named x is.1.0 n i) (arms_named c arms is.1.1 n i) h
      arms_named c (default p colon x arms) is n i h =
          of_either (assigned_names counts x) (arms_assigned_names counts arms) n i (changes ds counts x n i)
          (arms_change ds counts arms n i) (block_named x is.0 n i) (arms_named c arms is.1 n i) h
