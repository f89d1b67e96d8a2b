-- The weight of a design is below 2 ^ 64: each node has at most as many gates as the names of the design have bits.
use Rattle.std.specs.Prelude.{◌≡◌, refl, ℕ, zero, suc, ◌+◌, ◌*◌, ◌^◌, ◌<◌, ◌≤◌, max, List, [], ◌∷◌, ◌++◌, Bool, true}
use Rattle.std.specs.Prelude.{false}
use Rattle.std.specs.Prelude.{◌&&◌, bytes_eq, is_none, nat_le, All, Option, Some, None, ℤ, pos, negsuc, if◌then◌else◌}
use Rattle.std.proofs.Common.{ap, arith, subst, true≢false}
use Rattle.std.proofs.Math.Nat.{mul-le-mul_right}
use Rattle.std.proofs.lemmas.Bool.Decides.{nat_tests}
use Rattle.std.proofs.lemmas.List.Elements.{All-head, All-tail}
use Rattle.std.proofs.lemmas.Option.{same_Some}
use Rattle.vl_tree.specs.declared.operator.UnaryOperator.{UnaryOperator}
use Rattle.vl_tree.specs.declared.operator.UnaryOperator.TheVariants as u
use Rattle.vl_tree.specs.declared.operator.BinaryOperator.{BinaryOperator}
use Rattle.vl_tree.specs.declared.operator.BinaryOperator.TheVariants as b
use Rattle.vl_tree.specs.Expr.{
  Expr,
  Exprs,
  Selects,
  number,
  name,
  paren,
  unary,
  binary,
  conditional,
  concat,
  repeat,
  cast,
  none,
  more,
  whole,
  bit,
  part,
  indexed,
}
use Rattle.vl_tree.specs.Lval.{Lval, Lvals, named, joined, no_lvals, more_lvals}
use Rattle.vl_tree.specs.Stmt.{
  Stmt,
  Stmts,
  Arms,
  begin,
  if_only,
  if_else,
  case,
  assign,
  assume,
  empty,
  no_stmts,
  more_stmts,
  no_arms,
  labels,
  default,
}
use Rattle.vl_size.specs.declared.context.Context.{Context}
use Rattle.vl_size.specs.declared.decl.Decl.{Decl}
use Rattle.vl_size.specs.declared.way.Way.{Way}
use Rattle.vl_size.specs.declared.way.Way.TheVariants as w
use Rattle.vl_size.specs.Divisors.{is_logical}
use Rattle.vl_size.specs.Sign.{sign}
use Rattle.vl_size.specs.Size.{◌>>=◌, is_constant, or_none, size, sizes, vector_size, word_size, within, only_if}
use Rattle.vl_size.specs.Size.{some_bits}
use Rattle.vl_size.specs.Size.{times, part_size, unary_size, operation_size, size_by, divides, operand, index_of, value}
use Rattle.vl_size.specs.Size.{no_names, is_bound, goes_along}
use Rattle.vl_size.specs.Table.{declared_as, span, IsShaped}
use Rattle.vl_size.specs.Way.{way, keeps_size}
use Rattle.vl_mean.specs.declared.driver.Driver.{Driver}
use Rattle.vl_mean.specs.declared.driver.DriverKind.{DriverKind}
use Rattle.vl_mean.specs.declared.driver.DriverKind.TheVariants as k
use Rattle.vl_mean.specs.declared.driver.Start.{Start}
use Rattle.vl_mean.specs.Cells.{contains_name}
use Rattle.vl_mean.specs.Execution.{arms_size, labels_size}
use Rattle.vl_mean.specs.FlatLaw.{flat_scopes, target_size, name_count, all_names_count, nodes, all_nodes}
use Rattle.vl_mean.specs.FlatLaw.{select_nodes, target_nodes, all_target_nodes, label_nodes, stmt_nodes, all_stmt_nodes}
use Rattle.vl_mean.specs.FlatLaw.{arm_nodes, driver_nodes, node_count, IsLawful, IsDriver, IsBlock, AreBlocks, AreArms}
use Rattle.vl_mean.specs.FlatLaw.{case_context}
use Rattle.vl_mean.specs.Scopes.{operand_in, no_values}
use Rattle.vl_mean.specs.Targets.{are_fixed}
use Rattle.vl_mean_flat.proofs.SameTarget.{flat_operand}
use Rattle.vl_flow_spec.proofs.Cells.{declared_all}
use Rattle.vl_flow_spec.specs.Weight.{operation_weight, unary_weight, word_count, access_weight, own_size, left_size}
use Rattle.vl_flow_spec.specs.Weight as weigh
use Rattle.vl_flow_spec.specs.Weight.{right_size, weight, parts_weight, selects_weight, target_weight, targets_weight}
use Rattle.vl_flow_spec.specs.Weight.{assigned_weight, widths_of, merge_weight, labels_weight, stmt_weight}
use Rattle.vl_flow_spec.specs.Weight.{stmts_weight}
use Rattle.vl_flow_spec.specs.Assigned.{assigned_names, arms_assigned_names}
use Rattle.vl_flow_spec.specs.Paths.{any_kind}
use Rattle.vl_flow_spec.specs.Weight.{arms_weight, behind_word, driver_weight, design_weight, select_weight}

-- ---- sizes

within_few : (n : ℕ) → or_none (within n) ≤ 128
within_few n = by (nat_le n 128) refl
  where
    by : (t : Bool) → nat_le n 128 ≡ t → or_none (if t then Some n else None) ≤ 128
    by true e = grind (arith, nat_tests, e)
    by false e = omega arith

times_few : (i : ℤ) (m : ℕ) → or_none (times i m) ≤ 128
times_few (pos zero) m = omega arith
times_few (pos (suc n)) m = within_few (suc n * m)
times_few (negsuc n) m = omega arith

-- where each answer is small
bind_few : (o : Option ℕ) (f : ℕ → Option ℕ) → ((m : ℕ) → o ≡ Some m → or_none (f m) ≤ 128) → or_none (o >>= f) ≤ 128
bind_few None f h = omega arith
bind_few (Some m) f h = h m refl

of_some : (o : Option ℕ) (m : ℕ) → or_none o ≤ 128 → o ≡ Some m → m ≤ 128
of_some o m h e = subst (λ q. or_none q ≤ 128) e h

if_some : (t : Bool) (o : Option ℕ) → or_none o ≤ 128 → or_none (if t then o else None) ≤ 128
if_some true o h = h
if_some false o h = omega arith

size_by_few : (way : Way) (m n : ℕ) → m ≤ 128 → n ≤ 128 → size_by way m n ≤ 128
size_by_few w.Larger m n h g = grind (arith, h, g)
size_by_few w.Left m n h g = h
size_by_few w.One m n h g = omega arith

operation_few : (op : BinaryOperator) (m n : ℕ) (c : Bool) → m ≤ 128 → n ≤ 128
    → or_none (operation_size op m n c) ≤ 128
operation_few op m n c h g = by (divides op) c
  where
    by : (t c : Bool) → or_none (if t then only_if c (max m n) else Some (size_by (way op) m n)) ≤ 128
    by true true = within_few (max m n)
    by true false = omega arith
    by false c = size_by_few (way op) m n h g

unary_few : (op : UnaryOperator) (m : ℕ) → m ≤ 128 → unary_size op m ≤ 128
unary_few op m h = by (keeps_size op)
  where
    by : (t : Bool) → (if t then m else 1) ≤ 128
    by true = h
    by false = omega arith

some_few : (o : Option ℕ) → or_none o ≤ 128 → or_none (some_bits o) ≤ 128
some_few None h = h
some_few (Some zero) h = h
some_few (Some (suc n)) h = h

module _ (ds : List Decl) (shaped : All IsShaped ds) where
  vector_few : (d : Decl) → d.width ≤ 128 → (xs : Selects) → or_none (vector_size ds d xs) ≤ 128
  vector_few d few whole = few
  vector_few d few (bit p i whole) = bind_few (size ds i) (λ m. Some 1) (λ m e. omega arith)
  vector_few d few (part p l r whole) =
      bind_few (size ds l) (λ m. size ds r >>= λ j. inner m j) (λ m e.
      bind_few (size ds r) (λ j. inner m j) (λ j f.
      if_some (is_constant l && is_constant r) (part_size d (index_of (operand (Some m) (sign ds l) (λ q t. value ds no_names q t l)))
      (index_of (operand (Some j) (sign ds r) (λ q t. value ds no_names q t r))))
      (ranged (index_of (operand (Some m) (sign ds l) (λ q t. value ds no_names q t l)))
      (index_of (operand (Some j) (sign ds r) (λ q t. value ds no_names q t r))))))
    where
      inner : ℕ → ℕ → Option ℕ
      inner m j =
          if is_constant l && is_constant r
          then part_size d (index_of (operand (Some m) (sign ds l) (λ q t. value ds no_names q t l)))
          (index_of (operand (Some j) (sign ds r) (λ q t. value ds no_names q t r))) else None

      ranged : (i j : ℤ) → or_none (part_size d i j) ≤ 128
      ranged i j = by (is_bound i && (is_bound j && goes_along d i j))
        where
          by : (t : Bool) → or_none (only_if t (span i j)) ≤ 128
          by true = within_few (span i j)
          by false = omega arith
  vector_few d few (indexed p s n whole) =
      bind_few (size ds s) (λ m. size ds n >>= λ j. inner m j) (λ m e.
      bind_few (size ds n) (λ j. inner m j) (λ j f.
      if_some (is_constant n) (times (index_of (operand (Some j) (sign ds n) (λ q t. value ds no_names q t n))) 1)
      (times_few (index_of (operand (Some j) (sign ds n) (λ q t. value ds no_names q t n))) 1)))
    where
      inner : ℕ → ℕ → Option ℕ
      inner m j =
          if is_constant n then times (index_of (operand (Some j) (sign ds n) (λ q t. value ds no_names q t n))) 1
          else None
  vector_few d few (bit p y (bit q z ys)) = omega arith
  vector_few d few (bit p y (part q l r ys)) = omega arith
  vector_few d few (bit p y (indexed q z m ys)) = omega arith
  vector_few d few (part p y z (bit q i ys)) = omega arith
  vector_few d few (part p y z (part q l r ys)) = omega arith
  vector_few d few (part p y z (indexed q i m ys)) = omega arith
  vector_few d few (indexed p y z (bit q i ys)) = omega arith
  vector_few d few (indexed p y z (part q l r ys)) = omega arith
  vector_few d few (indexed p y z (indexed q i m ys)) = omega arith

  word_few : (d : Decl) → d.width ≤ 128 → (xs : Selects) → or_none (word_size ds d xs) ≤ 128
  word_few d few whole = omega arith
  word_few d few (bit p i xs) = bind_few (size ds i) (λ m. vector_size ds d xs) (λ m e. vector_few d few xs)
  word_few d few (part p l r xs) = omega arith
  word_few d few (indexed p s n xs) = omega arith

  width_few : (text : List ℕ) (d : Decl) → declared_as ds text ≡ Some d → d.width ≤ 128
  width_few text d e = (declared_all IsShaped ds text d e shaped).few_bits

  mutual
    pub size_few : (e : Expr) → or_none (size ds e) ≤ 128
    size_few (number p n) = n.few_bits
    size_few (name p text xs) = by (declared_as ds text) refl
      where
        inner : (d : Decl) (t : Bool) → d.width ≤ 128
            → or_none (if t then vector_size ds d xs else word_size ds d xs) ≤ 128
        inner d true few = vector_few d few xs
        inner d false few = word_few d few xs

        by : (o : Option Decl) → declared_as ds text ≡ o
            → or_none (o >>= λ d. if is_none d.words then vector_size ds d xs else word_size ds d xs) ≤ 128
        by None e = omega arith
        by (Some d) e = inner d (is_none d.words) (width_few text d e)
    size_few (paren p x) = size_few x
    size_few (unary p op x) =
        bind_few (size ds x) (λ m. Some (unary_size op m)) (λ m e. unary_few op m (of_some (size ds x) m (size_few x) e))
    size_few (binary p op x y) =
        let h = size_few x in
        let g = size_few y in
        bind_few (size ds x) (λ m. size ds y >>= λ n. operation_size op m n (is_constant x && is_constant y)) (λ m e.
        bind_few (size ds y) (λ n. operation_size op m n (is_constant x && is_constant y)) (λ n f.
        operation_few op m n (is_constant x && is_constant y) (of_some (size ds x) m h e) (of_some (size ds y) n g f)))
    size_few (conditional p c x y) =
        let h = size_few x in
        let g = size_few y in
        bind_few (size ds c) (λ j. size ds x >>= λ m. size ds y >>= λ n. Some (max m n)) (λ j d.
        bind_few (size ds x) (λ m. size ds y >>= λ n. Some (max m n)) (λ m e.
        bind_few (size ds y) (λ n. Some (max m n)) (λ n f.
        let few_m = of_some (size ds x) m h e in
        let few_n = of_some (size ds y) n g f in grind (arith, few_m, few_n))))
    size_few (concat p es) = some_few (sizes ds es) (sizes_few es)
    size_few (repeat p n es) =
        bind_few (size ds n) (λ j. some_bits (sizes ds es) >>= λ m.
        if is_constant n then times (index_of (operand (Some j) (sign ds n) (λ q t. value ds no_names q t n))) m
        else None) (λ j d.
        bind_few (some_bits (sizes ds es)) (λ m.
        if is_constant n then times (index_of (operand (Some j) (sign ds n) (λ q t. value ds no_names q t n))) m
        else None) (λ m e.
        if_some (is_constant n) (times (index_of (operand (Some j) (sign ds n) (λ q t. value ds no_names q t n))) m)
        (times_few (index_of (operand (Some j) (sign ds n) (λ q t. value ds no_names q t n))) m)))
    size_few (cast p to x) = size_few x

    sizes_few : (es : Exprs) → or_none (sizes ds es) ≤ 128
    sizes_few none = omega arith
    sizes_few (more e es) =
        bind_few (size ds e) (λ m. sizes ds es >>= λ n. within (m + n)) (λ m f.
        bind_few (sizes ds es) (λ n. within (m + n)) (λ n g. within_few (m + n)))

  -- ---- nodes

  if_none : (t : Bool) (x y : ℕ) → x ≤ y → (if t then 0 else x) ≤ y
  if_none true x y h = omega arith
  if_none false x y h = h

  square_few : (n : ℕ) → n ≤ 128 → 8 * n * n ≤ 131072
  square_few n h =
      let few : 8 * n ≤ 1024 = omega (arith, h) in
      let one : 8 * n * n ≤ 1024 * n = mul-le-mul_right n few in
      omega (arith, one, h)

  operation_small : (op : BinaryOperator) (n : ℕ) → n ≤ 128 → operation_weight op n ≤ 131072
  operation_small b.Multiply n h = square_few n h
  operation_small b.Divide n h = omega (arith, h)
  operation_small b.Remainder n h = omega (arith, h)
  operation_small b.Add n h = omega (arith, h)
  operation_small b.Subtract n h = omega (arith, h)
  operation_small b.BitwiseAnd n h = omega (arith, h)
  operation_small b.BitwiseXor n h = omega (arith, h)
  operation_small b.BitwiseXnor n h = omega (arith, h)
  operation_small b.BitwiseXnorCaretFirst n h = omega (arith, h)
  operation_small b.BitwiseOr n h = omega (arith, h)
  operation_small b.ShiftLeft n h = omega (arith, h)
  operation_small b.ShiftRight n h = omega (arith, h)
  operation_small b.ArithmeticShiftLeft n h = omega (arith, h)
  operation_small b.ArithmeticShiftRight n h = omega (arith, h)
  operation_small b.Less n h = omega (arith, h)
  operation_small b.LessEqual n h = omega (arith, h)
  operation_small b.Greater n h = omega (arith, h)
  operation_small b.GreaterEqual n h = omega (arith, h)
  operation_small b.Equal n h = omega (arith, h)
  operation_small b.NotEqual n h = omega (arith, h)
  operation_small b.CaseEqual n h = omega (arith, h)
  operation_small b.CaseNotEqual n h = omega (arith, h)
  operation_small b.LogicalAnd n h = omega (arith, h)
  operation_small b.LogicalOr n h = omega (arith, h)

  unary_small : (op : UnaryOperator) (n : ℕ) → n ≤ 128 → unary_weight op n ≤ 131072
  unary_small u.Plus n h = omega (arith, h)
  unary_small u.Minus n h = omega (arith, h)
  unary_small u.LogicalNot n h = omega (arith, h)
  unary_small u.BitwiseNot n h = omega (arith, h)
  unary_small u.ReductionAnd n h = omega (arith, h)
  unary_small u.ReductionNand n h = omega (arith, h)
  unary_small u.ReductionOr n h = omega (arith, h)
  unary_small u.ReductionNor n h = omega (arith, h)
  unary_small u.ReductionXor n h = omega (arith, h)
  unary_small u.ReductionXnor n h = omega (arith, h)
  unary_small u.ReductionXnorCaretFirst n h = omega (arith, h)

  larger_few : (x y : Expr) → max (or_none (size ds x)) (or_none (size ds y)) ≤ 128
  larger_few x y = let h = size_few x in let g = size_few y in grind (arith, h, g)

  operation_at : (way : Way) (n : ℕ) (x y : Expr) → n ≤ 128 → weigh.operation_size ds way n x y ≤ 128
  operation_at w.Larger n x y h = h
  operation_at w.Left n x y h = h
  operation_at w.One n x y h = larger_few x y

  left_at : (way : Way) (op : BinaryOperator) (n : ℕ) (x y : Expr) → n ≤ 128 → left_size ds way op n x y ≤ 128
  left_at w.Larger op n x y h = h
  left_at w.Left op n x y h = h
  left_at w.One op n x y h = by (is_logical op)
    where
      by : (t : Bool) → (if t then own_size ds x else max (own_size ds x) (own_size ds y)) ≤ 128
      by true = size_few x
      by false = larger_few x y

  right_at : (way : Way) (op : BinaryOperator) (n : ℕ) (x y : Expr) → n ≤ 128 → right_size ds way op n x y ≤ 128
  right_at w.Larger op n x y h = h
  right_at w.Left op n x y h = size_few y
  right_at w.One op n x y h = by (is_logical op)
    where
      by : (t : Bool) → (if t then own_size ds y else max (own_size ds x) (own_size ds y)) ≤ 128
      by true = size_few y
      by false = larger_few x y

  module _ (few : all_names_count ds ≤ 200000) where
    -- ---- names

    count_of : (es : List Decl) (text : List ℕ) (d : Decl) → declared_as es text ≡ Some d
        → name_count d.words ≤ all_names_count es
    count_of [] text d e = absurd (true≢false (ap is_none e))
    count_of (x ∷ xs) text d e = by (λ f. count_of xs text d f) (bytes_eq text x.name) e
      where
        by : (declared_as xs text ≡ Some d → name_count d.words ≤ all_names_count xs) → (t : Bool)
            → (if t then Some x else declared_as xs text) ≡ Some d
            → name_count d.words ≤ name_count x.words + all_names_count xs
        by f true e =
            let same : name_count x.words ≡ name_count d.words = ap (λ z. name_count z.words) (same_Some x d e) in
            omega (arith, same)
        by f false e = omega (arith, f e)

    words_few : (o : Option (ℤ × ℤ)) → word_count o ≤ name_count o
    words_few None = omega arith
    words_few (Some q) = omega arith

    select_few : (w : ℕ) (xs : Selects) → w ≤ 128 → select_weight ds w xs ≤ 128
    select_few w xs h = if_none (are_fixed (flat_scopes ds) xs) w 128 h

    access_few : (text : List ℕ) (xs : Selects) → access_weight ds (declared_as ds text) xs ≤ 25600128
    access_few text xs = by (declared_as ds text) refl
      where
        one_of : (t : Bool) (x y : ℕ) → x ≤ 25600128 → y ≤ 25600128 → (if t then x else y) ≤ 25600128
        one_of true x y h g = h
        one_of false x y h g = g

        by : (o : Option Decl) → declared_as ds text ≡ o → access_weight ds o xs ≤ 25600128
        by None e = omega arith
        by (Some d) e =
            let count = count_of ds text d e in
            let words = words_few d.words in
            let all : word_count d.words ≤ 200000 = omega (arith, few, count, words) in
            let wide : d.width ≤ 128 = width_few text d e in
            let one : word_count d.words * d.width ≤ 200000 * d.width = mul-le-mul_right d.width all in
            let product : word_count d.words * d.width ≤ 25600000 = omega (arith, one, wide) in
            let behind = select_few d.width (behind_word xs) wide in
            let vector = select_few d.width xs wide in
            one_of (is_none d.words) (select_weight ds d.width xs)
            (word_count d.words * d.width + select_weight ds d.width (behind_word xs)) (omega (arith, vector))
            (omega (arith, product, behind))

    some_node : (e : Expr) → 1 ≤ nodes e
    some_node (number p n) = omega arith
    some_node (name p text xs) = omega arith
    some_node (paren p x) = omega arith
    some_node (unary p op x) = omega arith
    some_node (binary p op x y) = omega arith
    some_node (conditional p c x y) = omega arith
    some_node (concat p es) = omega arith
    some_node (repeat p n es) = omega arith
    some_node (cast p to x) = omega arith

    -- ---- expressions

    kept : (t : Bool) (n m : ℕ) → n ≤ 128 → m ≤ 128 → (if t then n else m) ≤ 128
    kept true n m h g = h
    kept false n m h g = g

    mutual
      pub weight_few : (n : ℕ) → n ≤ 128 → (e : Expr) → weight ds n e ≤ 25600128 * nodes e
      weight_few n h (number p x) = omega arith
      weight_few n h (name p text xs) =
          let one = access_few text xs in
          let all = selects_few xs in omega (arith, one, all)
      weight_few n h (paren p x) = let one = weight_few n h x in omega (arith, one)
      weight_few n h (unary p op x) =
          let m = if keeps_size op then n else own_size ds x in
          let less = kept (keeps_size op) n (own_size ds x) h (size_few x) in
          let one = unary_small op m less in
          let all = weight_few m less x in
          if_none (is_constant x) (unary_weight op m + weight ds m x) (25600128 * (nodes x + 1)) (omega (arith, one, all))
      weight_few n h (binary p op x y) =
          let one = operation_small op (weigh.operation_size ds (way op) n x y) (operation_at (way op) n x y h) in
          let left = weight_few (left_size ds (way op) op n x y) (left_at (way op) op n x y h) x in
          let right = weight_few (right_size ds (way op) op n x y) (right_at (way op) op n x y h) y in
          if_none (is_constant x && is_constant y)
          (operation_weight op (weigh.operation_size ds (way op) n x y)
          + (weight ds (left_size ds (way op) op n x y) x + weight ds (right_size ds (way op) op n x y) y))
          (25600128 * (nodes x + nodes y + 1)) (omega (arith, one, left, right))
      weight_few n h (conditional p c x y) =
          let one = weight_few (own_size ds c) (size_few c) c in
          let first = weight_few n h x in
          let second = weight_few n h y in
          if_none (is_constant c && (is_constant x && is_constant y))
          (n + (weight ds (own_size ds c) c + weight ds n x + weight ds n y))
          (25600128 * (nodes c + nodes x + nodes y + 1)) (omega (arith, h, one, first, second))
      weight_few n h (concat p es) = let all = parts_few es in omega (arith, all)
      weight_few n h (repeat p m es) = let all = parts_few es in omega (arith, all)
      weight_few n h (cast p to x) = let one = weight_few (own_size ds x) (size_few x) x in omega (arith, one)

      parts_few : (es : Exprs) → parts_weight ds es ≤ 25600128 * all_nodes es
      parts_few none = omega arith
      parts_few (more e es) =
          let one = weight_few (own_size ds e) (size_few e) e in
          let all = parts_few es in omega (arith, one, all)

      selects_few : (xs : Selects) → selects_weight ds xs ≤ 25600128 * select_nodes xs
      selects_few whole = omega arith
      selects_few (bit p i xs) =
          let one = weight_few (own_size ds i) (size_few i) i in
          let all = selects_few xs in omega (arith, one, all)
      selects_few (part p l r xs) = let all = selects_few xs in omega (arith, all)
      selects_few (indexed p s m xs) =
          let one = weight_few (own_size ds s) (size_few s) s in
          let all = selects_few xs in omega (arith, one, all)

    mutual
      target_few : (l : Lval) → target_weight ds l ≤ 25600128 * target_nodes l
      target_few (named p text xs) =
          let one = access_few text xs in
          let all = selects_few xs in omega (arith, one, all)
      target_few (joined p ls) = let all = targets_few ls in omega (arith, all)

      targets_few : (ls : Lvals) → targets_weight ds ls ≤ 25600128 * all_target_nodes ls
      targets_few no_lvals = omega arith
      targets_few (more_lvals l ls) =
          let one = target_few l in
          let all = targets_few ls in omega (arith, one, all)

    assigned_few : (l : Lval) (e : Expr) → target_size ds l ≤ 128
        → assigned_weight ds l e ≤ 25600128 * (target_nodes l + nodes e)
    assigned_few l e h =
        let own = size_few e in
        let less : max (target_size ds l) (own_size ds e) ≤ 128 = grind (arith, h, own) in
        let one = weight_few (max (target_size ds l) (own_size ds e)) less e in
        let to = target_few l in omega (arith, one, to)

    -- ---- what is merged

    widths_few : (es : List Decl) → All IsShaped es → (names : List (List ℕ)) → widths_of es names ≤ 128 * all_names_count es
    widths_few [] all names = omega arith
    widths_few (d ∷ es) all names =
        let rest = widths_few es (All-tail IsShaped d es all) names in
        let first = one_width (is_none d.words && contains_name names d.name) d.width
        ((All-head IsShaped d es all).few_bits) in
        let some = some_name d.words in
        omega (arith, rest, first, some)
      where
        one_width : (t : Bool) (m : ℕ) → m ≤ 128 → (if t then m else 0) ≤ 128
        one_width true m h = h
        one_width false m h = omega arith

        some_name : (o : Option (ℤ × ℤ)) → 1 ≤ name_count o
        some_name None = omega arith
        some_name (Some q) = omega arith

    merge_few : (names : List (List ℕ)) → merge_weight ds names ≤ 25600128
    merge_few names = let all = widths_few ds shaped names in omega (arith, all, few)

    -- ---- statements

    label_few : (e : Expr) → (operand_in (flat_scopes ds) no_values e).size ≤ 128
    label_few e =
        let own = size_few e in
        let same : (operand_in (flat_scopes ds) no_values e).size ≡ or_none (size ds e) =
        ap (λ o. o.size) (flat_operand ds no_values e) in
        omega (arith, own, same)

    labels_size_few : (es : List Expr) → labels_size (flat_scopes ds) es ≤ 128
    labels_size_few [] = omega arith
    labels_size_few (e ∷ es) =
        let one = label_few e in
        let all = labels_size_few es in grind (arith, one, all)

    arms_size_few : (arms : Arms) → arms_size (flat_scopes ds) arms ≤ 128
    arms_size_few no_arms = omega arith
    arms_size_few (labels p es x arms) =
        let one = labels_size_few es in
        let all = arms_size_few arms in grind (arith, one, all)
    arms_size_few (default p colon x arms) = arms_size_few arms

    labels_few : (n : ℕ) → n ≤ 128 → (es : List Expr) → labels_weight ds n es ≤ 25600300 * label_nodes es
    labels_few n h [] = omega arith
    labels_few n h (e ∷ es) =
        let one = weight_few n h e in
        let some = some_node e in
        let all = labels_few n h es in omega (arith, h, one, some, all)

    mutual
      stmt_few : (s : Stmt) → IsBlock ds s → stmt_weight ds s ≤ 25600300 * stmt_nodes s
      stmt_few (begin attrs p label xs) is = let all = stmts_few xs is in omega (arith, all)
      stmt_few (if_only attrs p e x) is =
          let merged = merge_few (assigned_names any_kind x) in
          let one = weight_few (own_size ds e) (size_few e) e in
          let all = stmt_few x is.1 in omega (arith, merged, one, all)
      stmt_few (if_else attrs p e x y) is =
          let merged = merge_few (assigned_names any_kind x ++ assigned_names any_kind y) in
          let one = weight_few (own_size ds e) (size_few e) e in
          let first = stmt_few x is.1.0 in
          let second = stmt_few y is.1.1 in omega (arith, merged, one, first, second)
      stmt_few (case attrs p kind e arms) is =
          let merged = merge_few (arms_assigned_names any_kind arms) in
          let own = size_few e in
          let labelled = arms_size_few arms in
          let less : max (own_size ds e) (arms_size (flat_scopes ds) arms) ≤ 128 = grind (arith, own, labelled) in
          let one = weight_few (max (own_size ds e) (arms_size (flat_scopes ds) arms)) less e in
          let all = arms_few (case_context ds e arms) (max (own_size ds e) (arms_size (flat_scopes ds) arms)) less arms
          is.1.1 in
          omega (arith, merged, one, all)
      stmt_few (assign attrs p l kind e) is =
          let all = assigned_few l e is.0.1 in omega (arith, all)
      stmt_few (assume attrs p e) is = let one = weight_few (own_size ds e) (size_few e) e in omega (arith, one)
      stmt_few (empty attrs p) is = omega arith

      stmts_few : (xs : Stmts) → AreBlocks ds xs → stmts_weight ds xs ≤ 25600300 * all_stmt_nodes xs
      stmts_few no_stmts is = omega arith
      stmts_few (more_stmts x xs) is =
          let one = stmt_few x is.0 in
          let all = stmts_few xs is.1 in omega (arith, one, all)

      arms_few : (c : Context) (n : ℕ) → n ≤ 128 → (arms : Arms) → AreArms ds c arms
          → arms_weight ds n arms ≤ 25600300 * arm_nodes arms
      arms_few c n h no_arms is = omega arith
      arms_few c n h (labels p es x arms) is =
          let one = labels_few n h es in
          let first = stmt_few x is.1.0 in
          let all = arms_few c n h arms is.1.1 in omega (arith, one, first, all)
      arms_few c n h (default p colon x arms) is =
          let first = stmt_few x is.0 in
          let all = arms_few c n h arms is.1 in omega (arith, first, all)

    driver_few : (x : DriverKind) → IsDriver ds x → driver_weight ds x ≤ 25600300 * driver_nodes x
    driver_few (k.Assign l e) is = let all = assigned_few l e is.0.1 in omega (arith, all)
    driver_few (k.Comb s) is = stmt_few s is
    driver_few (k.Clocked s) is = stmt_few s is

    design_few : (drivers : List Driver) (starts : List Start) → All (λ x. IsDriver ds x.what) drivers
        → design_weight ds drivers ≤ 25600300 * node_count drivers starts
    design_few [] starts are = omega arith
    design_few (x ∷ xs) starts are =
        let one = driver_few x.what (All-head (λ x. IsDriver ds x.what) x xs are) in
        let all = design_few xs starts (All-tail (λ x. IsDriver ds x.what) x xs are) in omega (arith, one, all)

pub small_weight : (ds : List Decl) (drivers : List Driver) (starts : List Start) → All IsShaped ds
    → IsLawful ds drivers starts → design_weight ds drivers < 2 ^ 64
small_weight ds drivers starts shaped lawful =
    let all = design_few ds shaped lawful.few_names drivers starts lawful.driven in
    let few = lawful.few_nodes in
    omega (arith, all, few)
