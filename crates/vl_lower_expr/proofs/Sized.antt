-- The parts of an expression with a size have one.
use Rattle.std.specs.Prelude.{◌≡◌, refl, ℕ, zero, suc, ◌≤◌, max, Bool, true, false, ◌&&◌, is_none, nat_le}
use Rattle.std.specs.Prelude.{if◌then◌else◌, Option, Some, None, IsSome, is_some, ℤ, pos, List, [], ◌∷◌, length}
use Rattle.std.proofs.Common.{ap, sym, ◌∙◌, arith, subst, true≢false}
use Rattle.fv_text.specs.declared.pos.Pos.{Pos}
use Rattle.vl_tree.specs.declared.expr.Select.{Select}
use Rattle.vl_tree.specs.declared.expr.Select.TheVariants as s
use Rattle.vl_tree.specs.declared.operator.BinaryOperator.{BinaryOperator}
use Rattle.vl_tree.specs.Expr.{Expr, Exprs, Selects, whole, part, indexed, repeat, binary}
use Rattle.vl_tree.specs.ExprView.{selects, with_select}
use Rattle.vl_size.specs.declared.decl.Decl.{Decl}
use Rattle.vl_size.specs.Sign.{sign}
use Rattle.vl_size.specs.Way.{way}
use Rattle.vl_size.specs.Size.{◌>>=◌, Cells, size, sizes, is_constant, some_bits, or_none, only_if, operation_size}
use Rattle.vl_size.specs.Size.{divides, size_by}
use Rattle.vl_size.specs.Size.{is_bound, part_size, goes_along, times, index_of, operand, operand_of, no_names}
use Rattle.vl_size.specs.Size.{value}
use Rattle.vl_size.specs.Size.{vector_size, word_size, with_size, with_decl}
use Rattle.vl_size.specs.Table.{span, declared_as}
use Rattle.vl_flow_cells.proofs.Constants.{one_operand}

pub some_first : {A B : Type 0} (o : Option A) (f : A → Option B) → IsSome (o >>= f) → IsSome o
some_first None f h = h
some_first (Some x) f h = refl

pub some_second : {A B C : Type 0} (o : Option A) (p : Option B) (f : A → B → Option C)
    → IsSome (o >>= λ m. p >>= λ n. f m n) → IsSome p
some_second None p f h = absurd (true≢false (sym h))
some_second (Some x) p f h = some_first p (λ n. f x n) h

pub some_third : {A B C D : Type 0} (o : Option A) (p : Option B) (q : Option C) (f : A → B → C → Option D)
    → IsSome (o >>= λ m. p >>= λ n. q >>= λ k. f m n k) → IsSome q
some_third None p q f h = absurd (true≢false (sym h))
some_third (Some x) p q f h = some_second p q (λ n k. f x n k) h

-- what there is of both
pub some_last : {A B C : Type 0} (o : Option A) (p : Option B) (f : A → B → Option C) (m : A) (n : B)
    → o ≡ Some m → p ≡ Some n → IsSome (o >>= λ m. p >>= λ n. f m n) → IsSome (f m n)
some_last o p f m n e k h = subst (λ q. IsSome (q >>= λ n. f m n)) k (subst (λ q. IsSome
    (q >>= λ m. p >>= λ n. f m n)) e h)

-- the value of what is there
pub is_or_none : (o : Option ℕ) → IsSome o → o ≡ Some (or_none o)
is_or_none None h = absurd (true≢false (sym h))
is_or_none (Some n) h = refl

pub bits_or_none : (o : Option ℕ) → IsSome (some_bits o) → some_bits o ≡ Some (or_none o)
bits_or_none None h = absurd (true≢false (sym h))
bits_or_none (Some zero) h = absurd (true≢false (sym h))
bits_or_none (Some (suc n)) h = refl

pub bits_some : (o : Option ℕ) → IsSome (some_bits o) → IsSome o
bits_some None h = h
bits_some (Some n) h = refl

pub with_bits : (o : Option ℕ) (f : ℕ → ℕ) → IsSome (some_bits o) → f (or_none o) ≡ with_size (some_bits o) f
with_bits o f h = sym (ap (λ q. with_size q f) (bits_or_none o h))

-- ---- constants

constant_if : (b : Bool) (n : ℕ) → IsSome (only_if b n) → b ≡ true
constant_if true n h = refl
constant_if false n h = absurd (true≢false (sym h))

divided_is : (op : BinaryOperator) (m n : ℕ) (b t : Bool) → t ≡ true
    → IsSome (if t then only_if b (max m n) else Some (size_by (way op) m n)) → b ≡ true
divided_is op m n b true d h = constant_if b (max m n) h
divided_is op m n b false d h = absurd (true≢false (sym d))

-- a quotient and a remainder are of constants
pub divided_constant : (ds : List Decl) (p : Pos) (op : BinaryOperator) (x y : Expr) → divides op ≡ true
    → IsSome (size ds (binary p op x y)) → is_constant (binary p op x y) ≡ true
divided_constant ds p op x y d h = by (size ds x) (size ds y) h
  where
    by : (o q : Option ℕ) → IsSome (o >>= λ m. q >>= λ n. operation_size op m n (is_constant x && is_constant y))
        → (is_constant x && is_constant y) ≡ true
    by None q h = absurd (true≢false (sym h))
    by (Some m) None h = absurd (true≢false (sym h))
    by (Some m) (Some n) h = divided_is op m n (is_constant x && is_constant y) (divides op) d h

module _ (ds : List Decl) where
  -- a constant's value as it stands in a size
  abbrev own_index : Expr → ℕ → ℤ
  own_index e k = index_of (operand (Some k) (sign ds e) (λ m t. value ds no_names m t e))

  own_index_is : (e : Expr) (k : ℕ) (v : Cells) → size ds e ≡ Some k → is_constant e ≡ true
      → own_index e k ≡ index_of (operand_of ds v e)
  own_index_is e k v h c =
      ap (λ o. index_of (operand o (sign ds e) (λ m t. value ds no_names m t e))) (sym h)
      ∙ ap index_of (one_operand ds ds no_names v e c)

  -- the bounds of a part are constants, and lie right
  pub record IsPart (d : Decl) (l r : Expr) : Type 0 where
    pub left : is_constant l ≡ true
    pub right : is_constant r ≡ true
    pub sized : (v : Cells) → IsSome (part_size d (index_of (operand_of ds v l)) (index_of (operand_of ds v r)))

  pub is_part : (d : Decl) (p : Pos) (l r : Expr) → IsSome (vector_size ds d (part p l r whole)) → IsPart d l r
  is_part d p l r h = by (size ds l) (size ds r) (is_constant l) (is_constant r) refl refl refl refl h
    where
      by : (o q : Option ℕ) (a b : Bool) → size ds l ≡ o → size ds r ≡ q → is_constant l ≡ a → is_constant r ≡ b
          → IsSome (o >>= λ k. q >>= λ j. if a && b then part_size d (own_index l k) (own_index r j) else None)
          → IsPart d l r
      by None q a b e f c g h = absurd (true≢false (sym h))
      by (Some k) None a b e f c g h = absurd (true≢false (sym h))
      by (Some k) (Some j) false b e f c g h = absurd (true≢false (sym h))
      by (Some k) (Some j) true false e f c g h = absurd (true≢false (sym h))
      by (Some k) (Some j) true true e f c g h = record {
        left = c;
        right = g;
        sized = λ v.
            let P : Option ℕ → Type 0 = λ z. IsSome z in
            subst P (λ i. part_size d (own_index_is l k v e c i) (own_index_is r j v f g i)) h;
      }

  -- a count is a constant above 0, and so many copies aren't too wide
  pub record IsCount (n : Expr) (m : ℕ) : Type 0 where
    pub constant : is_constant n ≡ true
    pub sized : (v : Cells) → IsSome (times (index_of (operand_of ds v n)) m)

  count_is : (n : Expr) (m k : ℕ) (b : Bool) → size ds n ≡ Some k → is_constant n ≡ b
      → IsSome (if b then times (own_index n k) m else None) → IsCount n m
  count_is n m k false e c h = absurd (true≢false (sym h))
  count_is n m k true e c h = record {
    constant = c;
    sized = λ v. let P : Option ℕ → Type 0 = λ z. IsSome z in
        subst P (λ i. times (own_index_is n k v e c i) m) h;
  }

  pub is_width : (d : Decl) (p : Pos) (s n : Expr) → IsSome (vector_size ds d (indexed p s n whole)) → IsCount n 1
  is_width d p s n h = by (size ds s) (size ds n) refl h
    where
      by : (o q : Option ℕ) → size ds n ≡ q
          → IsSome (o >>= λ k. q >>= λ j. if is_constant n then times (own_index n j) 1 else None) → IsCount n 1
      by None q e h = absurd (true≢false (sym h))
      by (Some k) None e h = absurd (true≢false (sym h))
      by (Some k) (Some j) e h = count_is n 1 j (is_constant n) e refl h

  pub start_sized : (d : Decl) (p : Pos) (e n : Expr) → IsSome (vector_size ds d (indexed p e n whole)) → IsSome
      (size ds e)
  start_sized d p e n h =
      some_first (size ds e) (λ k. size ds n >>= λ j. if is_constant n then times (own_index n j) 1 else None) h

  -- the parts have some bits
  pub repeated_bits : (p : Pos) (n : Expr) (es : Exprs) → IsSome (size ds (repeat p n es)) → IsSome (some_bits
      (sizes ds es))
  repeated_bits p n es h =
      some_second (size ds n) (some_bits (sizes ds es)) (λ k m. if is_constant n then times
      (own_index n k) m else None) h

  pub is_repeated : (p : Pos) (n : Expr) (es : Exprs) → IsSome (size ds (repeat p n es))
      → IsCount n (or_none (sizes ds es))
  is_repeated p n es h = by (size ds n) refl h
    where
      by : (o : Option ℕ) → size ds n ≡ o
          → IsSome (o >>= λ k. some_bits (sizes ds es) >>= λ m. if is_constant n then times (own_index n k) m else None)
          → IsCount n (or_none (sizes ds es))
      by None e h = absurd (true≢false (sym h))
      by (Some k) e h =
          let bits = some_first (some_bits (sizes ds es)) (λ m. if is_constant n then times
          (own_index n k) m else None) h in
          let P : Option ℕ → Type 0 =
          λ o. IsSome (o >>= λ m. if is_constant n then times (own_index n k) m else None) in
          count_is n (or_none (sizes ds es)) k (is_constant n) e refl (subst P (bits_or_none (sizes ds es) bits) h)

-- what a part's size says
pub record IsRange (d : Decl) (l r : ℤ) (n : ℕ) : Type 0 where
  pub right : is_bound r ≡ true
  pub bits : n ≡ span l r

within_is : (n k : ℕ) (b : Bool) → (if b then Some n else None) ≡ Some k → k ≡ n
within_is n k true h = sym (ap or_none h)
within_is n k false h = absurd (true≢false (ap is_none h))

range_if : (d : Decl) (l r : ℤ) (a b c : Bool) (n : ℕ) → is_bound r ≡ b → only_if (a && (b && c)) (span l r) ≡ Some n
    → IsRange d l r n
range_if d l r false b c n e h = absurd (true≢false (ap is_none h))
range_if d l r true false c n e h = absurd (true≢false (ap is_none h))
range_if d l r true true false n e h = absurd (true≢false (ap is_none h))
range_if d l r true true true n e h = record { right = e; bits = within_is (span l r) n (nat_le (span l r) 128) h }

pub is_range : (d : Decl) (l r : ℤ) (n : ℕ) → part_size d l r ≡ Some n → IsRange d l r n
is_range d l r n h = range_if d l r (is_bound l) (is_bound r) (goes_along d l r) n refl h

-- the number of a count above 0
pub counted : (i : ℤ) (n k : ℕ) → i ≡ pos n → with_size (times i k) (λ m. m) ≡ or_none (times (pos n) k)
counted i n k e = ap (λ j. with_size (times j k) (λ m. m)) e ∙ by (times (pos n) k)
  where
    by : (o : Option ℕ) → with_size o (λ m. m) ≡ or_none o
    by None = refl
    by (Some m) = refl

-- a vector has one select at most
pub two_sizes : (ds : List Decl) (d : Decl) (ss : List Select) → 2 ≤ length ss → vector_size ds d (selects ss) ≡ None
two_sizes ds d [] h = absurd (omega arith)
two_sizes ds d (a ∷ []) h = absurd (omega arith)
two_sizes ds d (s.Bit p i ∷ s.Bit q j ∷ ss) h = refl
two_sizes ds d (s.Bit p i ∷ s.Part q j k ∷ ss) h = refl
two_sizes ds d (s.Bit p i ∷ s.Indexed q j k ∷ ss) h = refl
two_sizes ds d (s.Part p i l ∷ s.Bit q j ∷ ss) h = refl
two_sizes ds d (s.Part p i l ∷ s.Part q j k ∷ ss) h = refl
two_sizes ds d (s.Part p i l ∷ s.Indexed q j k ∷ ss) h = refl
two_sizes ds d (s.Indexed p i l ∷ s.Bit q j ∷ ss) h = refl
two_sizes ds d (s.Indexed p i l ∷ s.Part q j k ∷ ss) h = refl
two_sizes ds d (s.Indexed p i l ∷ s.Indexed q j k ∷ ss) h = refl

pub no_select : (ss : List Select) → length ss ≡ 0 → selects ss ≡ whole
no_select [] h = refl
no_select (x ∷ ss) h = absurd (omega (arith, h))

pub only_select : (ds : List Decl) (d : Decl) (x : Select) (ss : List Select) → IsSome (vector_size ds d (selects
    (x ∷ ss)))
    → with_select x (selects ss) ≡ with_select x whole
only_select ds d x [] h = refl
only_select ds d x (y ∷ ss) h = absurd (true≢false (sym h ∙ ap is_some (two_sizes ds d (x ∷ y ∷ ss) (omega arith))))

-- the size of what the name stands for
pub vector_sized : (ds : List Decl) (text : List ℕ) (d : Decl) (ss : Selects) → declared_as ds text ≡ Some d
    → d.words ≡ None
    → IsSome (declared_as ds text >>= λ d. if is_none d.words then vector_size ds d ss else word_size ds d ss)
    → IsSome (vector_size ds d ss)
vector_sized ds text d ss e f h =
    let P : Option Decl → Type 0 =
    λ o. IsSome (o >>= λ d. if is_none d.words then vector_size ds d ss else word_size ds d ss) in
    let Q : Option (ℤ × ℤ) → Type 0 = λ q. IsSome (if is_none q then vector_size ds d ss else word_size ds d ss) in
    subst Q f (subst P e h)

pub memory_sized : (ds : List Decl) (text : List ℕ) (d : Decl) (ss : Selects) → declared_as ds text ≡ Some d
    → IsSome d.words
    → IsSome (declared_as ds text >>= λ d. if is_none d.words then vector_size ds d ss else word_size ds d ss)
    → IsSome (word_size ds d ss)
memory_sized ds text d ss e f h =
    let P : Option Decl → Type 0 =
    λ o. IsSome (o >>= λ d. if is_none d.words then vector_size ds d ss else word_size ds d ss) in
    by d.words f (subst P e h)
  where
    by : (q : Option (ℤ × ℤ)) → IsSome q → IsSome (if is_none q then vector_size ds d ss else word_size ds d ss)
        → IsSome (word_size ds d ss)
    by None f h = absurd (true≢false (sym f))
    by (Some w) f h = h

-- and its value
pub vector_is : (ds : List Decl) (text : List ℕ) (d : Decl) (f g : Decl → ℕ) → declared_as ds text ≡ Some d
    → d.words ≡ None
    → f d ≡ with_decl (declared_as ds text) (λ d. if is_none d.words then f d else g d)
vector_is ds text d f g e none =
    ap (λ q. if is_none q then f d else g d) (sym none)
    ∙ sym (ap (λ o. with_decl o (λ d. if is_none d.words then f d else g d)) e)

pub memory_is : (ds : List Decl) (text : List ℕ) (d : Decl) (f g : Decl → ℕ) → declared_as ds text ≡ Some d
    → IsSome d.words → g d ≡ with_decl (declared_as ds text) (λ d. if is_none d.words then f d else g d)
memory_is ds text d f g e some =
    by d.words some ∙ sym (ap (λ o. with_decl o (λ d. if is_none d.words then f d else g d)) e)
  where
    by : (q : Option (ℤ × ℤ)) → IsSome q → g d ≡ (if is_none q then f d else g d)
    by None h = absurd (true≢false (sym h))
    by (Some w) h = refl
