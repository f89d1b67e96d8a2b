-- What an expression means goes by its own names alone.
use Rattle.std.specs.Prelude.{◌≡◌, refl, ℕ, ◌+◌, ◌*◌, ◌^◌, ◌==◌, max, List, [], ◌∷◌}
use Rattle.std.specs.Prelude.{◌++◌, Bool, true, false, ◌&&◌}
use Rattle.std.specs.Prelude.{◌||◌, Option, Some, None, is_none, bytes_eq, nat_abs, if◌then◌else◌}
use Rattle.std.proofs.Common.{ap, ◌∙◌}
use Rattle.std.proofs.lemmas.Slice.Eq.{bytes_eq-Decides}
use Rattle.vl_tree.specs.declared.operator.BinaryOperator.{BinaryOperator}
use Rattle.vl_tree.specs.Expr.{
  Expr,
  Exprs,
  Selects,
  number,
  name,
  paren,
  unary,
  binary,
  conditional,
  concat,
  repeat,
  cast,
  none,
  more,
  whole,
  bit,
  part,
  indexed,
}
use Rattle.fv_bits.specs.Bits.{extended}
use Rattle.vl_size.specs.declared.context.Context.{Context}
use Rattle.vl_size.specs.declared.decl.Decl.{Decl}
use Rattle.vl_size.specs.declared.way.Way.{Way}
use Rattle.vl_size.specs.declared.way.Way.TheVariants as w
use Rattle.vl_size.specs.Divisors.{larger, holds_of, place_if, own_context, shared_context, left_context, right_context}
use Rattle.vl_size.specs.Divisors.{is_logical, is_zero, zero_divisor, parts_zero_divisor, selects_zero_divisor}
use Rattle.vl_size.specs.Places.{earlier_place}
use Rattle.vl_size.specs.Sign.{sign, sign_by, declared_sign}
use Rattle.vl_size.specs.Size.{◌>>=◌, Cells, operand, no_names, within, some_bits, or_none}
use Rattle.vl_size.specs.Size.{with_size, with_decl, is_constant, unary_size, divides, operation_size, part_size, times}
use Rattle.vl_size.specs.Size.{is_true, index_of, own, offset_of, start_of, bit_at, bits_from, memory_word}
use Rattle.vl_size.specs.Size.{unary_number, binary_number, copies, size, sizes, vector_size, word_size, value}
use Rattle.vl_size.specs.Size.{concatenated, vector_value, word_value}
use Rattle.vl_size.specs.Table.{span, declared_as}
use Rattle.vl_size.specs.Way.{way, keeps_size}
use Rattle.vl_mean.specs.declared.const_number.Const.{Const}
use Rattle.vl_mean.specs.Cells.{contains_name}
use Rattle.vl_mean.specs.Constants.{settled, settled_exprs, settled_selects, named_constant}
use Rattle.vl_elab_scope.specs.Texts.{texts, exprs_texts, selects_texts, AgreeOn}

-- ---- lists of names

or_true : (b : Bool) → (b || true) ≡ true
or_true true = refl
or_true false = refl

contains_left : (xs ys : List (List ℕ)) (text : List ℕ) → contains_name xs text ≡ true
    → contains_name (xs ++ ys) text ≡ true
contains_left [] ys text h = cc
contains_left (x ∷ xs) ys text h = by (bytes_eq text x) h (λ k. contains_left xs ys text k)
  where
    by : (b : Bool) → (b || contains_name xs text) ≡ true
        → (contains_name xs text ≡ true → contains_name (xs ++ ys) text ≡ true)
        → (b || contains_name (xs ++ ys) text) ≡ true
    by true h f = refl
    by false h f = f h

contains_right : (xs ys : List (List ℕ)) (text : List ℕ) → contains_name ys text ≡ true
    → contains_name (xs ++ ys) text ≡ true
contains_right [] ys text h = h
contains_right (x ∷ xs) ys text h =
    ap (λ b. bytes_eq text x || b) (contains_right xs ys text h) ∙ or_true (bytes_eq text x)

first_of : (text : List ℕ) (xs : List (List ℕ)) → contains_name (text ∷ xs) text ≡ true
first_of text xs = ap (λ b. b || contains_name xs text) ((bytes_eq-Decides text text).1 refl)

module _ {A : Type 0} (f g : List ℕ → Option A) where
  at_left : (xs ys : List (List ℕ)) → AgreeOn f g (xs ++ ys) → AgreeOn f g xs
  at_left xs ys h = λ text k. h text (contains_left xs ys text k)

  at_right : (xs ys : List (List ℕ)) → AgreeOn f g (xs ++ ys) → AgreeOn f g ys
  at_right xs ys h = λ text k. h text (contains_right xs ys text k)

  at_first : (x : List ℕ) (xs : List (List ℕ)) → AgreeOn f g (x ∷ xs) → f x ≡ g x
  at_first x xs h = h x (first_of x xs)

  at_rest : (x : List ℕ) (xs : List (List ℕ)) → AgreeOn f g (x ∷ xs) → AgreeOn f g xs
  at_rest x xs h = at_right (x ∷ []) xs h

-- ---- numbers in place of constants

module _ (f g : List ℕ → Option Const) where
  mutual
    pub same_settled : (e : Expr) → AgreeOn f g (texts e) → settled f e ≡ settled g e
    same_settled (number p n) h = refl
    same_settled (name p text ss) h =
        λ i. named_constant p text (same_settled_selects ss (at_rest f g text (selects_texts ss) h) i)
        (at_first f g text (selects_texts ss) h i)
    same_settled (paren p x) h = ap (paren p) (same_settled x h)
    same_settled (unary p op x) h = ap (unary p op) (same_settled x h)
    same_settled (binary p op x y) h =
        λ i. binary p op (same_settled x (at_left f g (texts x) (texts y) h) i)
        (same_settled y (at_right f g (texts x) (texts y) h) i)
    same_settled (conditional p c x y) h =
        let rest = at_right f g (texts c) (texts x ++ texts y) h in
        λ i. conditional p (same_settled c (at_left f g (texts c) (texts x ++ texts y) h) i)
        (same_settled x (at_left f g (texts x) (texts y) rest) i)
        (same_settled y (at_right f g (texts x) (texts y) rest) i)
    same_settled (concat p es) h = ap (concat p) (same_settled_exprs es h)
    same_settled (repeat p n es) h =
        λ i. repeat p (same_settled n (at_left f g (texts n) (exprs_texts es) h) i)
        (same_settled_exprs es (at_right f g (texts n) (exprs_texts es) h) i)
    same_settled (cast p to x) h = ap (cast p to) (same_settled x h)

    same_settled_exprs : (es : Exprs) → AgreeOn f g (exprs_texts es) → settled_exprs f es ≡ settled_exprs g es
    same_settled_exprs none h = refl
    same_settled_exprs (more e es) h =
        λ i. more (same_settled e (at_left f g (texts e) (exprs_texts es) h) i)
        (same_settled_exprs es (at_right f g (texts e) (exprs_texts es) h) i)

    same_settled_selects : (ss : Selects) → AgreeOn f g (selects_texts ss)
        → settled_selects f ss ≡ settled_selects g ss
    same_settled_selects whole h = refl
    same_settled_selects (bit p x ss) h =
        λ i. bit p (same_settled x (at_left f g (texts x) (selects_texts ss) h) i)
        (same_settled_selects ss (at_right f g (texts x) (selects_texts ss) h) i)
    same_settled_selects (part p l r ss) h =
        let rest = at_right f g (texts l) (texts r ++ selects_texts ss) h in
        λ i. part p (same_settled l (at_left f g (texts l) (texts r ++ selects_texts ss) h) i)
        (same_settled r (at_left f g (texts r) (selects_texts ss) rest) i)
        (same_settled_selects ss (at_right f g (texts r) (selects_texts ss) rest) i)
    same_settled_selects (indexed p x n ss) h =
        let rest = at_right f g (texts x) (texts n ++ selects_texts ss) h in
        λ i. indexed p (same_settled x (at_left f g (texts x) (texts n ++ selects_texts ss) h) i)
        (same_settled n (at_left f g (texts n) (selects_texts ss) rest) i)
        (same_settled_selects ss (at_right f g (texts n) (selects_texts ss) rest) i)

-- ---- signs, sizes and values

module _ (ds es : List Decl) where
  abbrev Same : List (List ℕ) → Type 0
  Same ts = AgreeOn (declared_as ds) (declared_as es) ts

  lft : (xs ys : List (List ℕ)) → Same (xs ++ ys) → Same xs
  lft = at_left (declared_as ds) (declared_as es)

  rgt : (xs ys : List (List ℕ)) → Same (xs ++ ys) → Same ys
  rgt = at_right (declared_as ds) (declared_as es)

  fst : (x : List ℕ) (xs : List (List ℕ)) → Same (x ∷ xs) → declared_as ds x ≡ declared_as es x
  fst = at_first (declared_as ds) (declared_as es)

  rst : (x : List ℕ) (xs : List (List ℕ)) → Same (x ∷ xs) → Same xs
  rst = at_rest (declared_as ds) (declared_as es)

  pub same_sign : (e : Expr) → Same (texts e) → sign ds e ≡ sign es e
  same_sign (number p n) h = refl
  same_sign (name p text ss) h = λ i. declared_sign (fst text (selects_texts ss) h i) ss
  same_sign (paren p x) h = same_sign x h
  same_sign (unary p op x) h = λ i. keeps_size op && same_sign x h i
  same_sign (binary p op x y) h =
      λ i. sign_by (way op) (same_sign x (lft (texts x) (texts y) h) i) (same_sign y (rgt (texts x) (texts y) h) i)
  same_sign (conditional p c x y) h =
      let rest = rgt (texts c) (texts x ++ texts y) h in
      λ i. same_sign x (lft (texts x) (texts y) rest) i && same_sign y (rgt (texts x) (texts y) rest) i
  same_sign (concat p xs) h = refl
  same_sign (repeat p n xs) h = refl
  same_sign (cast p to x) h = refl

  mutual
    pub same_size : (e : Expr) → Same (texts e) → size ds e ≡ size es e
    same_size (number p n) h = refl
    same_size (name p text ss) h =
        λ i. fst text (selects_texts ss) h i >>= λ d.
        if is_none d.words then same_vector_size d ss (rst text (selects_texts ss) h) i
        else same_word_size d ss (rst text (selects_texts ss) h) i
    same_size (paren p x) h = same_size x h
    same_size (unary p op x) h = λ i. same_size x h i >>= λ m. Some (unary_size op m)
    same_size (binary p op x y) h =
        λ i. same_size x (lft (texts x) (texts y) h) i >>= λ m. same_size y (rgt (texts x) (texts y) h) i >>= λ n.
        operation_size op m n (is_constant x && is_constant y)
    same_size (conditional p c x y) h =
        let rest = rgt (texts c) (texts x ++ texts y) h in
        λ i. same_size c (lft (texts c) (texts x ++ texts y) h) i >>= λ k.
        same_size x (lft (texts x) (texts y) rest) i >>= λ m. same_size y (rgt (texts x) (texts y) rest) i >>= λ n.
        Some (max m n)
    same_size (concat p xs) h = λ i. some_bits (same_sizes xs h i)
    same_size (repeat p n xs) h =
        let own_h = lft (texts n) (exprs_texts xs) h in
        λ i. same_size n own_h i >>= λ k. some_bits (same_sizes xs (rgt (texts n) (exprs_texts xs) h) i) >>= λ m.
        if is_constant n then times (index_of
        (operand (Some k) (same_sign n own_h i) (λ j t. same_value no_names j t n own_h i))) m else None
    same_size (cast p to x) h = same_size x h

    same_sizes : (xs : Exprs) → Same (exprs_texts xs) → sizes ds xs ≡ sizes es xs
    same_sizes none h = refl
    same_sizes (more e xs) h =
        λ i. same_size e (lft (texts e) (exprs_texts xs) h) i >>= λ m.
        same_sizes xs (rgt (texts e) (exprs_texts xs) h) i >>= λ n. within (m + n)

    same_word_size : (d : Decl) (ss : Selects) → Same (selects_texts ss) → word_size ds d ss ≡ word_size es d ss
    same_word_size d whole h = refl
    same_word_size d (bit p x ss) h =
        λ i. same_size x (lft (texts x) (selects_texts ss) h) i >>= λ k.
        same_vector_size d ss (rgt (texts x) (selects_texts ss) h) i
    same_word_size d (part p l r ss) h = refl
    same_word_size d (indexed p x n ss) h = refl

    same_vector_size : (d : Decl) (ss : Selects) → Same (selects_texts ss)
        → vector_size ds d ss ≡ vector_size es d ss
    same_vector_size d whole h = refl
    same_vector_size d (bit p x whole) h = λ i. same_size x (lft (texts x) [] h) i >>= λ k. Some 1
    same_vector_size d (part p l r whole) h =
        let lh = lft (texts l) (texts r ++ []) h in
        let rh = lft (texts r) [] (rgt (texts l) (texts r ++ []) h) in
        λ i. same_size l lh i >>= λ k. same_size r rh i >>= λ j.
        if is_constant l && is_constant r
        then part_size d (index_of (operand (Some k) (same_sign l lh i) (λ m t. same_value no_names m t l lh i)))
        (index_of (operand (Some j) (same_sign r rh i) (λ m t. same_value no_names m t r rh i)))
        else None
    same_vector_size d (indexed p x n whole) h =
        let xh = lft (texts x) (texts n ++ []) h in
        let nh = lft (texts n) [] (rgt (texts x) (texts n ++ []) h) in
        λ i. same_size x xh i >>= λ k. same_size n nh i >>= λ j.
        if is_constant n then times (index_of
        (operand (Some j) (same_sign n nh i) (λ m t. same_value no_names m t n nh i))) 1 else None
    same_vector_size d (bit p x (bit q y ss)) h = refl
    same_vector_size d (bit p x (part q l r ss)) h = refl
    same_vector_size d (bit p x (indexed q y n ss)) h = refl
    same_vector_size d (part p a b (bit q y ss)) h = refl
    same_vector_size d (part p a b (part q l r ss)) h = refl
    same_vector_size d (part p a b (indexed q y n ss)) h = refl
    same_vector_size d (indexed p a b (bit q y ss)) h = refl
    same_vector_size d (indexed p a b (part q l r ss)) h = refl
    same_vector_size d (indexed p a b (indexed q y n ss)) h = refl

    pub same_value : (v : Cells) (w : ℕ) (s : Bool) (e : Expr) → Same (texts e)
        → value ds v w s e ≡ value es v w s e
    same_value v w s (number p n) h = refl
    same_value v w s (name p text ss) h =
        λ i. with_decl (fst text (selects_texts ss) h i) (λ d.
        if is_none d.words then same_vector_value v w s d (v d.name None) ss (rst text (selects_texts ss) h) i
        else same_word_value v w s d ss (rst text (selects_texts ss) h) i)
    same_value v w s (paren p x) h = same_value v w s x h
    same_value v w s (unary p op x) h =
        λ i. unary_number op w s (operand (same_size x h i) (same_sign x h i) (λ m t. same_value v m t x h i))
    same_value v w s (binary p op x y) h =
        let xh = lft (texts x) (texts y) h in
        let yh = rgt (texts x) (texts y) h in
        λ i. binary_number (way op) op w s
        (operand (same_size x xh i) (same_sign x xh i) (λ m t. same_value v m t x xh i))
        (operand (same_size y yh i) (same_sign y yh i) (λ m t. same_value v m t y yh i))
    same_value v w s (conditional p c x y) h =
        let ch = lft (texts c) (texts x ++ texts y) h in
        let rest = rgt (texts c) (texts x ++ texts y) h in
        λ i. let first = same_value v w s x (lft (texts x) (texts y) rest) i in
        let second = same_value v w s y (rgt (texts x) (texts y) rest) i in
        if is_true (operand (same_size c ch i) (same_sign c ch i) (λ m t. same_value v m t c ch i)) then first
        else second
    same_value v w s (concat p xs) h =
        λ i. with_size (some_bits (same_sizes xs h i)) (λ m. extended m w s (same_concatenated v xs h i))
    same_value v w s (repeat p n xs) h =
        let nh = lft (texts n) (exprs_texts xs) h in
        let xh = rgt (texts n) (exprs_texts xs) h in
        λ i. with_size (some_bits (same_sizes xs xh i)) (λ k.
        let count = index_of (operand (same_size n nh i) (same_sign n nh i) (λ m t. same_value v m t n nh i)) in
        with_size (times count k) (λ m. extended m w s (copies (nat_abs count) k (same_concatenated v xs xh i))))
    same_value v w s (cast p to x) h =
        λ i. let m = or_none (same_size x h i) in extended m w s (same_value v m (same_sign x h i) x h i)

    same_concatenated : (v : Cells) (xs : Exprs) → Same (exprs_texts xs)
        → concatenated ds v xs ≡ concatenated es v xs
    same_concatenated v none h = refl
    same_concatenated v (more e xs) h =
        let eh = lft (texts e) (exprs_texts xs) h in
        let xh = rgt (texts e) (exprs_texts xs) h in
        λ i. own (operand (same_size e eh i) (same_sign e eh i) (λ m t. same_value v m t e eh i)) * 2 ^ or_none
        (same_sizes xs xh i) + same_concatenated v xs xh i

    same_word_value : (v : Cells) (w : ℕ) (s : Bool) (d : Decl) (ss : Selects) → Same (selects_texts ss)
        → word_value ds v w s d ss ≡ word_value es v w s d ss
    same_word_value v w s d whole h = refl
    same_word_value v w s d (bit p x ss) h =
        let xh = lft (texts x) (selects_texts ss) h in
        λ i. same_vector_value v w s d (memory_word v d d.words (index_of
        (operand (same_size x xh i) (same_sign x xh i) (λ m t. same_value v m t x xh i)))) ss
        (rgt (texts x) (selects_texts ss) h) i
    same_word_value v w s d (part p l r ss) h = refl
    same_word_value v w s d (indexed p x n ss) h = refl

    same_vector_value : (v : Cells) (w : ℕ) (s : Bool) (d : Decl) (x : ℕ) (ss : Selects) → Same (selects_texts ss)
        → vector_value ds v w s d x ss ≡ vector_value es v w s d x ss
    same_vector_value v w s d x whole h = refl
    same_vector_value v w s d x (bit p y whole) h =
        let yh = lft (texts y) [] h in
        λ i. extended 1 w s (bit_at d.width x (offset_of d
        (index_of (operand (same_size y yh i) (same_sign y yh i) (λ m t. same_value v m t y yh i)))))
    same_vector_value v w s d x (part p l r whole) h =
        let lh = lft (texts l) (texts r ++ []) h in
        let rh = lft (texts r) [] (rgt (texts l) (texts r ++ []) h) in
        λ i. let low_end =
        index_of (operand (same_size r rh i) (same_sign r rh i) (λ m t. same_value v m t r rh i)) in
        let n = span (index_of (operand (same_size l lh i) (same_sign l lh i)
        (λ m t. same_value v m t l lh i))) low_end in
        extended n w s (bits_from n d.width x (offset_of d low_end))
    same_vector_value v w s d x (indexed p y n whole) h =
        let yh = lft (texts y) (texts n ++ []) h in
        let nh = lft (texts n) [] (rgt (texts y) (texts n ++ []) h) in
        λ i. let k = nat_abs (index_of (operand (same_size n nh i) (same_sign n nh i)
        (λ m t. same_value v m t n nh i))) in
        extended k w s (bits_from k d.width x (start_of d
        (index_of (operand (same_size y yh i) (same_sign y yh i) (λ m t. same_value v m t y yh i))) k))
    same_vector_value v w s d x (bit p y (bit q z ss)) h = refl
    same_vector_value v w s d x (bit p y (part q l r ss)) h = refl
    same_vector_value v w s d x (bit p y (indexed q z n ss)) h = refl
    same_vector_value v w s d x (part p a b (bit q z ss)) h = refl
    same_vector_value v w s d x (part p a b (part q l r ss)) h = refl
    same_vector_value v w s d x (part p a b (indexed q z n ss)) h = refl
    same_vector_value v w s d x (indexed p a b (bit q z ss)) h = refl
    same_vector_value v w s d x (indexed p a b (part q l r ss)) h = refl
    same_vector_value v w s d x (indexed p a b (indexed q z n ss)) h = refl

  -- ---- divisors

  pub same_own : (e : Expr) → Same (texts e) → own_context ds e ≡ own_context es e
  same_own e h = λ i. record { size = same_size e h i; signed = same_sign e h i }

  same_shared : (x y : Expr) → Same (texts x) → Same (texts y) → shared_context ds x y ≡ shared_context es x y
  same_shared x y h k =
      λ i. record { size = larger (same_size x h i) (same_size y k i); signed = same_sign x h i && same_sign y k i }

  same_left : (w : Way) (op : BinaryOperator) (c : Context) (x y : Expr) → Same (texts x) → Same (texts y)
      → left_context ds w op c x y ≡ left_context es w op c x y
  same_left w.Larger op c x y h k = refl
  same_left w.Left op c x y h k = refl
  same_left w.One op c x y h k = λ i. if is_logical op then same_own x h i else same_shared x y h k i

  same_right : (w : Way) (op : BinaryOperator) (c : Context) (x y : Expr) → Same (texts x) → Same (texts y)
      → right_context ds w op c x y ≡ right_context es w op c x y
  same_right w.Larger op c x y h k = refl
  same_right w.Left op c x y h k = same_own y k
  same_right w.One op c x y h k = λ i. if is_logical op then same_own y k i else same_shared x y h k i

  same_zero : (c : Context) (y : Expr) → Same (texts y) → is_zero ds c y ≡ is_zero es c y
  same_zero c y h =
      λ i. is_constant y && holds_of c.size
      (λ w. holds_of (same_size y h i) (λ n. same_value no_names w c.signed y h i == 0))

  own_step : (e : Expr) → Same (texts e)
      → zero_divisor ds (own_context es e) e ≡ zero_divisor es (own_context es e) e
      → zero_divisor ds (own_context ds e) e ≡ zero_divisor es (own_context es e) e
  own_step e h r = ap (λ k. zero_divisor ds k e) (same_own e h) ∙ r

  mutual
    pub same_divisor : (c : Context) (e : Expr) → Same (texts e) → zero_divisor ds c e ≡ zero_divisor es c e
    same_divisor c (number p n) h = refl
    same_divisor c (name p text ss) h = same_selects_divisor ss (rst text (selects_texts ss) h)
    same_divisor c (paren p x) h = same_divisor c x h
    same_divisor c (unary p op x) h =
        ap (λ k. zero_divisor ds (if keeps_size op then c else k) x) (same_own x h)
        ∙ same_divisor (if keeps_size op then c else own_context es x) x h
    same_divisor c (binary p op x y) h =
        let xh = lft (texts x) (texts y) h in
        let yh = rgt (texts x) (texts y) h in
        let first = ap (λ k. zero_divisor ds k x) (same_left (way op) op c x y xh yh)
        ∙ same_divisor (left_context es (way op) op c x y) x xh in
        let second = ap (λ k. zero_divisor ds k y) (same_right (way op) op c x y xh yh)
        ∙ same_divisor (right_context es (way op) op c x y) y yh in
        λ i. earlier_place (place_if (divides op && (is_none (second i) && same_zero c y yh i)) p)
        (earlier_place (first i) (second i))
    same_divisor c (conditional p k x y) h =
        let kh = lft (texts k) (texts x ++ texts y) h in
        let rest = rgt (texts k) (texts x ++ texts y) h in
        λ i. earlier_place (own_step k kh (same_divisor (own_context es k) k kh) i) (earlier_place
        (same_divisor c x (lft (texts x) (texts y) rest) i) (same_divisor c y (rgt (texts x) (texts y) rest) i))
    same_divisor c (concat p xs) h = same_parts_divisor xs h
    same_divisor c (repeat p n xs) h =
        let nh = lft (texts n) (exprs_texts xs) h in
        λ i. earlier_place (own_step n nh (same_divisor (own_context es n) n nh) i)
        (same_parts_divisor xs (rgt (texts n) (exprs_texts xs) h) i)
    same_divisor c (cast p to x) h = own_step x h (same_divisor (own_context es x) x h)

    same_parts_divisor : (xs : Exprs) → Same (exprs_texts xs)
        → parts_zero_divisor ds xs ≡ parts_zero_divisor es xs
    same_parts_divisor none h = refl
    same_parts_divisor (more e xs) h =
        let eh = lft (texts e) (exprs_texts xs) h in
        λ i. earlier_place (own_step e eh (same_divisor (own_context es e) e eh) i)
        (same_parts_divisor xs (rgt (texts e) (exprs_texts xs) h) i)

    pub same_selects_divisor : (ss : Selects) → Same (selects_texts ss)
        → selects_zero_divisor ds ss ≡ selects_zero_divisor es ss
    same_selects_divisor whole h = refl
    same_selects_divisor (bit p x ss) h =
        let xh = lft (texts x) (selects_texts ss) h in
        λ i. earlier_place (own_step x xh (same_divisor (own_context es x) x xh) i)
        (same_selects_divisor ss (rgt (texts x) (selects_texts ss) h) i)
    same_selects_divisor (part p l r ss) h =
        let rest = rgt (texts l) (texts r ++ selects_texts ss) h in
        let lh = lft (texts l) (texts r ++ selects_texts ss) h in
        let rh = lft (texts r) (selects_texts ss) rest in
        λ i. earlier_place (earlier_place (own_step l lh (same_divisor (own_context es l) l lh) i)
        (own_step r rh (same_divisor (own_context es r) r rh) i))
        (same_selects_divisor ss (rgt (texts r) (selects_texts ss) rest) i)
    same_selects_divisor (indexed p x n ss) h =
        let rest = rgt (texts x) (texts n ++ selects_texts ss) h in
        let xh = lft (texts x) (texts n ++ selects_texts ss) h in
        let nh = lft (texts n) (selects_texts ss) rest in
        λ i. earlier_place (earlier_place (own_step x xh (same_divisor (own_context es x) x xh) i)
        (own_step n nh (same_divisor (own_context es n) n nh) i))
        (same_selects_divisor ss (rgt (texts n) (selects_texts ss) rest) i)
