-- An expression with other names has the same size, sign and value, where each name is declared there in the same way.
use Rattle.std.specs.Prelude.{◌≡◌, refl, ℕ, ◌+◌, ◌*◌, ◌^◌, max, Bool, ◌&&◌, is_none, if◌then◌else◌}
use Rattle.std.specs.Prelude.{List, Option, Some, None, ℤ, nat_abs}
use Rattle.std.proofs.Common.{sym, ◌∙◌}
use Rattle.vl_tree.specs.Expr.{
  Expr,
  Exprs,
  Selects,
  number,
  name,
  paren,
  unary,
  binary,
  conditional,
  concat,
  repeat,
  cast,
  none,
  more,
  whole,
  bit,
  part,
  indexed,
}
use Rattle.fv_bits.specs.Bits.{extended}
use Rattle.vl_size.specs.declared.decl.Decl.{Decl}
use Rattle.vl_size.specs.Way.{way, keeps_size}
use Rattle.vl_size.specs.Sign.{sign, sign_by, name_sign, declared_sign}
use Rattle.vl_size.specs.Size.{◌>>=◌, Cells, operand, operand_of, within, some_bits, or_none, with_size, with_decl}
use Rattle.vl_size.specs.Size.{is_constant, are_constant, no_names, unary_size, operation_size, part_size, times}
use Rattle.vl_size.specs.Size.{is_true, index_of, own, offset_of, start_of, bit_at, bits_from, memory_word}
use Rattle.vl_size.specs.Size.{unary_number, binary_number, copies, size, sizes, vector_size, word_size, value}
use Rattle.vl_size.specs.Size.{concatenated, vector_value, word_value}
use Rattle.vl_size.specs.Table.{span, is_between}
use Rattle.vl_mean_flat.specs.Found.{IsFound}
use Rattle.vl_mean_flat.specs.FullNames.{renamed, renamed_exprs, renamed_selects}
use Rattle.vl_mean_flat.specs.Names.{Names, AllNames, SelectsNames}

module _ (f : List ℕ → List ℕ) where
  -- ---- constants stay constants

  mutual
    pub same_constant : (e : Expr) → is_constant (renamed f e) ≡ is_constant e
    same_constant (number p n) = refl
    same_constant (name p text ss) = refl
    same_constant (paren p x) = same_constant x
    same_constant (unary p op x) = same_constant x
    same_constant (binary p op x y) = λ i. same_constant x i && same_constant y i
    same_constant (conditional p c x y) = λ i. same_constant c i && (same_constant x i && same_constant y i)
    same_constant (concat p es) = same_constants es
    same_constant (repeat p n es) = λ i. same_constant n i && same_constants es i
    same_constant (cast p to x) = same_constant x

    same_constants : (es : Exprs) → are_constant (renamed_exprs f es) ≡ are_constant es
    same_constants none = refl
    same_constants (more e es) = λ i. same_constant e i && same_constants es i

  -- ---- signs

  same_name_sign : (words : Option (ℤ × ℤ)) (s : Bool) (ss : Selects)
      → name_sign words s (renamed_selects f ss) ≡ name_sign words s ss
  same_name_sign None s whole = refl
  same_name_sign None s (bit p x ss) = refl
  same_name_sign None s (part p l r ss) = refl
  same_name_sign None s (indexed p x n ss) = refl
  same_name_sign (Some b) s whole = refl
  same_name_sign (Some b) s (bit p x whole) = refl
  same_name_sign (Some b) s (bit p x (bit q y ss)) = refl
  same_name_sign (Some b) s (bit p x (part q l r ss)) = refl
  same_name_sign (Some b) s (bit p x (indexed q y n ss)) = refl
  same_name_sign (Some b) s (part p l r ss) = refl
  same_name_sign (Some b) s (indexed p x n ss) = refl

  -- the numbers of the old names
  abbrev pub old : Cells → Cells
  old v text index = v (f text) index

  module _ (ds es : List Decl) where
    abbrev Found : List ℕ → Type 0
    Found text = IsFound f ds es text

    pub same_sign : (e : Expr) → Names Found e → sign es (renamed f e) ≡ sign ds e
    same_sign (number p n) h = refl
    same_sign (name p text ss) h =
        (λ i. declared_sign (h.0.there i) (renamed_selects f ss))
        ∙ same_name_sign h.0.decl.words h.0.decl.signed ss
        ∙ sym (λ i. declared_sign (h.0.here i) ss)
    same_sign (paren p x) h = same_sign x h
    same_sign (unary p op x) h = λ i. keeps_size op && same_sign x h i
    same_sign (binary p op x y) h = λ i. sign_by (way op) (same_sign x h.0 i) (same_sign y h.1 i)
    same_sign (conditional p c x y) h = λ i. same_sign x h.1.0 i && same_sign y h.1.1 i
    same_sign (concat p es) h = refl
    same_sign (repeat p n es) h = refl
    same_sign (cast p to x) h = refl

    -- ---- a memory's word

    same_word : (v : Cells) (text : List ℕ) (h : Found text) (words : Option (ℤ × ℤ)) (i : ℤ)
        → memory_word v (record (h.decl) { name = f text }) words i ≡ memory_word (old v) h.decl words i
    same_word v text h None i = refl
    same_word v text h (Some bounds) i = λ j. if is_between bounds.0 bounds.1 i then v (f (sym h.own j)) (Some i) else 0

    -- ---- sizes and values

    mutual
      pub same_size : (e : Expr) → Names Found e → size es (renamed f e) ≡ size ds e
      same_size (number p n) h = refl
      same_size (name p text ss) h =
          (λ i. h.0.there i >>= λ d. if is_none d.words then vector_size es d (renamed_selects f ss)
          else word_size es d (renamed_selects f ss))
          ∙ (λ i. if is_none h.0.decl.words then same_vector_size (f text) h.0.decl ss h.1 i
          else same_word_size (f text) h.0.decl ss h.1 i)
          ∙ sym (λ i. h.0.here i >>= λ d. if is_none d.words then vector_size ds d ss else word_size ds d ss)
      same_size (paren p x) h = same_size x h
      same_size (unary p op x) h = λ i. same_size x h i >>= λ m. Some (unary_size op m)
      same_size (binary p op x y) h =
          λ i. same_size x h.0 i >>= λ m. same_size y h.1 i >>= λ n. operation_size op m n
          (same_constant x i && same_constant y i)
      same_size (conditional p c x y) h =
          λ i. same_size c h.0 i >>= λ k. same_size x h.1.0 i >>= λ m. same_size y h.1.1 i >>= λ n. Some (max m n)
      same_size (concat p es) h = λ i. some_bits (same_sizes es h i)
      same_size (repeat p n es) h =
          λ i. same_size n h.0 i >>= λ k. some_bits (same_sizes es h.1 i) >>= λ m.
          if same_constant n i then times (index_of
          (operand (Some k) (same_sign n h.0 i) (λ m t. same_value no_names m t n h.0 i))) m else None
      same_size (cast p to x) h = same_size x h

      same_sizes : (xs : Exprs) → AllNames Found xs → sizes es (renamed_exprs f xs) ≡ sizes ds xs
      same_sizes none h = refl
      same_sizes (more e es) h = λ i. same_size e h.0 i >>= λ m. same_sizes es h.1 i >>= λ n. within (m + n)

      same_word_size : (text : List ℕ) (d : Decl) (ss : Selects) → SelectsNames Found ss
          → word_size es (record d { name = text }) (renamed_selects f ss) ≡ word_size ds d ss
      same_word_size text d whole h = refl
      same_word_size text d (bit p x ss) h = λ i. same_size x h.0 i >>= λ k. same_vector_size text d ss h.1 i
      same_word_size text d (part p l r ss) h = refl
      same_word_size text d (indexed p x n ss) h = refl

      same_vector_size : (text : List ℕ) (d : Decl) (ss : Selects) → SelectsNames Found ss
          → vector_size es (record d { name = text }) (renamed_selects f ss) ≡ vector_size ds d ss
      same_vector_size text d whole h = refl
      same_vector_size text d (bit p x whole) h = λ i. same_size x h.0 i >>= λ k. Some 1
      same_vector_size text d (part p l r whole) h =
          λ i. same_size l h.0 i >>= λ k. same_size r h.1.0 i >>= λ j.
          if same_constant l i && same_constant r i
          then part_size d (index_of (operand (Some k) (same_sign l h.0 i) (λ m t. same_value no_names m t l h.0 i)))
          (index_of (operand (Some j) (same_sign r h.1.0 i) (λ m t. same_value no_names m t r h.1.0 i)))
          else None
      same_vector_size text d (indexed p x n whole) h =
          λ i. same_size x h.0 i >>= λ k. same_size n h.1.0 i >>= λ j.
          if same_constant n i then times (index_of
          (operand (Some j) (same_sign n h.1.0 i) (λ m t. same_value no_names m t n h.1.0 i))) 1 else None
      same_vector_size text d (bit p x (bit q y ss)) h = refl
      same_vector_size text d (bit p x (part q l r ss)) h = refl
      same_vector_size text d (bit p x (indexed q y n ss)) h = refl
      same_vector_size text d (part p a b (bit q y ss)) h = refl
      same_vector_size text d (part p a b (part q l r ss)) h = refl
      same_vector_size text d (part p a b (indexed q y n ss)) h = refl
      same_vector_size text d (indexed p a b (bit q y ss)) h = refl
      same_vector_size text d (indexed p a b (part q l r ss)) h = refl
      same_vector_size text d (indexed p a b (indexed q y n ss)) h = refl

      pub same_value : (v : Cells) (w : ℕ) (s : Bool) (e : Expr) → Names Found e
          → value es v w s (renamed f e) ≡ value ds (old v) w s e
      same_value v w s (number p n) h = refl
      same_value v w s (name p text ss) h =
          (λ i. with_decl (h.0.there i) (λ d.
          if is_none d.words then vector_value es v w s d (v d.name None) (renamed_selects f ss)
          else word_value es v w s d (renamed_selects f ss)))
          ∙ (λ i. if is_none h.0.decl.words
          then same_vector_value v w s (f text) h.0.decl (v (f (sym h.0.own i)) None) ss h.1 i
          else same_word_value v w s text h.0 ss h.1 i)
          ∙ sym (λ i. with_decl (h.0.here i) (λ d.
          if is_none d.words then vector_value ds (old v) w s d (v (f d.name) None) ss
          else word_value ds (old v) w s d ss))
      same_value v w s (paren p x) h = same_value v w s x h
      same_value v w s (unary p op x) h =
          λ i. unary_number op w s (operand (same_size x h i) (same_sign x h i) (λ m t. same_value v m t x h i))
      same_value v w s (binary p op x y) h =
          λ i. binary_number (way op) op w s (operand (same_size x h.0 i) (same_sign x h.0 i)
          (λ m t. same_value v m t x h.0 i)) (operand (same_size y h.1 i) (same_sign y h.1 i)
          (λ m t. same_value v m t y h.1 i))
      same_value v w s (conditional p c x y) h =
          λ i. let first = same_value v w s x h.1.0 i in let second = same_value v w s y h.1.1 i in
          if is_true (operand (same_size c h.0 i) (same_sign c h.0 i) (λ m t. same_value v m t c h.0 i)) then first
          else second
      same_value v w s (concat p es) h =
          λ i. with_size (some_bits (same_sizes es h i)) (λ m. extended m w s (same_concatenated v es h i))
      same_value v w s (repeat p n es) h =
          λ i. with_size (some_bits (same_sizes es h.1 i)) (λ k.
          let count = index_of (operand (same_size n h.0 i) (same_sign n h.0 i) (λ m t. same_value v m t n h.0 i)) in
          with_size (times count k) (λ m. extended m w s (copies (nat_abs count) k (same_concatenated v es h.1 i))))
      same_value v w s (cast p to x) h =
          λ i. let m = or_none (same_size x h i) in extended m w s (same_value v m (same_sign x h i) x h i)

      same_concatenated : (v : Cells) (xs : Exprs) → AllNames Found xs
          → concatenated es v (renamed_exprs f xs) ≡ concatenated ds (old v) xs
      same_concatenated v none h = refl
      same_concatenated v (more e es) h =
          λ i. own (operand (same_size e h.0 i) (same_sign e h.0 i) (λ m t. same_value v m t e h.0 i)) * 2 ^ or_none
          (same_sizes es h.1 i) + same_concatenated v es h.1 i

      same_word_value : (v : Cells) (w : ℕ) (s : Bool) (text : List ℕ) (g : Found text) (ss : Selects)
          → SelectsNames Found ss
          → word_value es v w s (record (g.decl) { name = f text }) (renamed_selects f ss)
          ≡ word_value ds (old v) w s g.decl ss
      same_word_value v w s text g whole h = refl
      same_word_value v w s text g (bit p x ss) h =
          λ i. same_vector_value v w s (f text) g.decl
          (same_word v text g g.decl.words (index_of
          (operand (same_size x h.0 i) (same_sign x h.0 i) (λ m t. same_value v m t x h.0 i))) i) ss h.1 i
      same_word_value v w s text g (part p l r ss) h = refl
      same_word_value v w s text g (indexed p x n ss) h = refl

      same_vector_value : (v : Cells) (w : ℕ) (s : Bool) (text : List ℕ) (d : Decl) (x : ℕ) (ss : Selects)
          → SelectsNames Found ss
          → vector_value es v w s (record d { name = text }) x (renamed_selects f ss)
          ≡ vector_value ds (old v) w s d x ss
      same_vector_value v w s text d x whole h = refl
      same_vector_value v w s text d x (bit p y whole) h =
          λ i. extended 1 w s (bit_at d.width x (offset_of d
          (index_of (operand (same_size y h.0 i) (same_sign y h.0 i) (λ m t. same_value v m t y h.0 i)))))
      same_vector_value v w s text d x (part p l r whole) h =
          λ i. let low_end =
          index_of (operand (same_size r h.1.0 i) (same_sign r h.1.0 i) (λ m t. same_value v m t r h.1.0 i)) in
          let n = span (index_of (operand (same_size l h.0 i) (same_sign l h.0 i)
          (λ m t. same_value v m t l h.0 i))) low_end in
          extended n w s (bits_from n d.width x (offset_of d low_end))
      same_vector_value v w s text d x (indexed p y n whole) h =
          λ i. let k = nat_abs (index_of (operand (same_size n h.1.0 i) (same_sign n h.1.0 i)
          (λ m t. same_value v m t n h.1.0 i))) in
          extended k w s (bits_from k d.width x (start_of d
          (index_of (operand (same_size y h.0 i) (same_sign y h.0 i) (λ m t. same_value v m t y h.0 i))) k))
      same_vector_value v w s text d x (bit p y (bit q z ss)) h = refl
      same_vector_value v w s text d x (bit p y (part q l r ss)) h = refl
      same_vector_value v w s text d x (bit p y (indexed q z n ss)) h = refl
      same_vector_value v w s text d x (part p a b (bit q z ss)) h = refl
      same_vector_value v w s text d x (part p a b (part q l r ss)) h = refl
      same_vector_value v w s text d x (part p a b (indexed q z n ss)) h = refl
      same_vector_value v w s text d x (indexed p a b (bit q z ss)) h = refl
      same_vector_value v w s text d x (indexed p a b (part q l r ss)) h = refl
      same_vector_value v w s text d x (indexed p a b (indexed q z n ss)) h = refl

    pub same_operand : (v : Cells) (e : Expr) → Names Found e → operand_of es v (renamed f e) ≡ operand_of ds (old v) e
    same_operand v e h = λ i. operand (same_size e h i) (same_sign e h i) (λ w s. same_value v w s e h i)
