-- A constant has one size, sign and value over all declarations: no name stands in it.
use Rattle.std.specs.Prelude.{◌≡◌, refl, ℕ, ◌+◌, ◌*◌, ◌^◌, max, Bool, true, ◌&&◌, if◌then◌else◌, List}
use Rattle.std.specs.Prelude.{Some, None, nat_abs}
use Rattle.std.proofs.Common.{sym, true≢false}
use Rattle.vl_tree.specs.Expr.{Expr, Exprs, number, name, paren, unary, binary, conditional, concat, repeat, cast}
use Rattle.vl_tree.specs.Expr.{none, more}
use Rattle.fv_bits.specs.Bits.{extended}
use Rattle.vl_size.specs.declared.decl.Decl.{Decl}
use Rattle.vl_size.specs.Way.{way, keeps_size}
use Rattle.vl_size.specs.Sign.{sign, sign_by}
use Rattle.vl_size.specs.Size.{◌>>=◌, Cells, operand, operand_of, within, some_bits, or_none, with_size, index_of, own}
use Rattle.vl_size.specs.Size.{is_constant, are_constant, no_names, unary_size, operation_size, times, is_true, copies}
use Rattle.vl_size.specs.Size.{unary_number, binary_number, size, sizes, value, concatenated}
use Rattle.vl_flow_spec.proofs.Bools.{and_left, and_right}

module _ (ds es : List Decl) where
  pub one_sign : (e : Expr) → is_constant e ≡ true → sign ds e ≡ sign es e
  one_sign (number p n) c = refl
  one_sign (name p text ss) c = absurd (true≢false (sym c))
  one_sign (paren p x) c = one_sign x c
  one_sign (unary p op x) c = λ i. keeps_size op && one_sign x c i
  one_sign (binary p op x y) c =
      λ i. sign_by (way op) (one_sign x (and_left (is_constant x) (is_constant y) c) i)
      (one_sign y (and_right (is_constant x) (is_constant y) c) i)
  one_sign (conditional p q x y) c =
      let both = and_right (is_constant q) (is_constant x && is_constant y) c in
      λ i. one_sign x (and_left (is_constant x) (is_constant y) both) i
      && one_sign y (and_right (is_constant x) (is_constant y) both) i
  one_sign (concat p xs) c = refl
  one_sign (repeat p n xs) c = refl
  one_sign (cast p to x) c = refl

  mutual
    pub one_size : (e : Expr) → is_constant e ≡ true → size ds e ≡ size es e
    one_size (number p n) c = refl
    one_size (name p text ss) c = absurd (true≢false (sym c))
    one_size (paren p x) c = one_size x c
    one_size (unary p op x) c = λ i. one_size x c i >>= λ m. Some (unary_size op m)
    one_size (binary p op x y) c =
        let left = and_left (is_constant x) (is_constant y) c in
        let right = and_right (is_constant x) (is_constant y) c in
        λ i. one_size x left i >>= λ m. one_size y right i >>= λ n. operation_size op m n
        (is_constant x && is_constant y)
    one_size (conditional p q x y) c =
        let first = and_left (is_constant q) (is_constant x && is_constant y) c in
        let both = and_right (is_constant q) (is_constant x && is_constant y) c in
        let left = and_left (is_constant x) (is_constant y) both in
        let right = and_right (is_constant x) (is_constant y) both in
        λ i. one_size q first i >>= λ k. one_size x left i >>= λ m. one_size y right i >>= λ n. Some (max m n)
    one_size (concat p xs) c = λ i. some_bits (one_sizes xs c i)
    one_size (repeat p n xs) c =
        let count = and_left (is_constant n) (are_constant xs) c in
        let parts = and_right (is_constant n) (are_constant xs) c in
        λ i. one_size n count i >>= λ k. some_bits (one_sizes xs parts i) >>= λ m.
        if is_constant n then times (index_of
        (operand (Some k) (one_sign n count i) (λ j t. one_value no_names no_names j t n count i))) m else None
    one_size (cast p to x) c = one_size x c

    one_sizes : (xs : Exprs) → are_constant xs ≡ true → sizes ds xs ≡ sizes es xs
    one_sizes none c = refl
    one_sizes (more e xs) c =
        let left = and_left (is_constant e) (are_constant xs) c in
        let right = and_right (is_constant e) (are_constant xs) c in
        λ i. one_size e left i >>= λ m. one_sizes xs right i >>= λ n. within (m + n)

    pub one_value : (u v : Cells) (w : ℕ) (s : Bool) (e : Expr) → is_constant e ≡ true
        → value ds u w s e ≡ value es v w s e
    one_value u v w s (number p n) c = refl
    one_value u v w s (name p text ss) c = absurd (true≢false (sym c))
    one_value u v w s (paren p x) c = one_value u v w s x c
    one_value u v w s (unary p op x) c =
        λ i. unary_number op w s (operand (one_size x c i) (one_sign x c i) (λ m t. one_value u v m t x c i))
    one_value u v w s (binary p op x y) c =
        let left = and_left (is_constant x) (is_constant y) c in
        let right = and_right (is_constant x) (is_constant y) c in
        λ i. binary_number (way op) op w s
        (operand (one_size x left i) (one_sign x left i) (λ m t. one_value u v m t x left i))
        (operand (one_size y right i) (one_sign y right i) (λ m t. one_value u v m t y right i))
    one_value u v w s (conditional p q x y) c =
        let test = and_left (is_constant q) (is_constant x && is_constant y) c in
        let both = and_right (is_constant q) (is_constant x && is_constant y) c in
        let left = and_left (is_constant x) (is_constant y) both in
        let right = and_right (is_constant x) (is_constant y) both in
        λ i. let first = one_value u v w s x left i in
        let second = one_value u v w s y right i in
        if is_true (operand (one_size q test i) (one_sign q test i) (λ m t. one_value u v m t q test i)) then first
        else second
    one_value u v w s (concat p xs) c =
        λ i. with_size (some_bits (one_sizes xs c i)) (λ m. extended m w s (one_concatenated u v xs c i))
    one_value u v w s (repeat p n xs) c =
        let left = and_left (is_constant n) (are_constant xs) c in
        let right = and_right (is_constant n) (are_constant xs) c in
        λ i. with_size (some_bits (one_sizes xs right i)) (λ k.
        let count =
        index_of (operand (one_size n left i) (one_sign n left i) (λ m t. one_value u v m t n left i)) in
        with_size (times count k) (λ m. extended m w s (copies (nat_abs count) k (one_concatenated u v xs right i))))
    one_value u v w s (cast p to x) c =
        λ i. let m = or_none (one_size x c i) in extended m w s (one_value u v m (one_sign x c i) x c i)

    one_concatenated : (u v : Cells) (xs : Exprs) → are_constant xs ≡ true
        → concatenated ds u xs ≡ concatenated es v xs
    one_concatenated u v none c = refl
    one_concatenated u v (more e xs) c =
        let left = and_left (is_constant e) (are_constant xs) c in
        let right = and_right (is_constant e) (are_constant xs) c in
        λ i. own (operand (one_size e left i) (one_sign e left i) (λ m t. one_value u v m t e left i))
        * 2 ^ or_none (one_sizes xs right i) + one_concatenated u v xs right i

  pub one_operand : (u v : Cells) (e : Expr) → is_constant e ≡ true → operand_of ds u e ≡ operand_of es v e
  one_operand u v e c = λ i. operand (one_size e c i) (one_sign e c i) (λ w s. one_value u v w s e c i)
