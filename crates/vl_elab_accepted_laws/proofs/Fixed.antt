-- Constants are read alike over all declarations.
use Rattle.std.specs.Prelude.{◌≡◌, refl, ℕ, List, [], ◌∷◌, ◌++◌, Bool, true, false, ◌&&◌, Some, None, if◌then◌else◌}
use Rattle.std.proofs.Common.{ap, sym, ◌∙◌, true≢false}
use Rattle.vl_tree.specs.Expr.{
  Expr,
  Exprs,
  Selects,
  number,
  name,
  paren,
  unary,
  binary,
  conditional,
  concat,
  repeat,
  cast,
  none,
  more,
  whole,
  bit,
  part,
  indexed,
}
use Rattle.vl_size.specs.declared.context.Context.{Context}
use Rattle.vl_size.specs.declared.decl.Decl.{Decl}
use Rattle.vl_size.specs.Divisors.{own_context, own_zero_divisor, zero_divisor}
use Rattle.vl_size.specs.Sign.{sign}
use Rattle.vl_size.specs.Size.{◌>>=◌, part_size, times, vector_size}
use Rattle.vl_size.specs.Size.{is_constant, are_constant, size, no_names, operand, operand_of, index_of}
use Rattle.vl_size.specs.Table.{declared_as}
use Rattle.vl_mean.specs.Cells.{contains_name}
use Rattle.vl_elab_scope.specs.Texts.{texts, exprs_texts, selects_texts, AgreeOn}
use Rattle.vl_elab_scope.proofs.Agree.{same_size, same_sign, same_value, same_own, same_divisor}

pub and_first : (a b : Bool) → (a && b) ≡ true → a ≡ true
and_first true b h = refl
and_first false b h = h

pub and_second : (a b : Bool) → (a && b) ≡ true → b ≡ true
and_second true b h = h
and_second false b h = absurd (true≢false (sym h))

mutual
  pub no_texts : (e : Expr) → is_constant e ≡ true → texts e ≡ []
  no_texts (number p n) h = refl
  no_texts (name p text ss) h = absurd (true≢false (sym h))
  no_texts (paren p x) h = no_texts x h
  no_texts (unary p op x) h = no_texts x h
  no_texts (binary p op x y) h =
      λ i. no_texts x (and_first (is_constant x) (is_constant y) h) i
      ++ no_texts y (and_second (is_constant x) (is_constant y) h) i
  no_texts (conditional p c x y) h =
      let both = and_second (is_constant c) (is_constant x && is_constant y) h in
      λ i. no_texts c (and_first (is_constant c) (is_constant x && is_constant y) h) i
      ++ (no_texts x (and_first (is_constant x) (is_constant y) both) i
      ++ no_texts y (and_second (is_constant x) (is_constant y) both) i)
  no_texts (concat p es) h = no_exprs_texts es h
  no_texts (repeat p n es) h =
      λ i. no_texts n (and_first (is_constant n) (are_constant es) h) i
      ++ no_exprs_texts es (and_second (is_constant n) (are_constant es) h) i
  no_texts (cast p to x) h = no_texts x h

  no_exprs_texts : (es : Exprs) → are_constant es ≡ true → exprs_texts es ≡ []
  no_exprs_texts none h = refl
  no_exprs_texts (more e es) h =
      λ i. no_texts e (and_first (is_constant e) (are_constant es) h) i
      ++ no_exprs_texts es (and_second (is_constant e) (are_constant es) h) i

module _ (ds es : List Decl) where
  pub agree_on_none : (ts : List (List ℕ)) → ts ≡ [] → AgreeOn (declared_as ds) (declared_as es) ts
  agree_on_none ts h text k = absurd (true≢false (sym k ∙ ap (λ l. contains_name l text) h))

  module _ (e : Expr) (h : is_constant e ≡ true) where
    agreed : AgreeOn (declared_as ds) (declared_as es) (texts e)
    agreed = agree_on_none (texts e) (no_texts e h)

    pub fixed_size : size ds e ≡ size es e
    fixed_size = same_size ds es e agreed

    pub fixed_sign : sign ds e ≡ sign es e
    fixed_sign = same_sign ds es e agreed

    -- in the context of its place
    pub fixed_place : (c : Context) → zero_divisor ds c e ≡ zero_divisor es c e
    fixed_place c = same_divisor ds es c e agreed

    pub fixed_divisor : own_zero_divisor ds e ≡ own_zero_divisor es e
    fixed_divisor =
        ap (λ k. zero_divisor ds k e) (same_own ds es e agreed)
        ∙ same_divisor ds es (own_context es e) e agreed

    pub fixed_index : index_of (operand_of ds no_names e) ≡ index_of (operand_of es no_names e)
    fixed_index =
        λ i. index_of (operand (same_size ds es e agreed i) (same_sign ds es e agreed i)
        (λ w s. same_value ds es no_names w s e agreed i))

  -- of selects without names, of any vector
  no_left : (xs ys : List (List ℕ)) → xs ++ ys ≡ [] → xs ≡ []
  no_left [] ys h = refl
  no_left (x ∷ xs) ys h = cc

  no_right : (xs ys : List (List ℕ)) → xs ++ ys ≡ [] → ys ≡ []
  no_right [] ys h = h
  no_right (x ∷ xs) ys h = cc

  none_in : (e : Expr) (ts : List (List ℕ)) → texts e ++ ts ≡ []
      → AgreeOn (declared_as ds) (declared_as es) (texts e)
  none_in e ts h = agree_on_none (texts e) (no_left (texts e) ts h)

  pub fixed_vector : (d : Decl) (xs : Selects) → selects_texts xs ≡ [] → vector_size ds d xs ≡ vector_size es d xs
  fixed_vector d whole h = refl
  fixed_vector d (bit p x whole) h =
      λ i. same_size ds es x (none_in x [] h) i >>= λ k. Some 1
  fixed_vector d (part p l r whole) h =
      let hl = none_in l (texts r ++ []) h in
      let hr = none_in r [] (no_right (texts l) (texts r ++ []) h) in
      λ i. same_size ds es l hl i >>= λ k. same_size ds es r hr i >>= λ j.
      if is_constant l && is_constant r
      then part_size d
      (index_of (operand (Some k) (same_sign ds es l hl i) (λ m t. same_value ds es no_names m t l hl i)))
      (index_of (operand (Some j) (same_sign ds es r hr i) (λ m t. same_value ds es no_names m t r hr i)))
      else None
  fixed_vector d (indexed p x n whole) h =
      let hx = none_in x (texts n ++ []) h in
      let hn = none_in n [] (no_right (texts x) (texts n ++ []) h) in
      λ i. same_size ds es x hx i >>= λ k. same_size ds es n hn i >>= λ j.
      if is_constant n
      then times (index_of (operand (Some j) (same_sign ds es n hn i) (λ m t. same_value ds es no_names m t n hn i))) 1
      else None
  fixed_vector d (bit p x (bit q y ss)) h = refl
  fixed_vector d (bit p x (part q l r ss)) h = refl
  fixed_vector d (bit p x (indexed q y n ss)) h = refl
  fixed_vector d (part p a b (bit q y ss)) h = refl
  fixed_vector d (part p a b (part q l r ss)) h = refl
  fixed_vector d (part p a b (indexed q y n ss)) h = refl
  fixed_vector d (indexed p a b (bit q y ss)) h = refl
  fixed_vector d (indexed p a b (part q l r ss)) h = refl
  fixed_vector d (indexed p a b (indexed q y n ss)) h = refl
