-- A value at first is that of its constant, and the target's bits are those that its selects leave of its names.
use Rattle.std.specs.Prelude.{◌≡◌, refl, ℕ, zero, suc, ◌+◌, ◌*◌, max, List, [], ◌∷◌, ◌++◌, length, Bool, true, false}
use Rattle.std.specs.Prelude.{◌&&◌, IsSome, Option, Some, None, ℤ, pos, negsuc, nat_abs, is_none, if◌then◌else◌}
use Rattle.std.proofs.Common.{ap, sym, ◌∙◌, arith}
use Rattle.vl_tree.specs.Expr.{
  Expr,
  Exprs,
  Selects,
  number,
  name,
  paren,
  unary,
  binary,
  conditional,
  concat,
  repeat,
  cast,
  none,
  more,
  whole,
  bit,
  part,
  indexed,
}
use Rattle.vl_tree.specs.Lval.{Lval, Lvals, named, joined, no_lvals, more_lvals}
use Rattle.vl_size.specs.declared.decl.Decl.{Decl}
use Rattle.vl_size.specs.Sign.{sign}
use Rattle.vl_size.specs.Size.{◌>>=◌, Operand, index_of, is_constant, no_names, only_if, operand, operand_of}
use Rattle.vl_size.specs.Size.{or_none, size, times, value, vector_size, within, word_size}
use Rattle.vl_size.specs.Table.{span, declared_as}
use Rattle.vl_size.proofs.Rest.{within_some}
use Rattle.vl_mean.specs.declared.const_number.Const.{Const}
use Rattle.vl_mean.specs.Constants.{cut_to, settled}
use Rattle.vl_mean.specs.Scopes.{Scope, constant_in, declared_in, full, no_values, operand_in, visible}
use Rattle.vl_mean.specs.Targets.{Spot, all_spots, spots, spots_from, spots_of, vector_spots, word_spots}
use Rattle.vl_elab_scope.specs.Texts.{texts, exprs_texts, selects_texts, AgreeOn}
use Rattle.vl_elab_scope.proofs.Agree.{same_sign, same_size, same_value}
use Rattle.vl_elab_accepted_laws.proofs.Fixed.{agree_on_none, no_texts}
use Rattle.vl_elab_accepted_laws.proofs.Tests.{bind_some, if_some, some_same}
use Rattle.vl_mean_flat.specs.Flattened.{start_value}
use Rattle.vl_mean_flat.specs.FullNames.{flat_expr, flat_selects, renamed, renamed_exprs, renamed_selects}
use Rattle.vl_mean_flat.proofs.SameExpr.{same_constant}
use Rattle.vl_elab_emit.specs.Starts.{IsStart, few_bits, selected_bits, target_bits, targets_bits}
use Rattle.vl_elab_emit.proofs.Indices.{constant_sized}

-- ---- where no name stands, none is renamed

pub no_left : (xs ys : List (List ℕ)) → xs ++ ys ≡ [] → xs ≡ []
no_left [] ys h = refl
no_left (x ∷ xs) ys h = cc

pub no_right : (xs ys : List (List ℕ)) → xs ++ ys ≡ [] → ys ≡ []
no_right [] ys h = h
no_right (x ∷ xs) ys h = cc

module _ (f : List ℕ → List ℕ) where
  mutual
    pub renamed_none : (e : Expr) → texts e ≡ [] → renamed f e ≡ e
    renamed_none (number p n) h = refl
    renamed_none (name p text ss) h = cc
    renamed_none (paren p x) h = ap (paren p) (renamed_none x h)
    renamed_none (unary p op x) h = ap (unary p op) (renamed_none x h)
    renamed_none (binary p op x y) h =
        λ i. binary p op (renamed_none x (no_left (texts x) (texts y) h) i)
        (renamed_none y (no_right (texts x) (texts y) h) i)
    renamed_none (conditional p c x y) h =
        let rest = no_right (texts c) (texts x ++ texts y) h in
        λ i. conditional p (renamed_none c (no_left (texts c) (texts x ++ texts y) h) i)
        (renamed_none x (no_left (texts x) (texts y) rest) i) (renamed_none y (no_right (texts x) (texts y) rest) i)
    renamed_none (concat p es) h = ap (concat p) (renamed_exprs_none es h)
    renamed_none (repeat p n es) h =
        λ i. repeat p (renamed_none n (no_left (texts n) (exprs_texts es) h) i)
        (renamed_exprs_none es (no_right (texts n) (exprs_texts es) h) i)
    renamed_none (cast p to x) h = ap (cast p to) (renamed_none x h)

    renamed_exprs_none : (es : Exprs) → exprs_texts es ≡ [] → renamed_exprs f es ≡ es
    renamed_exprs_none none h = refl
    renamed_exprs_none (more e es) h =
        λ i. more (renamed_none e (no_left (texts e) (exprs_texts es) h) i)
        (renamed_exprs_none es (no_right (texts e) (exprs_texts es) h) i)

  pub renamed_selects_none : (xs : Selects) → selects_texts xs ≡ [] → renamed_selects f xs ≡ xs
  renamed_selects_none whole h = refl
  renamed_selects_none (bit p x xs) h =
      λ i. bit p (renamed_none x (no_left (texts x) (selects_texts xs) h) i)
      (renamed_selects_none xs (no_right (texts x) (selects_texts xs) h) i)
  renamed_selects_none (part p l r xs) h =
      let rest = no_right (texts l) (texts r ++ selects_texts xs) h in
      λ i. part p (renamed_none l (no_left (texts l) (texts r ++ selects_texts xs) h) i)
      (renamed_none r (no_left (texts r) (selects_texts xs) rest) i)
      (renamed_selects_none xs (no_right (texts r) (selects_texts xs) rest) i)
  renamed_selects_none (indexed p x n xs) h =
      let rest = no_right (texts x) (texts n ++ selects_texts xs) h in
      λ i. indexed p (renamed_none x (no_left (texts x) (texts n ++ selects_texts xs) h) i)
      (renamed_none n (no_left (texts n) (selects_texts xs) rest) i)
      (renamed_selects_none xs (no_right (texts n) (selects_texts xs) rest) i)

-- ---- how many bits there are

length_from : (n w : ℕ) (text : Option (List ℕ)) (i : ℤ) → length (spots_from n w text i) ≡ n
length_from zero w text i = refl
length_from (suc n) w text i = ap suc (length_from n w text i)

length_both : (xs ys : List (Option Spot)) → length (xs ++ ys) ≡ length xs + length ys
length_both [] ys = omega arith
length_both (x ∷ xs) ys =
    let rest : length (xs ++ ys) ≡ length xs + length ys = length_both xs ys in omega (arith, rest)

only_some : (b : Bool) (m n : ℕ) → only_if b m ≡ Some n → m ≡ n
only_some true m n h = sym (within_some m n h).1
only_some false m n h = cc

times_some : (i : ℤ) (n : ℕ) → times i 1 ≡ Some n → nat_abs i ≡ n
times_some (pos zero) n h = cc
times_some (pos (suc c)) n h =
    let same : n ≡ suc c * 1 = (within_some (suc c * 1) n h).1 in omega (arith, same)
times_some (negsuc c) n h = cc

few_some : (o : Option ℕ) (n : ℕ) → few_bits o ≡ Some n → o ≡ Some n
few_some None n h = cc
few_some (Some m) n h = ap Some (sym (within_some m n h).1)

module _ (ss : List Scope) where
  flat_constant : (e : Expr) → is_constant (settled (constant_in ss) e) ≡ true
      → flat_expr ss e ≡ settled (constant_in ss) e
  flat_constant e h =
      let x = settled (constant_in ss) e in renamed_none (full ss) x (no_texts x h)

  -- over all declarations it is what it is over none
  same_operand : (e : Expr) → is_constant (settled (constant_in ss) e) ≡ true
      → operand_in ss no_values e ≡ operand_of [] no_names (flat_expr ss e)
  same_operand e h =
      let x = settled (constant_in ss) e in
      let agreed : AgreeOn (declared_as (visible ss)) (declared_as []) (texts x)
      = agree_on_none (visible ss) [] (texts x) (no_texts x h) in
      (λ i. operand (same_size (visible ss) [] x agreed i) (same_sign (visible ss) [] x agreed i)
      (λ w s. same_value (visible ss) [] no_names w s x agreed i))
      ∙ ap (operand_of [] no_names) (sym (flat_constant e h))

  same_index : (e : Expr) (k : ℕ) → size [] (flat_expr ss e) ≡ Some k
      → index_of (operand_in ss no_values e)
      ≡ index_of (operand (Some k) (sign [] (flat_expr ss e)) (λ m t. value [] no_names m t (flat_expr ss e)))
  same_index e k z =
      let h : is_constant (settled (constant_in ss) e) ≡ true
      = sym (same_constant (full ss) (settled (constant_in ss) e)) ∙ constant_sized (flat_expr ss e) k z in
      ap index_of (same_operand e h)
      ∙ (λ i. index_of (operand (z i) (sign [] (flat_expr ss e)) (λ m t. value [] no_names m t (flat_expr ss e))))

  vector_many : (d : Decl) (text : Option (List ℕ)) (xs : Selects) (n : ℕ)
      → vector_size [] d (flat_selects ss xs) ≡ Some n → length (vector_spots ss no_values d text xs) ≡ n
  vector_many d text whole n h = length_from d.width d.width text (pos 0) ∙ some_same d.width n h
  vector_many d text (bit p i whole) n h =
      let one = bind_some (size [] (flat_expr ss i)) (λ k. Some 1) n h in some_same 1 n one.next
  vector_many d text (part p l r whole) n h =
      let one = bind_some (size [] (flat_expr ss l)) _ n h in
      let two = bind_some (size [] (flat_expr ss r)) _ n one.next in
      let three = if_some (is_constant (flat_expr ss l) && is_constant (flat_expr ss r)) _ n two.next in
      length_from (span (index_of (operand_in ss no_values l)) (index_of (operand_in ss no_values r))) d.width text _
      ∙ (λ i. span (same_index l one.at one.first i) (same_index r two.at two.first i))
      ∙ only_some _ _ n three.1
  vector_many d text (indexed p s m whole) n h =
      let one = bind_some (size [] (flat_expr ss s)) _ n h in
      let two = bind_some (size [] (flat_expr ss m)) _ n one.next in
      let i : ℤ = index_of (operand (Some two.at) (sign [] (flat_expr ss m))
      (λ k t. value [] no_names k t (flat_expr ss m))) in
      let three = if_some (is_constant (flat_expr ss m)) (times i 1) n two.next in
      length_from (nat_abs (index_of (operand_in ss no_values m))) d.width text _
      ∙ ap nat_abs (same_index m two.at two.first) ∙ times_some i n three.1
  vector_many d text (bit q i (bit r j xs)) n h = cc
  vector_many d text (bit q i (part r j l xs)) n h = cc
  vector_many d text (bit q i (indexed r j l xs)) n h = cc
  vector_many d text (part q i m (bit r j xs)) n h = cc
  vector_many d text (part q i m (part r j l xs)) n h = cc
  vector_many d text (part q i m (indexed r j l xs)) n h = cc
  vector_many d text (indexed q i m (bit r j xs)) n h = cc
  vector_many d text (indexed q i m (part r j l xs)) n h = cc
  vector_many d text (indexed q i m (indexed r j l xs)) n h = cc

  word_many : (d : Decl) (xs : Selects) (n : ℕ) → word_size [] d (flat_selects ss xs) ≡ Some n
      → length (word_spots ss no_values d xs) ≡ n
  word_many d whole n h = cc
  word_many d (bit p i xs) n h =
      let one = bind_some (size [] (flat_expr ss i)) (λ k. vector_size [] d (flat_selects ss xs)) n h in
      vector_many d _ xs n one.next
  word_many d (part p l r xs) n h = cc
  word_many d (indexed p s m xs) n h = cc

  selected_many : (is_vector : Bool) (d : Decl) (text : List ℕ) (xs : Selects) (n : ℕ)
      → (if is_vector then vector_size [] d (flat_selects ss xs) else word_size [] d (flat_selects ss xs)) ≡ Some n
      → length (if is_vector then vector_spots ss no_values d (Some (full ss text)) xs
      else word_spots ss no_values d xs) ≡ n
  selected_many true d text xs n h = vector_many d (Some (full ss text)) xs n h
  selected_many false d text xs n h = word_many d xs n h

  named_many : (text : List ℕ) (xs : Selects) (o : Option Decl) (n : ℕ)
      → (o >>= λ d. few_bits (selected_bits d (flat_selects ss xs))) ≡ Some n
      → length (spots_of o (λ d. if is_none d.words then vector_spots ss no_values d (Some (full ss text)) xs
      else word_spots ss no_values d xs)) ≡ n
  named_many text xs None n h = cc
  named_many text xs (Some d) n h =
      selected_many (is_none d.words) d text xs n (few_some (selected_bits d (flat_selects ss xs)) n h)

  mutual
    target_many : (l : Lval) (n : ℕ) → target_bits ss l ≡ Some n → length (spots ss no_values l) ≡ n
    target_many (named p text xs) n h = named_many text xs (declared_in ss text) n h
    target_many (joined p ls) n h = targets_many ls n h

    targets_many : (ls : Lvals) (n : ℕ) → targets_bits ss ls ≡ Some n → length (all_spots ss no_values ls) ≡ n
    targets_many no_lvals n h = some_same 0 n h
    targets_many (more_lvals l ls) n h =
        let one = bind_some (target_bits ss l) (λ m. targets_bits ss ls >>= λ k. within (m + k)) n h in
        let two = bind_some (targets_bits ss ls) (λ k. within (one.at + k)) n one.next in
        length_both (spots ss no_values l) (all_spots ss no_values ls)
        ∙ (λ i. target_many l one.at one.first i + targets_many ls two.at two.first i)
        ∙ sym (within_some (one.at + two.at) n two.next).1

  many : (o : Option ℕ) (bits : ℕ) → ((n : ℕ) → o ≡ Some n → bits ≡ n) → IsSome o → or_none o ≡ bits
  many None bits f h = cc
  many (Some n) bits f h = sym (f n refl)

  -- ---- the value

  abbrev started : ℕ → Operand → Const
  started n x = let w = max n x.size in cut_to w x.sign (x.at w x.sign)

  pub same_start : (l : Lval) (e : Expr) → IsStart ss l e
      → started (or_none (target_bits ss l)) (operand_of [] no_names (flat_expr ss e)) ≡ start_value ss l e
  same_start l e h =
      λ i. started (many (target_bits ss l) (length (spots ss no_values l)) (target_many l) h.sized i)
      (sym (same_operand e h.fixed) i)
