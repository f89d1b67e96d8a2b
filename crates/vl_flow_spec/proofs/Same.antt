-- The value of an expression that has a size depends on the bits that it reads alone.
use Rattle.std.specs.Prelude.{◌≡◌, refl, ℕ, ◌+◌, ◌*◌, ◌^◌, ◌<◌, ◌≤◌, max, Bool, true, false, ◌&&◌, ◌||◌}
use Rattle.std.specs.Prelude.{nat_lt, is_none, nat_abs, if◌then◌else◌, List, [], ◌∷◌, Option, Some, None, IsSome, ℤ}
use Rattle.std.specs.Prelude.{pos, bytes_eq}
use Rattle.std.proofs.Common.{ap, sym, ◌∙◌, arith, subst, true≢false}
use Rattle.std.proofs.lemmas.Bool.Decides.{nat_tests}
use Rattle.std.proofs.lemmas.Int.{ints}
use Rattle.std.proofs.lemmas.Nat.{pow_pos}
use Rattle.std.proofs.lemmas.Nat.Bits.{same_from_bits_below}
use Rattle.std.proofs.lemmas.Slice.Eq.{bytes_eq-Decides}
use Rattle.fv_text.specs.declared.pos.Pos.{Pos}
use Rattle.vl_tree.specs.Expr.{
  Expr,
  Exprs,
  Selects,
  number,
  name,
  paren,
  unary,
  binary,
  conditional,
  concat,
  repeat,
  cast,
  none,
  more,
  whole,
  bit,
  part,
  indexed,
}
use Rattle.fv_bits.specs.Bits.{extended}
use Rattle.vl_size.specs.declared.decl.Decl.{Decl}
use Rattle.vl_size.specs.Way.{way}
use Rattle.vl_size.specs.Sign.{sign}
use Rattle.vl_size.specs.Size.{◌>>=◌, Values, cells_in, operand, own, is_true, index_of, or_none, some_bits}
use Rattle.vl_size.specs.Size.{within, with_size, with_decl, times, part_size, copies, offset_of, start_of, bit_at}
use Rattle.vl_size.specs.Size.{bits_from, memory_word, unary_number, binary_number, unary_size, operation_size}
use Rattle.vl_size.specs.Size.{is_constant, are_constant, no_names, size, sizes, vector_size, word_size, value}
use Rattle.vl_size.specs.Size.{concatenated, vector_value, word_value}
use Rattle.vl_size.specs.Table.{span, is_between, word_name, declared_as}
use Rattle.vl_mean.specs.Cells.{is_cell}
use Rattle.vl_mean.specs.Scopes.{no_values}
use Rattle.vl_mean.specs.Targets.{bit_of, has_spot, spots_from, spots_of, is_decl, word_index, full_word}
use Rattle.vl_flow_spec.specs.Reads.{Bits, Covers, IsCellOf, selected, reads, parts_read, selects_read, AgreeOn}
use Rattle.vl_flow_spec.proofs.Bools.{or_left, or_right, or_none as neither, and_both, and_left, and_right}
use Rattle.vl_flow_spec.proofs.Cells.{own_cell, word_is_cell}
use Rattle.vl_flow_spec.proofs.Flat.{index_in, fixed, vector_bits, word_bits, name_bits, decl_selected, flat_selected}
use Rattle.vl_flow_spec.proofs.Spots.{spot_there, bits_same, one_bit_same}

-- ---- what has a size has parts with sizes

pub bind_first : {A B : Type 0} (a : Option A) (f : A → Option B) → IsSome (a >>= f) → IsSome a
bind_first None f h = h
bind_first (Some x) f h = refl

pub bind_then : {A B C : Type 0} (a : Option A) (b : Option B) (f : A → B → Option C)
    → IsSome (a >>= λ m. b >>= f m) → IsSome b
bind_then None b f h = absurd (true≢false (sym h))
bind_then (Some x) b f h = bind_first b (f x) h

pub bind_next : {A B : Type 0} (a : Option A) (b : Option B) → IsSome (a >>= λ m. b) → IsSome b
bind_next None b h = absurd (true≢false (sym h))
bind_next (Some x) b h = h

-- of three
pub bind_last : {A B C D : Type 0} (a : Option A) (b : Option B) (c : Option C) (f : A → B → C → Option D)
    → IsSome (a >>= λ k. b >>= λ m. c >>= f k m) → IsSome c
bind_last None b c f h = absurd (true≢false (sym h))
bind_last (Some x) b c f h = bind_then b c (f x) h

pub bind_test : {A B : Type 0} (a : Option A) (b : Option B) (t : Bool) (f : A → B → Option ℕ)
    → IsSome (a >>= λ k. b >>= λ j. if t then f k j else None) → t ≡ true
bind_test None b t f h = absurd (true≢false (sym h))
bind_test (Some x) None t f h = absurd (true≢false (sym h))
bind_test (Some x) (Some y) true f h = refl
bind_test (Some x) (Some y) false f h = absurd (true≢false (sym h))

pub some_size : (o : Option ℕ) → IsSome (some_bits o) → IsSome o
some_size None h = h
some_size (Some n) h = refl

-- ---- names

abbrev the : Option Decl → Decl → Decl
the None x = x
the (Some d) x = d

pub declared_name : (ds : List Decl) (text : List ℕ) (d : Decl) → declared_as ds text ≡ Some d → text ≡ d.name
declared_name [] text d e = absurd (true≢false (ap is_none e))
declared_name (x ∷ xs) text d e = by (λ h. declared_name xs text d h) (bytes_eq text x.name) refl e
  where
    by : (declared_as xs text ≡ Some d → text ≡ d.name) → (b : Bool) → bytes_eq text x.name ≡ b
        → (if b then Some x else declared_as xs text) ≡ Some d → text ≡ d.name
    by later true t h = (bytes_eq-Decides text x.name).0 t ∙ ap (λ o. (the o d).name) h
    by later false t h = later h

-- no bit at all
abbrev pub no_bits : Bits
no_bits n k = false

module _ (ds : List Decl) where
  -- ---- constants read nothing

  mutual
    constant_reads : (e : Expr) → is_constant e ≡ true → (n : List ℕ) (k : ℕ) → reads ds e n k ≡ false
    constant_reads (number p x) c n k = refl
    constant_reads (name p text xs) c n k = absurd (true≢false (sym c))
    constant_reads (paren p x) c n k = constant_reads x c n k
    constant_reads (unary p op x) c n k = constant_reads x c n k
    constant_reads (binary p op x y) c n k =
        neither (reads ds x n k) (reads ds y n k) (constant_reads x (and_left (is_constant x) (is_constant y) c) n k)
        (constant_reads y (and_right (is_constant x) (is_constant y) c) n k)
    constant_reads (conditional p q x y) c n k =
        let both = and_right (is_constant q) (is_constant x && is_constant y) c in
        neither (reads ds q n k) (reads ds x n k || reads ds y n k)
        (constant_reads q (and_left (is_constant q) (is_constant x && is_constant y) c) n k)
        (neither (reads ds x n k) (reads ds y n k)
        (constant_reads x (and_left (is_constant x) (is_constant y) both) n k)
        (constant_reads y (and_right (is_constant x) (is_constant y) both) n k))
    constant_reads (concat p es) c n k = constants_read es c n k
    constant_reads (repeat p x es) c n k =
        neither (reads ds x n k) (parts_read ds es n k)
        (constant_reads x (and_left (is_constant x) (are_constant es) c) n k)
        (constants_read es (and_right (is_constant x) (are_constant es) c) n k)
    constant_reads (cast p to x) c n k = constant_reads x c n k

    constants_read : (es : Exprs) → are_constant es ≡ true → (n : List ℕ) (k : ℕ) → parts_read ds es n k ≡ false
    constants_read none c n k = refl
    constants_read (more e es) c n k =
        neither (reads ds e n k) (parts_read ds es n k)
        (constant_reads e (and_left (is_constant e) (are_constant es) c) n k)
        (constants_read es (and_right (is_constant e) (are_constant es) c) n k)

  nothing_read : (e : Expr) → is_constant e ≡ true → Covers no_bits (reads ds e)
  nothing_read e c n k h = sym (constant_reads e c n k) ∙ h

  none_agree : (u v : Values) → AgreeOn ds no_bits u v
  none_agree u v = record {
    bits = λ d n k is below no. absurd (true≢false (sym no));
    left = λ d n k is below no. absurd (true≢false (sym no));
    right = λ d n k is below no. absurd (true≢false (sym no));
  }

  -- ---- values

  abbrev pub SameValue : Expr → Type 0
  SameValue e =
      (u v : Values) (K : Bits) → AgreeOn ds K u v → Covers K (reads ds e) → IsSome (size ds e) → (w : ℕ) (s : Bool)
      → value ds (cells_in u) w s e ≡ value ds (cells_in v) w s e

  -- the bits that selects take of a vector with the name; all, where an index varies
  abbrev takes : Decl → List ℕ → Selects → ℕ → Bool
  takes d n xs k = if fixed ds xs then has_spot n k (vector_bits ds no_values d (Some n) xs) else true

  abbrev SameBit : Decl → ℕ → ℕ → ℕ → Type 0
  SameBit d x y k = (x < 2 ^ d.width) × (y < 2 ^ d.width) × (bit_of x k ≡ bit_of y k)

  abbrev SameVector : Selects → Type 0
  SameVector xs =
      (u v : Values) (K : Bits) → AgreeOn ds K u v → Covers K (selects_read ds xs) → (d : Decl) (n : List ℕ) (x y : ℕ)
      → 1 ≤ d.width → ((k : ℕ) → k < d.width → takes d n xs k ≡ true → SameBit d x y k)
      → IsSome (vector_size ds d xs) → (w : ℕ) (s : Bool)
      → vector_value ds (cells_in u) w s d x xs ≡ vector_value ds (cells_in v) w s d y xs

  abbrev SameWord : Selects → Type 0
  SameWord xs =
      (u v : Values) (K : Bits) → AgreeOn ds K u v → Covers K (selects_read ds xs) → (d : Decl) (bounds : ℤ × ℤ)
      → declared_as ds d.name ≡ Some d → d.words ≡ Some bounds → 1 ≤ d.width
      → Covers K (decl_selected ds d d.name xs) → IsSome (word_size ds d xs) → (w : ℕ) (s : Bool)
      → word_value ds (cells_in u) w s d xs ≡ word_value ds (cells_in v) w s d xs

  pub index_same : (e : Expr) (u v : Values)
      → ((w : ℕ) (s : Bool) → value ds (cells_in u) w s e ≡ value ds (cells_in v) w s e)
      → index_in ds u e ≡ index_in ds v e
  index_same e u v f = λ i. index_of (operand (size ds e) (sign ds e) (λ m t. f m t i))

  pub constant_index : (e : Expr) (u : Values) → SameValue e → IsSome (size ds e) → is_constant e ≡ true
      → index_in ds u e ≡ index_in ds no_values e
  constant_index e u f sized c =
      index_same e u no_values (f u no_values no_bits (none_agree u no_values) (nothing_read e c) sized)

  -- ---- a vector with one select

  fits : (w : ℕ) (n : List ℕ) (k : ℕ) (c : Bool) (l m : ℕ) (p q : ℤ) → (c ≡ true → l ≡ m) → (c ≡ true → p ≡ q)
      → has_spot n k (spots_from l w (Some n) p) ≡ true
      → (if c then has_spot n k (spots_from m w (Some n) q) else true) ≡ true
  fits w n k true l m p q e f h = sym (λ i. has_spot n k (spots_from (e refl i) w (Some n) (f refl i))) ∙ h
  fits w n k false l m p q e f h = refl

  vector_whole : (u v : Values) (d : Decl) (n : List ℕ) (x y : ℕ) → 1 ≤ d.width
      → ((k : ℕ) → k < d.width → takes d n whole k ≡ true → SameBit d x y k) → (w : ℕ) (s : Bool)
      → extended d.width w s x ≡ extended d.width w s y
  vector_whole u v d n x y wide h w s =
      let at : (k : ℕ) → k < d.width → SameBit d x y k =
      λ k below. h k below (spot_there d.width d.width n (pos 0) k k below below (omega (arith, ints))) in
      let first = at 0 wide in
      ap (extended d.width w s) (same_from_bits_below d.width x y first.0 first.1 (λ k below. (at k below).2))

  vector_bit : (p : Pos) (i : Expr) → SameValue i → (u v : Values) (K : Bits) → AgreeOn ds K u v → Covers K (reads ds i)
      → IsSome (size ds i) → (d : Decl) (n : List ℕ) (x y : ℕ)
      → ((k : ℕ) → k < d.width → takes d n (bit p i whole) k ≡ true → SameBit d x y k) → (w : ℕ) (s : Bool)
      → vector_value ds (cells_in u) w s d x (bit p i whole) ≡ vector_value ds (cells_in v) w s d y (bit p i whole)
  vector_bit p i f u v K a c sized d n x y h w s =
      let at = offset_of d (index_in ds u i) in
      let first : bit_at d.width x at ≡ bit_at d.width y at =
      one_bit_same d.width x y n at (λ k below t.
      (h k below (fits d.width n k (is_constant i && true) 1 1 at (offset_of d (index_in ds no_values i)) (λ q. refl)
      (λ q. ap (offset_of d) (constant_index i u f sized (and_left (is_constant i) true q))) t)).2) in
      ap (extended 1 w s) first
      ∙ ap (λ j. extended 1 w s (bit_at d.width y (offset_of d j))) (index_same i u v (f u v K a c sized))

  vector_part : (p : Pos) (l r : Expr) → SameValue l → SameValue r → (u v : Values) → IsSome (size ds l)
      → IsSome (size ds r) → is_constant l ≡ true → is_constant r ≡ true → (d : Decl) (n : List ℕ) (x y : ℕ)
      → ((k : ℕ) → k < d.width → takes d n (part p l r whole) k ≡ true → SameBit d x y k) → (w : ℕ) (s : Bool)
      → vector_value ds (cells_in u) w s d x (part p l r whole) ≡ vector_value ds (cells_in v) w s d y (part p l r whole)
  vector_part p l r f g u v sized_l sized_r c e d n x y h w s =
      let left : (z : Values) → index_in ds z l ≡ index_in ds no_values l = λ z. constant_index l z f sized_l c in
      let right : (z : Values) → index_in ds z r ≡ index_in ds no_values r = λ z. constant_index r z g sized_r e in
      let m = span (index_in ds no_values l) (index_in ds no_values r) in
      let at = offset_of d (index_in ds no_values r) in
      let first : bits_from m d.width x at ≡ bits_from m d.width y at =
      bits_same m d.width x y n at (λ k below t. (h k below t).2) in
      (λ i. extended (span (left u i) (right u i)) w s
      (bits_from (span (left u i) (right u i)) d.width x (offset_of d (right u i))))
      ∙ ap (extended m w s) first
      ∙ sym (λ i. extended (span (left v i) (right v i)) w s
      (bits_from (span (left v i) (right v i)) d.width y (offset_of d (right v i))))

  vector_indexed : (p : Pos) (b m : Expr) → SameValue b → SameValue m → (u v : Values) (K : Bits) → AgreeOn ds K u v
      → Covers K (reads ds b) → IsSome (size ds b) → IsSome (size ds m) → is_constant m ≡ true
      → (d : Decl) (n : List ℕ) (x y : ℕ)
      → ((k : ℕ) → k < d.width → takes d n (indexed p b m whole) k ≡ true → SameBit d x y k) → (w : ℕ) (s : Bool)
      → vector_value ds (cells_in u) w s d x (indexed p b m whole)
      ≡ vector_value ds (cells_in v) w s d y (indexed p b m whole)
  vector_indexed p b m f g u v K a c sized_b sized_m e d n x y h w s =
      let count : (z : Values) → index_in ds z m ≡ index_in ds no_values m = λ z. constant_index m z g sized_m e in
      let j = nat_abs (index_in ds no_values m) in
      let at = start_of d (index_in ds u b) j in
      let first : bits_from j d.width x at ≡ bits_from j d.width y at =
      bits_same j d.width x y n at (λ k below t.
      (h k below (fits d.width n k (is_constant b && true) j j at (start_of d (index_in ds no_values b) j) (λ q. refl)
      (λ q. ap (λ i. start_of d i j) (constant_index b u f sized_b (and_left (is_constant b) true q))) t)).2) in
      (λ i. let k = nat_abs (count u i) in extended k w s (bits_from k d.width x (start_of d (index_in ds u b) k)))
      ∙ ap (extended j w s) first
      ∙ ap (λ i. extended j w s (bits_from j d.width y (start_of d i j))) (index_same b u v (f u v K a c sized_b))
      ∙ sym (λ i. let k = nat_abs (count v i) in
      extended k w s (bits_from k d.width y (start_of d (index_in ds v b) k)))

  -- ---- a name

  -- of a declared name
  pub selected_at : (text : List ℕ) (xs : Selects) (d : Decl) → declared_as ds text ≡ Some d → (n : List ℕ) (k : ℕ)
      → selected ds text xs n k ≡ decl_selected ds d text xs n k
  selected_at text xs d e n k =
      flat_selected ds text xs n k ∙ ap (λ o. is_decl o (λ d. decl_selected ds d text xs n k)) e

  vector_names : (text : List ℕ) (xs : Selects) (d : Decl) → declared_as ds text ≡ Some d → d.words ≡ None
      → name_bits ds no_values text xs ≡ vector_bits ds no_values d (Some text) xs
  vector_names text xs d e q =
      (λ i. spots_of (e i) (λ d. if is_none d.words then vector_bits ds no_values d (Some text) xs
      else word_bits ds no_values d xs))
      ∙ ap (λ o. if is_none o then vector_bits ds no_values d (Some text) xs else word_bits ds no_values d xs) q

  word_names : (text : List ℕ) (xs : Selects) (d : Decl) (bounds : ℤ × ℤ) → declared_as ds text ≡ Some d
      → d.words ≡ Some bounds → name_bits ds no_values text xs ≡ word_bits ds no_values d xs
  word_names text xs d bounds e q =
      (λ i. spots_of (e i) (λ d. if is_none d.words then vector_bits ds no_values d (Some text) xs
      else word_bits ds no_values d xs))
      ∙ ap (λ o. if is_none o then vector_bits ds no_values d (Some text) xs else word_bits ds no_values d xs) q

  -- where the vector's bits are taken, the name's are selected
  vector_selected : (xs : Selects) (d : Decl) → declared_as ds d.name ≡ Some d → d.words ≡ None → (k : ℕ) → k < d.width
      → takes d d.name xs k ≡ true → decl_selected ds d d.name xs d.name k ≡ true
  vector_selected xs d own q k below t = by (fixed ds xs) refl t
    where
      by : (c : Bool) → fixed ds xs ≡ c
          → (if c then has_spot d.name k (vector_bits ds no_values d (Some d.name) xs) else true) ≡ true
          → (if c then has_spot d.name k (name_bits ds no_values d.name xs)
          else is_cell d.name d.words d.name && nat_lt k d.width) ≡ true
      by true e t = ap (has_spot d.name k) (vector_names d.name xs d own q) ∙ t
      by false e t =
          and_both (is_cell d.name d.words d.name) (nat_lt k d.width)
          (ap (λ o. is_cell d.name o d.name) q ∙ own_cell d.name) (grind (arith, nat_tests, below))

  word_selected : (p : Pos) (i : Expr) (xs : Selects) (d : Decl) (bounds : ℤ × ℤ) (j : ℤ)
      → declared_as ds d.name ≡ Some d → d.words ≡ Some bounds → is_between bounds.0 bounds.1 j ≡ true
      → (is_constant i ≡ true → index_in ds no_values i ≡ j) → (k : ℕ) → k < d.width
      → takes d (word_name d.name j) xs k ≡ true
      → decl_selected ds d d.name (bit p i xs) (word_name d.name j) k ≡ true
  word_selected p i xs d bounds j own q between at k below t = by (is_constant i) refl (fixed ds xs) refl t
    where
      n : List ℕ
      n = word_name d.name j

      varying : (is_cell d.name d.words n && nat_lt k d.width) ≡ true
      varying =
          and_both (is_cell d.name d.words n) (nat_lt k d.width)
          (ap (λ o. is_cell d.name o n) q ∙ word_is_cell d.name bounds j between) (grind (arith, nat_tests, below))

      found : is_constant i ≡ true
          → vector_bits ds no_values d (full_word d.name (word_index d.words (index_in ds no_values i))) xs
          ≡ vector_bits ds no_values d (Some n) xs
      found c =
          (λ z. vector_bits ds no_values d (full_word d.name (word_index (q z) (at c z))) xs)
          ∙ ap (λ b. vector_bits ds no_values d (full_word d.name (if b then Some j else None)) xs) between

      by : (c : Bool) → is_constant i ≡ c → (f : Bool) → fixed ds xs ≡ f
          → (if f then has_spot n k (vector_bits ds no_values d (Some n) xs) else true) ≡ true
          → (if c && f then has_spot n k (name_bits ds no_values d.name (bit p i xs))
          else is_cell d.name d.words n && nat_lt k d.width) ≡ true
      by true c true f t =
          ap (has_spot n k) (word_names d.name (bit p i xs) d bounds own q ∙ found c) ∙ t
      by true c false f t = varying
      by false c f e t = varying

  -- a memory's word
  word_same : (p : Pos) (i : Expr) (xs : Selects) → SameValue i → SameVector xs → SameWord (bit p i xs)
  word_same p i xs f g u v K a c d bounds own q wide here sized w s =
      (λ z. vector_value ds (cells_in u) w s d (memory_word (cells_in u) d (q z) j) xs)
      ∙ by (is_between bounds.0 bounds.1 j) refl
      ∙ sym (λ z. vector_value ds (cells_in v) w s d (memory_word (cells_in v) d (q z) j) xs)
      ∙ ap (λ z. vector_value ds (cells_in v) w s d (memory_word (cells_in v) d d.words z) xs)
      (index_same i u v (f u v K a of_index sized_index))
    where
      j : ℤ
      j = index_in ds u i

      n : List ℕ
      n = word_name d.name j

      sized_index : IsSome (size ds i)
      sized_index = bind_first (size ds i) (λ k. vector_size ds d xs) sized

      sized_rest : IsSome (vector_size ds d xs)
      sized_rest = bind_next (size ds i) (vector_size ds d xs) sized

      of_index : Covers K (reads ds i)
      of_index m k r = c m k (or_left (reads ds i m k) (selects_read ds xs m k) r)

      inner : Covers K (selects_read ds xs)
      inner m k r = c m k (or_right (reads ds i m k) (selects_read ds xs m k) r)

      by : (b : Bool) → is_between bounds.0 bounds.1 j ≡ b
          → vector_value ds (cells_in u) w s d (if b then u n else 0) xs
          ≡ vector_value ds (cells_in v) w s d (if b then v n else 0) xs
      by true between =
          let cell : IsCellOf ds d n = record {
            declared = own;
            cell = ap (λ o. is_cell d.name o n) q ∙ word_is_cell d.name bounds j between;
          } in
          g u v K a inner d n (u n) (v n) wide (λ k below t.
          let in_K = here n k (word_selected p i xs d bounds j own q between
          (λ e. sym (constant_index i u f sized_index e)) k below t) in
          (a.left d n k cell below in_K, a.right d n k cell below in_K, a.bits d n k cell below in_K)) sized_rest w s
      by false between =
          g u v K a inner d n 0 0 wide (λ k below t. (pow_pos d.width, pow_pos d.width, refl)) sized_rest w s

  module _ (wide : (d : Decl) → declared_as ds d.name ≡ Some d → 1 ≤ d.width) where
    name_at : (p : Pos) (text : List ℕ) (xs : Selects) → SameVector xs → SameWord xs → (u v : Values) (K : Bits)
        → AgreeOn ds K u v → Covers K (reads ds (name p text xs)) → (d : Decl) → declared_as ds text ≡ Some d
        → IsSome (if is_none d.words then vector_size ds d xs else word_size ds d xs) → (w : ℕ) (s : Bool)
        → (if is_none d.words then vector_value ds (cells_in u) w s d (u d.name) xs
        else word_value ds (cells_in u) w s d xs)
        ≡ (if is_none d.words then vector_value ds (cells_in v) w s d (v d.name) xs
        else word_value ds (cells_in v) w s d xs)
    name_at p text xs f g u v K a c d e sized w s = at d.words refl sized
      where
        same : text ≡ d.name
        same = declared_name ds text d e

        own : declared_as ds d.name ≡ Some d
        own = subst (λ t. declared_as ds t ≡ Some d) same e

        inner : Covers K (selects_read ds xs)
        inner n k r = c n k (or_right (selected ds text xs n k) (selects_read ds xs n k) r)

        here : Covers K (decl_selected ds d d.name xs)
        here n k r =
            c n k (or_left (selected ds text xs n k) (selects_read ds xs n k)
            (selected_at text xs d e n k ∙ ap (λ t. decl_selected ds d t xs n k) same ∙ r))

        at : (q : Option (ℤ × ℤ)) → d.words ≡ q
            → IsSome (if is_none q then vector_size ds d xs else word_size ds d xs)
            → (if is_none q then vector_value ds (cells_in u) w s d (u d.name) xs
            else word_value ds (cells_in u) w s d xs)
            ≡ (if is_none q then vector_value ds (cells_in v) w s d (v d.name) xs
            else word_value ds (cells_in v) w s d xs)
        at None q sized =
            let cell : IsCellOf ds d d.name = record {
              declared = own;
              cell = ap (λ o. is_cell d.name o d.name) q ∙ own_cell d.name;
            } in
            f u v K a inner d d.name (u d.name) (v d.name) (wide d own) (λ k below t.
            let in_K = here d.name k (vector_selected xs d own q k below t) in
            (a.left d d.name k cell below in_K, a.right d d.name k cell below in_K, a.bits d d.name k cell below in_K))
            sized w s
        at (Some bounds) q sized = g u v K a inner d bounds own q (wide d own) here sized w s

    name_same : (p : Pos) (text : List ℕ) (xs : Selects) → SameVector xs → SameWord xs → SameValue (name p text xs)
    name_same p text xs f g u v K a c sized w s = by (declared_as ds text) refl sized
      where
        by : (o : Option Decl) → declared_as ds text ≡ o
            → IsSome (o >>= λ d. if is_none d.words then vector_size ds d xs else word_size ds d xs)
            → with_decl o (λ d. if is_none d.words then vector_value ds (cells_in u) w s d (u d.name) xs
            else word_value ds (cells_in u) w s d xs)
            ≡ with_decl o (λ d. if is_none d.words then vector_value ds (cells_in v) w s d (v d.name) xs
            else word_value ds (cells_in v) w s d xs)
        by None e sized = refl
        by (Some d) e sized = name_at p text xs f g u v K a c d e sized w s

    mutual
      pub same_value : (e : Expr) → SameValue e
      same_value (number p x) u v K a c sized w s = refl
      same_value (name p text xs) u v K a c sized w s =
          name_same p text xs (same_vector xs) (same_word xs) u v K a c sized w s
      same_value (paren p x) u v K a c sized w s = same_value x u v K a c sized w s
      same_value (unary p op x) u v K a c sized w s =
          let has = bind_first (size ds x) (λ m. Some (unary_size op m)) sized in
          λ i. unary_number op w s (operand (size ds x) (sign ds x) (λ m t. same_value x u v K a c has m t i))
      same_value (binary p op x y) u v K a c sized w s =
          let constant = is_constant x && is_constant y in
          let has_x = bind_first (size ds x) (λ m. size ds y >>= λ n. operation_size op m n constant) sized in
          let has_y = bind_then (size ds x) (size ds y) (λ m n. operation_size op m n constant) sized in
          λ i. binary_number (way op) op w s
          (operand (size ds x) (sign ds x) (λ m t.
          same_value x u v K a (λ n k r. c n k (or_left (reads ds x n k) (reads ds y n k) r)) has_x m t i))
          (operand (size ds y) (sign ds y) (λ m t.
          same_value y u v K a (λ n k r. c n k (or_right (reads ds x n k) (reads ds y n k) r)) has_y m t i))
      same_value (conditional p q x y) u v K a c sized w s =
          let has_q = bind_first (size ds q) (λ k. size ds x >>= λ m. size ds y >>= λ n. Some (max m n)) sized in
          let has_x = bind_then (size ds q) (size ds x) (λ k m. size ds y >>= λ n. Some (max m n)) sized in
          let has_y = bind_last (size ds q) (size ds x) (size ds y) (λ k m n. Some (max m n)) sized in
          λ i.
          let first = same_value x u v K a (λ n k r. c n k (or_right (reads ds q n k) (reads ds x n k || reads ds y n k)
          (or_left (reads ds x n k) (reads ds y n k) r))) has_x w s i in
          let second = same_value y u v K a (λ n k r. c n k (or_right (reads ds q n k) (reads ds x n k || reads ds y n k)
          (or_right (reads ds x n k) (reads ds y n k) r))) has_y w s i in
          if is_true (operand (size ds q) (sign ds q) (λ m t.
          same_value q u v K a (λ n k r. c n k (or_left (reads ds q n k) (reads ds x n k || reads ds y n k) r))
          has_q m t i)) then first else second
      same_value (concat p es) u v K a c sized w s =
          λ i. with_size (some_bits (sizes ds es)) (λ m.
          extended m w s (same_concatenated es u v K a c (some_size (sizes ds es) sized) i))
      same_value (repeat p x es) u v K a c sized w s =
          let inner : ℕ → ℕ → Option ℕ = λ k m. if is_constant x
          then times (index_of (operand (Some k) (sign ds x) (λ j t. value ds no_names j t x))) m else None in
          let has_x = bind_first (size ds x) (λ k. some_bits (sizes ds es) >>= λ m. inner k m) sized in
          let has_es = bind_then (size ds x) (some_bits (sizes ds es)) inner sized in
          λ i. with_size (some_bits (sizes ds es)) (λ k.
          let count = index_of (operand (size ds x) (sign ds x) (λ m t.
          same_value x u v K a (λ n k r. c n k (or_left (reads ds x n k) (parts_read ds es n k) r)) has_x m t i)) in
          with_size (times count k) (λ m. extended m w s (copies (nat_abs count) k
          (same_concatenated es u v K a (λ n k r. c n k (or_right (reads ds x n k) (parts_read ds es n k) r))
          (some_size (sizes ds es) has_es) i))))
      same_value (cast p to x) u v K a c sized w s =
          λ i. extended (or_none (size ds x)) w s (same_value x u v K a c sized (or_none (size ds x)) (sign ds x) i)

      same_concatenated : (es : Exprs) (u v : Values) (K : Bits) → AgreeOn ds K u v → Covers K (parts_read ds es)
          → IsSome (sizes ds es) → concatenated ds (cells_in u) es ≡ concatenated ds (cells_in v) es
      same_concatenated none u v K a c sized = refl
      same_concatenated (more e es) u v K a c sized =
          let has_e = bind_first (size ds e) (λ m. sizes ds es >>= λ n. within (m + n)) sized in
          let has_es = bind_then (size ds e) (sizes ds es) (λ m n. within (m + n)) sized in
          λ i. own (operand (size ds e) (sign ds e) (λ m t.
          same_value e u v K a (λ n k r. c n k (or_left (reads ds e n k) (parts_read ds es n k) r)) has_e m t i))
          * 2 ^ or_none (sizes ds es)
          + same_concatenated es u v K a (λ n k r. c n k (or_right (reads ds e n k) (parts_read ds es n k) r)) has_es i

      same_vector : (xs : Selects) → SameVector xs
      same_vector whole u v K a c d n x y some h sized w s = vector_whole u v d n x y some h w s
      same_vector (bit p i whole) u v K a c d n x y some h sized w s =
          vector_bit p i (same_value i) u v K a (λ m k r. c m k (or_left (reads ds i m k) false r))
          (bind_first (size ds i) (λ k. Some 1) sized) d n x y h w s
      same_vector (part p l r whole) u v K a c d n x y some h sized w s =
          let of_ends : ℕ → ℕ → Option ℕ = λ k j.
          part_size d (index_of (operand (Some k) (sign ds l) (λ m t. value ds no_names m t l)))
          (index_of (operand (Some j) (sign ds r) (λ m t. value ds no_names m t r))) in
          let both = bind_test (size ds l) (size ds r) (is_constant l && is_constant r) of_ends sized in
          let inner : ℕ → ℕ → Option ℕ = λ k j. if is_constant l && is_constant r then of_ends k j else None in
          vector_part p l r (same_value l) (same_value r) u v
          (bind_first (size ds l) (λ k. size ds r >>= λ j. inner k j) sized)
          (bind_then (size ds l) (size ds r) inner sized)
          (and_left (is_constant l) (is_constant r) both) (and_right (is_constant l) (is_constant r) both) d n x y h w s
      same_vector (indexed p b m whole) u v K a c d n x y some h sized w s =
          let of_count : ℕ → ℕ → Option ℕ = λ k j.
          times (index_of (operand (Some j) (sign ds m) (λ i t. value ds no_names i t m))) 1 in
          let inner : ℕ → ℕ → Option ℕ = λ k j. if is_constant m then of_count k j else None in
          vector_indexed p b m (same_value b) (same_value m) u v K a
          (λ i k r. c i k (or_left (reads ds b i k || reads ds m i k) false (or_left (reads ds b i k) (reads ds m i k) r)))
          (bind_first (size ds b) (λ k. size ds m >>= λ j. inner k j) sized)
          (bind_then (size ds b) (size ds m) inner sized)
          (bind_test (size ds b) (size ds m) (is_constant m) of_count sized) d n x y h w s
      same_vector (bit p i (bit q j ys)) u v K a c d n x y some h sized w s = refl
      same_vector (bit p i (part q j k ys)) u v K a c d n x y some h sized w s = refl
      same_vector (bit p i (indexed q j k ys)) u v K a c d n x y some h sized w s = refl
      same_vector (part p l r (bit q j ys)) u v K a c d n x y some h sized w s = refl
      same_vector (part p l r (part q j k ys)) u v K a c d n x y some h sized w s = refl
      same_vector (part p l r (indexed q j k ys)) u v K a c d n x y some h sized w s = refl
      same_vector (indexed p l r (bit q j ys)) u v K a c d n x y some h sized w s = refl
      same_vector (indexed p l r (part q j k ys)) u v K a c d n x y some h sized w s = refl
      same_vector (indexed p l r (indexed q j k ys)) u v K a c d n x y some h sized w s = refl

      same_word : (xs : Selects) → SameWord xs
      same_word whole u v K a c d bounds own q some here sized w s = refl
      same_word (bit p i xs) u v K a c d bounds own q some here sized w s =
          word_same p i xs (same_value i) (same_vector xs) u v K a c d bounds own q some here sized w s
      same_word (part p l r xs) u v K a c d bounds own q some here sized w s = refl
      same_word (indexed p b m xs) u v K a c d bounds own q some here sized w s = refl
