-- What a select with a size is: its bounds and counts are constants with a size between them.
use Rattle.std.specs.Prelude.{◌≡◌, refl, ℕ, Bool, true, false, ◌&&◌, is_none, nat_le, if◌then◌else◌}
use Rattle.std.specs.Prelude.{List, Option, Some, None, IsSome, ℤ}
use Rattle.std.proofs.Common.{ap, sym, subst, true≢false}
use Rattle.std.proofs.lemmas.Option.{same_Some}
use Rattle.fv_text.specs.declared.pos.Pos.{Pos}
use Rattle.vl_tree.specs.Expr.{Expr, Selects, whole, bit, part, indexed}
use Rattle.vl_size.specs.declared.decl.Decl.{Decl}
use Rattle.vl_size.specs.Sign.{sign}
use Rattle.vl_size.specs.Size.{◌>>=◌, only_if, within, part_size, times, is_bound, goes_along, operand, index_of}
use Rattle.vl_size.specs.Size.{is_constant, no_names, size, vector_size, word_size, value}
use Rattle.vl_size.specs.Table.{span, declared_as}
use Rattle.vl_flow_spec.proofs.Same.{bind_next}
use Rattle.vl_flow_cells.specs.Numbered.{HasSize}

module _ (ds : List Decl) where
  abbrev pub index_by : Option ℕ → Expr → ℤ
  index_by m e = index_of (operand m (sign ds e) (λ j t. value ds no_names j t e))

  abbrev pub constant_index : Expr → ℤ
  constant_index e = index_by (size ds e) e

  pub part_sized : (d : Decl) (p : Pos) (l r : Expr) → IsSome (vector_size ds d (part p l r whole))
      → (is_constant l ≡ true) × (is_constant r ≡ true)
      × IsSome (part_size d (constant_index l) (constant_index r))
  part_sized d p l r h = by (size ds l) (size ds r) (is_constant l) (is_constant r) h
    where
      by : (a b : Option ℕ) (s t : Bool)
          → IsSome (a >>= λ k. b >>= λ j. if s && t then part_size d (index_by (Some k) l) (index_by (Some j) r)
          else None)
          → (s ≡ true) × (t ≡ true) × IsSome (part_size d (index_by a l) (index_by b r))
      by None b s t h = absurd (true≢false (sym h))
      by (Some k) None s t h = absurd (true≢false (sym h))
      by (Some k) (Some j) true true h = (refl, refl, h)
      by (Some k) (Some j) true false h = absurd (true≢false (sym h))
      by (Some k) (Some j) false t h = absurd (true≢false (sym h))

  pub indexed_sized : (d : Decl) (p : Pos) (s n : Expr) → IsSome (vector_size ds d (indexed p s n whole))
      → (is_constant n ≡ true) × IsSome (times (constant_index n) 1)
  indexed_sized d p s n h = by (size ds s) (size ds n) (is_constant n) h
    where
      by : (a b : Option ℕ) (t : Bool)
          → IsSome (a >>= λ k. b >>= λ j. if t then times (index_by (Some j) n) 1 else None)
          → (t ≡ true) × IsSome (times (index_by b n) 1)
      by None b t h = absurd (true≢false (sym h))
      by (Some k) None t h = absurd (true≢false (sym h))
      by (Some k) (Some j) true h = (refl, h)
      by (Some k) (Some j) false h = absurd (true≢false (sym h))

  -- of a declared name
  pub name_sized : (text : List ℕ) (xs : Selects) (d : Decl) → declared_as ds text ≡ Some d → HasSize ds text xs
      → IsSome (if is_none d.words then vector_size ds d xs else word_size ds d xs)
  name_sized text xs d e h =
      let f : Option Decl → Option ℕ =
      λ o. o >>= λ d. if is_none d.words then vector_size ds d xs else word_size ds d xs in
      subst (λ o. IsSome (f o)) e h

  pub vector_sized : (text : List ℕ) (xs : Selects) (d : Decl) → declared_as ds text ≡ Some d → d.words ≡ None
      → HasSize ds text xs → IsSome (vector_size ds d xs)
  vector_sized text xs d e w h =
      subst (λ o. IsSome (if is_none o then vector_size ds d xs else word_size ds d xs)) w
      (name_sized text xs d e h)

  pub words_sized : (text : List ℕ) (xs : Selects) (d : Decl) (b : ℤ × ℤ) → declared_as ds text ≡ Some d
      → d.words ≡ Some b → HasSize ds text xs → IsSome (word_size ds d xs)
  words_sized text xs d b e w h =
      subst (λ o. IsSome (if is_none o then vector_size ds d xs else word_size ds d xs)) w
      (name_sized text xs d e h)

  pub word_sized : (text : List ℕ) (p : Pos) (i : Expr) (xs : Selects) (d : Decl) (b : ℤ × ℤ)
      → declared_as ds text ≡ Some d → d.words ≡ Some b → HasSize ds text (bit p i xs)
      → IsSome (vector_size ds d xs)
  word_sized text p i xs d b e w h =
      bind_next (size ds i) (vector_size ds d xs) (words_sized text (bit p i xs) d b e w h)

-- what isn't declared has no size
pub unsized : (ds : List Decl) (text : List ℕ) (xs : Selects) → declared_as ds text ≡ None → HasSize ds text xs → ⊥
unsized ds text xs e h =
    let f : Option Decl → Option ℕ =
    λ o. o >>= λ d. if is_none d.words then vector_size ds d xs else word_size ds d xs in
    true≢false (sym (subst (λ o. IsSome (f o)) e h))

pub none_sized : {A : Type 0} (o : Option A) → o ≡ None → IsSome o → ⊥
none_sized o e h = true≢false (sym (subst IsSome e h))

-- ---- the size of a part

some_within : (n m : ℕ) → within n ≡ Some m → m ≡ n
some_within n m h = by (nat_le n 128) h
  where
    by : (t : Bool) → (if t then Some n else None) ≡ Some m → m ≡ n
    by true h = sym (same_Some n m h)
    by false h = absurd (true≢false (ap is_none h))

pub part_span : (d : Decl) (l r : ℤ) (m : ℕ) → part_size d l r ≡ Some m → m ≡ span l r
part_span d l r m h = by (is_bound l && (is_bound r && goes_along d l r)) h
  where
    by : (t : Bool) → only_if t (span l r) ≡ Some m → m ≡ span l r
    by true h = some_within (span l r) m h
    by false h = absurd (true≢false (ap is_none h))
