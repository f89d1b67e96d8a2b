-- A name in a target has each bit at most once, so that a target has a bit as often as names in it have it.
use Rattle.std.specs.Prelude.{◌≡◌, refl, ℕ, zero, suc, ◌+◌, ◌<◌, ◌==◌, List, [], ◌∷◌, ◌++◌, Bool, true, false}
use Rattle.std.specs.Prelude.{◌&&◌, ◌||◌, is_none, bytes_eq, nat_abs, nat_lt, Option, Some, None, ℤ, pos, negsuc, ◌+ℤ◌}
use Rattle.std.specs.Prelude.{if◌then◌else◌}
use Rattle.std.proofs.Common.{ap, sym, ◌∙◌, arith, true≢false}
use Rattle.std.proofs.lemmas.Bool.Decides.{nat_tests}
use Rattle.std.proofs.lemmas.Int.{ints}
use Rattle.std.proofs.lemmas.Option.{same_Some}
use Rattle.fv_text.specs.declared.pos.Pos.{Pos}
use Rattle.vl_tree.specs.Expr.{Selects, whole, bit, part, indexed}
use Rattle.vl_tree.specs.Lval.{named}
use Rattle.vl_size.specs.declared.decl.Decl.{Decl}
use Rattle.vl_size.specs.Size.{index_of, offset_of, start_of, Values}
use Rattle.vl_size.specs.Table.{span}
use Rattle.vl_mean.specs.FlatLaw.{flat_scopes}
use Rattle.vl_mean.specs.Scopes.{Scope, declared_in, full, no_values, operand_in}
use Rattle.vl_mean.specs.Targets.{Spot, are_fixed, has_spot, is_decl, may_change, name_spots, spot_at, spots}
use Rattle.vl_mean.specs.Targets.{spots_from, full_word, spots_of, vector_spots, word_index, word_spots}
use Rattle.vl_mean.specs.Cells.{is_cell}
use Rattle.vl_flow_spec.proofs.Bools.{and_right}
use Rattle.vl_flow_spec.specs.Refusals.{count_spot}
use Rattle.vl_flow_cells.proofs.Ranges.{spot_place}

abbrev pub one_if : Bool → ℕ
one_if b = if b then 1 else 0

one_more : (b h : Bool) (c : ℕ) → (b ≡ true → h ≡ false) → c ≡ one_if h → (if b then 1 else 0) + c ≡ one_if (b || h)
one_more true h c f e = let none : one_if h ≡ 0 = ap one_if (f refl) in omega (arith, e, none)
one_more false h c f e = omega (arith, e)

offset_at : (w : ℕ) (o : Option (List ℕ)) (q : ℤ) (s : Spot) → spot_at w o q ≡ Some s → q ≡ pos s.offset
offset_at w None q s e = absurd (true≢false (ap is_none e))
offset_at w (Some text) (negsuc k) s e = absurd (true≢false (ap is_none e))
offset_at w (Some text) (pos k) s e = by (nat_lt k w) e
  where
    by : (b : Bool) → (if b then Some (record { name = text; offset = k }) else None) ≡ Some s → pos k ≡ pos s.offset
    by true h = ap (λ t. pos t.offset) (same_Some (record { name = text; offset = k }) s h)
    by false h = absurd (true≢false (ap is_none h))

other_place : (m j k o : ℕ) (p : ℤ) → j < m → p +ℤ pos j ≡ pos k → p +ℤ pos m ≡ pos o → k ≡ o → ⊥
other_place m j k o p less there here same = grind (arith, ints, less, there, here, same)

once_from : (m w : ℕ) (o : Option (List ℕ)) (p : ℤ) (n : List ℕ) (k : ℕ)
    → count_spot n k (spots_from m w o p) ≡ one_if (has_spot n k (spots_from m w o p))
once_from zero w o p n k = refl
once_from (suc m) w o p n k = by (spot_at w o (p +ℤ pos m)) refl (once_from m w o p n k)
  where
    -- the other spots stand below this one
    below : (s : Spot) → spot_at w o (p +ℤ pos m) ≡ Some s → (bytes_eq n s.name && (k == s.offset)) ≡ true
        → has_spot n k (spots_from m w o p) ≡ false
    below s e t = none (has_spot n k (spots_from m w o p)) refl
      where
        none : (b : Bool) → has_spot n k (spots_from m w o p) ≡ b → b ≡ false
        none false f = refl
        none true f =
            let r = spot_place m w o p n k f in
            let test : (k == s.offset) ≡ true = and_right (bytes_eq n s.name) (k == s.offset) t in
            let same : k ≡ s.offset = grind (arith, nat_tests, test) in
            absurd (other_place m r.0 k s.offset p r.1 r.2 (offset_at w o (p +ℤ pos m) s e) same)

    by : (q : Option Spot) → spot_at w o (p +ℤ pos m) ≡ q
        → count_spot n k (spots_from m w o p) ≡ one_if (has_spot n k (spots_from m w o p))
        → count_spot n k (q ∷ spots_from m w o p) ≡ one_if (has_spot n k (q ∷ spots_from m w o p))
    by None e h = h
    by (Some s) e h =
        one_more (bytes_eq n s.name && (k == s.offset)) (has_spot n k (spots_from m w o p))
        (count_spot n k (spots_from m w o p)) (below s e) h

module _ (ss : List Scope) (v : Values) (n : List ℕ) (k : ℕ) where
  once_vector : (d : Decl) (text : Option (List ℕ)) (xs : Selects)
      → count_spot n k (vector_spots ss v d text xs) ≡ one_if (has_spot n k (vector_spots ss v d text xs))
  once_vector d text whole = once_from d.width d.width text (pos 0) n k
  once_vector d text (bit p i whole) = once_from 1 d.width text (offset_of d (index_of (operand_in ss v i))) n k
  once_vector d text (part p l r whole) =
      let low_end = index_of (operand_in ss v r) in
      once_from (span (index_of (operand_in ss v l)) low_end) d.width text (offset_of d low_end) n k
  once_vector d text (indexed p s m whole) =
      let count = nat_abs (index_of (operand_in ss v m)) in
      once_from count d.width text (start_of d (index_of (operand_in ss v s)) count) n k
  once_vector d text (bit p i (bit q j xs)) = refl
  once_vector d text (bit p i (part q l r xs)) = refl
  once_vector d text (bit p i (indexed q s m xs)) = refl
  once_vector d text (part p l r (bit q j xs)) = refl
  once_vector d text (part p l r (part q a b xs)) = refl
  once_vector d text (part p l r (indexed q s m xs)) = refl
  once_vector d text (indexed p s m (bit q j xs)) = refl
  once_vector d text (indexed p s m (part q a b xs)) = refl
  once_vector d text (indexed p s m (indexed q t c xs)) = refl

  once_word : (d : Decl) (xs : Selects)
      → count_spot n k (word_spots ss v d xs) ≡ one_if (has_spot n k (word_spots ss v d xs))
  once_word d whole = refl
  once_word d (bit p i xs) =
      once_vector d (full_word (full ss d.name) (word_index d.words (index_of (operand_in ss v i)))) xs
  once_word d (part p l r xs) = refl
  once_word d (indexed p s m xs) = refl

  once_name : (text : List ℕ) (xs : Selects)
      → count_spot n k (name_spots ss v text xs) ≡ one_if (has_spot n k (name_spots ss v text xs))
  once_name text xs = by (declared_in ss text)
    where
      at : (d : Decl) (b : Bool)
          → count_spot n k (if b then vector_spots ss v d (Some (full ss text)) xs else word_spots ss v d xs)
          ≡ one_if (has_spot n k (if b then vector_spots ss v d (Some (full ss text)) xs else word_spots ss v d xs))
      at d true = once_vector d (Some (full ss text)) xs
      at d false = once_word d xs

      by : (o : Option Decl)
          → count_spot n k (spots_of o (λ d.
          if is_none d.words then vector_spots ss v d (Some (full ss text)) xs else word_spots ss v d xs))
          ≡ one_if (has_spot n k (spots_of o (λ d.
          if is_none d.words then vector_spots ss v d (Some (full ss text)) xs else word_spots ss v d xs)))
      by None = refl
      by (Some d) = at d (is_none d.words)

-- a name with constant selects has the bits that an assignment to it may change, each once
pub name_once : (ds : List Decl) (p : Pos) (text : List ℕ) (xs : Selects) → are_fixed (flat_scopes ds) xs ≡ true
    → (n : List ℕ) (k : ℕ)
    → count_spot n k (spots (flat_scopes ds) no_values (named p text xs))
    ≡ one_if (may_change (flat_scopes ds) (named p text xs) n k)
name_once ds p text xs fix n k =
    once_name ss no_values n k text xs ∙ ap one_if (sym (changed (declared_in ss text) refl))
  where
    ss : List Scope
    ss = flat_scopes ds

    changed : (o : Option Decl) → declared_in ss text ≡ o
        → is_decl (declared_in ss text) (λ d. if are_fixed ss xs then has_spot n k (name_spots ss no_values text xs)
        else is_cell (full ss text) d.words n && nat_lt k d.width)
        ≡ has_spot n k (name_spots ss no_values text xs)
    changed None e =
        ap (λ o. is_decl o (λ d. if are_fixed ss xs then has_spot n k (name_spots ss no_values text xs)
        else is_cell (full ss text) d.words n && nat_lt k d.width)) e
        ∙ ap (λ o. has_spot n k (spots_of o (λ d.
        if is_none d.words then vector_spots ss no_values d (Some (full ss text)) xs
        else word_spots ss no_values d xs))) (sym e)
    changed (Some d) e =
        ap (λ o. is_decl o (λ d. if are_fixed ss xs then has_spot n k (name_spots ss no_values text xs)
        else is_cell (full ss text) d.words n && nat_lt k d.width)) e
        ∙ ap (λ b. if b then has_spot n k (name_spots ss no_values text xs)
        else is_cell (full ss text) d.words n && nat_lt k d.width) fix

pub count_append : (n : List ℕ) (k : ℕ) (xs ys : List (Option Spot))
    → count_spot n k (xs ++ ys) ≡ count_spot n k xs + count_spot n k ys
count_append n k [] ys = omega arith
count_append n k (None ∷ xs) ys = count_append n k xs ys
count_append n k (Some s ∷ xs) ys = let more = count_append n k xs ys in omega (arith, more)
