-- The words of a memory by their places, and that no two have one name.
use Rattle.std.specs.Prelude.{◌≡◌, refl, ℕ, zero, suc, ◌<◌, ◌^◌, List, [], ◌∷◌, ◌++◌, length, Bool, true, false}
use Rattle.std.specs.Prelude.{Option, Some, None, is_none, ℤ, pos, negsuc, int_le, slice_get, codes}
use Rattle.std.specs.Fmt.{signed_decimal}
use Rattle.std.proofs.Common.{ap, sym, ◌∙◌, arith, true≢false}
use Rattle.std.proofs.lemmas.Fmt.{signed_decimal_injective}
use Rattle.std.proofs.lemmas.Int.{ints}
use Rattle.std.proofs.lemmas.List.{append_cancel_left, append_cancel_right}
use Rattle.std.proofs.lemmas.Option.{same_Some}
use lib.Signed.{mag}
use Rattle.vl_size.specs.declared.decl.Decl.{Decl}
use Rattle.vl_size.specs.Size.{is_bound}
use Rattle.vl_size.specs.Table.{span, word_name}
use Rattle.vl_mean.specs.Cells.{words_from, cells_of, cells}
use Rattle.vl_mean.specs.FlatLaw.{IsKept, IsMemory}
use Rattle.vl_flow_cells.specs.Places.{index_at}

first_index : (up : Bool) (i : ℤ) → i ≡ index_at up i 0
first_index true i = omega (arith, ints)
first_index false i = omega (arith, ints)

next_index : (up : Bool) (i : ℤ) (k : ℕ) → index_at up (index_at up i 1) k ≡ index_at up i (suc k)
next_index true i k = omega (arith, ints)
next_index false i k = omega (arith, ints)

pub word_of_place : (memory : List ℕ) (m : ℕ) (up : Bool) (i : ℤ) (k : ℕ) (n : List ℕ)
    → slice_get (words_from memory m up i) k ≡ Some n → (k < m) × (n ≡ word_name memory (index_at up i k))
word_of_place memory zero up i k n e = absurd (true≢false (ap is_none e))
word_of_place memory (suc m) up i zero n e =
    (omega arith, sym (same_Some (word_name memory i) n e) ∙ ap (word_name memory) (first_index up i))
word_of_place memory (suc m) up i (suc k) n e =
    let r = word_of_place memory m up (index_at up i 1) k n e in
    (omega (arith, r.0), r.1 ∙ ap (word_name memory) (next_index up i k))

pub place_of_word : (memory : List ℕ) (m : ℕ) (up : Bool) (i : ℤ) (k : ℕ) → k < m
    → slice_get (words_from memory m up i) k ≡ Some (word_name memory (index_at up i k))
place_of_word memory zero up i k less = absurd (omega (arith, less))
place_of_word memory (suc m) up i zero less = ap (λ j. Some (word_name memory j)) (first_index up i)
place_of_word memory (suc m) up i (suc k) less =
    let before : k < m = omega (arith, less) in
    place_of_word memory m up (index_at up i 1) k before
    ∙ ap (λ j. Some (word_name memory j)) (next_index up i k)

pub words_length : (memory : List ℕ) (m : ℕ) (up : Bool) (i : ℤ) → length (words_from memory m up i) ≡ m
words_length memory zero up i = refl
words_length memory (suc m) up i = ap suc (words_length memory m up (index_at up i 1))

-- ---- names of words

same_word : (memory : List ℕ) (i j : ℤ) → mag i < 2 ^ 63 → mag j < 2 ^ 63 → word_name memory i ≡ word_name memory j
    → i ≡ j
same_word memory i j h k e =
    signed_decimal_injective i j h k
    (append_cancel_left (memory ++ codes "[") (signed_decimal i) (signed_decimal j)
    (append_cancel_right ((memory ++ codes "[") ++ signed_decimal i) ((memory ++ codes "[") ++ signed_decimal j)
    (codes "]") e))

small : (i : ℤ) → int_le (negsuc (2 ^ 33)) i ≡ true → int_le i (pos (2 ^ 33)) ≡ true → mag i < 2 ^ 63
small (pos n) h k = let few : n < 2 ^ 34 = grind (arith, ints, h, k) in omega (arith, few)
small (negsuc n) h k = let few : n < 2 ^ 34 = grind (arith, ints, h, k) in omega (arith, few)

index_low : (up : Bool) (l r : ℤ) (k : ℕ) → is_bound l ≡ true → is_bound r ≡ true → k < span l r
    → int_le (negsuc (2 ^ 33)) (index_at up l k) ≡ true
index_low true l r k h j less = grind (arith, ints, h, j, less)
index_low false l r k h j less = grind (arith, ints, h, j, less)

index_high : (up : Bool) (l r : ℤ) (k : ℕ) → is_bound l ≡ true → is_bound r ≡ true → k < span l r
    → int_le (index_at up l k) (pos (2 ^ 33)) ≡ true
index_high true l r k h j less = grind (arith, ints, h, j, less)
index_high false l r k h j less = grind (arith, ints, h, j, less)

same_place : (up : Bool) (i : ℤ) (k l : ℕ) → index_at up i k ≡ index_at up i l → k ≡ l
same_place true i k l e = omega (arith, ints, e)
same_place false i k l e = omega (arith, ints, e)

single : (text n : List ℕ) (k : ℕ) → slice_get (text ∷ []) k ≡ Some n → k ≡ 0
single text n zero e = refl
single text n (suc k) e = absurd (true≢false (ap is_none e))

-- a cell stands at one place of its declaration
pub own_place : (d : Decl) → IsKept d → (k l : ℕ) (n : List ℕ) → slice_get (cells d) k ≡ Some n
    → slice_get (cells d) l ≡ Some n → k ≡ l
own_place d kept k l n e f = by d.words kept.memory e f
  where
    by : (w : Option (ℤ × ℤ)) → IsMemory w d → slice_get (cells_of d.name w) k ≡ Some n
        → slice_get (cells_of d.name w) l ≡ Some n → k ≡ l
    by None h e f = single d.name n k e ∙ sym (single d.name n l f)
    by (Some b) h e f =
        let up = int_le b.0 b.1 in
        let x = word_of_place d.name (span b.0 b.1) up b.0 k n e in
        let y = word_of_place d.name (span b.0 b.1) up b.0 l n f in
        let few : (j : ℕ) → j < span b.0 b.1 → mag (index_at up b.0 j) < 2 ^ 63 =
        λ j less. small (index_at up b.0 j) (index_low up b.0 b.1 j h.0 h.1 less)
        (index_high up b.0 b.1 j h.0 h.1 less) in
        same_place up b.0 k l
        (same_word d.name (index_at up b.0 k) (index_at up b.0 l) (few k x.0) (few l y.0) (sym x.1 ∙ y.1))
