-- In the one scope of a design without hierarchy, selects and targets are read over its declarations alone.
use Rattle.std.specs.Prelude.{◌≡◌, refl, ℕ, Bool, true, ◌&&◌, nat_lt, is_none, if◌then◌else◌, List, []}
use Rattle.std.specs.Prelude.{Option, Some, ℤ, pos, nat_abs}
use Rattle.std.proofs.Common.{ap, ◌∙◌}
use Rattle.vl_tree.specs.Expr.{Expr, Selects, whole, bit, part, indexed}
use Rattle.vl_size.specs.declared.decl.Decl.{Decl}
use Rattle.vl_size.specs.Size.{Values, cells_in, operand_of, index_of, is_constant, offset_of, start_of}
use Rattle.vl_size.specs.Table.{span, declared_as}
use Rattle.vl_mean.specs.Cells.{is_cell}
use Rattle.vl_mean.specs.Constants.{settled}
use Rattle.vl_mean.specs.FlatLaw.{flat_scopes}
use Rattle.vl_mean.specs.Scopes.{constant_in, no_values, operand_in}
use Rattle.vl_mean.specs.Targets.{Spot, spots_from, word_index, full_word, spots_of, is_decl, has_spot, vector_spots}
use Rattle.vl_mean.specs.Targets.{word_spots, name_spots, are_fixed, name_may_change}
use Rattle.vl_mean_flat.proofs.SameTarget.{flat_constant, flat_full, flat_declared, flat_operand, settled-none}

module _ (ds : List Decl) where
  abbrev pub index_in : Values → Expr → ℤ
  index_in v e = index_of (operand_of ds (cells_in v) e)

  -- no select has a varying index
  abbrev pub fixed : Selects → Bool
  fixed whole = true
  fixed (bit p i xs) = is_constant i && fixed xs
  fixed (part p l r xs) = fixed xs
  fixed (indexed p s n xs) = is_constant s && fixed xs

  abbrev pub vector_bits : Values → Decl → Option (List ℕ) → Selects → List (Option Spot)
  vector_bits v d text whole = spots_from d.width d.width text (pos 0)
  vector_bits v d text (bit p i whole) = spots_from 1 d.width text (offset_of d (index_in v i))
  vector_bits v d text (part p l r whole) =
      let low_end = index_in v r in spots_from (span (index_in v l) low_end) d.width text (offset_of d low_end)
  vector_bits v d text (indexed p s n whole) =
      let k = nat_abs (index_in v n) in spots_from k d.width text (start_of d (index_in v s) k)
  vector_bits v d text xs = []

  abbrev pub word_bits : Values → Decl → Selects → List (Option Spot)
  word_bits v d (bit p i xs) = vector_bits v d (full_word d.name (word_index d.words (index_in v i))) xs
  word_bits v d xs = []

  abbrev pub name_bits : Values → List ℕ → Selects → List (Option Spot)
  name_bits v text xs =
      spots_of (declared_as ds text) (λ d.
      if is_none d.words then vector_bits v d (Some text) xs else word_bits v d xs)

  -- of a name that is declared
  abbrev pub decl_selected : Decl → List ℕ → Selects → List ℕ → ℕ → Bool
  decl_selected d text xs n k =
      if fixed xs then has_spot n k (name_bits no_values text xs) else is_cell text d.words n && nat_lt k d.width

  flat_index : (v : Values) (e : Expr) → index_of (operand_in (flat_scopes ds) v e) ≡ index_in v e
  flat_index v e = λ i. index_of (flat_operand ds v e i)

  flat_constant_index : (e : Expr) → is_constant (settled (constant_in (flat_scopes ds)) e) ≡ is_constant e
  flat_constant_index e = ap is_constant (settled-none (constant_in (flat_scopes ds)) (flat_constant ds) e)

  pub flat_fixed : (xs : Selects) → are_fixed (flat_scopes ds) xs ≡ fixed xs
  flat_fixed whole = refl
  flat_fixed (bit p i xs) = λ j. flat_constant_index i j && flat_fixed xs j
  flat_fixed (part p l r xs) = flat_fixed xs
  flat_fixed (indexed p s n xs) = λ j. flat_constant_index s j && flat_fixed xs j

  flat_vector : (v : Values) (d : Decl) (text : Option (List ℕ)) (xs : Selects)
      → vector_spots (flat_scopes ds) v d text xs ≡ vector_bits v d text xs
  flat_vector v d text whole = refl
  flat_vector v d text (bit p i whole) = λ j. spots_from 1 d.width text (offset_of d (flat_index v i j))
  flat_vector v d text (part p l r whole) =
      λ j. let low_end = flat_index v r j in
      spots_from (span (flat_index v l j) low_end) d.width text (offset_of d low_end)
  flat_vector v d text (indexed p s n whole) =
      λ j. let k = nat_abs (flat_index v n j) in spots_from k d.width text (start_of d (flat_index v s j) k)
  flat_vector v d text (bit p y (bit q z ys)) = refl
  flat_vector v d text (bit p y (part q l r ys)) = refl
  flat_vector v d text (bit p y (indexed q z k ys)) = refl
  flat_vector v d text (part p a b (bit q z ys)) = refl
  flat_vector v d text (part p a b (part q l r ys)) = refl
  flat_vector v d text (part p a b (indexed q z k ys)) = refl
  flat_vector v d text (indexed p a b (bit q z ys)) = refl
  flat_vector v d text (indexed p a b (part q l r ys)) = refl
  flat_vector v d text (indexed p a b (indexed q z k ys)) = refl

  flat_word : (v : Values) (d : Decl) (xs : Selects) → word_spots (flat_scopes ds) v d xs ≡ word_bits v d xs
  flat_word v d whole = refl
  flat_word v d (bit p i xs) =
      (λ j. vector_spots (flat_scopes ds) v d (full_word (flat_full ds d.name j) (word_index d.words (flat_index v i j)))
      xs) ∙ flat_vector v d (full_word d.name (word_index d.words (index_in v i))) xs
  flat_word v d (part p l r xs) = refl
  flat_word v d (indexed p s n xs) = refl

  pub flat_name : (v : Values) (text : List ℕ) (xs : Selects) → name_spots (flat_scopes ds) v text xs ≡ name_bits v text xs
  flat_name v text xs =
      λ j. spots_of (flat_declared ds text j) (λ d.
      if is_none d.words then flat_vector v d (Some (flat_full ds text j)) xs j else flat_word v d xs j)

  pub flat_selected : (text : List ℕ) (xs : Selects) (n : List ℕ) (k : ℕ)
      → name_may_change (flat_scopes ds) text xs n k ≡ is_decl (declared_as ds text) (λ d. decl_selected d text xs n k)
  flat_selected text xs n k =
      λ j. is_decl (flat_declared ds text j) (λ d. if flat_fixed xs j then has_spot n k (flat_name no_values text xs j)
      else is_cell (flat_full ds text j) d.words n && nat_lt k d.width)
