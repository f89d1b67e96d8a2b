-- Masks of what selects take of a vector.
use Rattle.std.specs.Prelude.{◌≡◌, refl, ℕ, ◌<◌, true, ◌&&◌, nat_lt}
use Rattle.std.specs.Prelude.{List, [], ◌∷◌, length, Some, IsSome, ℤ, pos, ◌+ℤ◌, nat_abs}
use Rattle.std.proofs.Common.{ap, sym, ◌∙◌, arith, subst}
use Rattle.std.proofs.lemmas.Int.{ints}
use Rattle.fv_text.specs.declared.pos.Pos.{Pos}
use Rattle.vl_tree.specs.Expr.{Expr, whole, bit, part, indexed}
use Rattle.vl_tree.specs.declared.expr.Select.{Select}
use Rattle.vl_tree.specs.ExprView.{selects}
use Rattle.fv_bit_sets.specs.Cells.{is_set}
use Rattle.fv_bits.specs.Bits.{ones}
use Rattle.vl_size.specs.declared.decl.Decl.{Decl}
use Rattle.vl_size.specs.Size.{index_of, is_constant, no_names, operand_of, offset_of, start_of, part_size, times}
use Rattle.vl_size.specs.Size.{vector_size}
use Rattle.vl_size.specs.Table.{span}
use Rattle.vl_mean.specs.FlatLaw.{flat_scopes}
use Rattle.vl_mean.specs.Scopes.{no_values, operand_in}
use Rattle.vl_mean.specs.Targets.{are_fixed, has_spot, spots_from}
use Rattle.vl_mean_flat.proofs.SameTarget.{flat_operand}
use Rattle.vl_flow_cells.specs.Places.{IsMaskOf}
use Rattle.vl_flow_cells.proofs.FixedSelects.{bit_fixed, indexed_fixed}
use Rattle.vl_flow_cells.proofs.Ranges.{all_below, between_is_spot, bits_of_mask, none_under}
use Rattle.vl_flow_cells.proofs.Sizes.{part_sized, indexed_sized}

-- all bits of w
pub all_set : (w k : ℕ) → is_set (ones w) k ≡ nat_lt k w
all_set w k = bits_of_mask 0 w k (omega arith) ∙ ap (λ b. b && nat_lt k w) (none_under k)

pub mask_of_all : (ds : List Decl) (d : Decl) → IsMaskOf ds d whole (ones d.width)
mask_of_all ds d n k =
    bits_of_mask 0 d.width k (omega arith)
    ∙ between_is_spot d.width d.width (pos 0) 0 d.width n k
    (record { within = omega arith; below = λ j less. refl })
    (all_below d.width (pos 0 +ℤ pos d.width) (grind (arith, ints)))

module _ (ds : List Decl) (d : Decl) where
  -- the number of a constant index
  pub index_is : (e : Expr) (x : ℤ) → x ≡ index_of (operand_of ds no_names e)
      → x ≡ index_of (operand_in (flat_scopes ds) no_values e)
  index_is e x h = h ∙ ap index_of (sym (flat_operand ds no_values e))

  pub mask_of_bit : (p : Pos) (i : Expr) (mask : ℕ) (x : ℤ)
      → (is_constant i ≡ true → (es : List Decl) → x ≡ index_of (operand_of es no_names i))
      → ((n : List ℕ) (k : ℕ) → is_set mask k ≡ has_spot n k (spots_from 1 d.width (Some n) (offset_of d x)))
      → are_fixed (flat_scopes ds) (bit p i whole) ≡ true → IsMaskOf ds d (bit p i whole) mask
  mask_of_bit p i mask x index h fix n k =
      let fixed = bit_fixed ds p i whole fix in
      let same = index_is i x (index fixed.0 ds) in
      h n k ∙ (λ j. has_spot n k (spots_from 1 d.width (Some n) (offset_of d (same j))))

  pub mask_of_part : (p : Pos) (l r : Expr) (mask : ℕ) (x y : ℤ)
      → (is_constant l ≡ true → (es : List Decl) → x ≡ index_of (operand_of es no_names l))
      → (is_constant r ≡ true → (es : List Decl) → y ≡ index_of (operand_of es no_names r))
      → (IsSome (part_size d x y) → (n : List ℕ) (k : ℕ)
      → is_set mask k ≡ has_spot n k (spots_from (span x y) d.width (Some n) (offset_of d y)))
      → IsSome (vector_size ds d (part p l r whole)) → IsMaskOf ds d (part p l r whole) mask
  mask_of_part p l r mask x y left right h sized n k =
      let is = part_sized ds d p l r sized in
      let at_l = left is.0 ds in
      let at_r = right is.1 ds in
      let size : IsSome (part_size d x y) = subst IsSome (λ j. part_size d (sym at_l j) (sym at_r j)) is.2 in
      let low = index_is l x at_l in
      let high = index_is r y at_r in
      h size n k ∙ (λ j. has_spot n k (spots_from (span (low j) (high j)) d.width (Some n) (offset_of d (high j))))

  pub mask_of_indexed : (p : Pos) (s m : Expr) (mask : ℕ) (x y : ℤ)
      → (is_constant s ≡ true → (es : List Decl) → x ≡ index_of (operand_of es no_names s))
      → (is_constant m ≡ true → (es : List Decl) → y ≡ index_of (operand_of es no_names m))
      → (IsSome (times y 1) → (n : List ℕ) (k : ℕ)
      → is_set mask k ≡ has_spot n k (spots_from (nat_abs y) d.width (Some n) (start_of d x (nat_abs y))))
      → IsSome (vector_size ds d (indexed p s m whole))
      → are_fixed (flat_scopes ds) (indexed p s m whole) ≡ true → IsMaskOf ds d (indexed p s m whole) mask
  mask_of_indexed p s m mask x y start count h sized fix n k =
      let is = indexed_sized ds d p s m sized in
      let at_s = start (indexed_fixed ds p s m whole fix) ds in
      let at_m = count is.0 ds in
      let size : IsSome (times y 1) = subst (λ i. IsSome (times i 1)) (sym at_m) is.1 in
      let low = index_is s x at_s in
      let many = index_is m y at_m in
      h size n k
      ∙ (λ j. has_spot n k (spots_from (nat_abs (many j)) d.width (Some n) (start_of d (low j) (nat_abs (many j)))))

pub no_selects : (all : List Select) → length all < 1 → selects all ≡ whole
no_selects [] less = refl
no_selects (s ∷ all) less = absurd (omega (arith, less))
