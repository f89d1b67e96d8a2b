-- What is known of a parameter whose range is known, or isn't.
use Rattle.std.specs.Prelude.{◌≡◌, refl, ℕ, ◌≤◌, List, Bool, true, false, ◌&&◌, nat_le}
use Rattle.std.specs.Prelude.{◌+◌, ◌-◌, ◌^◌, nat_abs, Option, Some, None, if◌then◌else◌}
use Rattle.std.proofs.Common.{ap, sym, ◌∙◌, arith, ℤ, pos, negsuc, ◌-ℤ◌, ◌≤ℤ◌, ◌<ℤ◌}
use Rattle.std.proofs.lemmas.Bool.Decides.{nat_tests}
use Rattle.std.proofs.lemmas.Int.{ints}
use Rattle.std.proofs.lemmas.Option.{same_Some}
use Rattle.vl_tree.specs.declared.declaration.Parameter.{Parameter}
use Rattle.vl_tree.specs.declared.declaration.Range.{Range}
use Rattle.vl_tree.specs.Expr.{Expr}
use Rattle.vl_size.specs.Size.{is_bound}
use Rattle.vl_elab_spec.specs.Meanings.{Names, is_known_value, is_known_range, is_known_shape, declared_width}
use Rattle.vl_elab_spec.specs.Meanings.{may_be_selected}
use Rattle.vl_elab_params.specs.Entered.{selected_if_known}
use Rattle.vl_elab_params.specs.declared.extents.Bounds.{Bounds}
use Rattle.vl_elab_params.specs.declared.extents.Extent.{Extent}
use Rattle.vl_elab_params.specs.Known.{as_extent, bounds_of, few_bits, known_extent, extent_of, left_bound, right_bound}
use Rattle.vl_elab_params.specs.Known.{goes_down_to_0}
use Rattle.vl_elab_const.specs.declared.given.Value.{Value}
use Rattle.vl_elab_const.specs.Given.{known_or}

-- a bound that is there
module _ (i x : ℤ) (o : Option ℤ) (h : o ≡ (if is_bound i then Some i else None)) (k : o ≡ Some x) where
  pub bound_is : x ≡ i
  bound_is = by (is_bound i) h
    where
      by : (b : Bool) → o ≡ (if b then Some i else None) → x ≡ i
      by true h = same_Some x i (sym k ∙ h)
      by false h = cc

  bound_there : is_bound i ≡ true
  bound_there = by (is_bound i) h
    where
      by : (b : Bool) → o ≡ (if b then Some i else None) → b ≡ true
      by true h = refl
      by false h = cc

  pub is_few : is_bound x ≡ true
  is_few = ap is_bound bound_is ∙ bound_there

pub few_down : (i : ℤ) → is_bound i ≡ true → negsuc (2 ^ 31 - 1) ≤ℤ i
few_down i h = grind (arith, ints, h)

pub few_up : (i : ℤ) → is_bound i ≡ true → i <ℤ pos (2 ^ 31)
few_up i h = grind (arith, ints, h)

abbrev pub with_bounds : ℕ → ℤ → ℤ → Bounds
with_bounds n x y = record { bits = n; left = x; right = y }

pub bounds_are : (l r x y : ℤ) (n : ℕ) → x ≡ l → y ≡ r → is_bound x ≡ true → is_bound y ≡ true
    → n ≡ nat_abs (x -ℤ y)
    → Some (with_bounds (n + 1) x y) ≡ (if is_bound l && is_bound r then Some (bounds_of l r) else None)
bounds_are l r x y n hl hr fl fr e =
    ap (λ n. Some (with_bounds (n + 1) x y)) e
    ∙ sym (λ i. if fl i && fr i then Some (bounds_of x y) else None)
    ∙ (λ i. if is_bound (hl i) && is_bound (hr i) then Some (bounds_of (hl i) (hr i)) else None)

pub few_is : (a : Bool) (b : Bounds)
    → few_bits (if a then Some b else None) ≡ (if a && nat_le b.bits 128 then Some (as_extent b) else None)
few_is true b = refl
few_is false b = refl

-- an extent that is there
pub record IsExtent (ns : List Names) (r : Option Range) (e : Extent) : Type 0 where
  pub known : is_known_shape ns r ≡ true
  pub bits : e.bits ≡ declared_width ns r
  pub left : e.left ≡ left_bound ns r
  pub right : e.right ≡ right_bound ns r

pub extent_is : (ns : List Names) (r : Option Range) (e : Extent) → known_extent ns r ≡ Some e → IsExtent ns r e
extent_is ns r e h = by (is_known_shape ns r) refl h
  where
    or : Option Extent → Extent
    or None = e
    or (Some x) = x

    by : (b : Bool) → is_known_shape ns r ≡ b
        → (if b then Some (extent_of ns r) else None) ≡ Some e → IsExtent ns r e
    by true k h = record {
      known = k;
      bits = ap (λ o. (or o).bits) (sym h);
      left = ap (λ o. (or o).left) (sym h);
      right = ap (λ o. (or o).right) (sym h);
    }
    by false k h = cc

few_of : (known few : Bool) → (known && few) ≡ true → few ≡ true
few_of true few h = h
few_of false few h = cc

few_number : (n : ℕ) → nat_le n 128 ≡ true → n ≤ 128
few_number n h = grind (arith, nat_tests)

pub extent_few : (ns : List Names) (r : Option Range) (e : Extent) → known_extent ns r ≡ Some e → e.bits ≤ 128
extent_few ns r e h =
    let x = extent_is ns r e h in
    let bits = x.bits in
    let few = few_number (declared_width ns r) (few_of (is_known_range ns r) (nat_le (declared_width ns r) 128) x.known)
    in grind (arith, bits, few)

pub extent_bits : (ns : List Names) (r : Option Range) (e : Extent) → known_extent ns r ≡ Some e
    → e.bits ≡ declared_width ns r
extent_bits ns r e h = (extent_is ns r e h).bits

extent_selected : (ns : List Names) (r : Option Range) (e : Extent) → known_extent ns r ≡ Some e
    → goes_down_to_0 e.left e.right ≡ may_be_selected ns r
extent_selected ns r e h =
    let x = extent_is ns r e h in (λ i. goes_down_to_0 (x.left i) (x.right i)) ∙ by r
  where
    by : (r : Option Range) → goes_down_to_0 (left_bound ns r) (right_bound ns r) ≡ may_be_selected ns r
    by None = refl
    by (Some r) = refl

-- ---- what comes of it

module _ (given : List ℕ → Option Value) (ns : List Names) (x : Parameter) where
  abbrev is_known : Bool
  is_known = known_or (given x.name) (is_known_value ns x.shape.range x.value)

  module _ (e : Extent) (b : Bool) (h : known_extent ns x.shape.range ≡ Some e)
      (same : b ≡ goes_down_to_0 e.left e.right) where
    is_selected : b ≡ may_be_selected ns x.shape.range
    is_selected = same ∙ extent_selected ns x.shape.range e h

    pub selected_by : (v : Bool) → v ≡ is_known → (if v then Some b else None) ≡ selected_if_known given ns x
    selected_by v w =
        ap (λ k. if k then Some b else None) w
        ∙ by is_known (is_known_shape ns x.shape.range) (may_be_selected ns x.shape.range)
        (extent_is ns x.shape.range e h).known is_selected
      where
        by : (k s a : Bool) → s ≡ true → b ≡ a
            → (if k then Some b else None) ≡ (if k && s then Some a else None)
        by true true a h e = ap Some e
        by false s a h e = refl
        by true false a h e = cc

  -- without a range that is known
  pub none_selected : None ≡ known_extent ns x.shape.range → None ≡ selected_if_known given ns x
  none_selected h =
      by is_known (is_known_shape ns x.shape.range) (may_be_selected ns x.shape.range) (extent_of ns x.shape.range) h
    where
      by : (k s a : Bool) (e : Extent) → None ≡ (if s then Some e else None)
          → None ≡ (if k && s then Some a else None)
      by k true a e h = cc
      by true false a e h = refl
      by false false a e h = refl
