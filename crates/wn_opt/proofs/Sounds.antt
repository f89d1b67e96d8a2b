-- What a call for a node comes to stands for the node.
use Rattle.std.specs.Prelude.{◌≡◌, refl, ℕ, ◌+◌, ◌-◌, ◌*◌, ◌%◌, ◌^◌, ◌<◌, ◌==◌, Bool, true, false}
use Rattle.std.specs.Prelude.{length, slice_index, bit_and, bit_or, bit_xor, nat_lt, if◌then◌else◌, ℤ, pos, negsuc, int_lt}
use Rattle.std.proofs.Common.{ap, sym, ◌∙◌, arith, subst, true≢false, lit<, lit≤}
use Rattle.std.proofs.lemmas.Bool.Decides.{nat_tests}
use Rattle.std.proofs.lemmas.Nat.{pow_pos, and_comm, or_comm, xor_comm}
use Rattle.std.proofs.Math.Nat.{mod_self}
use lib.Bits.{and_self, or_self, xor_self}
use Rattle.fv_bits.specs.Bits.{low, bit, sum, product, difference, is_less_signed, to_int}
use Rattle.wn_net.specs.declared.node.Node.{Node}
use Rattle.wn_net.specs.declared.node.Node.TheVariants as n
use Rattle.wn_net.specs.Width.{IsFitting, AreAlike}
use Rattle.wn_net.specs.Value.{Given}
use Rattle.wn_net.specs.Given.{IsGiven}
use Rattle.wn_net.specs.Net.{Netlist, IsNet, shape_of, widths_of, values_of, width_at, value_at}
use Rattle.wn_net.specs.Changes.{width_in, value_in}
use Rattle.wn_net.proofs.Kept.{is_small, widths_of_small}
use Rattle.wn_net.proofs.Moved.{value_below}
use Rattle.wn_net.proofs.Small.{value_fits, width_small, has_widths}
use Rattle.wn_opt.specs.declared.fold.Folded.{Folded}
use Rattle.wn_opt.specs.declared.fold.Folded.TheVariants as f
use Rattle.wn_opt.specs.Folding.{folded, simpler, reads_constants, unless_equal, chosen, lower, higher, nothing}
use Rattle.wn_opt.specs.Folding.{is_known, known_at}
use Rattle.wn_opt.specs.Sound.{IsSame, IsConstant, IsLike, IsSound}
use Rattle.wn_opt.specs.Table.{IsOperator}
use Rattle.wn_opt.proofs.Building.{there}
use Rattle.wn_opt.proofs.Folds.{folds_same, known_same}
use Rattle.wn_opt.proofs.Zeros.{zeros_of, zeros_given}

-- ---- numbers

equal_is : (a b : ℕ) → (a == b) ≡ true → a ≡ b
equal_is a b e = grind (arith, nat_tests, e)

equal_comm : (a b : ℕ) → (a == b) ≡ (b == a)
equal_comm a b = by (a == b) (b == a) refl refl
  where
    by : (c d : Bool) → (a == b) ≡ c → (b == a) ≡ d → c ≡ d
    by true true p q = refl
    by false false p q = refl
    by true false p q =
        let is : a ≡ b = equal_is a b p in
        let other : (b == a) ≡ true = grind (arith, nat_tests, is) in
        absurd (true≢false (sym other ∙ q))
    by false true p q =
        let is : b ≡ a = equal_is b a q in
        let other : (a == b) ≡ true = grind (arith, nat_tests, is) in
        absurd (true≢false (sym other ∙ p))

self_equal : (v : ℕ) → bit (v == v) ≡ 1
self_equal v = let e : (v == v) ≡ true = grind (arith, nat_tests) in ap bit e

not_below_self : (v : ℕ) → bit (nat_lt v v) ≡ 0
not_below_self v = let e : nat_lt v v ≡ false = grind (arith, nat_tests) in ap bit e

int_below_self : (z : ℤ) → int_lt z z ≡ false
int_below_self (pos v) = grind (arith, nat_tests)
int_below_self (negsuc v) = grind (arith, nat_tests)

not_less_self : (w v : ℕ) → bit (is_less_signed w v v) ≡ 0
not_less_self w v = ap bit (int_below_self (to_int w v))

difference_self : (w v : ℕ) → v < 2 ^ w → difference w v v ≡ 0
difference_self w v h =
    let e : v + (2 ^ w - v) ≡ 2 ^ w = omega (arith, h) in
    ap (λ k. k % 2 ^ w) e ∙ mod_self (2 ^ w)

sum_comm : (w a b : ℕ) → sum w a b ≡ sum w b a
sum_comm w a b = let e : a + b ≡ b + a = omega arith in ap (low w) e

product_comm : (w a b : ℕ) → product w a b ≡ product w b a
product_comm w a b = let e : a * b ≡ b * a = omega arith in ap (low w) e

-- ---- an operator of constants

constants_sound : (net : Netlist) (x : Node) → IsNet net → IsFitting (shape_of net) (widths_of net) x
    → reads_constants net x ≡ true → IsConstant net x (width_in net x) (value_in net nothing x)
unfolding value_at width_at
constants_sound net x whole fits e = record {
  width_is = refl;
  is_width = width_small (shape_of net) (widths_of net) x (is_small net whole) (widths_of_small net whole) fits;
  below =
      let given = zeros_given net in
      let P : ℕ → Type 0 = λ v. v < 2 ^ width_in net x in
      subst P (folds_same net (zeros_of net) nothing whole x e)
      (value_fits (shape_of net) (zeros_of net) (widths_of net) (values_of net (zeros_of net)) x
      (has_widths net (zeros_of net) given) (value_below net (zeros_of net) whole given) fits);
  value = λ g given. folds_same net nothing g whole x e;
}

-- ---- others

like_self : (net : Netlist) (x : Node) → IsOperator x → IsFitting (shape_of net) (widths_of net) x → IsLike net x x
like_self net x op fits = record { operator = op; fits = fits; width = refl; value = λ g given. refl }

module _ (net : Netlist) (whole : IsNet net) where
  abbrev W : ℕ → ℕ
  W a = slice_index (widths_of net) a

  abbrev V : Given → ℕ → ℕ
  V g a = slice_index (values_of net g) a

  turned : (a b : ℕ) → AreAlike (widths_of net) a b → AreAlike (widths_of net) b a
  turned a b h = (h.1, h.0, sym h.2)

  in_order : (P : ℕ → ℕ → Type 0) (a b : ℕ) → P a b → P b a → P (lower a b) (higher a b)
  in_order P a b p q = by (nat_lt b a)
    where
      by : (c : Bool) → P (if c then b else a) (if c then a else b)
      by true = q
      by false = p

  unless : (x : Node) (a b : ℕ) (equal : Folded) (y : Node) → (a ≡ b → IsSound net x equal) → IsLike net x y
      → IsSound net x (unless_equal a b equal y)
  unless x a b equal y same other = by (a == b) refl
    where
      by : (c : Bool) → (a == b) ≡ c → IsSound net x (if c then equal else f.Kept y)
      by true e = same (equal_is a b e)
      by false e = other

  -- a node of the width, which has the value
  same_node : (x : Node) (a : ℕ) → a < length (widths_of net) → W a ≡ width_in net x
      → ((g : Given) → IsGiven net g → V g a ≡ value_in net g x) → IsSame net x a
  unfolding value_at width_at
  same_node x a h w v = record { node = (there net a h, w); value = v }

  zero_of : (x : Node) (a : ℕ) → a < length (widths_of net) → W a ≡ width_in net x
      → ((g : Given) → IsGiven net g → 0 ≡ value_in net g x) → IsConstant net x (width_at net a) 0
  unfolding value_at width_at
  zero_of x a h w v = record {
    width_is = w;
    is_width = widths_of_small net whole a h;
    below = pow_pos (W a);
    value = v;
  }

  one_bit : (x : Node) (k : ℕ) → k < 2 → width_in net x ≡ 1
      → ((g : Given) → IsGiven net g → k ≡ value_in net g x) → IsConstant net x 1 k
  one_bit x k h w v = record {
    width_is = sym w;
    is_width = (lit≤ tt, lit≤ tt);
    below = omega (arith, h);
    value = v;
  }

  below : (g : Given) → IsGiven net g → (a : ℕ) → V g a < 2 ^ W a
  unfolding value_at width_at
  below g given a = value_below net g whole given a

  abbrev Fits : Node → Type 0
  Fits x = IsFitting (shape_of net) (widths_of net) x

  simpler_sound : (x : Node) → IsOperator x → Fits x → IsSound net x (simpler net x)
  unfolding value_at
  simpler_sound (n.Konst w) op fits = like_self net (n.Konst w) op fits
  simpler_sound (n.Input i) op fits = absurd (true≢false op)
  simpler_sound (n.Reg i) op fits = absurd (true≢false op)
  simpler_sound (n.Read m a) op fits = like_self net (n.Read m a) op fits
  simpler_sound (n.Not a) op fits = like_self net (n.Not a) op fits
  simpler_sound (n.And a b) op fits =
      unless (n.And a b) a b (f.Same a) (n.And (lower a b) (higher a b))
      (λ e. same_node (n.And a b) a fits.0 refl
      (λ g given. sym (ap (λ k. bit_and (V g a) (V g k)) (sym e) ∙ and_self (V g a))))
      (in_order (λ p q. IsLike net (n.And a b) (n.And p q)) a b (like_self net (n.And a b) op fits) (record {
        operator = refl;
        fits = turned a b fits;
        width = sym fits.2;
        value = λ g given. and_comm (V g b) (V g a);
      }))
  simpler_sound (n.Or a b) op fits =
      unless (n.Or a b) a b (f.Same a) (n.Or (lower a b) (higher a b))
      (λ e. same_node (n.Or a b) a fits.0 refl
      (λ g given. sym (ap (λ k. bit_or (V g a) (V g k)) (sym e) ∙ or_self (V g a))))
      (in_order (λ p q. IsLike net (n.Or a b) (n.Or p q)) a b (like_self net (n.Or a b) op fits) (record {
        operator = refl;
        fits = turned a b fits;
        width = sym fits.2;
        value = λ g given. or_comm (V g b) (V g a);
      }))
  simpler_sound (n.Xor a b) op fits =
      unless (n.Xor a b) a b (f.Number (width_at net a) 0) (n.Xor (lower a b) (higher a b))
      (λ e. zero_of (n.Xor a b) a fits.0 refl
      (λ g given. sym (ap (λ k. bit_xor (V g a) (V g k)) (sym e) ∙ xor_self (V g a))))
      (in_order (λ p q. IsLike net (n.Xor a b) (n.Xor p q)) a b (like_self net (n.Xor a b) op fits) (record {
        operator = refl;
        fits = turned a b fits;
        width = sym fits.2;
        value = λ g given. xor_comm (V g b) (V g a);
      }))
  simpler_sound (n.Add a b) op fits =
      in_order (λ p q. IsLike net (n.Add a b) (n.Add p q)) a b (like_self net (n.Add a b) op fits) (record {
        operator = refl;
        fits = turned a b fits;
        width = sym fits.2;
        value = λ g given. ap (λ w. sum w (V g b) (V g a)) (sym fits.2) ∙ sum_comm (W a) (V g b) (V g a);
      })
  simpler_sound (n.Sub a b) op fits =
      unless (n.Sub a b) a b (f.Number (width_at net a) 0) (n.Sub a b)
      (λ e. zero_of (n.Sub a b) a fits.0 refl
      (λ g given. sym (ap (λ k. difference (W a) (V g a) (V g k)) (sym e)
      ∙ difference_self (W a) (V g a) (below g given a))))
      (like_self net (n.Sub a b) op fits)
  simpler_sound (n.Mul a b) op fits =
      in_order (λ p q. IsLike net (n.Mul a b) (n.Mul p q)) a b (like_self net (n.Mul a b) op fits) (record {
        operator = refl;
        fits = turned a b fits;
        width = sym fits.2;
        value = λ g given. ap (λ w. product w (V g b) (V g a)) (sym fits.2) ∙ product_comm (W a) (V g b) (V g a);
      })
  simpler_sound (n.Eq a b) op fits =
      unless (n.Eq a b) a b (f.Number 1 1) (n.Eq (lower a b) (higher a b))
      (λ e. one_bit (n.Eq a b) 1 (lit< tt) refl
      (λ g given. sym (ap (λ k. bit (V g a == V g k)) (sym e) ∙ self_equal (V g a))))
      (in_order (λ p q. IsLike net (n.Eq a b) (n.Eq p q)) a b (like_self net (n.Eq a b) op fits) (record {
        operator = refl;
        fits = turned a b fits;
        width = refl;
        value = λ g given. ap bit (equal_comm (V g b) (V g a));
      }))
  simpler_sound (n.Ult a b) op fits =
      unless (n.Ult a b) a b (f.Number 1 0) (n.Ult a b)
      (λ e. one_bit (n.Ult a b) 0 (lit< tt) refl
      (λ g given. sym (ap (λ k. bit (nat_lt (V g a) (V g k))) (sym e) ∙ not_below_self (V g a))))
      (like_self net (n.Ult a b) op fits)
  simpler_sound (n.Slt a b) op fits =
      unless (n.Slt a b) a b (f.Number 1 0) (n.Slt a b)
      (λ e. one_bit (n.Slt a b) 0 (lit< tt) refl
      (λ g given. sym (ap (λ k. bit (is_less_signed (W a) (V g a) (V g k))) (sym e)
      ∙ not_less_self (W a) (V g a))))
      (like_self net (n.Slt a b) op fits)
  simpler_sound (n.Shl a b) op fits = like_self net (n.Shl a b) op fits
  simpler_sound (n.Lshr a b) op fits = like_self net (n.Lshr a b) op fits
  simpler_sound (n.Ashr a b) op fits = like_self net (n.Ashr a b) op fits
  simpler_sound (n.Concat a b) op fits = like_self net (n.Concat a b) op fits
  simpler_sound (n.Mux c a b) op fits = by (a == b) refl
    where
      test : (t : Bool) → (known_at net c == 1) ≡ t → is_known net c ≡ true
          → IsSame net (n.Mux c a b) (if t then a else b)
      test true e k =
          same_node (n.Mux c a b) a fits.2.0 refl (λ g given.
          sym (ap (λ t. if t then V g a else V g b)
          (ap (λ v. v == 1) (known_same net g nothing c whole k) ∙ e)))
      test false e k =
          same_node (n.Mux c a b) b fits.2.1 (sym fits.2.2) (λ g given.
          sym (ap (λ t. if t then V g a else V g b)
          (ap (λ v. v == 1) (known_same net g nothing c whole k) ∙ e)))

      choose : (k : Bool) → is_known net c ≡ k
          → IsSound net (n.Mux c a b)
          (if k then f.Same (if known_at net c == 1 then a else b) else f.Kept (n.Mux c a b))
      choose true e = test (known_at net c == 1) refl e
      choose false e = like_self net (n.Mux c a b) op fits

      either : (t : Bool) (v : ℕ) → (if t then v else v) ≡ v
      either true v = refl
      either false v = refl

      by : (t : Bool) → (a == b) ≡ t
          → IsSound net (n.Mux c a b) (if t then f.Same a else chosen net c a b)
      by true e =
          same_node (n.Mux c a b) a fits.2.0 refl (λ g given.
          sym (ap (λ k. if V g c == 1 then V g a else V g k) (sym (equal_is a b e))
          ∙ either (V g c == 1) (V g a)))
      by false e = choose (is_known net c) refl
  simpler_sound (n.Slice a at w) op fits = like_self net (n.Slice a at w) op fits
  simpler_sound (n.Zext a w) op fits = like_self net (n.Zext a w) op fits
  simpler_sound (n.Sext a w) op fits = like_self net (n.Sext a w) op fits

  pub folded_sound : (x : Node) → IsOperator x → Fits x → IsSound net x (folded net x)
  folded_sound x op fits = by (reads_constants net x) refl
    where
      by : (c : Bool) → reads_constants net x ≡ c
          → IsSound net x
          (if c then f.Number (width_in net x) (value_in net nothing x) else simpler net x)
      by true e = constants_sound net x whole fits e
      by false e = simpler_sound x op fits
