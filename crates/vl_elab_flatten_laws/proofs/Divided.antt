-- A divisor is 0 under other names where it is 0, each name being declared there in the same way.
use Rattle.std.specs.Prelude.{◌≡◌, refl, ℕ, ◌==◌, List, Bool, ◌&&◌, is_none, if◌then◌else◌}
use Rattle.std.proofs.Common.{ap, ◌∙◌}
use Rattle.vl_tree.specs.declared.operator.BinaryOperator.{BinaryOperator}
use Rattle.vl_tree.specs.Expr.{
  Expr,
  Exprs,
  Selects,
  number,
  name,
  paren,
  unary,
  binary,
  conditional,
  concat,
  repeat,
  cast,
  none,
  more,
  whole,
  bit,
  part,
  indexed,
}
use Rattle.vl_size.specs.declared.context.Context.{Context}
use Rattle.vl_size.specs.declared.decl.Decl.{Decl}
use Rattle.vl_size.specs.declared.way.Way.{Way}
use Rattle.vl_size.specs.declared.way.Way.TheVariants as w
use Rattle.vl_size.specs.Divisors.{holds_of, is_logical, is_zero, larger, left_context, own_context}
use Rattle.vl_size.specs.Divisors.{parts_zero_divisor, place_if, right_context, selects_zero_divisor, shared_context}
use Rattle.vl_size.specs.Divisors.{zero_divisor}
use Rattle.vl_size.specs.Places.{earlier_place}
use Rattle.vl_size.specs.Size.{divides, no_names}
use Rattle.vl_size.specs.Way.{keeps_size, way}
use Rattle.vl_mean_flat.specs.Found.{IsFound}
use Rattle.vl_mean_flat.specs.FullNames.{renamed, renamed_exprs, renamed_selects}
use Rattle.vl_mean_flat.specs.Names.{Names, AllNames, SelectsNames}
use Rattle.vl_mean_flat.proofs.SameExpr.{same_constant, same_sign, same_size, same_value}

module _ (f : List ℕ → List ℕ) (ds es : List Decl) where
  abbrev Found : List ℕ → Type 0
  Found text = IsFound f ds es text

  pub same_own : (e : Expr) → Names Found e → own_context es (renamed f e) ≡ own_context ds e
  same_own e h = λ i. record { size = same_size f ds es e h i; signed = same_sign f ds es e h i }

  same_shared : (x y : Expr) → Names Found x → Names Found y
      → shared_context es (renamed f x) (renamed f y) ≡ shared_context ds x y
  same_shared x y h k =
      λ i. record {
        size = larger (same_size f ds es x h i) (same_size f ds es y k i);
        signed = same_sign f ds es x h i && same_sign f ds es y k i;
      }

  same_left : (how : Way) (op : BinaryOperator) (c : Context) (x y : Expr) → Names Found x → Names Found y
      → left_context es how op c (renamed f x) (renamed f y) ≡ left_context ds how op c x y
  same_left w.Larger op c x y h k = refl
  same_left w.Left op c x y h k = refl
  same_left w.One op c x y h k = λ i. if is_logical op then same_own x h i else same_shared x y h k i

  same_right : (how : Way) (op : BinaryOperator) (c : Context) (x y : Expr) → Names Found x → Names Found y
      → right_context es how op c (renamed f x) (renamed f y) ≡ right_context ds how op c x y
  same_right w.Larger op c x y h k = refl
  same_right w.Left op c x y h k = same_own y k
  same_right w.One op c x y h k = λ i. if is_logical op then same_own y k i else same_shared x y h k i

  same_zero : (c : Context) (y : Expr) → Names Found y → is_zero es c (renamed f y) ≡ is_zero ds c y
  same_zero c y h =
      λ i. same_constant f y i && holds_of c.size
      (λ n. holds_of (same_size f ds es y h i) (λ m. same_value f ds es no_names n c.signed y h i == 0))

  own_step : (e : Expr) → Names Found e
      → zero_divisor es (own_context ds e) (renamed f e) ≡ zero_divisor ds (own_context ds e) e
      → zero_divisor es (own_context es (renamed f e)) (renamed f e) ≡ zero_divisor ds (own_context ds e) e
  own_step e h r = ap (λ k. zero_divisor es k (renamed f e)) (same_own e h) ∙ r

  mutual
    pub same_divisor : (c : Context) (e : Expr) → Names Found e
        → zero_divisor es c (renamed f e) ≡ zero_divisor ds c e
    same_divisor c (number p n) h = refl
    same_divisor c (name p text ss) h = same_selects_divisor ss h.1
    same_divisor c (paren p x) h = same_divisor c x h
    same_divisor c (unary p op x) h =
        ap (λ k. zero_divisor es (if keeps_size op then c else k) (renamed f x)) (same_own x h)
        ∙ same_divisor (if keeps_size op then c else own_context ds x) x h
    same_divisor c (binary p op x y) h =
        let first = ap (λ k. zero_divisor es k (renamed f x)) (same_left (way op) op c x y h.0 h.1)
        ∙ same_divisor (left_context ds (way op) op c x y) x h.0 in
        let second = ap (λ k. zero_divisor es k (renamed f y)) (same_right (way op) op c x y h.0 h.1)
        ∙ same_divisor (right_context ds (way op) op c x y) y h.1 in
        λ i. earlier_place (place_if (divides op && (is_none (second i) && same_zero c y h.1 i)) p)
        (earlier_place (first i) (second i))
    same_divisor c (conditional p k x y) h =
        λ i. earlier_place (own_step k h.0 (same_divisor (own_context ds k) k h.0) i)
        (earlier_place (same_divisor c x h.1.0 i) (same_divisor c y h.1.1 i))
    same_divisor c (concat p xs) h = same_parts_divisor xs h
    same_divisor c (repeat p n xs) h =
        λ i. earlier_place (own_step n h.0 (same_divisor (own_context ds n) n h.0) i) (same_parts_divisor xs h.1 i)
    same_divisor c (cast p to x) h = own_step x h (same_divisor (own_context ds x) x h)

    same_parts_divisor : (xs : Exprs) → AllNames Found xs
        → parts_zero_divisor es (renamed_exprs f xs) ≡ parts_zero_divisor ds xs
    same_parts_divisor none h = refl
    same_parts_divisor (more e xs) h =
        λ i. earlier_place (own_step e h.0 (same_divisor (own_context ds e) e h.0) i) (same_parts_divisor xs h.1 i)

    pub same_selects_divisor : (ss : Selects) → SelectsNames Found ss
        → selects_zero_divisor es (renamed_selects f ss) ≡ selects_zero_divisor ds ss
    same_selects_divisor whole h = refl
    same_selects_divisor (bit p x ss) h =
        λ i. earlier_place (own_step x h.0 (same_divisor (own_context ds x) x h.0) i) (same_selects_divisor ss h.1 i)
    same_selects_divisor (part p l r ss) h =
        λ i. earlier_place (earlier_place (own_step l h.0 (same_divisor (own_context ds l) l h.0) i)
        (own_step r h.1.0 (same_divisor (own_context ds r) r h.1.0) i)) (same_selects_divisor ss h.1.1 i)
    same_selects_divisor (indexed p x n ss) h =
        λ i. earlier_place (earlier_place (own_step x h.0 (same_divisor (own_context ds x) x h.0) i)
        (own_step n h.1.0 (same_divisor (own_context ds n) n h.1.0) i)) (same_selects_divisor ss h.1.1 i)
