-- Constants that aren't refused are known, also among more constants.
use Rattle.std.specs.Prelude.{◌≡◌, refl, ℕ, ◌≤◌, max, List, [], ◌++◌, Bool, true, false, ◌&&◌, not, nat_le}
use Rattle.std.specs.Prelude.{Option, Some, None, is_some, is_none, if◌then◌else◌}
use Rattle.std.proofs.Common.{ap, sym, ◌∙◌, subst, true≢false, arith}
use Rattle.std.proofs.lemmas.Bool.Decides.{nat_tests}
use Rattle.fv_text.specs.declared.pos.Pos.{Pos}
use Rattle.vl_tree.specs.declared.declaration.Range.{Range}
use Rattle.vl_tree.specs.Expr.{Expr}
use Rattle.vl_tree.specs.ExprWellFormed.{IsWellFormed}
use Rattle.vl_tree.specs.DeclarationWellFormed.{IsOptionalRange}
use Rattle.vl_size.specs.declared.context.Context.{Context}
use Rattle.vl_size.specs.Divisors.{larger, own_context, valid_size, zero_divisor}
use Rattle.vl_size.specs.Sign.{sign}
use Rattle.vl_size.specs.Size.{size, is_bound, is_constant}
use Rattle.vl_size.specs.Table.{span}
use Rattle.vl_mean.specs.Constants.{settled}
use Rattle.vl_elab_spec.specs.Expressions.{too_wide, far, refusals, known, expr_refusals, own_refusals}
use Rattle.vl_elab_spec.specs.Items.{range_refusals, width_refusals, value_context}
use Rattle.vl_elab_spec.specs.Meanings.{Names, constants, objects, is_known, is_known_in, is_known_assigned, bound}
use Rattle.vl_elab_spec.specs.Meanings.{is_known_bound, is_known_range, declared_width, is_known_shape, is_known_value}
use Rattle.vl_elab_spec.specs.Statements.{widened, assigned_in}
use Rattle.vl_elab_accepted_laws.proofs.Fresh.{NoneOf, none-front, none-back}
use Rattle.vl_elab_scope.specs.Seen.{AllNamed}
use Rattle.vl_elab_accepted_laws.specs.Sized.{AreSure, IsSized}
use Rattle.vl_elab_accepted_laws.proofs.Fixed.{fixed_size, fixed_sign, fixed_place}
use Rattle.vl_elab_accepted_laws.proofs.Parts.{known_true}
use Rattle.vl_elab_accepted_laws.proofs.Sizes.{read_constant}
use Rattle.vl_elab_accepted_laws.proofs.Tests.{narrow, passed, undivided}
use Rattle.vl_elab_spec.specs.Among.{AreAmong}
use Rattle.vl_elab_spec.proofs.Stays.{known_bound, known_settled, settled_stays}

both_true : (a b : Bool) → a ≡ true → b ≡ true → (a && b) ≡ true
both_true true b h k = k
both_true false b h k = h

pub first_true : (a b : Bool) → (a && b) ≡ true → a ≡ true
first_true true b h = refl
first_true false b h = h

pub second_true : (a b : Bool) → (a && b) ≡ true → b ≡ true
second_true true b h = h
second_true false b h = absurd (true≢false (sym h))

few_true : (n : ℕ) → n ≤ 128 → nat_le n 128 ≡ true
few_true n h = grind (arith, h, nat_tests)

-- what is known of a declared shape that isn't refused
pub record IsNarrow (ns : List Names) (r : Option Range) : Type 0 where
  pub known_so : is_known_range ns r ≡ true
  pub few : declared_width ns r ≤ 128

module _ (ns : List Names) (named : AllNamed ns) (sure : AreSure ns) where
  pub own_known : (e : Expr) → IsWellFormed e → NoneOf (own_refusals ns true e) → is_known ns e ≡ true
  own_known e w h =
      let c : Context = own_context (objects ns) (known ns e) in
      let x : IsSized ns true e = read_constant ns c e named sure w h in
      known_true ns (objects ns) e x.bits (x.constant refl) x.sized
      (undivided (zero_divisor (objects ns) c (known ns e)) (none-back (refusals ns true e) _ h))

  bound_known : (p : Pos) (e : Expr) → IsWellFormed e → NoneOf (own_refusals ns true e) → NoneOf (far ns p e)
      → is_known_bound ns e ≡ true
  bound_known p e w h k =
      let there = own_known e w h in
      both_true (is_known ns e) (is_bound (bound ns e)) there
      (passed (is_known ns e) (is_bound (bound ns e)) _ there k)

  pub range_known : (r : Option Range) → IsOptionalRange r → NoneOf (range_refusals ns r)
      → is_known_range ns r ≡ true
  range_known None w h = refl
  range_known (Some r) w h =
      let left = own_refusals ns true r.left in
      let right = own_refusals ns true r.right in
      let front = none-front (left ++ right ++ far ns r.pos r.left) (far ns r.pos r.right) h in
      let values = none-front (left ++ right) (far ns r.pos r.left) front in
      both_true (is_known_bound ns r.left) (is_known_bound ns r.right)
      (bound_known r.pos r.left w.0 (none-front left right values)
      (none-back (left ++ right) (far ns r.pos r.left) front))
      (bound_known r.pos r.right w.1 (none-back left right values)
      (none-back (left ++ right ++ far ns r.pos r.left) (far ns r.pos r.right) h))

  pub shape_known : (p : Pos) (r : Option Range) → IsOptionalRange r → NoneOf (range_refusals ns r)
      → NoneOf (width_refusals ns p r) → IsNarrow ns r
  shape_known p r w h k =
      let there = range_known r w h in
      record {
        known_so = there;
        few = narrow p (declared_width ns r)
            (subst (λ b. NoneOf (if b then too_wide p (Some (declared_width ns r)) else [])) there k);
      }

  -- its size, and that no divisor is 0 in its place
  record IsPlaced (c : Context) (e : Expr) : Type 0 where
    bits : ℕ
    sized : size [] (known ns e) ≡ Some bits
    divided : zero_divisor [] c (known ns e) ≡ None
    same_size : size (objects ns) (known ns e) ≡ size [] (known ns e)
    same_sign : sign (objects ns) (known ns e) ≡ sign [] (known ns e)

  placed : (c : Context) (e : Expr) → IsWellFormed e → NoneOf (expr_refusals ns true c e) → IsPlaced c e
  placed c e w h =
      let x : IsSized ns true e = read_constant ns c e named sure w h in
      let fixed : is_constant (known ns e) ≡ true = x.constant refl in
      record {
        bits = x.bits;
        sized = sym (fixed_size (objects ns) [] (known ns e) fixed) ∙ x.sized;
        divided = sym (fixed_place (objects ns) [] (known ns e) fixed c)
            ∙ undivided (zero_divisor (objects ns) c (known ns e)) (none-back (refusals ns true e) _ h);
        same_size = fixed_size (objects ns) [] (known ns e) fixed;
        same_sign = fixed_sign (objects ns) [] (known ns e) fixed;
      }

  -- ---- among more constants

  module _ (ms : List Names) (among : AreAmong (constants ns) (constants ms)) where
    known_there : (e : Expr) → is_known ns e ≡ true → is_known ms e ≡ true
    known_there e h =
        ap (λ x. is_some (valid_size [] x)) (sym (known_settled ns (constants ms) among e h)) ∙ h

    bound_there : (e : Expr) → is_known ns e ≡ true → bound ms e ≡ bound ns e
    bound_there e h = sym (known_bound ns (constants ms) among e h)

    known_bound_there : (e : Expr) → is_known_bound ns e ≡ true → is_known_bound ms e ≡ true
    known_bound_there e h =
        let there = first_true (is_known ns e) (is_bound (bound ns e)) h in
        both_true (is_known ms e) (is_bound (bound ms e)) (known_there e there)
        (ap is_bound (bound_there e there) ∙ second_true (is_known ns e) (is_bound (bound ns e)) h)

    pub range_there : (r : Option Range) → is_known_range ns r ≡ true → is_known_range ms r ≡ true
    range_there None h = refl
    range_there (Some r) h =
        both_true (is_known_bound ms r.left) (is_known_bound ms r.right)
        (known_bound_there r.left (first_true (is_known_bound ns r.left) (is_known_bound ns r.right) h))
        (known_bound_there r.right (second_true (is_known_bound ns r.left) (is_known_bound ns r.right) h))

    width_there : (r : Option Range) → is_known_range ns r ≡ true → declared_width ms r ≡ declared_width ns r
    width_there None h = refl
    width_there (Some r) h =
        let left = first_true (is_known ns r.left) (is_bound (bound ns r.left))
        (first_true (is_known_bound ns r.left) (is_known_bound ns r.right) h) in
        let right = first_true (is_known ns r.right) (is_bound (bound ns r.right))
        (second_true (is_known_bound ns r.left) (is_known_bound ns r.right) h) in
        λ i. span (bound_there r.left left i) (bound_there r.right right i)

    pub shape_there : (r : Option Range) → IsNarrow ns r → is_known_shape ms r ≡ true
    shape_there r h =
        both_true (is_known_range ms r) (nat_le (declared_width ms r) 128) (range_there r h.known_so)
        (ap (λ n. nat_le n 128) (width_there r h.known_so) ∙ few_true (declared_width ns r) h.few)

    in_place : (n : ℕ) (c : Context) (e : Expr) → IsPlaced c e
        → c ≡ record { size = larger (Some n) (size (objects ns) (known ns e)); signed = sign (objects ns) (known ns e) }
        → is_known_assigned ms n e ≡ true
    in_place n c e x is =
        let same = settled_stays (constants ns) (constants ms) among c e x.bits x.sized x.divided in
        let at : c ≡ record { size = larger (Some n) (size [] (known ns e)); signed = sign [] (known ns e) }
        = is ∙ (λ i. record { size = larger (Some n) (x.same_size i); signed = x.same_sign i }) in
        ap (λ y. is_known_in (record { size = larger (Some n) (size [] y); signed = sign [] y }) y) (sym same)
        ∙ both_true (is_some (size [] (known ns e)))
        (is_none (zero_divisor [] (record {
          size = larger (Some n) (size [] (known ns e));
          signed = sign [] (known ns e);
        }) (known ns e)))
        (ap is_some x.sized) (ap is_none (ap (λ k. zero_divisor [] k (known ns e)) (sym at) ∙ x.divided))

    -- the value of a parameter, where it is that of its range
    pub value_there : (r : Option Range) (e : Expr) → IsWellFormed e → IsNarrow ns r
        → NoneOf (expr_refusals ns true (value_context ns r e) e) → is_known_value ms r e ≡ true
    value_there None e w n h = known_there e (own_known e w h)
    value_there (Some r) e w n h =
        let width : ℕ = declared_width ns (Some r) in
        let c : Context = value_context ns (Some r) e in
        let is : c ≡ record {
          size = larger (Some width) (size (objects ns) (known ns e));
          signed = sign (objects ns) (known ns e);
        }
        = ap (λ b. if b then assigned_in ns (Some width) e else own_context (objects ns) (known ns e)) n.known_so
        ∙ ap (λ b. record {
          size = if b then larger (Some width) (size (objects ns) (known ns e))
              else size (objects ns) (known ns e);
          signed = sign (objects ns) (known ns e);
        }) (few_true width n.few) in
        ap (λ k. is_known_assigned ms k e) (width_there (Some r) n.known_so)
        ∙ in_place width c e (placed c e w h) is
