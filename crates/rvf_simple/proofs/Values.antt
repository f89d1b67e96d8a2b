-- Nothing is refused in the ranges, the expressions and the targets of a simple wrapper.
use Rattle.std.specs.Prelude.{◌≡◌, refl, ℕ, ◌≤◌, List, [], ◌∷◌, ◌++◌, Bool, true, false, ◌&&◌, not, nat_le, max}
use Rattle.std.specs.Prelude.{◌||◌, Option, None, Some, is_none, pos, bytes_eq, codes, if◌then◌else◌}
use Rattle.std.proofs.Common.{ap, sym, ◌∙◌, subst, true≢false, arith}
use Rattle.std.proofs.lemmas.Bool.Decides.{nat_tests}
use Rattle.fv_text.specs.declared.pos.Pos.{Pos}
use Rattle.vl_tree.specs.declared.declaration.Direction.{Direction}
use Rattle.vl_tree.specs.declared.declaration.Direction.TheVariants as direction
use Rattle.vl_tree.specs.declared.declaration.FullPort.{FullPort}
use Rattle.vl_tree.specs.declared.declaration.NetKind.{NetKind}
use Rattle.vl_tree.specs.declared.declaration.NetKind.TheVariants as net
use Rattle.vl_tree.specs.declared.declaration.Range.{Range}
use Rattle.vl_tree.specs.declared.part.Assignment.{Assignment}
use Rattle.vl_tree.specs.Expr.{Expr, number, name, paren, unary, binary, conditional, cast, whole}
use Rattle.vl_tree.specs.Lval.{Lval, named}
use Rattle.vl_size.specs.declared.context.Context.{Context}
use Rattle.vl_size.specs.declared.decl.Class.TheVariants as class
use Rattle.vl_size.specs.declared.decl.Decl.{Decl}
use Rattle.vl_size.specs.declared.way.Way.{Way}
use Rattle.vl_size.specs.declared.way.Way.TheVariants as ways
use Rattle.vl_size.specs.Divisors.{is_zero, left_context, own_context, place_if, right_context, zero_divisor}
use Rattle.vl_size.specs.Places.{earlier_place}
use Rattle.vl_size.specs.Size.{◌>>=◌, index_of, is_bound, size_by, unary_size}
use Rattle.vl_size.specs.Table.{span}
use Rattle.vl_size.specs.Way.{keeps_size, way}
use Rattle.vl_mean.specs.declared.const_number.Const.{Const}
use Rattle.vl_mean.specs.Constants.{constant_operand, named_constant, settled}
use Rattle.vl_mean.specs.Declarations.{class_of_port, is_output, port_named, vector_bounds}
use Rattle.vl_mean.specs.Runs.{Each}
use Rattle.vl_mean.specs.Scopes.{Scope, constant_in, is_clock_class}
use Rattle.vl_mean.specs.Walk.{top_input}
use Rattle.vl_elab_spec.specs.declared.elab_fault.ElabFault.TheVariants as f
use Rattle.vl_elab_spec.specs.declared.role.Role.{Role}
use Rattle.vl_elab_spec.specs.Expressions.{
  divided_by_zero,
  expr_refusals,
  far,
  memory_selects,
  name_width,
  own_refusals,
  read_refusals,
  refusals,
  refused_if,
  too_wide,
  vector_selects,
  wide_size,
}
use Rattle.vl_elab_spec.specs.Items.{assignments_refusals, range_refusals, width_refusals}
use Rattle.vl_elab_spec.specs.Meanings.{Names, bound, constants, declared_width, is_input, is_known}
use Rattle.vl_elab_spec.specs.Meanings.{is_known_bound, is_known_range, is_known_shape, meaning_in, object, objects}
use Rattle.vl_elab_spec.specs.Meanings.{role_of_port}
use Rattle.vl_elab_spec.specs.Statements.{assigned_in, assigned_refusals, may_be_assigned}
use Rattle.vl_elab_spec.specs.Statements.{target_refusals, target_selects, target_width}
use Rattle.rvf_simple.specs.SimpleTrees.{IsAssignable, IsNumberUpTo, IsReadable, IsSimpleAssignment, IsSimpleExpr}
use Rattle.rvf_simple.specs.SimpleTrees.{IsSimpleRange, IsSimpleTarget}
use Rattle.rvf_simple.proofs.Numbers.{bound_near, span_few, value_is}

-- ---- bounds

-- what a bound is over any constants
record IsIndex (c : List ℕ → Option Const) (most : ℕ) (e : Expr) : Type 0 where
  value : ℕ
  is : index_of (constant_operand c e) ≡ pos value
  few : value ≤ most

index : (c : List ℕ → Option Const) (most : ℕ) (e : Expr) → most ≤ 127 → IsNumberUpTo most e → IsIndex c most e
index c most (number p n) m h =
    record { value = n.value; is = value_is n.width n.signed n.value h.0 (omega (arith, h.1)); few = h.1 }
index c most e m h = absurd h

width_few : (v w : ℕ) → v ≤ 127 → w ≤ 0 → span (pos v) (pos w) ≤ 128
width_few v w h k = let e : w ≡ 0 = omega arith in subst (λ w. span (pos v) (pos w) ≤ 128) (sym e) (span_few v h)

-- of the bounds of a simple range
between_few : (c : List ℕ → Option Const) (l r : Expr) → IsNumberUpTo 127 l → IsNumberUpTo 0 r
    → span (index_of (constant_operand c l)) (index_of (constant_operand c r)) ≤ 128
between_few c l r h k =
    let left = index c 127 l (omega arith) h in let right = index c 0 r (omega arith) k in
    subst (λ n. n ≤ 128) (λ i. span (sym left.is i) (sym right.is i))
    (width_few left.value right.value left.few right.few)

pub vector_few : (ss : List Scope) (r : Option Range) → IsSimpleRange r
    → span (vector_bounds ss r).0 (vector_bounds ss r).1 ≤ 128
vector_few ss None h = omega arith
vector_few ss (Some r) h = between_few (constant_in ss) r.left r.right h.0 h.1

near : (n : ℕ) → n ≤ 128 → nat_le n 128 ≡ true
near n h = grind (arith, nat_tests)

pub few_wide : (p : Pos) (o : Option ℕ) (n : ℕ) → o ≡ Some n → n ≤ 128 → too_wide p o ≡ []
few_wide p o n e h = ap (too_wide p) e ∙ ap (λ t. refused_if (not t) (f.TooWide p n)) (near n h)

module _ (ns : List Names) where
  known_number : (most : ℕ) (e : Expr) → IsNumberUpTo most e → is_known ns e ≡ true
  known_number most (number p n) h = refl
  known_number most e h = absurd h

  number_fine : (most : ℕ) (e : Expr) → IsNumberUpTo most e → own_refusals ns true e ≡ []
  number_fine most (number p n) h = refl
  number_fine most e h = absurd h

  bounded : (most : ℕ) (e : Expr) → most ≤ 127 → IsNumberUpTo most e → is_bound (bound ns e) ≡ true
  bounded most e m h =
      let b = index (constants ns) most e m h in ap is_bound b.is ∙ bound_near b.value (omega (arith, b.few))

  not_far : (q : Pos) (most : ℕ) (e : Expr) → most ≤ 127 → IsNumberUpTo most e → far ns q e ≡ []
  not_far q most e m h = λ i. refused_if (known_number most e h i && not (bounded most e m h i)) (f.Range q)

  pub range_fine : (r : Option Range) → IsSimpleRange r → range_refusals ns r ≡ []
  range_fine None h = refl
  range_fine (Some r) h =
      λ i. number_fine 127 r.left h.0 i ++ number_fine 0 r.right h.1 i
      ++ not_far r.pos 127 r.left (omega arith) h.0 i ++ not_far r.pos 0 r.right (omega arith) h.1 i

  known_bound : (most : ℕ) (e : Expr) → most ≤ 127 → IsNumberUpTo most e → is_known_bound ns e ≡ true
  known_bound most e m h = λ i. known_number most e h i && bounded most e m h i

  known_range : (r : Option Range) → IsSimpleRange r → is_known_range ns r ≡ true
  known_range None h = refl
  known_range (Some r) h =
      λ i. known_bound 127 r.left (omega arith) h.0 i && known_bound 0 r.right (omega arith) h.1 i

  few_declared : (r : Option Range) → IsSimpleRange r → declared_width ns r ≤ 128
  few_declared None h = omega arith
  few_declared (Some r) h = between_few (constants ns) r.left r.right h.0 h.1

  pub width_fine : (p : Pos) (r : Option Range) → IsSimpleRange r → width_refusals ns p r ≡ []
  width_fine p r h =
      ap (λ t. if t then too_wide p (Some (declared_width ns r)) else []) (known_range r h)
      ∙ few_wide p (Some (declared_width ns r)) (declared_width ns r) refl (few_declared r h)

  pub known_shape : (r : Option Range) → IsSimpleRange r → is_known_shape ns r ≡ true
  known_shape r h = λ i. known_range r h i && near (declared_width ns r) (few_declared r h) i

-- ---- names

-- what the name of a port means
pub record IsMeant (ns : List Names) (text : List ℕ) (q : FullPort) : Type 0 where
  pub decl : Decl
  pub is : meaning_in ns text ≡ object decl (role_of_port q.direction q.net) (is_none q.shape.range)
  pub no_words : decl.words ≡ None
  pub few : decl.width ≤ 128
  pub class_is : decl.class ≡ class_of_port top_input q q.direction None

-- a port that isn't called so isn't the clock
input_class : (b c : Bool) → b ≡ false
    → is_clock_class (if b then class.Clock else if c then class.Reset else class.Input) ≡ false
input_class true c e = e
input_class false true e = refl
input_class false false e = refl

not_clock : (q : FullPort) (way : Direction) → bytes_eq q.name (codes "clock") ≡ false
    → is_clock_class (class_of_port top_input q way None) ≡ false
not_clock q direction.Input h =
    input_class (bytes_eq q.name (codes "clock")) (bytes_eq q.name (codes "reset")) h
not_clock q direction.Output h = refl

output_fine : (q : FullPort) (way : Direction) (kind : Option NetKind) (p : Pos) (text : List ℕ) → is_output way ≡ true
    → refused_if (is_clock_class (class_of_port top_input q way None)) (f.Clock p)
    ++ refused_if (is_input (role_of_port way kind) || not (may_be_assigned true (class_of_port top_input q way None)))
    (f.Kind text p)
    ++ [] ++ [] ≡ []
output_fine q direction.Input kind p text h = absurd (true≢false (sym h))
output_fine q direction.Output None p text h = refl
output_fine q direction.Output (Some net.Wire) p text h = refl
output_fine q direction.Output (Some net.Reg) p text h = refl

module _ (ns : List Names) (ps : List FullPort)
    (meant : (text : List ℕ) (q : FullPort) → port_named ps text ≡ Some q → IsMeant ns text q)
  where
    -- ---- what is read

    record IsRead (p : Pos) (text : List ℕ) : Type 0 where
      refused : read_refusals ns false p text (meaning_in ns text) whole ≡ []
      width : ℕ
      sized : name_width ns text (meaning_in ns text) whole ≡ Some width
      few : width ≤ 128

    read_object : (p : Pos) (text : List ℕ) (d : Decl) (role : Role) (scalar : Bool) → d.words ≡ None
        → is_clock_class d.class ≡ false → read_refusals ns false p text (object d role scalar) whole ≡ []
    read_object p text d role scalar w c =
        λ i. refused_if (c i) (f.Clock p) ++ refused_if false (f.NotConstant p)
        ++ (if is_none (w i) then vector_selects ns (not scalar) d whole else memory_selects ns p d whole)

    object_width : (text : List ℕ) (d : Decl) (role : Role) (scalar : Bool) → d.words ≡ None
        → name_width ns text (object d role scalar) whole ≡ Some d.width
    object_width text d role scalar w = λ i. if is_none (w i) then Some d.width else None

    read_port : (p : Pos) (text : List ℕ) (o : Option FullPort) → port_named ps text ≡ o → IsReadable o
        → IsRead p text
    read_port p text None e h = absurd h
    read_port p text (Some q) e h =
        let m = meant text q e in
        let clock : is_clock_class m.decl.class ≡ false
        = ap is_clock_class m.class_is ∙ not_clock q q.direction h in
        record {
          refused =
              ap (λ x. read_refusals ns false p text x whole) m.is
              ∙ read_object p text m.decl (role_of_port q.direction q.net) (is_none q.shape.range) m.no_words clock;
          width = m.decl.width;
          sized =
              ap (λ x. name_width ns text x whole) m.is
              ∙ object_width text m.decl (role_of_port q.direction q.net) (is_none q.shape.range) m.no_words;
          few = m.few;
        }

    -- ---- expressions

    record IsFine (e : Expr) : Type 0 where
      refused : refusals ns false e ≡ []
      width : ℕ
      sized : wide_size ns e ≡ Some width
      few : width ≤ 128

    unary_few : (keeps : Bool) (m : ℕ) → m ≤ 128 → (if keeps then m else 1) ≤ 128
    unary_few true m h = h
    unary_few false m h = omega arith

    binary_few : (how : Way) (m n : ℕ) → m ≤ 128 → n ≤ 128 → size_by how m n ≤ 128
    binary_few ways.Larger m n h k = omega arith
    binary_few ways.Left m n h k = h
    binary_few ways.One m n h k = omega arith

    fine : (e : Expr) → IsSimpleExpr ps e → IsFine e
    fine (number p n) h = record { refused = refl; width = n.width; sized = refl; few = n.few_bits }
    fine (name p text whole) h =
        let x = read_port p text (port_named ps text) refl h in
        record {
          refused = λ i. x.refused i ++ few_wide p (wide_size ns (name p text whole)) x.width x.sized x.few i;
          width = x.width;
          sized = x.sized;
          few = x.few;
        }
    fine (paren p x) h =
        let a = fine x h in
        record {
          refused = λ i. a.refused i ++ few_wide p (wide_size ns x) a.width a.sized a.few i;
          width = a.width;
          sized = a.sized;
          few = a.few;
        }
    fine (unary p op x) h =
        let a = fine x h in
        let sized : wide_size ns (unary p op x) ≡ Some (unary_size op a.width)
        = ap (λ o. o >>= λ m. Some (unary_size op m)) a.sized in
        let few : unary_size op a.width ≤ 128 = unary_few (keeps_size op) a.width a.few in
        record {
          refused =
              λ i. a.refused i ++ few_wide p (wide_size ns (unary p op x)) (unary_size op a.width) sized few i;
          width = unary_size op a.width;
          sized = sized;
          few = few;
        }
    fine (binary p op x y) h =
        let a = fine x h.1 in let b = fine y h.2 in
        let sized : wide_size ns (binary p op x y) ≡ Some (size_by (way op) a.width b.width)
        = λ i. a.sized i >>= λ m. b.sized i >>= λ n. Some (size_by (way op) m n) in
        let few : size_by (way op) a.width b.width ≤ 128 = binary_few (way op) a.width b.width a.few b.few in
        record {
          refused =
              (λ i. refusals ns (h.0 i) x ++ refusals ns (h.0 i) y ++ too_wide p (wide_size ns (binary p op x y)))
              ∙ (λ i. a.refused i ++ b.refused i
              ++ few_wide p (wide_size ns (binary p op x y)) (size_by (way op) a.width b.width) sized few i);
          width = size_by (way op) a.width b.width;
          sized = sized;
          few = few;
        }
    fine (conditional p c x y) h =
        let t = fine c h.0 in let a = fine x h.1 in let b = fine y h.2 in
        let sized : wide_size ns (conditional p c x y) ≡ Some (max a.width b.width)
        = λ i. a.sized i >>= λ m. b.sized i >>= λ n. Some (max m n) in
        let few : max a.width b.width ≤ 128 = omega (arith, a.few, b.few) in
        record {
          refused =
              λ i. t.refused i ++ a.refused i ++ b.refused i
              ++ few_wide p (wide_size ns (conditional p c x y)) (max a.width b.width) sized few i;
          width = max a.width b.width;
          sized = sized;
          few = few;
        }
    fine (cast p to x) h =
        let a = fine x h in
        record {
          refused = λ i. a.refused i ++ few_wide p (wide_size ns x) a.width a.sized a.few i;
          width = a.width;
          sized = a.sized;
          few = a.few;
        }
    fine e h = absurd h

    -- ---- no division

    named_undivided : (ds : List Decl) (c : Context) (p : Pos) (text : List ℕ) (o : Option Const)
        → zero_divisor ds c (named_constant p text whole o) ≡ None
    named_undivided ds c p text None = refl
    named_undivided ds c p text (Some x) = refl

    undivided : (k : List ℕ → Option Const) (ds : List Decl) (c : Context) (e : Expr) → IsSimpleExpr ps e
        → zero_divisor ds c (settled k e) ≡ None
    undivided k ds c (number p n) h = refl
    undivided k ds c (name p text whole) h = named_undivided ds c p text (k text)
    undivided k ds c (paren p x) h = undivided k ds c x h
    undivided k ds c (unary p op x) h =
        undivided k ds (if keeps_size op then c else own_context ds (settled k x)) x h
    undivided k ds c (binary p op x y) h =
        let first = undivided k ds (left_context ds (way op) op c (settled k x) (settled k y)) x h.1 in
        let second = undivided k ds (right_context ds (way op) op c (settled k x) (settled k y)) y h.2 in
        λ i. earlier_place (place_if (h.0 i && (is_none (second i) && is_zero ds c (settled k y))) p)
        (earlier_place (first i) (second i))
    undivided k ds c (conditional p t x y) h =
        λ i. earlier_place (undivided k ds (own_context ds (settled k t)) t h.0 i)
        (earlier_place (undivided k ds c x h.1 i) (undivided k ds c y h.2 i))
    undivided k ds c (cast p to x) h = undivided k ds (own_context ds (settled k x)) x h
    undivided k ds c e h = absurd h

    expr_fine : (c : Context) (e : Expr) → IsSimpleExpr ps e → expr_refusals ns false c e ≡ []
    expr_fine c e h =
        λ i. (fine e h).refused i ++ divided_by_zero (undivided (constants ns) (objects ns) c e h i)

    -- ---- targets and assignments

    target_named : (p : Pos) (text : List ℕ) (o : Option FullPort) → port_named ps text ≡ o → IsAssignable o
        → target_refusals ns true true (named p text whole) ≡ []
    target_named p text None e h = absurd h
    target_named p text (Some q) e h =
        let m = meant text q e in
        let role = role_of_port q.direction q.net in let scalar = is_none q.shape.range in
        ap (λ x. assigned_refusals ns true p text x ++ target_selects ns p x (named p text whole)
        ++ too_wide p (name_width ns text x whole)) m.is
        ∙ (λ i. refused_if (is_clock_class (m.class_is i)) (f.Clock p)
        ++ refused_if (is_input role || not (may_be_assigned true (m.class_is i))) (f.Kind text p)
        ++ (if is_none (m.no_words i) then vector_selects ns (not scalar) m.decl whole
        else memory_selects ns p m.decl whole)
        ++ few_wide p (name_width ns text (object m.decl role scalar) whole) m.decl.width
        (object_width text m.decl role scalar m.no_words) m.few i)
        ∙ output_fine q q.direction q.net p text h

    target_fine : (l : Lval) → IsSimpleTarget ps l → target_refusals ns true true l ≡ []
    target_fine (named p text whole) h = target_named p text (port_named ps text) refl h
    target_fine l h = absurd h

    pub assignments_fine : (xs : List Assignment) → Each (IsSimpleAssignment ps) xs → assignments_refusals ns xs ≡ []
    assignments_fine [] h = refl
    assignments_fine (x ∷ xs) h =
        λ i. (target_fine x.target h.0.target i
        ++ expr_fine (assigned_in ns (target_width ns x.target) x.value) x.value h.0.value i)
        ++ assignments_fine xs h.1 i
