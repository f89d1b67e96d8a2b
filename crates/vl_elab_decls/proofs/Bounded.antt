-- What is known of declared ranges, and what it makes of a name.
use Rattle.std.specs.Prelude.{◌≡◌, refl, ℕ, ◌≤◌, List, Bool, true, false, ◌&&◌, nat_le, ℤ}
use Rattle.std.specs.Prelude.{Option, Some, None, if◌then◌else◌}
use Rattle.std.specs.Prelude.{IfSome}
use Rattle.std.proofs.Common.{ap, sym, ◌∙◌, subst, arith}
use Rattle.std.proofs.lemmas.Bool.Decides.{nat_tests}
use Rattle.vl_tree.specs.declared.declaration.Declaration.{Declaration}
use Rattle.vl_tree.specs.declared.declaration.DeclaredName.{DeclaredName}
use Rattle.vl_tree.specs.declared.declaration.PortKind.{PortKind}
use Rattle.vl_tree.specs.declared.declaration.PortKind.TheVariants as port
use Rattle.vl_tree.specs.declared.declaration.Range.{Range}
use Rattle.vl_tree.specs.Attributes.{Attributes}
use Rattle.vl_tree.specs.Expr.{Expr as Tree}
use Rattle.vl_size.specs.declared.decl.Class.{Class}
use Rattle.vl_size.specs.declared.decl.Decl.{Decl}
use Rattle.vl_size.specs.Size.{is_bound}
use Rattle.vl_size.specs.Table.{span, is_plain, IsPlain, IsShaped}
use Rattle.vl_mean.specs.Declarations.{bound_of, vector_bounds, word_bounds}
use Rattle.vl_mean.specs.Scopes.{Scope, constant_in}
use Rattle.vl_elab_spec.specs.Meanings.{Meaning, object, shapeless, Names, constants, bound, is_known, is_known_bound}
use Rattle.vl_elab_spec.specs.Meanings.{is_known_range, is_known_shape, declared_width, may_have_words, object_or}
use Rattle.vl_elab_scope.specs.Seen.{IsNamed}
use Rattle.vl_elab_spec.specs.Among.{AreAmong}
use Rattle.vl_elab_spec.proofs.Stays.{known_bound}
use Rattle.vl_elab_params.specs.declared.extents.Extent.{Extent}
use Rattle.vl_elab_params.specs.Known.{known_extent, extent_of, left_bound, right_bound}
use Rattle.vl_elab_decls.specs.declared.shape_forms.Form.{Form}
use Rattle.vl_elab_decls.specs.declared.shape_forms.PortForm.{PortForm}
use Rattle.vl_elab_decls.specs.declared.inputs.Inputs.{Inputs}
use Rattle.vl_elab_decls.specs.Objects.{declaration_form, integer_form, form_of_port}
use Rattle.vl_elab_decls.specs.Objects.{decl_with, object_with, Fits, some_words, known_words, words_if_known}
use Rattle.vl_elab_decls.specs.Objects.{next_form}

pub and_first : (a b : Bool) → (a && b) ≡ true → a ≡ true
and_first true b h = refl
and_first false b h = cc

pub and_second : (a b : Bool) → (a && b) ≡ true → b ≡ true
and_second true b h = h
and_second false b h = cc

few_bits : (n : ℕ) → nat_le n 128 ≡ true → n ≤ 128
few_bits n h = grind (arith, nat_tests)

-- ---- an extent that is known fits

spans : (ns : List Names) (r : Option Range) → declared_width ns r ≡ span (left_bound ns r) (right_bound ns r)
spans ns None = refl
spans ns (Some r) = refl

pub extent_fits : (ns : List Names) (r : Option Range) → Fits (known_extent ns r)
extent_fits ns r = by (is_known_shape ns r) refl
  where
    by : (b : Bool) → is_known_shape ns r ≡ b
        → Fits (if b then Some (extent_of ns r) else None)
    by true h = (
      few_bits (declared_width ns r) (and_second (is_known_range ns r) (nat_le (declared_width ns r) 128) h),
      spans ns r,
    )
    by false h = tt

-- ---- bounds are those of the scopes, where they are known

module _ (ns : List Names) (ss : List Scope) (among : AreAmong (constants ns) (constant_in ss)) where
  bound_is : (e : Tree) → is_known_bound ns e ≡ true → bound ns e ≡ bound_of ss e
  bound_is e h =
      known_bound ns (constant_in ss) among e (and_first (is_known ns e) (is_bound (bound ns e)) h)

  left_is : (r : Option Range) → is_known_range ns r ≡ true → left_bound ns r ≡ (vector_bounds ss r).0
  left_is None h = refl
  left_is (Some r) h = bound_is r.left (and_first (is_known_bound ns r.left) (is_known_bound ns r.right) h)

  right_is : (r : Option Range) → is_known_range ns r ≡ true → right_bound ns r ≡ (vector_bounds ss r).1
  right_is None h = refl
  right_is (Some r) h = bound_is r.right (and_second (is_known_bound ns r.left) (is_known_bound ns r.right) h)

  width_is : (r : Option Range) → is_known_range ns r ≡ true
      → declared_width ns r ≡ span (vector_bounds ss r).0 (vector_bounds ss r).1
  width_is r h = spans ns r ∙ (λ i. span (left_is r h i) (right_is r h i))

  abbrev pub meant_extent : Option Range → Extent
  meant_extent r = record {
    bits = span (vector_bounds ss r).0 (vector_bounds ss r).1;
    left = (vector_bounds ss r).0;
    right = (vector_bounds ss r).1;
  }

  pub extent_is : (r : Option Range) → is_known_shape ns r ≡ true → extent_of ns r ≡ meant_extent r
  extent_is r h =
      let k = and_first (is_known_range ns r) (nat_le (declared_width ns r) 128) h in
      λ i. record { bits = width_is r k i; left = left_is r k i; right = right_is r k i }

  words_are : (w : Option Range) → is_known_range ns w ≡ true → known_words ns w ≡ Some (word_bounds ss w)
  words_are None h = refl
  words_are (Some r) h =
      ap (λ b. some_words (if b then Some (bound ns r.left, bound ns r.right) else None)) h
      ∙ (λ i. Some (Some (left_is (Some r) h i, right_is (Some r) h i)))

  pub words_known : (c : Class) (x : DeclaredName)
      → words_if_known ns c x
      ≡ (if is_known_range ns x.words && may_have_words c x.words x.value then Some (word_bounds ss x.words) else None)
  words_known c x = by (may_have_words c x.words x.value) (is_known_range ns x.words) refl
    where
      none : (w : Option Range) → is_known_range ns w ≡ false → known_words ns w ≡ None
      none None h = cc
      none (Some r) h = ap (λ b. some_words (if b then Some (bound ns r.left, bound ns r.right) else None)) h

      by : (m k : Bool) → is_known_range ns x.words ≡ k
          → (if m then known_words ns x.words else None) ≡ (if k && m then Some (word_bounds ss x.words) else None)
      by true true h = words_are x.words h
      by true false h = none x.words h
      by false true h = refl
      by false false h = refl

-- ---- what it makes of a name

pub object_is : (k j : Bool) (f : Form) (e : Extent) (w : Option (ℤ × ℤ)) (text : List ℕ) (d : Decl)
    → is_plain text ≡ true → (k ≡ true → j ≡ true → decl_with f e text w ≡ d)
    → object_with f text (if k then Some e else None) (if j then Some w else None)
    ≡ object_or (k && j) (Some d) f.role f.scalar
object_is true true f e w text d p h =
    ap (λ b. if b then object (decl_with f e text w) f.role f.scalar else shapeless) p
    ∙ ap (λ d. object d f.role f.scalar) (h refl refl)
object_is true false f e w text d p h = refl
object_is false true f e w text d p h = refl
object_is false false f e w text d p h = refl

pub object_named : (f : Form) (text : List ℕ) (e : Option Extent) (w : Option (Option (ℤ × ℤ)))
    → IsNamed (text, object_with f text e w)
object_named f text None w = tt
object_named f text (Some e) None = tt
object_named f text (Some e) (Some w) = by (is_plain text)
  where
    by : (b : Bool) → IsNamed (text, (if b then object (decl_with f e text w) f.role f.scalar else shapeless))
    by true = refl
    by false = tt

-- behind a port of a form that fits
pub form_fits : (ns : List Names) (last : Option PortForm) (kind : PortKind) (f : Option PortForm)
    → f ≡ next_form ns last kind → IfSome last (λ f. Fits f.extent) → IfSome f (λ f. Fits f.extent)
form_fits ns last kind f e h = subst (λ f. IfSome f (λ f. Fits f.extent)) (sym e) (by kind)
  where
    by : (kind : PortKind) → IfSome (next_form ns last kind) (λ f. Fits f.extent)
    by (port.Full p) = extent_fits ns p.shape.range
    by (port.Short text value) = h

-- ---- forms that fit

pub declared_fits : (ns : List Names) (attrs : Attributes) (d : Declaration) (f : Form)
    → f ≡ declaration_form ns attrs d → Fits f.extent
declared_fits ns attrs d f e = subst (λ f. Fits f.extent) (sym e) (extent_fits ns d.shape.range)

pub integers_fit : (attrs : Attributes) (f : Form) → f ≡ integer_form attrs → Fits f.extent
integers_fit attrs f e = subst (λ f. Fits f.extent) (sym e) (omega arith, refl)

pub port_fits : (inputs : Inputs) (f : PortForm) (text : List ℕ) (g : Form) → g ≡ form_of_port inputs f text
    → Fits f.extent → Fits g.extent
port_fits inputs f text g e h = subst (λ g. Fits g.extent) (sym e) h

pub decl_shaped : (f : Form) (e : Extent) (text : List ℕ) (words : Option (ℤ × ℤ)) (d : Decl)
    → d ≡ decl_with f e text words → Fits (Some e) → IsShaped d
decl_shaped f e text words d same h =
    let few = h.0 in
    let wide = h.1 in
    subst IsShaped (sym same) (record { some_bits = omega (arith, wide); few_bits = few; spans = wide })

pub decl_plain : (f : Form) (e : Extent) (text : List ℕ) (words : Option (ℤ × ℤ)) (d : Decl)
    → d ≡ decl_with f e text words → is_plain text ≡ true → IsPlain d
decl_plain f e text words d same h = subst IsPlain (sym same) h
