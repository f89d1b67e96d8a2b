-- Names that are declared together, and what stands before them.
use Rattle.std.specs.Prelude.{◌≡◌, refl, ℕ, suc, List, [], ◌∷◌, ◌++◌, length, false, ℤ}
use Rattle.std.proofs.Common.{ap, sym, ◌∙◌, subst}
use Rattle.fv_text.specs.declared.pos.Pos.{Pos}
use Rattle.vl_tree.specs.declared.declaration.Declaration.{Declaration}
use Rattle.vl_tree.specs.declared.declaration.DeclaredName.{DeclaredName}
use Rattle.vl_tree.specs.declared.declaration.Shape.{Shape}
use Rattle.vl_tree.specs.Attributes.{Attributes}
use Rattle.vl_tree.specs.Item.{Item, declaration, integer}
use Rattle.vl_size.specs.declared.decl.Class.{Class}
use Rattle.vl_size.specs.declared.decl.Decl.{Decl}
use Rattle.vl_mean.specs.Declarations.{declared_by, declared_integers, declared_names, vector, vector_bounds}
use Rattle.vl_mean.specs.Declarations.{word_bounds}
use Rattle.vl_mean.specs.Runs.{Each}
use Rattle.vl_mean.specs.Scopes.{Scope}
use Rattle.vl_elab_const.specs.InRange.{Covers, IsShort}
use Rattle.vl_elab_const.specs.Openable.{IsInRange}
use Rattle.vl_elab_decls.specs.declared.decls_forms.Form.{Form}
use Rattle.vl_elab_decls.specs.Forms.{HasWords, IsFormOf, all_with, declared_class, integer_class, integer_form}
use Rattle.vl_elab_decls.specs.Forms.{one_with}

pub short_of : (bounds : ℤ × ℤ) → IsShort (bounds.0, bounds.1) → IsShort bounds
short_of bounds h = record {
  bounded = record { left = h.bounded.left; right = h.bounded.right };
  few = h.few;
}

module _ (ss : List Scope) (c : Class) (shape : Shape) (f : Form) (h : IsFormOf ss c shape f) where
  one_is : (x : DeclaredName) → Covers (vector_bounds ss shape.range) f.extent
      → one_with ss f x ≡ vector ss c false shape x.name x.words
  one_is x e = λ i. record {
    name = x.name;
    width = e.bits i;
    signed = h.signed i;
    left = e.left i;
    right = e.right i;
    words = word_bounds ss x.words;
    class = h.class i;
    output = h.inside i;
  }

  all_are : (xs : List DeclaredName) → Each IsInRange (declared_names ss c shape xs)
      → all_with ss f xs ≡ declared_names ss c shape xs
  all_are [] k = refl
  all_are (x ∷ xs) k =
      let first = one_is x (h.extent (short_of (vector_bounds ss shape.range) k.0.short)) in
      let rest = all_are xs k.1 in
      λ i. first i ∷ rest i

  have_words : (xs : List DeclaredName) → Each IsInRange (declared_names ss c shape xs)
      → Each HasWords (all_with ss f xs)
  have_words [] k = tt
  have_words (x ∷ xs) k = (k.0.words, have_words xs k.1)

  so_with : (xs : List DeclaredName) (old new : List Decl) → Each IsInRange (declared_names ss c shape xs)
      → (Each HasWords (all_with ss f xs) → new ≡ old ++ all_with ss f xs) → new ≡ old ++ declared_names ss c shape xs
  so_with xs old new k made = made (have_words xs k) ∙ ap (λ ds. old ++ ds) (all_are xs k)

  pub declared_so : (xs all : List DeclaredName) → all ≡ xs → (old new : List Decl)
      → Each IsInRange (declared_names ss c shape xs)
      → (Each HasWords (all_with ss f all) → new ≡ old ++ all_with ss f all)
      → new ≡ old ++ declared_names ss c shape xs
  declared_so xs all e old new k made =
      so_with xs old new k
      (subst (λ ys. Each HasWords (all_with ss f ys) → new ≡ old ++ all_with ss f ys) e made)

module _ (ss : List Scope) (attrs : Attributes) where
  integers_are : (xs : List DeclaredName)
      → all_with ss (integer_form attrs) xs ≡ declared_integers ss (integer_class attrs) xs
  integers_are [] = refl
  integers_are (x ∷ xs) = ap (λ ds. one_with ss (integer_form attrs) x ∷ ds) (integers_are xs)

  integer_words : (xs : List DeclaredName) → Each IsInRange (declared_integers ss (integer_class attrs) xs)
      → Each HasWords (all_with ss (integer_form attrs) xs)
  integer_words [] k = tt
  integer_words (x ∷ xs) k = (k.0.words, integer_words xs k.1)

  pub integers_so : (f : Form) → f ≡ integer_form attrs → (xs : List DeclaredName) (old new : List Decl)
      → Each IsInRange (declared_integers ss (integer_class attrs) xs)
      → (Each HasWords (all_with ss f xs) → new ≡ old ++ all_with ss f xs)
      → new ≡ old ++ declared_integers ss (integer_class attrs) xs
  integers_so f e xs old new k made =
      made (transported (sym e)) ∙ ap (λ g. old ++ all_with ss g xs) e ∙ ap (λ ds. old ++ ds) (integers_are xs)
    where
      transported : integer_form attrs ≡ f → Each HasWords (all_with ss f xs)
      transported p = subst (λ g. Each HasWords (all_with ss g xs)) p (integer_words xs k)

-- ---- how many

names_length : (ss : List Scope) (c : Class) (shape : Shape) (xs : List DeclaredName)
    → length (declared_names ss c shape xs) ≡ length xs
names_length ss c shape [] = refl
names_length ss c shape (x ∷ xs) = ap suc (names_length ss c shape xs)

integers_length : (ss : List Scope) (c : Class) (xs : List DeclaredName)
    → length (declared_integers ss c xs) ≡ length xs
integers_length ss c [] = refl
integers_length ss c (x ∷ xs) = ap suc (integers_length ss c xs)

pub declaration_count : (attrs : Attributes) (p : Pos) (d : Declaration) (x : Item) (n : ℕ) (ss : List Scope)
    → declaration attrs p d ≡ x → n ≡ length d.names → n ≡ length (declared_by ss x)
declaration_count attrs p d x n ss same e =
    e ∙ sym (names_length ss (declared_class attrs d.net) d.shape d.names) ∙ ap (λ y. length (declared_by ss y)) same

pub integers_count : (attrs : Attributes) (p : Pos) (xs : List DeclaredName) (x : Item) (n : ℕ) (ss : List Scope)
    → integer attrs p xs ≡ x → n ≡ length xs → n ≡ length (declared_by ss x)
integers_count attrs p xs x n ss same e =
    e ∙ sym (integers_length ss (integer_class attrs) xs) ∙ ap (λ y. length (declared_by ss y)) same
