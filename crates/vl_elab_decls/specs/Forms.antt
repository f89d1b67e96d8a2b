-- Between functions: Declarations from what stands before names that are declared together: what the functions that
-- read them promise one another. IEEE 1364-2005, sections 3.2 and 3.9.
use Rattle.std.specs.Prelude.{◌≡◌, ℕ, List, [], ◌∷◌, true, false, Option, ℤ, pos}
use Rattle.vl_tree.specs.declared.declaration.Declaration.{Declaration}
use Rattle.vl_tree.specs.declared.declaration.DeclaredName.{DeclaredName}
use Rattle.vl_tree.specs.declared.declaration.NetKind.{NetKind}
use Rattle.vl_tree.specs.declared.declaration.Shape.{Shape}
use Rattle.vl_tree.specs.Attributes.{Attributes}
use Rattle.vl_size.specs.declared.decl.Class.{Class}
use Rattle.vl_size.specs.declared.decl.Class.TheVariants as class
use Rattle.vl_size.specs.declared.decl.Decl.{Decl}
use Rattle.vl_mean.specs.Declarations.{class_of_attributes, class_of_kind, declared_integers, declared_names}
use Rattle.vl_mean.specs.Declarations.{joined_attributes, vector_bounds, word_bounds}
use Rattle.vl_mean.specs.Scopes.{Scope}
use Rattle.vl_elab_const.specs.InRange.{AreWords, Covers, IsShort}
use Rattle.vl_elab_decls.specs.declared.decls_forms.Form.{Form}

abbrev pub decl_with : Form → List ℕ → Option (ℤ × ℤ) → Decl
decl_with f text words = record {
  name = text;
  width = f.extent.bits;
  signed = f.signed;
  left = f.extent.left;
  right = f.extent.right;
  words = words;
  class = f.class;
  output = f.output;
}

abbrev pub one_with : List Scope → Form → DeclaredName → Decl
one_with ss f x = decl_with f x.name (word_bounds ss x.words)

abbrev pub all_with : List Scope → Form → List DeclaredName → List Decl
all_with ss f [] = []
all_with ss f (x ∷ xs) = one_with ss f x ∷ all_with ss f xs

-- the words of a memory are in range
abbrev pub HasWords : Decl → Type 0
HasWords d = AreWords d.words

-- of nets and variables of this class and shape
pub record IsFormOf (ss : List Scope) (c : Class) (shape : Shape) (f : Form) : Type 0 where
  pub class : f.class ≡ c
  pub signed : f.signed ≡ shape.signed
  pub inside : f.output ≡ false
  pub extent : IsShort (vector_bounds ss shape.range) → Covers (vector_bounds ss shape.range) f.extent

-- ---- items

abbrev pub declared_class : Attributes → NetKind → Class
declared_class attrs kind = class_of_attributes (class_of_kind kind) (joined_attributes attrs)

abbrev pub declaration_decls : List Scope → Attributes → Declaration → List Decl
declaration_decls ss attrs d = declared_names ss (declared_class attrs d.net) d.shape d.names

abbrev pub integer_class : Attributes → Class
integer_class attrs = class_of_attributes class.Variable (joined_attributes attrs)

abbrev pub integer_decls : List Scope → Attributes → List DeclaredName → List Decl
integer_decls ss attrs xs = declared_integers ss (integer_class attrs) xs

-- `integer x` is `reg signed [31:0] x`
abbrev pub integer_form : Attributes → Form
integer_form attrs = record {
  class = integer_class attrs;
  signed = true;
  output = false;
  extent = record { bits = 32; left = pos 31; right = pos 0 };
}
