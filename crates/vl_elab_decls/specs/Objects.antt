-- Between functions: The ports, nets and variables of a scope with their shapes, as far as these are known: what the
-- functions that enter them promise one another. Rule of this project.
use Rattle.std.specs.Prelude.{◌≡◌, ◌≤◌, ℕ, List, [], ◌∷◌, ◌++◌, map, Bool, true, false, ◌&&◌, is_none, ℤ, pos}
use Rattle.std.specs.Prelude.{Option, Some, None, if◌then◌else◌}
use Rattle.vl_tree.specs.declared.declaration.Declaration.{Declaration}
use Rattle.vl_tree.specs.declared.declaration.DeclaredName.{DeclaredName}
use Rattle.vl_tree.specs.declared.declaration.Direction.{Direction}
use Rattle.vl_tree.specs.declared.declaration.Direction.TheVariants as direction
use Rattle.vl_tree.specs.declared.declaration.FullPort.{FullPort}
use Rattle.vl_tree.specs.declared.declaration.NetKind.{NetKind}
use Rattle.vl_tree.specs.declared.declaration.Port.{Port}
use Rattle.vl_tree.specs.declared.declaration.PortKind.{PortKind}
use Rattle.vl_tree.specs.declared.declaration.PortKind.TheVariants as port
use Rattle.vl_tree.specs.declared.declaration.Range.{Range}
use Rattle.vl_tree.specs.Attributes.{Attributes}
use Rattle.vl_tree.specs.Item.{Item, Items, declaration, integer, genvar, no_items, more_items}
use Rattle.vl_size.specs.declared.decl.Class.{Class}
use Rattle.vl_size.specs.declared.decl.Class.TheVariants as class
use Rattle.vl_size.specs.declared.decl.Decl.{Decl}
use Rattle.vl_size.specs.Size.{is_bound}
use Rattle.vl_size.specs.Table.{is_plain, span}
use Rattle.vl_mean.specs.Declarations.{class_of_attributes, class_of_kind, joined_attributes, is_output}
use Rattle.vl_elab_spec.specs.declared.role.Role.TheVariants as roles
use Rattle.vl_elab_spec.specs.Meanings.{Meaning, loop_variable, object, faulty, shapeless, Names, bound, is_known_range}
use Rattle.vl_elab_spec.specs.Meanings.{may_have_words, role_of_kind, role_of_port}
use Rattle.vl_elab_scope.specs.Seen.{with_name}
use Rattle.vl_elab_params.specs.declared.extents.Extent.{Extent}
use Rattle.vl_elab_params.specs.Known.{known_extent}
use Rattle.vl_elab_decls.specs.declared.shape_forms.Form.{Form}
use Rattle.vl_elab_decls.specs.declared.shape_forms.PortForm.{PortForm}
use Rattle.vl_elab_decls.specs.declared.inputs.Inputs.{Inputs}
use Rattle.vl_elab_decls.specs.Inputs.{is_top, class_of}

-- ---- what a name means

abbrev pub decl_with : Form → Extent → List ℕ → Option (ℤ × ℤ) → Decl
decl_with f e text words = record {
  name = text;
  width = e.bits;
  signed = f.signed;
  left = e.left;
  right = e.right;
  words = words;
  class = f.class;
  output = f.output;
}

-- it has so many bits, of which there are 128 at most
abbrev pub Fits : Option Extent → Type 0
Fits None = Unit {0}
Fits (Some e) = (e.bits ≤ 128) × (e.bits ≡ span e.left e.right)

-- no bracket stands in the name, and the words of a memory are known
abbrev pub object_with : Form → List ℕ → Option Extent → Option (Option (ℤ × ℤ)) → Meaning
object_with f text None words = shapeless
object_with f text (Some e) None = shapeless
object_with f text (Some e) (Some words) =
    if is_plain text then object (decl_with f e text words) f.role f.scalar else shapeless

abbrev pub pair_between : ℤ → ℤ → Option (ℤ × ℤ)
pair_between l r = if is_bound l && is_bound r then Some (l, r) else None

-- the bounds of a range, where they are known
abbrev pub known_pair : List Names → Range → Option (ℤ × ℤ)
known_pair ns r = if is_known_range ns (Some r) then Some (bound ns r.left, bound ns r.right) else None

abbrev pub some_words : Option (ℤ × ℤ) → Option (Option (ℤ × ℤ))
some_words None = None
some_words (Some p) = Some (Some p)

-- the bounds of its words, of a memory
abbrev pub known_words : List Names → Option Range → Option (Option (ℤ × ℤ))
known_words ns None = Some None
known_words ns (Some r) = some_words (known_pair ns r)

-- of a memory that may be one
abbrev pub words_if_known : List Names → Class → DeclaredName → Option (Option (ℤ × ℤ))
words_if_known ns c x = if may_have_words c x.words x.value then known_words ns x.words else None

-- ---- items

abbrev pub declaration_form : List Names → Attributes → Declaration → Form
declaration_form ns attrs d = record {
  class = class_of_attributes (class_of_kind d.net) (joined_attributes attrs);
  signed = d.shape.signed;
  scalar = is_none d.shape.range;
  role = role_of_kind d.net;
  output = false;
  extent = known_extent ns d.shape.range;
}

-- `integer x` is `reg signed [31:0] x`
abbrev pub integer_form : Attributes → Form
integer_form attrs = record {
  class = class_of_attributes class.Variable (joined_attributes attrs);
  signed = true;
  scalar = false;
  role = roles.Variable;
  output = false;
  extent = Some (record { bits = 32; left = pos 31; right = pos 0 });
}

abbrev pub with_one : List Names → Form → Names → DeclaredName → Names
with_one ns f l x = with_name l x.name (object_with f x.name f.extent (words_if_known ns f.class x))

abbrev pub with_declared : List Names → Form → Names → List DeclaredName → Names
with_declared ns f l [] = l
with_declared ns f l (x ∷ xs) = with_declared ns f (with_one ns f l x) xs

abbrev pub with_genvars : Names → List (List ℕ) → Names
with_genvars l [] = l
with_genvars l (text ∷ texts) = with_genvars (with_name l text loop_variable) texts

abbrev pub with_item : List Names → Names → Item → Names
with_item ns l (declaration attrs p d) = with_declared ns (declaration_form ns attrs d) l d.names
with_item ns l (integer attrs p xs) = with_declared ns (integer_form attrs) l xs
with_item ns l (genvar attrs p xs) = with_genvars l xs
with_item ns l x = l

abbrev pub with_items : List Names → Names → Items → Names
with_items ns l no_items = l
with_items ns l (more_items x xs) = with_items ns (with_item ns l x) xs

-- ---- ports

abbrev pub port_form : List Names → FullPort → PortForm
port_form ns p = record {
  direction = p.direction;
  net = p.net;
  signed = p.shape.signed;
  scalar = is_none p.shape.range;
  extent = known_extent ns p.shape.range;
}

-- behind a port of this form, of which a port that is written short takes all
abbrev pub next_form : List Names → Option PortForm → PortKind → Option PortForm
next_form ns last (port.Full p) = Some (port_form ns p)
next_form ns last (port.Short text value) = last

abbrev pub port_text : PortKind → List ℕ
port_text (port.Full p) = p.name
port_text (port.Short text value) = text

-- one that isn't a `reg` is a net
abbrev pub output_class : Option NetKind → Class
output_class None = class.Net
output_class (Some kind) = class_of_kind kind

abbrev pub port_class : Inputs → Direction → Option NetKind → List ℕ → Class
port_class inputs direction.Input net text = class_of inputs text
port_class inputs direction.Output net text = output_class net

abbrev pub form_of_port : Inputs → PortForm → List ℕ → Form
form_of_port inputs f text = record {
  class = port_class inputs f.direction f.net text;
  signed = f.signed;
  scalar = f.scalar;
  role = role_of_port f.direction f.net;
  output = is_top inputs && is_output f.direction;
  extent = f.extent;
}

abbrev pub with_port : Inputs → Names → Option PortForm → List ℕ → Names
with_port inputs l None text = l
with_port inputs l (Some f) text = with_name l text (object_with (form_of_port inputs f text) text f.extent (Some None))

abbrev pub with_ports : List Names → Inputs → Names → Option PortForm → List Port → Names
with_ports ns inputs l last [] = l
with_ports ns inputs l last (p ∷ ps) =
    let f = next_form ns last p.kind in with_ports ns inputs (with_port inputs l f (port_text p.kind)) f ps

-- ---- the whole

abbrev pub scope_objects : List Names → Inputs → List Port → Items → Names
scope_objects ns inputs ps xs = with_items ns (with_ports ns inputs [] None ps) xs
