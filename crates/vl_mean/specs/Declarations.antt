-- Meaning: What declarations declare. IEEE 1364-2005, sections 3.2, 3.3, 3.9, 3.11, 12.2 and 12.3. That the inputs
-- `clock` and `reset` of the top module have a meaning of their own, and the attributes `anyseq` and `anyconst`, are
-- rules of this project.
use Rattle.std.specs.Prelude.{
  ℕ,
  zero,
  suc,
  ◌+◌,
  max,
  List,
  [],
  ◌∷◌,
  ◌++◌,
  map,
  find,
  length,
  replicate,
  decimal,
}
use Rattle.std.specs.Prelude.{
  option_to_list,
  Bool,
  true,
  false,
  ◌&&◌,
  ◌||◌,
  Option,
  Some,
  None,
  ℤ,
  pos,
  codes,
}
use Rattle.std.specs.Prelude.{bytes_eq, if◌then◌else◌}
use Rattle.vl_tree.specs.declared.attribute.Attribute.{Attribute}
use Rattle.fv_text.specs.declared.pos.Pos.{Pos}
use Rattle.vl_tree.specs.declared.declaration.DeclaredName.{DeclaredName}
use Rattle.vl_tree.specs.declared.declaration.Direction.{Direction}
use Rattle.vl_tree.specs.declared.declaration.Direction.TheVariants as direction
use Rattle.vl_tree.specs.declared.declaration.FullPort.{FullPort}
use Rattle.vl_tree.specs.declared.declaration.HeaderParameter.{HeaderParameter}
use Rattle.vl_tree.specs.declared.declaration.NetKind.{NetKind}
use Rattle.vl_tree.specs.declared.declaration.NetKind.TheVariants as net
use Rattle.vl_tree.specs.declared.declaration.Parameter.{Parameter}
use Rattle.vl_tree.specs.declared.declaration.ParameterKind.TheVariants as k
use Rattle.vl_tree.specs.declared.declaration.Port.{Port}
use Rattle.vl_tree.specs.declared.declaration.PortKind.{PortKind}
use Rattle.vl_tree.specs.declared.declaration.PortKind.TheVariants as port
use Rattle.vl_tree.specs.declared.declaration.Range.{Range}
use Rattle.vl_tree.specs.declared.declaration.Shape.{Shape}
use Rattle.vl_tree.specs.Attributes.{Attributes}
use Rattle.vl_tree.specs.Expr.{Expr}
use Rattle.vl_tree.specs.Item.{Item, Items, Block, declaration, integer, genvar, parameter, instance, for_loop}
use Rattle.vl_tree.specs.Item.{if_only, if_else, no_items, more_items, begin, region, single}
use Rattle.vl_size.specs.declared.decl.Class.{Class}
use Rattle.vl_size.specs.declared.decl.Class.TheVariants as class
use Rattle.vl_size.specs.declared.decl.Decl.{Decl}
use Rattle.vl_size.specs.Size.{Operand, own, index_of}
use Rattle.vl_size.specs.Table.{span}
use Rattle.vl_mean.specs.declared.const_number.Const.{Const}
use Rattle.vl_mean.specs.Cells.{contains_name}
use Rattle.vl_mean.specs.Constants.{Constants, cut_to, constant_operand, width_in_range}
use Rattle.vl_mean.specs.Scopes.{Scope, constant_in}

-- ---- ranges

-- a bound, over constants
abbrev pub bound_of : List Scope → Expr → ℤ
bound_of ss e = index_of (constant_operand (constant_in ss) e)

abbrev pub bounds_of : List Scope → Range → ℤ × ℤ
bounds_of ss r = (bound_of ss r.left, bound_of ss r.right)

-- a scalar has the range `[0:0]`
abbrev pub vector_bounds : List Scope → Option Range → ℤ × ℤ
vector_bounds ss None = (pos 0, pos 0)
vector_bounds ss (Some r) = bounds_of ss r

abbrev pub word_bounds : List Scope → Option Range → Option (ℤ × ℤ)
word_bounds ss None = None
word_bounds ss (Some r) = Some (bounds_of ss r)

-- ---- parameters: sections 3.11 and 12.2

-- without a range it has the size of its value, and the sign of its value unless it is declared `signed`; with a
-- range its value counts as assigned to it; more than 128 bits are refused, and count as 128
abbrev pub of_range : List Scope → Bool → Operand → Option Range → Const
of_range ss signed x None = cut_to x.size (signed || x.sign) (own x)
of_range ss signed x (Some r) =
    let n = width_in_range (span (bound_of ss r.left) (bound_of ss r.right)) in
    cut_to n signed (x.at (max n x.size) x.sign)

-- what an instance gives to a parameter of its module, and whether that has a value
pub record Override : Type 0 where
  pub name : List ℕ
  pub operand : Operand
  pub has_value : Bool

-- the first one of a name counts
abbrev pub Overrides : Type 0
Overrides = List Override

abbrev pub override_or : Overrides → List ℕ → Operand → Operand
override_or [] text x = x
override_or (o ∷ os) text x = if bytes_eq text o.name then o.operand else override_or os text x

-- whether the value that a parameter is given is one, or else its own
abbrev pub is_value_or : Overrides → List ℕ → Bool → Bool
is_value_or [] text known = known
is_value_or (o ∷ os) text known = if bytes_eq text o.name then o.has_value else is_value_or os text known

-- in the scopes around, the constants of the scope itself so far come first
abbrev pub with_constants : Constants → List Scope → List Scope
with_constants cs ss = record { path = []; decls = []; constants = cs } ∷ ss

abbrev pub parameter_value : Overrides → List Scope → Parameter → Const
parameter_value os ss x =
    of_range ss x.shape.signed (override_or os x.name (constant_operand (constant_in ss) x.value)) x.shape.range

-- a parameter may use those before it
abbrev pub with_parameters : Overrides → List Scope → Constants → List Parameter → Constants
with_parameters os ss cs [] = cs
with_parameters os ss cs (x ∷ xs) =
    with_parameters os ss (cs ++ (x.name, parameter_value os (with_constants cs ss) x) ∷ []) xs

abbrev pub header_parameters : List HeaderParameter → List Parameter
header_parameters [] = []
header_parameters (x ∷ xs) = x.parameter ∷ header_parameters xs

-- a `localparam` isn't overridden
abbrev pub with_item_parameters : Overrides → List Scope → Constants → Item → Constants
with_item_parameters os ss cs (parameter attrs p k.Parameter xs) = with_parameters os ss cs xs
with_item_parameters os ss cs (parameter attrs p k.Localparam xs) = with_parameters [] ss cs xs
with_item_parameters os ss cs x = cs

abbrev pub with_items_parameters : Overrides → List Scope → Constants → Items → Constants
with_items_parameters os ss cs no_items = cs
with_items_parameters os ss cs (more_items x xs) = with_items_parameters os ss (with_item_parameters os ss cs x) xs

-- ---- names of nets and variables

abbrev pub class_of_attributes : Class → List Attribute → Class
class_of_attributes c [] = c
class_of_attributes c (a ∷ rest) =
    if bytes_eq a.name (codes "anyseq") then class.EachCycle
    else if bytes_eq a.name (codes "anyconst") then class.Once else class_of_attributes c rest

-- all attributes before an item, in order
abbrev pub joined_attributes : Attributes → List Attribute
joined_attributes [] = []
joined_attributes (a ∷ rest) = a.attributes ++ joined_attributes rest

abbrev pub class_of_kind : NetKind → Class
class_of_kind net.Wire = class.Net
class_of_kind net.Reg = class.Variable

abbrev pub vector : List Scope → Class → Bool → Shape → List ℕ → Option Range → Decl
vector ss c output shape text words =
    let bounds = vector_bounds ss shape.range in record {
      name = text;
      width = span bounds.0 bounds.1;
      signed = shape.signed;
      left = bounds.0;
      right = bounds.1;
      words = word_bounds ss words;
      class = c;
      output = output;
    }

-- `integer x` is `reg signed [31:0] x`
abbrev pub integer_decl : List Scope → Class → DeclaredName → Decl
integer_decl ss c x = record {
  name = x.name;
  width = 32;
  signed = true;
  left = pos 31;
  right = pos 0;
  words = word_bounds ss x.words;
  class = c;
  output = false;
}

abbrev pub declared_names : List Scope → Class → Shape → List DeclaredName → List Decl
declared_names ss c shape [] = []
declared_names ss c shape (x ∷ xs) = vector ss c false shape x.name x.words ∷ declared_names ss c shape xs

abbrev pub declared_integers : List Scope → Class → List DeclaredName → List Decl
declared_integers ss c [] = []
declared_integers ss c (x ∷ xs) = integer_decl ss c x ∷ declared_integers ss c xs

-- what an item declares in its scope
abbrev pub declared_by : List Scope → Item → List Decl
declared_by ss (declaration attrs p d) =
    declared_names ss (class_of_attributes (class_of_kind d.net) (joined_attributes attrs)) d.shape d.names
declared_by ss (integer attrs p xs) =
    declared_integers ss (class_of_attributes class.Variable (joined_attributes attrs)) xs
declared_by ss x = []

abbrev pub declared : List Scope → Items → List Decl
declared ss no_items = []
declared ss (more_items x xs) = declared_by ss x ++ declared ss xs

-- ---- ports: section 12.3

-- one that is written short takes the direction, kind and shape of the port before it
abbrev pub full_port : Option FullPort → PortKind → Option FullPort
full_port last (port.Full p) = Some p
full_port None (port.Short text value) = None
full_port (Some p) (port.Short text value) = Some (record p { name = text; value = value })

-- where its name stands
abbrev pub kind_name_pos : Pos → PortKind → Pos
kind_name_pos p (port.Full q) = q.name_pos
kind_name_pos p (port.Short text value) = p

abbrev pub port_name_pos : Port → Pos
port_name_pos p = kind_name_pos p.pos p.kind

abbrev pub full_ports : Option FullPort → List Port → List FullPort
full_ports last [] = []
full_ports last (p ∷ ps) = let q = full_port last p.kind in option_to_list q ++ full_ports q ps

abbrev pub ports_of : Option (List Port) → List FullPort
ports_of None = []
ports_of (Some ps) = full_ports None ps

-- an output that isn't a `reg` is a net; what an input stands for depends on the place where the module is used
abbrev pub class_of_port : (List ℕ → Class) → FullPort → Direction → Option NetKind → Class
class_of_port input p direction.Input kind = input p.name
class_of_port input p direction.Output None = class.Net
class_of_port input p direction.Output (Some kind) = class_of_kind kind

abbrev pub is_output : Direction → Bool
is_output direction.Input = false
is_output direction.Output = true

-- only the outputs of the top module count as outputs of the design
abbrev pub port_decl : List Scope → Bool → (List ℕ → Class) → FullPort → Decl
port_decl ss is_top input p =
    vector ss (class_of_port input p p.direction p.net) (is_top && is_output p.direction) p.shape p.name None

abbrev pub declared_ports : List Scope → Bool → (List ℕ → Class) → List FullPort → List Decl
declared_ports ss is_top input ps = map (λ p. port_decl ss is_top input p) ps

abbrev pub port_named : List FullPort → List ℕ → Option FullPort
port_named ps text = find (λ p. bytes_eq text p.name) ps

-- ---- explicitly declared names of a scope, by which the names of generate blocks are chosen: section 12.4.3

abbrev pub is_if : Item → Bool
is_if (if_only attrs p c b) = true
is_if (if_else attrs p c b d) = true
is_if x = false

abbrev pub label_of : Block → Option (List ℕ)
label_of (begin p label xs) = label
label_of (region p xs) = None
label_of (single x) = None

-- the written labels of a generate construct's blocks, chosen or not; an `if` alone in a block of another `if` is
-- directly nested, and its blocks belong to the scope around both
abbrev mutual
  pub labels_of : Item → List (List ℕ)
  labels_of (for_loop attrs p head b) = option_to_list (label_of b)
  labels_of (if_only attrs p c b) = block_labels b
  labels_of (if_else attrs p c b d) = block_labels b ++ block_labels d
  labels_of x = []

  pub block_labels : Block → List (List ℕ)
  block_labels (begin p label xs) = option_to_list label
  block_labels (region p xs) = []
  block_labels (single x) = let inner = labels_of x in if is_if x then inner else []

abbrev pub names_of : Item → List (List ℕ)
names_of (declaration attrs p d) = map (λ x. x.name) d.names
names_of (integer attrs p xs) = map (λ x. x.name) xs
names_of (genvar attrs p xs) = xs
names_of (parameter attrs p kind xs) = map (λ x. x.name) xs
names_of (instance attrs p x) = x.name ∷ []
names_of x = labels_of x

abbrev pub all_names : Items → List (List ℕ)
all_names no_items = []
all_names (more_items x xs) = names_of x ++ all_names xs

-- how many generate constructs an item is to its scope; a mark of a region is none
abbrev pub constructs : Item → ℕ
constructs (for_loop attrs p head b) = 1
constructs (if_only attrs p c b) = 1
constructs (if_else attrs p c b d) = 1
constructs x = 0

-- `genblk`, zeros, and the number
abbrev pub genblk : ℕ → ℕ → List ℕ
genblk zeros n = codes "genblk" ++ replicate zeros 48 ++ decimal n

-- with as few zeros as no explicitly declared name has, of so many names
abbrev pub unused_genblk : ℕ → ℕ → List (List ℕ) → ℕ → List ℕ
unused_genblk zero zeros names n = genblk zeros n
unused_genblk (suc more) zeros names n =
    let next = unused_genblk more (zeros + 1) names n in if contains_name names (genblk zeros n) then next
    else genblk zeros n

-- the name of the blocks without label of construct n of a scope with these names
abbrev pub unlabelled : List (List ℕ) → ℕ → List ℕ
unlabelled names n = unused_genblk (length names) 0 names n

abbrev pub block_name : List (List ℕ) → ℕ → Option (List ℕ) → List ℕ
block_name names n None = unlabelled names n
block_name names n (Some label) = label
