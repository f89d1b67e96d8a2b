-- Meaning: Where the steps of a walk are refused, and why: all refusals of a step. IEEE 1364-2005, sections 3.2, 3.9,
-- 3.11, 12.1 to 12.4; the limits, the clock, and what a memory may be are rules of this project.
use Rattle.std.specs.Prelude.{
  ℕ,
  zero,
  suc,
  List,
  [],
  ◌∷◌,
  ◌++◌,
  map,
  find,
  Bool,
  true,
  false,
  ◌&&◌,
  ◌||◌,
  not,
}
use Rattle.std.specs.Prelude.{is_none, is_some, Option, Some, None, bytes_eq, if◌then◌else◌}
use Rattle.fv_text.specs.declared.pos.Pos.{Pos}
use Rattle.vl_tree.specs.declared.declaration.DeclaredName.{DeclaredName}
use Rattle.vl_tree.specs.declared.declaration.Direction.{Direction}
use Rattle.vl_tree.specs.declared.declaration.Direction.TheVariants as direction
use Rattle.vl_tree.specs.declared.declaration.FullPort.{FullPort}
use Rattle.vl_tree.specs.declared.declaration.NetKind.{NetKind}
use Rattle.vl_tree.specs.declared.declaration.NetKind.TheVariants as net
use Rattle.vl_tree.specs.declared.declaration.Parameter.{Parameter}
use Rattle.vl_tree.specs.declared.declaration.ParameterKind.{ParameterKind}
use Rattle.vl_tree.specs.declared.declaration.ParameterKind.TheVariants as k
use Rattle.vl_tree.specs.declared.declaration.Range.{Range}
use Rattle.vl_tree.specs.declared.part.Assignment.{Assignment}
use Rattle.vl_tree.specs.declared.part.Connection.{Connection}
use Rattle.vl_tree.specs.declared.part.EventKind.{EventKind}
use Rattle.vl_tree.specs.declared.part.EventKind.TheVariants as e
use Rattle.vl_tree.specs.declared.part.Instance.{Instance}
use Rattle.vl_tree.specs.declared.part.LoopHead.{LoopHead}
use Rattle.vl_tree.specs.declared.source.Module.{Module}
use Rattle.vl_tree.specs.Expr.{Expr, whole}
use Rattle.vl_tree.specs.Item.{
  Item,
  Items,
  Block,
  declaration,
  integer,
  genvar,
  parameter,
  assign,
  always,
  initial,
  instance,
  generate,
  for_loop,
  if_only,
  if_else,
  no_items,
  more_items,
  begin,
  region,
  single,
  items,
}
use Rattle.vl_tree.specs.Lval.{Lval, Lvals, named, joined, no_lvals, more_lvals}
use Rattle.vl_size.specs.declared.context.Context.{Context}
use Rattle.vl_size.specs.declared.decl.Class.{Class}
use Rattle.vl_size.specs.declared.decl.Class.TheVariants as class
use Rattle.vl_size.specs.Divisors.{own_context}
use Rattle.vl_size.specs.Size.{size}
use Rattle.vl_mean.specs.declared.const_number.Const.{Const}
use Rattle.vl_mean.specs.Cells.{contains_name}
use Rattle.vl_mean.specs.Declarations.{class_of_attributes, class_of_kind, joined_attributes, ports_of, port_named}
use Rattle.vl_mean.specs.Declarations.{is_if}
use Rattle.vl_mean.specs.Parts.{target_of}
use Rattle.vl_mean.specs.Scopes.{is_clock, is_clock_class}
use Rattle.vl_mean.specs.Walk.{Place, Contents, Use, Step, header, port, item, override, connection, block_step}
use Rattle.vl_mean.specs.Walk.{module_named}
use Rattle.vl_mean.specs.Walk.{Valued}
use Rattle.vl_mean.specs.Walk.{module_parameters, module_scope, module_contents, turn_place, goes_on, next_turn}
use Rattle.vl_mean.specs.Walk.{first_turn, most_turns}
use Rattle.vl_elab_spec.specs.declared.elab_fault.ElabFault.{ElabFault}
use Rattle.vl_elab_spec.specs.declared.elab_fault.ElabFault.TheVariants as f
use Rattle.vl_elab_spec.specs.Expressions.{refused_if, far, too_wide, select_refusals, refusals, own_refusals}
use Rattle.vl_elab_spec.specs.Expressions.{expr_refusals, known}
use Rattle.vl_elab_spec.specs.Meanings.{Meaning, undeclared, loop_variable, object, faulty, shapeless, Names}
use Rattle.vl_elab_spec.specs.Meanings.{meaning_in}
use Rattle.vl_elab_spec.specs.Meanings.{is_known_range, declared_width, is_overridden}
use Rattle.vl_elab_spec.specs.Meanings.{may_have_words, all_meanings, meanings_at, meanings_before}
use Rattle.vl_elab_spec.specs.Meanings.{is_declared_variable, objects}
use Rattle.vl_elab_spec.specs.Statements.{assignment_refusals, assigned_in, stmt_refusals, initial_refusals}
use Rattle.vl_elab_spec.specs.Statements.{target_refusals}

-- ---- names that stand twice

-- each of them behind those before it
abbrev pub twice : List (List ℕ) → List (List ℕ × Pos) → List ElabFault
twice earlier [] = []
twice earlier (n ∷ ns) = refused_if (contains_name earlier n.0) (f.Twice n.0 n.1) ++ twice (earlier ++ n.0 ∷ []) ns

-- one label may stand several times in a construct
abbrev pub labels_twice : List (List ℕ) → List (List ℕ × Pos) → List ElabFault
labels_twice earlier [] = []
labels_twice earlier (n ∷ ns) = refused_if (contains_name earlier n.0) (f.Twice n.0 n.1) ++ labels_twice earlier ns

abbrev pub optional_label : Pos → Option (List ℕ) → List (List ℕ × Pos)
optional_label p None = []
optional_label p (Some text) = (text, p) ∷ []

-- the labels of a generate construct with the places of their blocks, those of directly nested ones too
abbrev mutual
  pub placed_labels : Item → List (List ℕ × Pos)
  placed_labels (for_loop attrs p head (begin q label xs)) = optional_label q label
  placed_labels (if_only attrs p c b) = block_labels b
  placed_labels (if_else attrs p c b d) = block_labels b ++ block_labels d
  placed_labels x = []

  pub block_labels : Block → List (List ℕ × Pos)
  block_labels (begin p label xs) = optional_label p label
  block_labels (region p xs) = []
  block_labels (single x) = let inner = placed_labels x in if is_if x then inner else []

-- ---- declarations

-- a bound is a constant of 32 signed bits
abbrev pub range_refusals : List Names → Option Range → List ElabFault
range_refusals ns None = []
range_refusals ns (Some r) =
    own_refusals ns true r.left ++ own_refusals ns true r.right ++ far ns r.pos r.left ++ far ns r.pos r.right

-- what is declared has 128 bits at most
abbrev pub width_refusals : List Names → Pos → Option Range → List ElabFault
width_refusals ns p r = if is_known_range ns r then too_wide p (Some (declared_width ns r)) else []

-- a parameter's value is assigned to its range, where it has one; one that is given at the instance isn't judged here
abbrev pub value_context : List Names → Option Range → Expr → Context
value_context ns None e = own_context (objects ns) (known ns e)
value_context ns (Some r) e = if is_known_range ns (Some r) then assigned_in ns (Some (declared_width ns (Some r))) e
    else own_context (objects ns) (known ns e)

abbrev pub parameter_refusals : Place → Bool → List (List ℕ) → Parameter → List ElabFault
parameter_refusals at given earlier x =
    let ns = meanings_before at earlier in
    refused_if (contains_name earlier x.name) (f.Twice x.name x.pos)
    ++ range_refusals ns x.shape.range ++ width_refusals ns x.pos x.shape.range
    ++ (if given then [] else expr_refusals ns true (value_context ns x.shape.range x.value) x.value)

-- a parameter of the innermost scope that is given a value at the instance
abbrev pub is_given : List Contents → List ℕ → Bool
is_given [] text = false
is_given (c ∷ cs) text = is_overridden c.overrides text

abbrev pub is_localparam : ParameterKind → Bool
is_localparam k.Localparam = true
is_localparam k.Parameter = false

abbrev pub parameters_refusals : Place → ParameterKind → List (List ℕ) → List Parameter → List ElabFault
parameters_refusals at kind earlier [] = []
parameters_refusals at kind earlier (x ∷ xs) =
    parameter_refusals at (not (is_localparam kind) && is_given at.contents x.name) earlier x
    ++ parameters_refusals at kind (earlier ++ x.name ∷ []) xs

abbrev pub is_net : NetKind → Bool
is_net net.Wire = true
is_net net.Reg = false

-- the value of a net is assigned to it continuously, that of a variable is constant; a name that is free has none
abbrev pub given_value : List Names → Pos → NetKind → List ℕ → Option Expr → List ElabFault
given_value ns p kind text None = []
given_value ns p kind text (Some e) =
    assignment_refusals ns (is_net kind) true (not (is_net kind)) (named p text whole) e

-- that of a memory is judged as one that it can't have
abbrev pub declared_value : List Names → Pos → NetKind → List ℕ → Option Range → Option Expr
    → List ElabFault
declared_value ns p kind text None value = given_value ns p kind text value
declared_value ns p kind text (Some r) None = []
declared_value ns p kind text (Some r) (Some e) = own_refusals ns (not (is_net kind)) e

abbrev pub name_refusals : List Names → NetKind → Class → Option Range → DeclaredName → List ElabFault
name_refusals ns kind c shape x =
    range_refusals ns x.words ++ width_refusals ns x.pos shape
    ++ refused_if (not (may_have_words c x.words x.value)) (f.Range x.pos)
    ++ declared_value ns x.pos kind x.name x.words x.value

abbrev pub names_refusals : List Names → NetKind → Class → Option Range → List DeclaredName → List ElabFault
names_refusals ns kind c shape [] = []
names_refusals ns kind c shape (x ∷ xs) = name_refusals ns kind c shape x ++ names_refusals ns kind c shape xs

abbrev pub placed_names : List DeclaredName → List (List ℕ × Pos)
placed_names xs = map (λ x. (x.name, x.pos)) xs

-- ---- ports

abbrev pub port_net : Option NetKind → NetKind
port_net None = net.Wire
port_net (Some kind) = kind

-- the value of an input counts as an assignment to it
abbrev pub port_refusals : Place → Pos → FullPort → List ElabFault
port_refusals at p q =
    let ns = meanings_at at in
    refused_if (contains_name at.earlier q.name) (f.Twice q.name p) ++ range_refusals ns q.shape.range
    ++ width_refusals ns p q.shape.range
    ++ given_value ns p (port_net q.net) q.name q.value

-- ---- items

abbrev pub assignments_refusals : List Names → List Assignment → List ElabFault
assignments_refusals ns [] = []
assignments_refusals ns (x ∷ xs) =
    assignment_refusals ns true true false x.target x.value ++ assignments_refusals ns xs

-- a block acts at the edge of the clock alone; the event reads its name, so a genvar is unknown there outside its loops
abbrev pub edge_refusals : Pos → List ℕ → Meaning → List ElabFault
edge_refusals p text undeclared = f.Unknown text p ∷ []
edge_refusals p text loop_variable = f.Unknown text p ∷ []
edge_refusals p text faulty = []
edge_refusals p text shapeless = []
edge_refusals p text (object d role scalar) = refused_if (not (is_clock_class d.class)) (f.Clock p)
edge_refusals p text m = f.Clock p ∷ []

abbrev pub event_refusals : List Names → Pos → EventKind → List ElabFault
event_refusals ns p (e.Posedge text) = edge_refusals p text (meaning_in ns text)
event_refusals ns p kind = []

-- ---- generate loops: section 12.4.1

-- a genvar, and none of a loop around
abbrev pub head_name : Pos → List ℕ → Meaning → List ElabFault
head_name p text loop_variable = []
head_name p text undeclared = f.Unknown text p ∷ []
head_name p text m = f.Kind text p ∷ []

-- an assignment to a genvar has 32 bits at least
abbrev pub genvar_refusals : List Names → Expr → List ElabFault
genvar_refusals ns e = expr_refusals ns true (assigned_in ns (Some 32) e) e

abbrev pub are_none : List ElabFault → Bool
are_none [] = true
are_none (g ∷ gs) = false

-- what isn't refused has a value, unless it names a constant that has none, and so has no size
abbrev pub has_value : List Names → Expr → Bool
has_value ns e = is_some (size (objects ns) (known ns e))

abbrev pub is_valued : Valued
is_valued at e = has_value (meanings_at at) e

-- what names mean in the turn with this value
abbrev pub turn_meanings : LoopHead → Place → Const → List Names
turn_meanings head at c = meanings_at (turn_place at head.variable c)

-- The turn with this value begins: its condition holds. What is refused has no value, so no turn begins by it.
abbrev pub begins : LoopHead → Place → Const → Bool
begins head at c =
    let ns = turn_meanings head at c in
    are_none (own_refusals ns true head.condition) && (has_value ns head.condition && goes_on head at.scopes c)

-- and leads to a further one
abbrev pub leads_on : LoopHead → Place → Const → Bool
leads_on head at c =
    let ns = turn_meanings head at c in
    begins head at c && (are_none (genvar_refusals ns head.next) && has_value ns head.next)

-- a turn's condition and, where it begins, its step
abbrev pub turn_refusals : LoopHead → Place → Const → List ElabFault
turn_refusals head at c =
    let ns = turn_meanings head at c in
    own_refusals ns true head.condition ++ (if begins head at c then genvar_refusals ns head.next else [])

-- All turns from this value on, with so many to come: a turn that begins behind the last one is refused.
abbrev pub turns_refusals : ℕ → LoopHead → Place → Pos → Const → List ElabFault
turns_refusals zero head at p c =
    own_refusals (turn_meanings head at c) true head.condition ++ refused_if (begins head at c) (f.GenLoop p)
turns_refusals (suc n) head at p c =
    let more = turns_refusals n head at p (next_turn head at.scopes c) in
    turn_refusals head at c ++ (if leads_on head at c then more else [])

-- a variable without a value
abbrev pub without_value : List ℕ → List Names → List Names
without_value text ns = ((text, faulty) ∷ []) ∷ ns

-- where no turn begins the step is judged once, with the start's value
abbrev pub idle_refusals : LoopHead → Place → Const → List ElabFault
idle_refusals head at c = if begins head at c then [] else genvar_refusals (turn_meanings head at c) head.next

-- behind a start that has no value
abbrev pub without_start : LoopHead → List Names → List ElabFault
without_start head ns =
    let inside = without_value head.variable ns in
    own_refusals inside true head.condition ++ genvar_refusals inside head.next

abbrev pub begun_refusals : LoopHead → Place → Pos → Const → List ElabFault
begun_refusals head at p c = idle_refusals head at c ++ turns_refusals most_turns head at p c

abbrev pub is_unknown : ElabFault → Bool
is_unknown (f.Unknown text p) = true
is_unknown g = false

abbrev pub unknown_names : List ElabFault → List ElabFault
unknown_names [] = []
unknown_names (g ∷ gs) = let more = unknown_names gs in if is_unknown g then g ∷ more else more

-- a loop over what is no genvar of its own is judged for its names alone; its start value stands outside of it
abbrev pub head_refusals : Place → Pos → LoopHead → Meaning → List ElabFault
head_refusals at p head loop_variable =
    let start = genvar_refusals (meanings_at at) head.start in
    let starts = are_none start && has_value (meanings_at at) head.start in
    start ++ (if starts then begun_refusals head at p (first_turn head at.scopes)
    else without_start head (meanings_at at))
head_refusals at p head undeclared = f.Unknown head.variable p ∷ []
head_refusals at p head m =
    let ns = meanings_at at in
    f.Kind head.variable p ∷ unknown_names (refusals ns true head.start ++ refusals ns true head.condition
    ++ refusals ns true head.next)

-- ---- instances

abbrev pub instance_refusals : List Module → Place → Pos → Instance → List ElabFault
instance_refusals ms at p x =
    refused_if (is_none (module_named ms x.definition)) (f.NoModule x.definition)
    ++ refused_if (contains_name at.earlier x.name) (f.Twice x.name p)
    ++ refused_if (contains_name at.modules x.definition) (f.Recursive at.modules)

abbrev pub item_refusals : List Module → Place → Item → List ElabFault
item_refusals ms at (declaration attrs p d) =
    let ns = meanings_at at in
    twice at.earlier (placed_names d.names) ++ range_refusals ns d.shape.range
    ++ names_refusals ns d.net (class_of_attributes (class_of_kind d.net)
    (joined_attributes attrs)) d.shape.range d.names
item_refusals ms at (integer attrs p xs) =
    twice at.earlier (placed_names xs)
    ++ names_refusals (meanings_at at) net.Reg (class_of_attributes class.Variable (joined_attributes attrs)) None xs
item_refusals ms at (genvar attrs p xs) = twice at.earlier (map (λ text. (text, p)) xs)
item_refusals ms at (parameter attrs p kind xs) = parameters_refusals at kind at.earlier xs
item_refusals ms at (assign attrs p xs) = assignments_refusals (meanings_at at) xs
item_refusals ms at (always attrs p event s) =
    event_refusals (meanings_at at) event.pos event.kind ++ stmt_refusals (meanings_at at) s
item_refusals ms at (initial attrs p s) = initial_refusals (meanings_at at) s
item_refusals ms at (instance attrs p x) = instance_refusals ms at p x
item_refusals ms at (generate attrs p mark) = []
item_refusals ms at (for_loop attrs p head b) =
    labels_twice at.earlier (placed_labels (for_loop attrs p head b))
    ++ head_refusals at p head (meaning_in (meanings_at at) head.variable)
item_refusals ms at (if_only attrs p c b) =
    labels_twice at.earlier (placed_labels (if_only attrs p c b)) ++ own_refusals (meanings_at at) true c
item_refusals ms at (if_else attrs p c b d) =
    labels_twice at.earlier (placed_labels (if_else attrs p c b d)) ++ own_refusals (meanings_at at) true c

-- ---- what an instance gives and joins: sections 12.2.2 and 12.3.6

-- what names mean in the module
abbrev pub inner_meanings : Module → Use → List Names
inner_meanings m u = all_meanings (module_scope m u [] ∷ []) (module_contents m u ∷ [])

abbrev pub parameter_named : List Parameter → List ℕ → Option Parameter
parameter_named xs text = find (λ x. bytes_eq text x.name) xs

-- those that may be given a value
abbrev pub items_parameters : Items → List Parameter
items_parameters no_items = []
items_parameters (more_items (parameter attrs p k.Parameter xs) more) = xs ++ items_parameters more
items_parameters (more_items x more) = items_parameters more

abbrev pub given_parameter : Module → List ℕ → Option Parameter
given_parameter m text = parameter_named (module_parameters m ++ items_parameters (items m.items)) text

-- a value that is given has the context that it has as an assignment to the parameter
abbrev pub given_context : List Names → List Names → Option Range → Expr → Context
given_context ns inner None e = own_context (objects ns) (known ns e)
given_context ns inner (Some r) e =
    if is_known_range inner (Some r) then assigned_in ns (Some (declared_width inner (Some r))) e
    else own_context (objects ns) (known ns e)

abbrev pub override_value : List Names → List Names → Option Parameter → Option Expr → List ElabFault
override_value ns inner y None = []
override_value ns inner None (Some e) = refusals ns true e
override_value ns inner (Some x) (Some e) = expr_refusals ns true (given_context ns inner x.shape.range e) e

abbrev pub override_refusals : Place → Module → Use → List (List ℕ) → Connection → List ElabFault
override_refusals at m u given x =
    let y = given_parameter m x.port in
    refused_if (contains_name given x.port) (f.Twice x.port x.pos) ++ refused_if (is_none y) (f.Param x.port x.pos)
    ++ override_value (meanings_at at) (inner_meanings m u) y x.value

-- what an output may be joined to by name, as far as it may be assigned at all: no variable, also none with `anyseq`
abbrev pub is_net_name : Meaning → Bool
is_net_name (object d role scalar) = not (is_declared_variable role)
is_net_name faulty = true
is_net_name shapeless = true
is_net_name m = false

abbrev pub varies_by : List ElabFault → Bool
varies_by [] = false
varies_by (f.NotConstant p ∷ gs) = true
varies_by (g ∷ gs) = varies_by gs

-- a net by itself, a constant part of one, or such joined
abbrev mutual
  pub is_net_target : List Names → Lval → Bool
  is_net_target ns (named p text ss) = is_net_name (meaning_in ns text) && not (varies_by (select_refusals ns true ss))
  is_net_target ns (joined p ls) = are_net_targets ns ls

  pub are_net_targets : List Names → Lvals → Bool
  are_net_targets ns no_lvals = true
  are_net_targets ns (more_lvals l ls) = is_net_target ns l && are_net_targets ns ls

abbrev pub output_target : List Names → List ℕ → Pos → Expr → Option Lval → List ElabFault
output_target ns text p e None = refusals ns false e ++ f.Port text p ∷ []
output_target ns text p e (Some l) =
    refused_if (not (is_net_target ns l)) (f.Port text p) ++ target_refusals ns true true l

abbrev pub object_width : Meaning → Option ℕ
object_width (object d role scalar) = Some d.width
object_width m = None

-- an equation with the port
abbrev pub joined_context : List Names → Option ℕ → Expr → Context
joined_context ns None e = own_context (objects ns) (known ns e)
joined_context ns (Some w) e = assigned_in ns (Some w) e

abbrev pub joined_value : Place → List Names → List Names → FullPort → Direction → Connection → Expr
    → List ElabFault
joined_value at ns inner q direction.Input x e =
    if is_clock at.scopes (Some e) then [] else expr_refusals ns false
    (joined_context ns (object_width (meaning_in inner q.name)) e) e
joined_value at ns inner q direction.Output x e = output_target ns x.port x.pos e (target_of e)

abbrev pub joined_refusals : Place → List Names → List Names → Option FullPort → Connection → Option Expr
    → List ElabFault
joined_refusals at ns inner None x None = f.Port x.port x.pos ∷ []
joined_refusals at ns inner None x (Some e) = refusals ns false e ++ f.Port x.port x.pos ∷ []
joined_refusals at ns inner (Some q) x None = []
joined_refusals at ns inner (Some q) x (Some e) = joined_value at ns inner q q.direction x e

abbrev pub connection_refusals : Place → Module → Use → List (List ℕ) → Connection → List ElabFault
connection_refusals at m u given x =
    refused_if (contains_name given x.port) (f.Twice x.port x.pos)
    ++ joined_refusals at (meanings_at at) (inner_meanings m u) (port_named (ports_of m.ports) x.port) x x.value

-- ---- a step

abbrev pub step_refusals : List Module → Step → List ElabFault
step_refusals ms (header at x) = parameter_refusals at (is_given at.contents x.name) at.earlier x
step_refusals ms (port at u p q) = port_refusals at p.pos q
step_refusals ms (item at x) = item_refusals ms at x
step_refusals ms (override at m u given x) = override_refusals at m u given x
step_refusals ms (connection at m u inside given x) = connection_refusals at m u given x
step_refusals ms (block_step at b) = []
