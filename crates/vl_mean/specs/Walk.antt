-- Meaning: The walk through a design: each step with the place where it stands. Instances are unfolded, each turn of a
-- loop is taken, and of an `if` the chosen block. What a step means is in `Parts`, and where it is refused is asked of
-- the same steps. IEEE 1364-2005, section 12; the order of the steps is that of the text, and an instance's module
-- stands behind its overrides and its connections.
use Rattle.std.specs.Prelude.{
  ℕ,
  zero,
  suc,
  ◌+◌,
  max,
  List,
  [],
  ◌∷◌,
  ◌++◌,
  map,
  find,
  length,
  codes,
  Bool,
  true,
  ◌&&◌,
}
use Rattle.std.specs.Prelude.{false, Option, Some, None, bytes_eq, if◌then◌else◌}
use Rattle.std.specs.Fmt.{signed_decimal}
use Rattle.vl_tree.specs.declared.declaration.FullPort.{FullPort}
use Rattle.vl_tree.specs.declared.declaration.HeaderParameter.{HeaderParameter}
use Rattle.vl_tree.specs.declared.declaration.Parameter.{Parameter}
use Rattle.vl_tree.specs.declared.declaration.Port.{Port}
use Rattle.vl_tree.specs.declared.part.Connection.{Connection}
use Rattle.vl_tree.specs.declared.part.Instance.{Instance}
use Rattle.vl_tree.specs.declared.part.LoopHead.{LoopHead}
use Rattle.vl_tree.specs.declared.source.Module.{Module}
use Rattle.vl_tree.specs.Expr.{Expr}
use Rattle.vl_tree.specs.Item.{
  Item,
  Items,
  Block,
  declaration,
  integer,
  genvar,
  parameter,
  assign,
  always,
  initial,
  instance,
  generate,
  for_loop,
  if_only,
  if_else,
  no_items,
  more_items,
  begin,
  region,
  single,
  items,
}
use Rattle.fv_bits.specs.Bits.{as_int}
use Rattle.vl_size.specs.declared.decl.Class.{Class}
use Rattle.vl_size.specs.declared.decl.Class.TheVariants as class
use Rattle.vl_size.specs.Size.{Operand, is_true}
use Rattle.vl_mean.specs.declared.const_number.Const.{Const}
use Rattle.vl_mean.specs.Constants.{Constants, cut_to, constant_operand}
use Rattle.vl_mean.specs.Scopes.{Scope, constant_in, is_clock}
use Rattle.vl_mean.specs.Declarations.{Overrides, with_constants, with_parameters, with_items_parameters}
use Rattle.vl_mean.specs.Declarations.{header_parameters, declared, declared_ports, full_port, ports_of, is_if}
use Rattle.vl_mean.specs.Declarations.{label_of, names_of, all_names, constructs, block_name}

-- ---- where steps stand

-- what a scope is made from: what is given to its parameters, the parameters of a module's head, its ports, and items;
-- and of the names of the scope around those that are declared before it
pub record Contents : Type 0 where
  pub overrides : Overrides
  pub parameters : List Parameter
  pub ports : List FullPort
  pub items : Items
  pub earlier : List (List ℕ)

-- items alone
abbrev pub items_contents : List (List ℕ) → Items → Contents
items_contents earlier xs = record { overrides = []; parameters = []; ports = []; items = xs; earlier = earlier }

-- a loop's variable alone
abbrev pub no_contents : List (List ℕ) → Contents
no_contents earlier = items_contents earlier no_items

-- The scopes over which the bounds in its declarations are read; the scopes in which all else is, the innermost
-- first, with what each is made from. Of the innermost: its path, the names that are explicitly declared in it, and
-- those that are declared before the step. And the modules that the step stands in, the top one first.
pub record Place : Type 0 where
  pub around : List Scope
  pub scopes : List Scope
  pub contents : List Contents
  pub path : List ℕ
  pub names : List (List ℕ)
  pub earlier : List (List ℕ)
  pub modules : List (List ℕ)

-- with these names declared before it too
abbrev pub with_earlier : Place → List (List ℕ) → Place
with_earlier at names = record at { earlier = at.earlier ++ names }

-- how a module is used: at the top or not, with which parameters, and what its inputs stand for
pub record Use : Type 0 where
  pub is_top : Bool
  pub overrides : Overrides
  pub input : List ℕ → Class

pub data Step : Type 0 where
  -- a parameter of a module's head
  header : Place → Parameter → Step
  -- a port of a module that is used so, as it is written, and with all that it takes from the port before it
  port : Place → Use → Port → FullPort → Step
  -- an item by itself: of a loop its head, of an `if` its condition, of an instance what it names
  item : Place → Item → Step
  -- what an instance gives to a parameter of its module, which is used so, behind what it gives to these
  override : Place → Module → Use → List (List ℕ) → Connection → Step
  -- what an instance joins to a port of its module, which is used so and has these scopes, behind what it joins to
  -- these
  connection : Place → Module → Use → List Scope → List (List ℕ) → Connection → Step
  -- a block of a generate construct by itself: of a loop in its turn, of an `if` where the `if` stands
  block_step : Place → Block → Step

-- Whether an expression has a value at a place. In the meaning of a design each has one; what has none chooses no block
-- of an `if`, begins no turn of a loop and gives a parameter no value.
abbrev pub Valued : Type 0
Valued = Place → Expr → Bool

abbrev pub has_any : Expr → Bool
has_any e = true

abbrev pub all_valued : Valued
all_valued at = has_any

-- ---- modules: sections 12.1 to 12.3

abbrev pub module_named : List Module → List ℕ → Option Module
module_named ms text = find (λ m. bytes_eq text m.name) ms

abbrev pub header_of : Option (List HeaderParameter) → List HeaderParameter
header_of None = []
header_of (Some xs) = xs

abbrev pub module_parameters : Module → List Parameter
module_parameters m = header_parameters (header_of m.parameters)

abbrev pub written_ports : Option (List Port) → List Port
written_ports None = []
written_ports (Some ps) = ps

abbrev pub parameter_names : List Parameter → List (List ℕ)
parameter_names xs = map (λ x. x.name) xs

abbrev pub port_names : List FullPort → List (List ℕ)
port_names ps = map (λ p. p.name) ps

-- the constants of a module's instance
abbrev pub module_constants : Module → Use → Constants
module_constants m u =
    let first = with_parameters u.overrides [] [] (module_parameters m)
    in with_items_parameters u.overrides [] first (items m.items)

-- over which its bounds are read
abbrev pub module_around : Module → Use → List Scope
module_around m u = with_constants (module_constants m u) []

-- the scope of a module's instance
abbrev pub module_scope : Module → Use → List ℕ → Scope
module_scope m u path =
    let ss = module_around m u in record {
      path = path;
      decls = declared_ports ss u.is_top u.input (ports_of m.ports) ++ declared ss (items m.items);
      constants = module_constants m u;
    }

abbrev pub module_names : Module → List (List ℕ)
module_names m = parameter_names (module_parameters m) ++ port_names (ports_of m.ports) ++ all_names (items m.items)

abbrev pub module_contents : Module → Use → Contents
module_contents m u = record {
  overrides = u.overrides;
  parameters = module_parameters m;
  ports = ports_of m.ports;
  items = items m.items;
  earlier = [];
}

-- where a module's parts begin
abbrev pub module_place : Module → Use → List ℕ → List (List ℕ) → Place
module_place m u path modules = record {
  around = module_around m u;
  scopes = module_scope m u path ∷ [];
  contents = module_contents m u ∷ [];
  path = path;
  names = module_names m;
  earlier = [];
  modules = modules ++ m.name ∷ [];
}

abbrev pub header_steps : Place → List Parameter → List Step
header_steps at [] = []
header_steps at (x ∷ xs) = header at x ∷ header_steps (with_earlier at (x.name ∷ [])) xs

abbrev pub port_step : Place → Use → Port → Option FullPort → List Step
port_step at u p None = []
port_step at u p (Some q) = port at u p q ∷ []

abbrev pub optional_name : Option FullPort → List (List ℕ)
optional_name None = []
optional_name (Some p) = p.name ∷ []

-- behind a port that is written so
abbrev pub port_steps : Place → Use → Option FullPort → List Port → List Step
port_steps at u last [] = []
port_steps at u last (p ∷ ps) =
    let q = full_port last p.kind in port_step at u p q ++ port_steps (with_earlier at (optional_name q)) u q ps

-- ---- instances: sections 12.1.2, 12.2.2 and 12.3.6

abbrev pub connections_of : Option (List Connection) → List Connection
connections_of None = []
connections_of (Some xs) = xs

abbrev pub connected : List Connection → List ℕ → Option Expr
connected [] text = None
connected (x ∷ xs) text = if bytes_eq text x.port then x.value else connected xs text

-- an input that is joined to the clock is the clock, and each other one a net
abbrev pub class_by_connection : List Scope → List Connection → List ℕ → Class
class_by_connection ss xs text = if is_clock ss (connected xs text) then class.Clock else class.Net

-- a parameter given as `.P()` keeps its value
abbrev pub override_of : (Expr → Bool) → List Scope → List ℕ → Option Expr → Overrides
override_of has_value ss text None = []
override_of has_value ss text (Some e) =
    record { name = text; operand = constant_operand (constant_in ss) e; has_value = has_value e } ∷ []

abbrev pub overrides_of : (Expr → Bool) → List Scope → List Connection → Overrides
overrides_of has_value ss [] = []
overrides_of has_value ss (x ∷ xs) = override_of has_value ss x.port x.value ++ overrides_of has_value ss xs

-- in these scopes, where these expressions have values
abbrev pub use_of : (Expr → Bool) → List Scope → Instance → Use
use_of has_value ss x = record {
  is_top = false;
  overrides = overrides_of has_value ss (connections_of x.overrides);
  input = class_by_connection ss x.connections;
}

abbrev pub override_steps : Place → Module → Use → List (List ℕ) → List Connection → List Step
override_steps at m u given [] = []
override_steps at m u given (x ∷ xs) = override at m u given x ∷ override_steps at m u (given ++ x.port ∷ []) xs

abbrev pub connection_steps : Place → Module → Use → List Scope → List (List ℕ) → List Connection → List Step
connection_steps at m u inside given [] = []
connection_steps at m u inside given (x ∷ xs) =
    connection at m u inside given x ∷ connection_steps at m u inside (given ++ x.port ∷ []) xs

-- the steps of a module where it is used so, under a path, within modules, behind the steps of its instance
abbrev pub Unfolding : Type 0
Unfolding = Module → Use → List ℕ → List (List ℕ) → List Step → List Step

abbrev pub with_module : Option Module → (Module → List Step) → List Step
with_module None f = []
with_module (Some m) f = f m

abbrev pub instance_steps : Valued → List Module → Unfolding → Place → Instance → List Step
instance_steps valued ms inner at x =
    let u = use_of (valued at) at.scopes x in let inside = at.path ++ x.name ++ codes "." in
    with_module (module_named ms x.definition) (λ m.
    inner m u inside at.modules
    (override_steps at m u [] (connections_of x.overrides)
    ++ connection_steps at m u (module_scope m u inside ∷ []) [] x.connections))

-- ---- generate constructs: section 12.4

-- a value assigned to a genvar
abbrev pub genvar_value : Operand → Const
genvar_value x = cut_to 32 true (x.at (max 32 x.size) x.sign)

-- the scopes around a turn of a loop
abbrev pub with_genvar : List ℕ → Const → List Scope → List Scope
with_genvar text c ss = with_constants ((text, c) ∷ []) ss

abbrev pub turn_place : Place → List ℕ → Const → Place
turn_place at text c =
    record at { scopes = with_genvar text c at.scopes; contents = no_contents at.earlier ∷ at.contents }

-- a generate loop has at most so many turns; a rule of this project
abbrev pub most_turns : ℕ
most_turns = 4096

-- each turn while the condition holds, at most so many
abbrev pub turns : ℕ → (Const → Bool) → (Const → Const) → (Const → List Step) → Const → List Step
turns zero goes next body c = []
turns (suc n) goes next body c = let more = turns n goes next body (next c) in if goes c then body c ++ more else []

abbrev pub goes_on : LoopHead → List Scope → Const → Bool
goes_on head ss c = is_true (constant_operand (constant_in (with_genvar head.variable c ss)) head.condition)

abbrev pub next_turn : LoopHead → List Scope → Const → Const
next_turn head ss c = genvar_value (constant_operand (constant_in (with_genvar head.variable c ss)) head.next)

abbrev pub first_turn : LoopHead → List Scope → Const
first_turn head ss = genvar_value (constant_operand (constant_in ss) head.start)

abbrev pub loop_turns : LoopHead → List Scope → (Const → List Step) → List Step
loop_turns head ss body = turns most_turns (goes_on head ss) (next_turn head ss) body (first_turn head ss)

-- at most so many; none where the start or the condition has no value, and one where the step has none
abbrev pub turn_limit : Valued → LoopHead → Place → ℕ
turn_limit valued head at =
    let inside = turn_place at head.variable (first_turn head at.scopes) in
    let most = if valued inside head.next then most_turns else 1 in
    if valued at head.start && valued inside head.condition then most else 0

abbrev pub loop_walk : Valued → LoopHead → Place → (Const → List Step) → List Step
loop_walk valued head at body =
    turns (turn_limit valued head at) (goes_on head at.scopes) (next_turn head at.scopes) body
    (first_turn head at.scopes)

abbrev pub turn_path : List ℕ → List ℕ → Const → List ℕ
turn_path path label c = path ++ label ++ codes "[" ++ signed_decimal (as_int c.width c.signed c.value) ++ codes "]."

-- a block with these items makes a scope
abbrev pub block_place : Place → List ℕ → Items → Place
block_place at path xs =
    let cs = with_items_parameters [] at.scopes [] xs in record {
      around = with_constants cs at.scopes;
      scopes = record { path = path; decls = declared (with_constants cs at.scopes) xs; constants = cs } ∷ at.scopes;
      contents = items_contents at.earlier xs ∷ at.contents;
      path = path;
      names = all_names xs;
      earlier = [];
      modules = at.modules;
    }

abbrev pub block_path : Place → List ℕ → List ℕ
block_path at label = at.path ++ label ++ codes "."

-- an `if` alone in a block of another `if` makes no scope
abbrev pub single_place : Place → ℕ → Item → Place
single_place at n x =
    let inside = block_place at (block_path at (block_name at.names n None)) (more_items x no_items)
    in if is_if x then at else inside

abbrev pub single_number : ℕ → Item → ℕ
single_number n x = if is_if x then n else 1

module _ (valued : Valued) (ms : List Module) (inner : Unfolding) where
  abbrev mutual
    -- an item in its place; n numbers the generate constructs of the scope
    pub item_walk : Item → Place → ℕ → List Step
    item_walk (declaration attrs p d) at n = item at (declaration attrs p d) ∷ []
    item_walk (integer attrs p xs) at n = item at (integer attrs p xs) ∷ []
    item_walk (genvar attrs p xs) at n = item at (genvar attrs p xs) ∷ []
    item_walk (parameter attrs p kind xs) at n = item at (parameter attrs p kind xs) ∷ []
    item_walk (assign attrs p xs) at n = item at (assign attrs p xs) ∷ []
    item_walk (always attrs p event s) at n = item at (always attrs p event s) ∷ []
    item_walk (initial attrs p s) at n = item at (initial attrs p s) ∷ []
    item_walk (instance attrs p x) at n = item at (instance attrs p x) ∷ instance_steps valued ms inner at x
    item_walk (generate attrs p mark) at n = item at (generate attrs p mark) ∷ []
    item_walk (for_loop attrs p head b) at n =
        let label = block_name at.names n (label_of b) in
        item at (for_loop attrs p head b)
        ∷ loop_walk valued head at (λ c. turn_walk b (turn_place at head.variable c) (turn_path at.path label c))
    item_walk (if_only attrs p c b) at n =
        let block = block_walk b at n in
        let chosen = if is_true (constant_operand (constant_in at.scopes) c) then block else [] in
        item at (if_only attrs p c b) ∷ (if valued at c then chosen else [])
    item_walk (if_else attrs p c b d) at n =
        let first = block_walk b at n in let second = block_walk d at n in
        let chosen = if is_true (constant_operand (constant_in at.scopes) c) then first else second in
        item at (if_else attrs p c b d) ∷ (if valued at c then chosen else [])

    pub items_walk : Items → Place → ℕ → List Step
    items_walk no_items at n = []
    items_walk (more_items x xs) at n =
        item_walk x at n ++ items_walk xs (with_earlier at (names_of x)) (n + constructs x)

    -- a turn of a loop
    pub turn_walk : Block → Place → List ℕ → List Step
    turn_walk (begin p label xs) at path = block_step at (begin p label xs) ∷ items_walk xs (block_place at path xs) 1
    turn_walk (region p xs) at path = block_step at (region p xs) ∷ items_walk xs (block_place at path xs) 1
    turn_walk (single x) at path =
        block_step at (single x) ∷ item_walk x (block_place at path (more_items x no_items)) 1

    -- the chosen block of an `if`
    pub block_walk : Block → Place → ℕ → List Step
    block_walk (begin p label xs) at n =
        block_step at (begin p label xs)
        ∷ items_walk xs (block_place at (block_path at (block_name at.names n label)) xs) 1
    block_walk (region p xs) at n =
        block_step at (region p xs) ∷ items_walk xs (block_place at (block_path at (block_name at.names n None)) xs) 1
    block_walk (single x) at n = block_step at (single x) ∷ item_walk x (single_place at n x) (single_number n x)

-- ---- the whole

-- with instances no deeper than the number: a deeper one drops what its instance gives and joins to it
abbrev pub module_walk : Valued → ℕ → List Module → Unfolding
module_walk valued zero ms m u path modules front = []
module_walk valued (suc n) ms m u path modules front =
    let at = module_place m u path modules in let parameters = parameter_names (module_parameters m) in
    front ++ header_steps at (module_parameters m)
    ++ port_steps (with_earlier at parameters) u None (written_ports m.ports)
    ++ items_walk valued ms (λ m u path modules front. module_walk valued n ms m u path modules front) (items m.items)
    (with_earlier at (parameters ++ port_names (ports_of m.ports))) 1

-- an input of the top module is the clock, the reset, or free
abbrev pub top_input : List ℕ → Class
top_input text = if bytes_eq text (codes "clock") then class.Clock
    else if bytes_eq text (codes "reset") then class.Reset else class.Input

-- all steps of the design with this top module, in the order of the text; no instance stands within its own module,
-- so they are no deeper than there are modules
abbrev pub walk_by : Valued → List Module → List ℕ → List Step
walk_by valued ms top =
    with_module (module_named ms top) (λ m.
    module_walk valued (length ms) ms m (record { is_top = true; overrides = []; input = top_input }) [] [] [])

-- ---- where each expression has a value

module _ (ms : List Module) (inner : Unfolding) where
  abbrev pub item_steps : Item → Place → ℕ → List Step
  item_steps = item_walk all_valued ms inner

  abbrev pub items_steps : Items → Place → ℕ → List Step
  items_steps = items_walk all_valued ms inner

  abbrev pub turn_steps : Block → Place → List ℕ → List Step
  turn_steps = turn_walk all_valued ms inner

  abbrev pub block_steps : Block → Place → ℕ → List Step
  block_steps = block_walk all_valued ms inner

abbrev pub unfolded : ℕ → List Module → Unfolding
unfolded = module_walk all_valued

abbrev pub walk : List Module → List ℕ → List Step
walk = walk_by all_valued
