-- Between functions: Small designs that are refused, one for each refusal and for each place where their order counts.
-- Rule of this project.
use Rattle.std.specs.Prelude.{ℕ, List, [], ◌∷◌, true, false, Option, Some, None, ℤ, pos, codes}
use Rattle.fv_text.specs.declared.pos.Pos.{Pos}
use Rattle.vl_tree.specs.declared.declaration.NetKind.{NetKind}
use Rattle.vl_tree.specs.declared.declaration.NetKind.TheVariants as net
use Rattle.vl_tree.specs.declared.declaration.ParameterKind.{ParameterKind}
use Rattle.vl_tree.specs.declared.declaration.ParameterKind.TheVariants as k
use Rattle.vl_tree.specs.declared.declaration.Shape.{Shape}
use Rattle.vl_tree.specs.declared.operator.BinaryOperator.TheVariants as b
use Rattle.vl_tree.specs.declared.part.LoopHead.{LoopHead}
use Rattle.vl_tree.specs.declared.source.Module.{Module}
use Rattle.vl_tree.specs.Expr.{Expr, name, binary, concat, none, more, whole, bit, part}
use Rattle.vl_tree.specs.Item.{Item, Block, declaration, genvar, parameter, assign, instance, if_only, if_else}
use Rattle.vl_tree.specs.Item.{begin, no_items}
use Rattle.vl_tree.specs.Lval.{named}
use Rattle.vl_size.specs.declared.decl.Class.TheVariants as class
use Rattle.vl_mean_examples.specs.DesignExamples.{used, range}
use Rattle.vl_mean_examples.specs.Examples.{literal, decimal, scalar, bits, input, vector_input, output, declares_name}
use Rattle.vl_mean_examples.specs.Examples.{at_clock, at_any_change, later, now, plus, connection, assigns, module_of, loop}
use Rattle.vl_mean.specs.Parts.{Part, declares, here, plain, plain_target}

-- `[q:0]`
abbrev up_to : List ℕ → Shape
up_to text = record { signed = false; range = Some (record { pos = here; left = plain text; right = decimal 0 }) }

-- with an output `o`, and with inputs `clock` and `a`
abbrev pub top : List Item → List Module
top xs = module_of (codes "top") (input (codes "clock") ∷ input (codes "a") ∷ output scalar (codes "o") ∷ []) xs
    ∷ []

abbrev definition : ParameterKind → List ℕ → Expr → Item
definition kind text e = parameter [] here kind (record { pos = here; shape = scalar; name = text; value = e } ∷ [])

abbrev gives : Expr → List Item
gives e = assigns (codes "o") e ∷ []

-- `assign o = x;`
abbrev pub unknown : List Module
unknown = top (gives (plain (codes "x")))

-- `wire w; always @* w = a;`
abbrev pub net_in_a_block : List Module
net_in_a_block =
    top (declares_name net.Wire scalar (codes "w") None
    ∷ at_any_change (now (plain_target (codes "w")) (plain (codes "a"))) ∷ gives (plain (codes "a")))

-- `assign a = o;`
abbrev pub assigned_input : List Module
assigned_input = top (assigns (codes "a") (plain (codes "o")) ∷ [])

-- `assign o = x[1:3]; wire q; wire [q:0] x;`: the select isn't refused before the declaration is
abbrev pub bound_that_varies : List Module
bound_that_varies =
    top (assigns (codes "o") (name here (codes "x") (part here (decimal 1) (decimal 3) whole))
    ∷ declares_name net.Wire scalar (codes "q") None
    ∷ declares_name net.Wire (up_to (codes "q")) (codes "x") None ∷ [])

-- `wire [w:0] w; assign o = w;`: a net is no constant, also where its own shape isn't known
abbrev pub net_of_its_own_width : List Module
net_of_its_own_width = top (declares_name net.Wire (up_to (codes "w")) (codes "w") None ∷ gives (plain (codes "w")))

-- `assign o = a[0];`
abbrev pub selected_scalar : List Module
selected_scalar = top (gives (name here (codes "a") (bit here (decimal 0) whole)))

-- `wire w; reg w;`
abbrev pub declared_twice : List Module
declared_twice =
    top (declares_name net.Wire scalar (codes "w") None ∷ declares_name net.Reg scalar (codes "w") None ∷ [])

-- `assign o = clock;`
abbrev pub clock_that_is_read : List Module
clock_that_is_read = top (gives (plain (codes "clock")))

-- `localparam P = Q, Q = 1;`
abbrev pub later_parameter : List Module
later_parameter = top (definition k.Localparam (codes "P") (plain (codes "Q"))
    ∷ definition k.Localparam (codes "Q") (decimal 1) ∷ [])

-- `assign o = 8'd200 / (8'd1 - 8'd3 / 8'd2);`
abbrev pub zero_divisor : List Module
zero_divisor =
    top (gives (binary here b.Divide (literal 8 200)
    (binary here b.Subtract (literal 8 1) (binary here b.Divide (literal 8 3) (literal 8 2)))))

-- `wire [8:0] w = 8'd200 / (8'd255 + 8'd1);` divides by 256
abbrev pub divisor_of_nine_bits : List Module
divisor_of_nine_bits =
    top (declares_name net.Wire (bits 8) (codes "w")
    (Some (binary here b.Divide (literal 8 200) (plus (literal 8 255) (literal 8 1)))) ∷ [])

-- `assign o = {128'd0, 1'd0};`
abbrev pub wide_concatenation : List Module
wide_concatenation = top (gives (concat here (more (literal 128 0) (more (literal 1 0) none))))

-- `wire [128:0] w = 0;`
abbrev pub wide_net : List Module
wide_net = top (declares_name net.Wire (bits 128) (codes "w") (Some (decimal 0)) ∷ [])

-- `wire [127:0] w = 0;`
abbrev pub widest_net : List Module
widest_net = top (declares_name net.Wire (bits 127) (codes "w") (Some (decimal 0)) ∷ [])

-- `missing u();` and an instance of the module itself
abbrev pub missing_module : List Module
missing_module = top (used (codes "missing") (codes "u") [] ∷ [])

abbrev pub own_instance : List Module
own_instance = top (used (codes "top") (codes "u") [] ∷ [])

-- `inner u(.p(a));`, which has no such port, and `inner u(.y(o & o));`, whose `y` is an output
abbrev inner : Module
inner = module_of (codes "inner") (output scalar (codes "y") ∷ [])
    (assigns (codes "y") (decimal 1) ∷ definition k.Localparam (codes "L") (decimal 1) ∷ [])

abbrev with_inner : List Module → List Module
with_inner (m ∷ ms) = m ∷ inner ∷ ms
with_inner [] = []

abbrev pub no_port : List Module
no_port = with_inner (top (used (codes "inner") (codes "u") (connection (codes "p") (plain (codes "a")) ∷ []) ∷ []))

abbrev pub no_net : List Module
no_net =
    with_inner (top (used (codes "inner") (codes "u")
    (connection (codes "y") (binary here b.BitwiseAnd (plain (codes "o")) (plain (codes "o"))) ∷ []) ∷ []))

-- `inner u(.p(x));` and `inner #(.Q(x)) u();`, which have no such port, no such parameter, and no `x`
abbrev pub no_port_and_no_name : List Module
no_port_and_no_name =
    with_inner (top (used (codes "inner") (codes "u") (connection (codes "p") (plain (codes "x")) ∷ []) ∷ []))

abbrev pub no_parameter_and_no_name : List Module
no_parameter_and_no_name =
    with_inner (top (instance [] here (record {
      definition = codes "inner";
      overrides = Some (connection (codes "Q") (plain (codes "x")) ∷ []);
      name = codes "u";
      connections = [];
    }) ∷ []))

-- `localparam [0:3] P = 1; assign P[0] = 1;`
abbrev pub assigned_parameter : List Module
assigned_parameter =
    top (parameter [] here k.Localparam (record {
      pos = here;
      shape = range 0 3;
      name = codes "P";
      value = decimal 1;
    } ∷ [])
    ∷ assign [] here (record {
      target = named here (codes "P") (bit here (decimal 0) whole);
      value = decimal 1;
    } ∷ []) ∷ [])

-- `inner #(.L(2)) u();` gives a value to a `localparam`
abbrev pub given_localparam : List Module
given_localparam =
    with_inner (top (instance [] here (record {
      definition = codes "inner";
      overrides = Some (connection (codes "L") (decimal 2) ∷ []);
      name = codes "u";
      connections = connection (codes "p") (plain (codes "a")) ∷ [];
    }) ∷ []))

-- `genvar i; assign o = i;`
abbrev pub genvar_outside : List Module
genvar_outside = top (genvar [] here (codes "i" ∷ []) ∷ gives (plain (codes "i")))

-- `wire i; for (i = 0; ..) ..`
abbrev pub loop_over_a_net : List Module
loop_over_a_net =
    top (declares_name net.Wire scalar (codes "i") None
    ∷ loop (codes "i") 2 (codes "g") (declares_name net.Wire scalar (codes "w") None) ∷ [])

abbrev empty_block : Block
empty_block = begin here (Some (codes "g")) no_items

-- one label in both blocks of an `if`, and in two `if`
abbrev pub one_label : List Module
one_label = top (if_else [] here (decimal 1) empty_block empty_block ∷ [])

abbrev pub one_label_twice : List Module
one_label_twice = top (if_only [] here (decimal 1) empty_block ∷ if_only [] here (decimal 0) empty_block ∷ [])

-- `reg m [0:1] = 1;`
abbrev pub memory_with_a_value : List Module
memory_with_a_value =
    top (declaration [] here (record {
      net = net.Reg;
      shape = scalar;
      names = record { pos = here; name = codes "m"; words = (range 0 1).range; value = Some (decimal 1) } ∷ [];
    }) ∷ [])

-- of one item the lowest number: `assign o = clock + x;`
abbrev pub two_in_one : List Module
two_in_one = top (gives (plus (plain (codes "clock")) (plain (codes "x"))))

-- of two items the first: `assign o = clock; assign o = x;`
abbrev pub two_items : List Module
two_items = top (assigns (codes "o") (plain (codes "clock")) ∷ assigns (codes "o") (plain (codes "x")) ∷ [])

-- `localparam [8:0] P = 8'd200 / (8'd255 + 8'd1); wire [P+200:0] w;`: P is 200 divided by 256
abbrev pub parameter_of_nine_bits : List Module
parameter_of_nine_bits =
    top (parameter [] here k.Localparam (record {
      pos = here;
      shape = bits 8;
      name = codes "P";
      value = binary here b.Divide (literal 8 200) (plus (literal 8 255) (literal 8 1));
    } ∷ [])
    ∷ declares_name net.Wire (record {
      signed = false;
      range = Some (record { pos = here; left = plus (plain (codes "P")) (decimal 200); right = decimal 0 });
    }) (codes "w") None ∷ [])

abbrev pub next_line : Pos
next_line = record { file = 1; line = 2; col = 1 }

abbrev memory : Pos → NetKind → ℕ → ℕ → Item
memory p kind left last =
    declaration [] here (record {
      net = kind;
      shape = bits left;
      names = record { pos = p; name = codes "m"; words = (range 0 last).range; value = None } ∷ [];
    })

-- `assign o = m;`, and in the next line `wire m [0:1];`: the use isn't refused before the declaration is
abbrev pub memory_of_nets : List Module
memory_of_nets = top (assigns (codes "o") (plain (codes "m")) ∷ memory next_line net.Wire 0 1 ∷ [])

-- `reg [0:0] m [0:199999];`: with its words these are 200,001 names, beside those of the ports
abbrev pub many_names : List Module
many_names = top (memory here net.Reg 0 199999 ∷ [])

-- `for (i = 0; 1; i = 0)` has no last turn
abbrev pub endless_head : LoopHead
endless_head = record {
  variable = codes "i";
  start = decimal 0;
  condition = decimal 1;
  next_variable = codes "i";
  next = decimal 0;
}

-- `reg [127:0] m [left:right];`
abbrev pub memory_part : ℤ → ℤ → Part
memory_part left right = declares (record {
  name = codes "m";
  width = 128;
  signed = false;
  left = pos 127;
  right = pos 0;
  words = Some (left, right);
  class = class.Variable;
  output = false;
})
