-- Between functions: Small designs, one for each place where a meaning is easily got wrong, with maps for them that
-- were worked out by hand. Rule of this project.
use Rattle.std.specs.Prelude.{
  ℕ,
  List,
  [],
  ◌∷◌,
  true,
  false,
  Option,
  Some,
  None,
  codes,
  bytes_eq,
  if◌then◌else◌,
}
use Rattle.vl_tree.specs.declared.attribute.AttributeInstance.{AttributeInstance}
use Rattle.vl_tree.specs.declared.declaration.Direction.TheVariants as direction
use Rattle.vl_tree.specs.declared.declaration.FullPort.{FullPort}
use Rattle.vl_tree.specs.declared.declaration.NetKind.TheVariants as net
use Rattle.vl_tree.specs.declared.declaration.Port.{Port}
use Rattle.vl_tree.specs.declared.declaration.PortKind.TheVariants as port
use Rattle.vl_tree.specs.declared.declaration.Shape.{Shape}
use Rattle.vl_tree.specs.declared.part.Connection.{Connection}
use Rattle.vl_tree.specs.declared.part.EventKind.TheVariants as e
use Rattle.vl_tree.specs.declared.source.Module.{Module}
use Rattle.vl_tree.specs.Expr.{Expr, name, concat, none, more, whole, bit, part, indexed}
use Rattle.vl_tree.specs.Lval.{named}
use Rattle.vl_tree.specs.Stmt as stmt
use Rattle.vl_tree.specs.Stmt.{stmts}
use Rattle.vl_tree.specs.Item.{Item, declaration, always, initial, instance, if_only, no_items, more_items, begin}
use Rattle.vl_size.specs.Size.{Values}
use Rattle.vl_mean_examples.specs.Examples.{literal, decimal, scalar, bits, input, vector_input, output, declares_name}
use Rattle.vl_mean_examples.specs.Examples.{at_clock, at_any_change, later, now, plus, connection, assigns, module_of}
use Rattle.vl_mean.specs.Parts.{Part, here, plain, plain_target, design}

-- ---- pieces

-- the numbers of some names, and of all others 0
abbrev pub numbers : List (List ℕ × ℕ) → Values
numbers [] text = 0
numbers (x ∷ xs) text = if bytes_eq text x.0 then x.1 else numbers xs text

-- `[left:right]`
abbrev pub range : ℕ → ℕ → Shape
range left right =
    record { signed = false; range = Some (record { pos = here; left = decimal left; right = decimal right }) }

abbrev pub signed_bits : ℕ → Shape
signed_bits left =
    record { signed = true; range = Some (record { pos = here; left = decimal left; right = decimal 0 }) }

abbrev pub short : List ℕ → Port
short text = record { pos = here; kind = port.Short text None }

abbrev pub used : List ℕ → List ℕ → List Connection → Item
used definition text connections =
    instance [] here (record { definition = definition; overrides = None; name = text; connections = connections })

-- the design of modules, of which the first is the top
abbrev pub design_of : Module → List Module → List Part
design_of top others = design (top ∷ others) top.name

-- ---- a bit that no block assigns: `module kept(input a); reg [1:0] q; always @* q[0] = a; endmodule`

abbrev pub kept_design : List Part
kept_design = design_of (module_of (codes "kept") (input (codes "a") ∷ []) (
    declares_name net.Reg (bits 1) (codes "q") None
    ∷ at_any_change (now (named here (codes "q") (bit here (decimal 0) whole)) (plain (codes "a")))
    ∷ [])) []

abbrev pub kept : ℕ → ℕ → Values
kept a q = numbers ((codes "a", a) ∷ (codes "q", q) ∷ [])

-- ---- a block that assigns one word of a memory:
-- `module words(input [3:0] a); reg [3:0] m [0:1]; initial m[1] = 5; always @* m[0] = a; endmodule`

abbrev pub words_design : List Part
words_design = design_of (module_of (codes "words") (vector_input (bits 3) (codes "a") ∷ []) (
    declaration [] here (record {
      net = net.Reg;
      shape = bits 3;
      names = record {
        pos = here;
        name = codes "m";
        words = Some (record { pos = here; left = decimal 0; right = decimal 1 });
        value = None;
      } ∷ [];
    })
    ∷ initial [] here (now (named here (codes "m") (bit here (decimal 1) whole)) (decimal 5))
    ∷ at_any_change (now (named here (codes "m") (bit here (decimal 0) whole)) (plain (codes "a")))
    ∷ [])) []

abbrev pub words : ℕ → ℕ → ℕ → Values
words a zeroth first = numbers ((codes "a", a) ∷ (codes "m[0]", zeroth) ∷ (codes "m[1]", first) ∷ [])

-- ---- several initial values of one bit: `module begun; reg [1:0] q = 3; initial q[0] = 0; endmodule`

abbrev pub begun_design : List Part
begun_design = design_of (module_of (codes "begun") [] (
    declares_name net.Reg (bits 1) (codes "q") (Some (decimal 3))
    ∷ initial [] here (now (named here (codes "q") (bit here (decimal 0) whole)) (decimal 0))
    ∷ [])) []

abbrev pub begun : ℕ → Values
begun q = numbers ((codes "q", q) ∷ [])

-- ---- names that are chosen once, and in each cycle:
-- `module free; (* anyconst *) reg [1:0] once; (* anyseq *) reg [1:0] each; endmodule`

abbrev marked : List ℕ → List AttributeInstance
marked text = record { pos = here; attributes = record { pos = here; name = text; value = None } ∷ [] } ∷ []

abbrev free : List ℕ → List ℕ → Item
free attribute text = declaration (marked attribute) here (record {
  net = net.Reg;
  shape = bits 1;
  names = record { pos = here; name = text; words = None; value = None } ∷ [];
})

abbrev pub free_design : List Part
free_design = design_of (module_of (codes "free") []
    (free (codes "anyconst") (codes "once") ∷ free (codes "anyseq") (codes "each") ∷ [])) []

abbrev pub choices : ℕ → ℕ → Values
choices once each = numbers ((codes "once", once) ∷ (codes "each", each) ∷ [])

-- ---- an input narrower than its connection, and one wider:
-- `module sized(input signed [1:0] a, output [3:0] o); sum u (.narrow(a), .wide(a), .o(o)); endmodule`
-- `module sum(input narrow, input [3:0] wide, output [3:0] o); assign o = wide + narrow; endmodule`

abbrev pub sized_design : List Part
sized_design = design_of (module_of (codes "sized")
    (vector_input (signed_bits 1) (codes "a") ∷ output (bits 3) (codes "o") ∷ []) (
    used (codes "sum") (codes "u") (
    connection (codes "narrow") (plain (codes "a")) ∷ connection (codes "wide") (plain (codes "a"))
    ∷ connection (codes "o") (plain (codes "o")) ∷ [])
    ∷ [])) (
    module_of (codes "sum") (input (codes "narrow") ∷ vector_input (bits 3) (codes "wide")
    ∷ output (bits 3) (codes "o") ∷ [])
    (assigns (codes "o") (plus (plain (codes "wide")) (plain (codes "narrow"))) ∷ [])
    ∷ [])

abbrev pub sized : ℕ → ℕ → ℕ → ℕ → Values
sized a narrow wide o =
    numbers ((codes "a", a) ∷ (codes "u.narrow", narrow) ∷ (codes "u.wide", wide) ∷ (codes "u.o", o)
    ∷ (codes "o", o)
    ∷ [])

-- ---- a clock that is handed down under another name:
-- `module clocked(input clock, input a); step u (.edge_(clock), .d(a)); endmodule`
-- `module step(input edge_, input d); reg q; always @(posedge edge_) q <= d; endmodule`

abbrev pub handed_design : List Part
handed_design = design_of (module_of (codes "clocked") (input (codes "clock") ∷ input (codes "a") ∷ []) (
    used (codes "step") (codes "u") (connection (codes "edge_") (plain (codes "clock"))
    ∷ connection (codes "d") (plain (codes "a")) ∷ [])
    ∷ [])) (
    module_of (codes "step") (input (codes "edge_") ∷ input (codes "d") ∷ []) (
    declares_name net.Reg scalar (codes "q") None
    ∷ always [] here (record { pos = here; kind = e.Posedge (codes "edge_") }) (later (codes "q") (plain (codes "d")))
    ∷ [])
    ∷ [])

-- the clock under its other name is given some number too
abbrev pub handed : ℕ → ℕ → ℕ → Values
handed edge a q = numbers ((codes "u.edge_", edge) ∷ (codes "a", a) ∷ (codes "u.d", a) ∷ (codes "u.q", q) ∷ [])

-- ---- an output that is joined to a concatenation:
-- `module parted(output [1:0] high, low); nine u (.o({high, low})); endmodule module nine(output [3:0] o); assign o =
-- 9; endmodule`

abbrev pub parted_design : List Part
parted_design = design_of (module_of (codes "parted") (output (bits 1) (codes "high") ∷ short (codes "low") ∷ []) (
    used (codes "nine") (codes "u") (
    connection (codes "o") (concat here (more (plain (codes "high")) (more (plain (codes "low")) none))) ∷ [])
    ∷ [])) (module_of (codes "nine") (output (bits 3) (codes "o") ∷ []) (assigns (codes "o") (decimal 9) ∷ [])
    ∷ [])

abbrev pub parted : ℕ → ℕ → Values
parted high low = numbers ((codes "u.o", 9) ∷ (codes "high", high) ∷ (codes "low", low) ∷ [])

-- ---- targets in a vector that ascends:
-- `module targets(input [1:0] a, b); reg [0:3] v; always @* begin v[0:1] = a; v[2 +: 2] = b; end endmodule`

abbrev pub targets_design : List Part
targets_design =
    design_of (module_of (codes "targets") (vector_input (bits 1) (codes "a") ∷ short (codes "b") ∷ []) (
    declares_name net.Reg (range 0 3) (codes "v") None
    ∷ at_any_change (stmt.begin [] here None (stmts (
    now (named here (codes "v") (part here (decimal 0) (decimal 1) whole)) (plain (codes "a"))
    ∷ now (named here (codes "v") (indexed here (decimal 2) (decimal 2) whole)) (plain (codes "b"))
    ∷ [])))
    ∷ [])) []

abbrev pub targets : ℕ → ℕ → ℕ → Values
targets a b v = numbers ((codes "a", a) ∷ (codes "b", b) ∷ (codes "v", v) ∷ [])

-- ---- a port that is written short: `module ports(input [1:0] a, b, output o); assign o = b[1]; endmodule`

abbrev pub ports_design : List Part
ports_design = design_of (module_of (codes "ports")
    (vector_input (bits 1) (codes "a") ∷ short (codes "b") ∷ output scalar (codes "o") ∷ []) (
    assigns (codes "o") (name here (codes "b") (bit here (decimal 1) whole)) ∷ [])) []

abbrev pub ports : ℕ → ℕ → ℕ → Values
ports a b o = numbers ((codes "a", a) ∷ (codes "b", b) ∷ (codes "o", o) ∷ [])

-- ---- an overridden parameter with a range, and one that stays:
-- `module given(output [7:0] o); both #(.P(8'hff)) u (.o(o)); endmodule`
-- `module both #(parameter [3:0] P = 1, Q = 2) (output [7:0] o); assign o = P + Q; endmodule`

abbrev both : Module
both = record {
  pos = here;
  name = codes "both";
  parameters = Some (record {
    keyword = true;
    parameter = record { pos = here; shape = bits 3; name = codes "P"; value = decimal 1 };
  } ∷ record {
    keyword = false;
    parameter = record { pos = here; shape = scalar; name = codes "Q"; value = decimal 2 };
  } ∷ []);
  ports = Some (output (bits 7) (codes "o") ∷ []);
  items = assigns (codes "o") (plus (plain (codes "P")) (plain (codes "Q"))) ∷ [];
}

abbrev pub given_design : List Part
given_design = design_of (module_of (codes "given") (output (bits 7) (codes "o") ∷ []) (
    instance [] here (record {
      definition = codes "both";
      overrides = Some (connection (codes "P") (literal 8 0xff) ∷ []);
      name = codes "u";
      connections = connection (codes "o") (plain (codes "o")) ∷ [];
    })
    ∷ [])) (both ∷ [])

abbrev pub given : ℕ → Values
given o = numbers ((codes "u.o", o) ∷ (codes "o", o) ∷ [])

-- ---- a name that an inner one hides:
-- `module hidden(input a, output o, p); if (1) begin : g wire a = 1; assign o = a; end assign p = a; endmodule`

abbrev pub hidden_design : List Part
hidden_design =
    design_of (module_of (codes "hidden") (input (codes "a") ∷ output scalar (codes "o") ∷ short (codes "p")
    ∷ []) (
    if_only [] here (decimal 1) (begin here (Some (codes "g")) (
    more_items (declares_name net.Wire scalar (codes "a") (Some (decimal 1))) (
    more_items (assigns (codes "o") (plain (codes "a"))) no_items)))
    ∷ assigns (codes "p") (plain (codes "a"))
    ∷ [])) []

abbrev pub hidden : ℕ → ℕ → ℕ → Values
hidden a o p = numbers ((codes "a", a) ∷ (codes "g.a", 1) ∷ (codes "o", o) ∷ (codes "p", p) ∷ [])

-- ---- an assumption in a clocked block: `module sure(input clock, input a); always @(posedge clock) assume (a);
-- endmodule`

abbrev pub sure_design : List Part
sure_design = design_of (module_of (codes "sure") (input (codes "clock") ∷ input (codes "a") ∷ []) (
    at_clock (stmt.assume [] here (plain (codes "a"))) ∷ [])) []

abbrev pub sure : ℕ → Values
sure a = numbers ((codes "a", a) ∷ [])
