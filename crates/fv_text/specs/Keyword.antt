-- Meaning: The keywords and their texts. IEEE 1364-2005, section 3.7 and annex B, cut to the words that this project's
-- subset of Verilog uses, and to those that it names as outside of it.
use Rattle.std.specs.Prelude.{ℕ, List, [], ◌∷◌, Option, find, codes, bytes_eq}
use Rattle.fv_text.specs.declared.keyword.Keyword.{Keyword}
use Rattle.fv_text.specs.declared.keyword.Keyword.TheVariants.{
  Module,
  Endmodule,
  Input,
  Output,
  Wire,
  Reg,
  Integer,
  Signed,
  Parameter,
  Localparam,
  Genvar,
  Generate,
  Endgenerate,
  Assign,
  Always,
  Initial,
  Posedge,
  Begin,
  End,
  If,
  Else,
  Case,
  Casez,
  Endcase,
  Default,
  For,
  Assume,
  Inout,
  Function,
  Endfunction,
  Task,
  Endtask,
  While,
  Repeat,
  Forever,
  Negedge,
  Or,
  Casex,
  Defparam,
  Specify,
  Primitive,
  Real,
  Realtime,
  Time,
  Event,
  Tri,
  Tri0,
  Tri1,
  Triand,
  Trior,
  Trireg,
  Wand,
  Wor,
  Supply0,
  Supply1,
  Fork,
  Join,
  Wait,
  Disable,
  Force,
  Release,
  Deassign,
  Logic,
  AlwaysComb,
  AlwaysFf,
  AlwaysLatch,
  Typedef,
  Struct,
  Interface,
  Property,
  Assert,
  Cover,
}

-- how a keyword is written
unfoldable pub keyword_text : Keyword → List ℕ
keyword_text Module = codes "module"
keyword_text Endmodule = codes "endmodule"
keyword_text Input = codes "input"
keyword_text Output = codes "output"
keyword_text Wire = codes "wire"
keyword_text Reg = codes "reg"
keyword_text Integer = codes "integer"
keyword_text Signed = codes "signed"
keyword_text Parameter = codes "parameter"
keyword_text Localparam = codes "localparam"
keyword_text Genvar = codes "genvar"
keyword_text Generate = codes "generate"
keyword_text Endgenerate = codes "endgenerate"
keyword_text Assign = codes "assign"
keyword_text Always = codes "always"
keyword_text Initial = codes "initial"
keyword_text Posedge = codes "posedge"
keyword_text Begin = codes "begin"
keyword_text End = codes "end"
keyword_text If = codes "if"
keyword_text Else = codes "else"
keyword_text Case = codes "case"
keyword_text Casez = codes "casez"
keyword_text Endcase = codes "endcase"
keyword_text Default = codes "default"
keyword_text For = codes "for"
keyword_text Assume = codes "assume"
keyword_text Inout = codes "inout"
keyword_text Function = codes "function"
keyword_text Endfunction = codes "endfunction"
keyword_text Task = codes "task"
keyword_text Endtask = codes "endtask"
keyword_text While = codes "while"
keyword_text Repeat = codes "repeat"
keyword_text Forever = codes "forever"
keyword_text Negedge = codes "negedge"
keyword_text Or = codes "or"
keyword_text Casex = codes "casex"
keyword_text Defparam = codes "defparam"
keyword_text Specify = codes "specify"
keyword_text Primitive = codes "primitive"
keyword_text Real = codes "real"
keyword_text Realtime = codes "realtime"
keyword_text Time = codes "time"
keyword_text Event = codes "event"
keyword_text Tri = codes "tri"
keyword_text Tri0 = codes "tri0"
keyword_text Tri1 = codes "tri1"
keyword_text Triand = codes "triand"
keyword_text Trior = codes "trior"
keyword_text Trireg = codes "trireg"
keyword_text Wand = codes "wand"
keyword_text Wor = codes "wor"
keyword_text Supply0 = codes "supply0"
keyword_text Supply1 = codes "supply1"
keyword_text Fork = codes "fork"
keyword_text Join = codes "join"
keyword_text Wait = codes "wait"
keyword_text Disable = codes "disable"
keyword_text Force = codes "force"
keyword_text Release = codes "release"
keyword_text Deassign = codes "deassign"
keyword_text Logic = codes "logic"
keyword_text AlwaysComb = codes "always_comb"
keyword_text AlwaysFf = codes "always_ff"
keyword_text AlwaysLatch = codes "always_latch"
keyword_text Typedef = codes "typedef"
keyword_text Struct = codes "struct"
keyword_text Interface = codes "interface"
keyword_text Property = codes "property"
keyword_text Assert = codes "assert"
keyword_text Cover = codes "cover"

-- all keywords
abbrev pub keywords : List Keyword
keywords =
    Module ∷ Endmodule ∷ Input ∷ Output ∷ Wire ∷ Reg ∷ Integer ∷ Signed ∷ Parameter ∷ Localparam ∷
    Genvar ∷ Generate ∷ Endgenerate ∷ Assign ∷ Always ∷ Initial ∷ Posedge ∷ Begin ∷ End ∷ If ∷
    Else ∷ Case ∷ Casez ∷ Endcase ∷ Default ∷ For ∷ Assume ∷ Inout ∷ Function ∷ Endfunction ∷
    Task ∷ Endtask ∷ While ∷ Repeat ∷ Forever ∷ Negedge ∷ Or ∷ Casex ∷ Defparam ∷ Specify ∷
    Primitive ∷ Real ∷ Realtime ∷ Time ∷ Event ∷ Tri ∷ Tri0 ∷ Tri1 ∷ Triand ∷ Trior ∷ Trireg ∷
    Wand ∷ Wor ∷ Supply0 ∷ Supply1 ∷ Fork ∷ Join ∷ Wait ∷ Disable ∷ Force ∷ Release ∷ Deassign ∷
    Logic ∷ AlwaysComb ∷ AlwaysFf ∷ AlwaysLatch ∷ Typedef ∷ Struct ∷ Interface ∷ Property ∷ Assert ∷
    Cover ∷ []

-- the keyword with this text, if there is one
unfoldable pub keyword_of : List ℕ → Option Keyword
keyword_of text = find (λ k. bytes_eq (keyword_text k) text) keywords
