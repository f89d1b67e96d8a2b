-- Meaning: `bench N`: the configuration and the design that it makes, as files with these names, and where it writes.
-- Rules of this project.
use Rattle.std.specs.Prelude.{ℕ, List, ◌++◌, Some, codes, decimal}
use Rattle.fv_base.specs.Outside.{Names, with_file}
use Rattle.fv_base.specs.Store.{no_files}
use Rattle.rvf_case.specs.Cases.{Request, Seen}
use Rattle.rvf_case.specs.Askings as asking

abbrev pub config_name : List ℕ
config_name = codes "checks.cfg"

abbrev pub design_name : List ℕ
design_name = codes "bench.v"

-- all checks of registers, counters and instructions, over few cycles
abbrev pub config_text : List ℕ
config_text =
    codes "[options]\n"
    ++ (codes "isa rv32i\n"
    ++ (codes "\n"
    ++ (codes "[depth]\n"
    ++ (codes "insn 3\n"
    ++ (codes "ill 3\n"
    ++ (codes "reg 1 4\n"
    ++ (codes "pc_fwd 1 4\n"
    ++ (codes "pc_bwd 1 4\n"
    ++ (codes "causal 1 4\n"
    ++ (codes "unique 1 2 4\n"
    ++ (codes "\n"
    ++ (codes "[verilog-files]\n"
    ++ (codes "bench.v\n")))))))))))))

-- ---- the design: a core that adds numbers to so many registers, in the text's parts between the numbers

-- up to the number of registers
abbrev pub design_head : List ℕ
design_head =
    codes "module rvfi_wrapper (input clock, input reset, `RVFI_OUTPUTS);\n"
    ++ (codes "  `rvformal_rand_reg [31:0] insn;\n"
    ++ (codes "  reg [31:0] regs [0:"))

-- up to the number that the first operand is below
abbrev pub design_registers : List ℕ
design_registers =
    codes "-1];\n"
    ++ (codes "  reg [31:0] pc = 0;\n"
    ++ (codes "  reg [63:0] order = 0;\n"
    ++ (codes "  wire [4:0] rs = insn[19:15], rd = insn[11:7];\n"
    ++ (codes "  wire go = !reset && insn[6:0] == 7'h13 && insn[14:12] == 0 && rs < "))))

-- up to the number that the second one is below
abbrev pub design_and : List ℕ
design_and =
    codes " && rd < "

-- and the rest
abbrev pub design_rest : List ℕ
design_rest =
    codes ";\n"
    ++ (codes "  wire [31:0] a = rs == 0 ? 0 : regs[rs];\n"
    ++ (codes "  wire [31:0] sum = a + {{20{insn[31]}}, insn[31:20]};\n"
    ++ (codes "  always @(posedge clock)\n"
    ++ (codes "    if (go) begin regs[rd] <= sum; pc <= pc + 4; order <= order + 1; end\n"
    ++ (codes "  assign rvfi_valid = go, rvfi_order = order, rvfi_insn = insn, rvfi_trap = 0, rvfi_halt = 0;\n"
    ++ (codes "  assign rvfi_intr = 0, rvfi_mode = 3, rvfi_ixl = 1, rvfi_rs1_addr = rs, rvfi_rs2_addr = 0;\n"
    ++ (codes "  assign rvfi_rs1_rdata = a, rvfi_rs2_rdata = 0, rvfi_rd_addr = rd, rvfi_rd_wdata = rd == 0 ? 0 : sum;\n"
    ++ (codes "  assign rvfi_pc_rdata = pc, rvfi_pc_wdata = pc + 4, rvfi_mem_addr = 0, rvfi_mem_rmask = 0;\n"
    ++ (codes "  assign rvfi_mem_wmask = 0, rvfi_mem_rdata = 0, rvfi_mem_wdata = 0;\n"
    ++ (codes "endmodule\n"))))))))))

abbrev pub design_text : ℕ → List ℕ
design_text size =
    design_head
    ++ (decimal size ++ (design_registers ++ (decimal size ++ (design_and ++ (decimal size ++ design_rest)))))

-- ---- what is asked of these files

-- what each name holds
abbrev pub held_of : ℕ → Names
held_of size = with_file (with_file no_files config_name config_text) design_name (design_text size)

-- the checks of this configuration, over this design
abbrev pub request : Request
request = record { cfg = config_name; core = codes "core"; basedir = codes "."; asking = asking.Checks }

-- what is seen of them: how often a name was missed, and that no call on them failed
abbrev pub seen_of : ℕ → ℕ → ℕ → Seen
seen_of size misses misses_now = record {
  held = Some (held_of size);
  misses = misses;
  misses_now = misses_now;
  faults = 0;
  faults_now = 0;
}

-- the folder of the files of spent checks
abbrev pub folder : List ℕ
folder = codes "bench"

-- how many clauses each check may derive
abbrev pub budget : ℕ
budget = 200000
