-- Meaning: The macros that are defined before a text is read. Names and widths of RVFI are those of riscv-formal, the
-- rest is a rule of this project.
use Rattle.std.specs.Prelude.{
  ◌≡◌,
  ℕ,
  List,
  [],
  ◌∷◌,
  ◌++◌,
  if◌then◌else◌,
  false,
  None,
  Ok,
  codes,
}
use Rattle.fv_text.specs.declared.token.Token.{Token}
use Rattle.vl_token.specs.Tokens.{AreTokens}
use Rattle.vl_prep.specs.Macros.{Held}
use Rattle.vl_prep.specs.Prep.{preprocessed}
use Rattle.vl_text.specs.declared.macros.Core.{Core}
use Rattle.vl_text.specs.declared.macros.Retirements.{Retirements}
use Rattle.vl_text.specs.declared.macros.Retirements.TheVariants.{One, Two}

abbrev Field : Type 0
Field = List ℕ × List ℕ

-- the fields of a retirement, each with its width in bits
abbrev pub fields : List Field
fields =
    (codes "rvfi_valid", codes "1") ∷ (codes "rvfi_order", codes "64")
    ∷ (codes "rvfi_insn", codes "32") ∷ (codes "rvfi_trap", codes "1")
    ∷ (codes "rvfi_halt", codes "1") ∷ (codes "rvfi_intr", codes "1")
    ∷ (codes "rvfi_mode", codes "2") ∷ (codes "rvfi_ixl", codes "2")
    ∷ (codes "rvfi_rs1_addr", codes "5") ∷ (codes "rvfi_rs2_addr", codes "5")
    ∷ (codes "rvfi_rs1_rdata", codes "32") ∷ (codes "rvfi_rs2_rdata", codes "32")
    ∷ (codes "rvfi_rd_addr", codes "5") ∷ (codes "rvfi_rd_wdata", codes "32")
    ∷ (codes "rvfi_pc_rdata", codes "32") ∷ (codes "rvfi_pc_wdata", codes "32")
    ∷ (codes "rvfi_mem_addr", codes "32") ∷ (codes "rvfi_mem_rmask", codes "4")
    ∷ (codes "rvfi_mem_wmask", codes "4") ∷ (codes "rvfi_mem_rdata", codes "32")
    ∷ (codes "rvfi_mem_wdata", codes "32") ∷ []

-- `[ as many bits for each retirement ] name`
abbrev ranged : Field → List ℕ
ranged f = codes " [`RISCV_FORMAL_NRET * " ++ (f.1 ++ (codes " - 1 : 0] " ++ f.0))

abbrev output : Field → List ℕ
output f = codes "output" ++ ranged f

abbrev wire : Field → List ℕ
wire f = codes "wire" ++ (ranged f ++ codes ";")

abbrev connected : Field → List ℕ
connected f = codes "." ++ (f.0 ++ (codes "(" ++ (f.0 ++ codes ")")))

-- one behind the other, with this between two
abbrev joined : List ℕ → (Field → List ℕ) → List Field → List ℕ
joined between written [] = []
joined between written (f ∷ []) = written f
joined between written (f ∷ fs) = written f ++ (between ++ joined between written fs)

-- a line of its own
abbrev define : List ℕ → List ℕ → List ℕ
define name text = codes "`define " ++ (name ++ (codes " " ++ (text ++ codes "\n")))

-- what is defined for an instruction set with C alone
abbrev pub define_compressed : List ℕ
define_compressed = codes "`define RISCV_FORMAL_COMPRESSED \n"

abbrev pub define_retirements : List ℕ
define_retirements = codes "`define RISCV_FORMAL_NRET "

-- how many instructions retire in a cycle
abbrev pub digits_of : Retirements → List ℕ
digits_of One = codes "1"
digits_of Two = codes "2"

-- what is defined for each core, behind the number of retirements
unfoldable pub common : List ℕ
common =
    codes "\n"
    ++ (define (codes "RISCV_FORMAL") []
    ++ (define (codes "RISCV_FORMAL_XLEN") (codes "32")
    ++ (define (codes "RISCV_FORMAL_ILEN") (codes "32")
    ++ (define (codes "rvformal_rand_reg") (codes "(* anyseq *) reg")
    ++ (define (codes "rvformal_const_rand_reg") (codes "(* anyconst *) reg")
    ++ (define (codes "rvformal_rand_const_reg") (codes "(* anyconst *) reg")
    ++ (define (codes "RVFI_OUTPUTS") (joined (codes ", ") output fields)
    ++ (define (codes "RVFI_WIRES") (joined (codes " ") wire fields)
    ++ define (codes "RVFI_CONN") (joined (codes ", ") connected fields)))))))))

-- the text that defines the macros
abbrev pub prologue : Core → List ℕ
prologue core = (if core.compressed then define_compressed else []) ++ define_retirements
    ++ digits_of core.retirements ++ common

abbrev pub none : Held
none name = None

-- the macros are those that the text defines, in file 0
pub record ArePredefinedFor (core : Core) (macros : Held) : Type 0 where
  pub tokens : List Token
  pub lexes : AreTokens 0 1 (prologue core) tokens
  pub output : List Token
  pub defined : preprocessed none tokens ≡ Ok (record { macros = macros; output = output })

-- without C, and with one retirement in a cycle
abbrev pub rv32i : Core
rv32i = record { compressed = false; retirements = One }

abbrev pub ArePredefined : Held → Type 0
ArePredefined macros = ArePredefinedFor rv32i macros
