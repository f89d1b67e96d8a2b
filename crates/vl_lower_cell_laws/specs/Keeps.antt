-- Between functions: Registers for the bits of a cell that are kept over the clock's edge. Rule of this project.
use Rattle.std.specs.Prelude.{◌≡◌, ℕ, zero, suc, ◌+◌, ◌*◌, ◌%◌, ◌<◌, ◌≤◌, ◌^◌, ◌==◌, List, [], ◌∷◌, length, Bool}
use Rattle.std.specs.Prelude.{false, ◌&&◌, ◌||◌, Option, Some, None, if◌then◌else◌, slice_get, slice_index}
use Rattle.fv_bits.specs.Bits.{ones}
use Rattle.vl_mean.specs.Parts.{Part}
use Rattle.vl_mean.specs.Runs.{Each, initial_writes, is_driven, last_value}
use Rattle.vl_size.specs.Size.{Values}
use Rattle.vl_mean.specs.Targets.{Write, bit_of, put_all}
use Rattle.vl_lower_spec.specs.Maps.{gathered}
use Rattle.wn_net.specs.declared.parts.Init.{Init}
use Rattle.wn_net.specs.declared.parts.Init.TheVariants as init
use Rattle.vl_lower_spec.specs.Sources.{BeginsAs, IsBelow, below}
use Rattle.vl_lower_cell_laws.specs.declared.keep.Keep.{Keep}

abbrev pub has_bit : ℕ → ℕ → Bool
has_bit x k = bit_of x k == 1

pub record IsKeepOf (ps : List Part) (width : ℕ) (text : List ℕ) (keep : Keep) : Type 0 where
  pub driven : (k : ℕ) → k < width → has_bit keep.driven k ≡ is_driven ps text k
  pub begins : (k : ℕ) → k < width
      → last_value (initial_writes ps) text k ≡ (if has_bit keep.known k then Some (bit_of keep.value k) else None)

-- ---- registers of a cell

-- a register: what it begins with, and the bits of the name that it is
pub record Kept : Type 0 where
  pub width : ℕ
  pub init : Init
  pub bits : List ℕ

-- one bit
abbrev pub kept_bit : Keep → ℕ → Kept
kept_bit keep k = record {
  width = 1;
  init = if has_bit keep.known k then init.Known (bit_of keep.value k) else init.Free;
  bits = k ∷ [];
}

-- a register for each bit below that is kept, the highest first
abbrev pub kept_bits : Keep → ℕ → List Kept
kept_bits keep zero = []
kept_bits keep (suc k) = if has_bit keep.driven k then kept_bits keep k else kept_bit keep k ∷ kept_bits keep k

-- all bits are kept, and all of them have values at first or none has
abbrev pub is_whole : Keep → ℕ → Bool
is_whole keep width =
    (keep.driven % 2 ^ width == 0)
    && ((keep.known % 2 ^ width == 0) || (keep.known % 2 ^ width == ones width))

abbrev pub whole_kept : Keep → ℕ → Kept
whole_kept keep width = record {
  width = width;
  init = if keep.known % 2 ^ width == 0 then init.Free else init.Known (keep.value % 2 ^ width);
  bits = below width;
}

abbrev pub registers_of : Keep → ℕ → List Kept
registers_of keep width = if is_whole keep width then whole_kept keep width ∷ [] else kept_bits keep width

-- ---- the number of the cell

-- by the numbers of the registers, those from a place on
abbrev pub bits_number : Keep → ℕ → List ℕ → ℕ → ℕ
bits_number keep zero numbers r = 0
bits_number keep (suc k) numbers r =
    if has_bit keep.driven k then bits_number keep k numbers r
    else slice_index numbers r * 2 ^ k + bits_number keep k numbers (r + 1)

abbrev pub cell_number : Keep → ℕ → List ℕ → ℕ → ℕ
cell_number keep width numbers r =
    if is_whole keep width then slice_index numbers r else bits_number keep width numbers r

-- each value is a bit
abbrev pub AreSmall : List Write → Type 0
AreSmall ws = Each (λ w. w.value < 2) ws

-- ---- the laws

-- what each register is
pub record IsKept (ps : List Part) (width : ℕ) (text : List ℕ) (x : Kept) : Type 0 where
  pub some : 1 ≤ x.width
  pub few : x.width ≤ width
  pub many : length x.bits ≡ x.width
  pub within : (j k : ℕ) → slice_get x.bits j ≡ Some k → k < width
  pub kept : (j k : ℕ) → slice_get x.bits j ≡ Some k → is_driven ps text k ≡ false
  pub begins : (j k : ℕ) → slice_get x.bits j ≡ Some k → BeginsAs x.init j (last_value (initial_writes ps) text k)
  pub small : (n : ℕ) → x.init ≡ init.Known n → IsBelow x.width n

-- a kept bit is one of a register
pub record IsIn (xs : List Kept) (k : ℕ) : Type 0 where
  pub place : ℕ
  pub register : Kept
  pub there : slice_get xs place ≡ Some register
  pub offset : ℕ
  pub bit : slice_get register.bits offset ≡ Some k

pub record RegistersKeepBits (ps : List Part) (width : ℕ) (text : List ℕ) (keep : Keep) : Type 0 where
  pub each : (i : ℕ) (x : Kept) → slice_get (registers_of keep width) i ≡ Some x → IsKept ps width text x
  pub all : (k : ℕ) → k < width → is_driven ps text k ≡ false → IsIn (registers_of keep width) k
  -- the bits of the cell's number are those of the registers' numbers, and it has no others
  pub small : (numbers : List ℕ) (r : ℕ)
      → ((i : ℕ) (x : Kept) → slice_get (registers_of keep width) i ≡ Some x
      → slice_index numbers (r + i) < 2 ^ x.width)
      → cell_number keep width numbers r < 2 ^ width
  pub back : (numbers : List ℕ) (r : ℕ)
      → ((i : ℕ) (x : Kept) → slice_get (registers_of keep width) i ≡ Some x
      → slice_index numbers (r + i) < 2 ^ x.width)
      → (i : ℕ) (x : Kept) → slice_get (registers_of keep width) i ≡ Some x
      → gathered (cell_number keep width numbers r) x.bits ≡ slice_index numbers (r + i)

abbrev pub AllRegistersKeepBits : Type 0
AllRegistersKeepBits =
    (ps : List Part) (width : ℕ) (text : List ℕ) (keep : Keep) → 1 ≤ width → IsKeepOf ps width text keep
    → RegistersKeepBits ps width text keep

-- ---- values at first

abbrev pub value_or : Option ℕ → ℕ → ℕ
value_or (Some y) b = y
value_or None b = b

-- one after the other, they leave in a map the last value of each bit
abbrev pub WritesLeaveLast : Type 0
WritesLeaveLast =
    (ws : List Write) (v : Values) (text : List ℕ) (k : ℕ) → AreSmall ws
    → bit_of (put_all ws v text) k ≡ value_or (last_value ws text k) (bit_of (v text) k)
