-- Meaning: The numbers of a depth line: its cycles, and the conditions on them (rules of this project).
use Rattle.std.specs.Prelude.{
  ℕ,
  ◌≡◌,
  ◌&&◌,
  true,
  min,
  nat_le,
  nat_lt,
  if◌then◌else◌,
  List,
  [],
  ◌∷◌,
  Option,
  Some,
}
use Rattle.std.specs.Prelude.{None, option_map, option_and_then}
use Rattle.std.specs.List.{list_all}
use Rattle.fv_lines.specs.Numbers.{is_digit, natural_of}
use Rattle.ck_cfg.specs.declared.kind.CheckKind.{CheckKind}
use Rattle.ck_cfg.specs.declared.kind.CheckKind.TheVariants.{Insn, Ill, Unique, Liveness, Imem}
use Rattle.ck_cfg.specs.Digits.{value}
use Rattle.ck_cfg.specs.declared.cycles.Cycles.{Cycles}

-- the numbers of words of decimal digits
abbrev pub numbers_of : List (List ℕ) → Option (List ℕ)
numbers_of [] = Some []
numbers_of (w ∷ ws) = option_and_then (λ n. option_map (λ ns. n ∷ ns) (numbers_of ws)) (natural_of w)

-- the start, the trigger and the cycle of the check
abbrev pub cycles : ℕ → ℕ → ℕ → Cycles
cycles start trig cycle = record { start = start; trig = trig; cycle = cycle }

-- the cycle of the check, at least 1: the start is 1
abbrev pub lone : List ℕ → Option Cycles
lone (k ∷ []) = if nat_le 1 k then Some (cycles 1 k k) else None
lone ns = None

-- the start, at most the cycle of the check
abbrev pub pair : List ℕ → Option Cycles
pair (s ∷ k ∷ []) = if nat_le s k then Some (cycles s k k) else None
pair ns = None

-- the start, at most the trigger, which is below the cycle of the check
abbrev pub triple : List ℕ → Option Cycles
triple (s ∷ t ∷ k ∷ []) = if nat_le s t && nat_lt t k then Some (cycles s t k) else None
triple ns = None

-- as `lone`; a start before it is judged and has no other effect
abbrev pub lone_or_pair : List ℕ → Option Cycles
lone_or_pair (k ∷ []) = lone (k ∷ [])
lone_or_pair (s ∷ k ∷ []) = if nat_le s k then lone (k ∷ []) else None
lone_or_pair ns = None

-- which numbers a kind has
abbrev pub cycles_said : CheckKind → List ℕ → Option Cycles
cycles_said Insn ns = lone ns
cycles_said Ill ns = lone ns
cycles_said Unique ns = triple ns
cycles_said Liveness ns = triple ns
cycles_said Imem ns = lone_or_pair ns
cycles_said kind ns = pair ns

-- what a rule says of the numbers that the words write
abbrev pub said_by : (List ℕ → Option Cycles) → List (List ℕ) → Option Cycles
said_by rule ws = option_and_then rule (numbers_of ws)

-- the cycles that the words behind a kind say; None where their number, a number or a condition is wrong
abbrev pub cycles_of : CheckKind → List (List ℕ) → Option Cycles
cycles_of kind ws = said_by (cycles_said kind) ws

-- the number of a word of digits, told up to the most
abbrev pub IsNumber : ℕ → List ℕ → ℕ → Type 0
IsNumber most word n =
    (natural_of word ≡ Some (value word)) × (list_all is_digit word ≡ true) × (n ≡ min most (value word))

-- no number is told beyond the most
abbrev pub capped : ℕ → Cycles → Cycles
capped most c = cycles (min most c.start) (min most c.trig) (min most c.cycle)
