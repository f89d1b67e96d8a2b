-- Meaning: The lines of `[depth]` (documentation of riscv-formal, in this project's profile).
use Rattle.std.specs.Prelude.{
  ℕ,
  Bool,
  true,
  false,
  ◌&&◌,
  ◌||◌,
  ◌==◌,
  nat_eq,
  nat_lt,
  if◌then◌else◌,
  List,
  [],
  ◌∷◌,
}
use Rattle.std.specs.Prelude.{◌++◌, Option, Some, None, option_map, option_and_then, codes, Result, Ok, Err}
use Rattle.std.specs.List.{list_any, starts_with}
use Rattle.ck_cfg.specs.declared.kind.CheckKind.{CheckKind}
use Rattle.ck_cfg.specs.declared.config.Depth.{Depth}
use Rattle.ck_cfg.specs.declared.cycles.Cycles.{Cycles}
use Rattle.ck_cfg.specs.declared.target.Target.{Target}
use Rattle.ck_cfg.specs.declared.fault.CfgFault.{CfgFault}
use Rattle.ck_cfg.specs.declared.fault.CfgFault.TheVariants as fault
use Rattle.ck_cfg.specs.declared.reader.Reader.{Reader}
use Rattle.ck_cfg.specs.Kind.{is_kind}
use Rattle.ck_cfg.specs.Options.{is_among}
use Rattle.ck_cfg.specs.Cycles.{cycles_of}
use Rattle.ck_cfg.specs.Target.{target_of}

-- a line that begins with this word is skipped: this profile leaves out what it asks for
abbrev pub is_skipped : List ℕ → Bool
is_skipped word =
    is_among (codes "hang" ∷ codes "cover" ∷ codes "fault" ∷ codes "causal_mem" ∷ codes "causal_io" ∷ []) word
    || (starts_with nat_eq word (codes "csr") || starts_with nat_eq word (codes "bus_"))

-- the same channel, or none in both
abbrev pub is_channel : Option ℕ → Option ℕ → Bool
is_channel None None = true
is_channel (Some b) (Some c) = b == c
is_channel b c = false

-- the depth is of this kind, and of this channel or of no channel alone
abbrev pub is_for : CheckKind → Option ℕ → Depth → Bool
is_for kind channel d = is_kind d.kind kind && is_channel d.channel channel

-- the depth with this kind, channel and cycles
abbrev pub depth_at : Target → Cycles → Depth
depth_at t c = record { kind = t.kind; channel = t.channel; start = c.start; trig = c.trig; cycle = c.cycle }

-- the depth of this kind and channel, with the cycles that the words say
abbrev pub depth_with : List (List ℕ) → Target → Option Depth
depth_with numbers t = option_map (depth_at t) (cycles_of t.kind numbers)

-- what the words of a line say, with so many channels; None where the kind, the channel, the number of words, a number
-- or a condition is wrong
abbrev pub depth_of : ℕ → List ℕ → List (List ℕ) → Option Depth
depth_of channels word numbers = option_and_then (depth_with numbers) (target_of channels word)

-- one skipped line more
abbrev pub with_skip : Reader → List ℕ → Reader
with_skip r word = record r { config = record r.config { skips = r.config.skips ++ word ∷ [] } }

-- one depth more
abbrev pub with_depth_of : Reader → Depth → Reader
with_depth_of r d = record r { config = record r.config { depths = r.config.depths ++ d ∷ [] } }

-- a depth that stands there for the second time, or is above 100, is refused
abbrev pub with_new_depth : Reader → ℕ → List ℕ → Depth → Result Reader CfgFault
with_new_depth r line word d = if list_any (is_for d.kind d.channel) r.config.depths then Err (fault.Twice line word)
    else if nat_lt 100 d.cycle then Err (fault.TooDeep line) else Ok (with_depth_of r d)

-- what a line says, or that it says nothing right
abbrev pub with_depth_read : Reader → ℕ → List ℕ → Option Depth → Result Reader CfgFault
with_depth_read r line word None = Err (fault.Depth line)
with_depth_read r line word (Some d) = with_new_depth r line word d

-- a line of the section: its words
abbrev pub with_depth : Reader → ℕ → List (List ℕ) → Result Reader CfgFault
with_depth r line [] = Err (fault.Depth line)
with_depth r line (word ∷ numbers) = if is_skipped word then Ok (with_skip r word)
    else with_depth_read r line word (depth_of r.config.nret word numbers)
