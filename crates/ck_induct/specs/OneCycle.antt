-- Meaning: Checks that look at one cycle alone, and their property in the map of a cycle (rule of this project; the
-- properties are those of checks).
use Rattle.std.specs.Prelude.{◌≡◌, ℕ, ◌≤◌, Bool, true, List}
use Rattle.rv_table.specs.declared.retire.Opts.{Opts}
use Rattle.vl_size.specs.Size.{Values}
use Rattle.rvfi_port.specs.declared.port.Wants.{Wants}
use Rattle.ck_cfg.specs.declared.check.Check.{Check}
use Rattle.ck_spec.specs.Properties.{property}
use Rattle.ck_gen.specs.Monitors.{is_of_one_cycle}
use Rattle.ck_design.specs.Retirements.{holds_over, probe_in, retired_from, values_at}

-- the check with this cycle in place of its own: it looks at the retirements of this one alone
abbrev pub in_cycle : Check → ℕ → Check
in_cycle check j = record check { start = j; trig = j; cycle = j }

-- a map has the check's property: over what it retires, and by what it is probed
abbrev pub holds_in_map : ℕ → Wants → Check → Opts → Values → Bool
holds_in_map channels wants check opts v =
    property (in_cycle check 0) (retired_from v 0 0 channels) (probe_in v wants) opts

-- ---- laws

-- Where its kind looks at one cycle, a run has a check's property exactly where the map of the check's cycle has it,
-- whatever the number of this cycle is.
abbrev pub PropertiesAreOfMaps : Type 0
PropertiesAreOfMaps =
    (run : List Values) (channels : ℕ) (wants : Wants) (check : Check) (opts : Opts)
    → is_of_one_cycle check.kind ≡ true → check.start ≤ check.cycle
    → holds_over run channels wants check opts ≡ holds_in_map channels wants check opts (values_at run check.cycle)
