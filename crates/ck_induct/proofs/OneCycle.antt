-- The property of a check of one cycle is that of the cycle's map.
use Rattle.std.specs.Prelude.{◌≡◌, refl, ℕ, zero, suc, ◌+◌, ◌-◌, ◌≤◌, ◌==◌, ◌&&◌, Bool, true, false, if◌then◌else◌}
use Rattle.std.specs.Prelude.{List, [], ◌∷◌}
use Rattle.std.proofs.Common.{ap, sym, ◌∙◌, arith, true≢false}
use Rattle.std.proofs.lemmas.Bool.Decides.{nat_tests}
use Rattle.rv_table.specs.declared.retire.Retire.{Retire}
use Rattle.rv_table.specs.declared.retire.Opts.{Opts}
use Rattle.vl_size.specs.Size.{Values}
use Rattle.ck_cfg.specs.declared.check.Check.{Check}
use Rattle.ck_cfg.specs.declared.kind.CheckKind.{CheckKind}
use Rattle.ck_cfg.specs.declared.kind.CheckKind.TheVariants as kinds
use Rattle.ck_spec.specs.declared.retired.Probe.{Probe}
use Rattle.ck_spec.specs.declared.retired.Retired.{Retired}
use Rattle.ck_spec.specs.Lists.{found_at, is_at, where_found}
use Rattle.ck_spec.specs.Properties.{cycle_of, does_as_row, has_probed_halves, holds_at, traps_zeros}
use Rattle.ck_gen.specs.Monitors.{at_cycle, is_of_one_cycle}
use Rattle.ck_gen.proofs.Says.{first_says, found_says, says_append}
use Rattle.ck_design.specs.Retirements.{probe_in, retire_in, retired_by, retired_from, retirements, retires_in}
use Rattle.ck_design.specs.Retirements.{values_at}
use Rattle.ck_induct.specs.OneCycle.{PropertiesAreOfMaps, in_cycle}

eq_true : (a : ℕ) → (a == a) ≡ true
eq_true a = grind (arith, nat_tests)

eq_false : (a b : ℕ) → (a ≡ b → ⊥) → (a == b) ≡ false
eq_false a b h = grind (arith, nat_tests, h)

module _ (check : Check) (such : Retire → Bool) where
  abbrev at : ℕ → Retired → Bool
  at k r = is_at check k r

  abbrev told : Retired → Bool
  told r = such r.retire

  -- what another cycle retires is passed over
  passed : (v : Values) (k cycle channel count : ℕ) (rest : Bool) → (k ≡ cycle → ⊥)
      → first_says (at cycle) told rest (retired_from v k channel count) ≡ rest
  passed v k cycle channel zero rest other = refl
  passed v k cycle channel (suc count) rest other =
      says_append (at cycle) told rest (retired_by v k channel) (retired_from v k (channel + 1) count)
      ∙ ap (λ x. first_says (at cycle) told x (retired_by v k channel)) (passed v k cycle (channel + 1) count rest other)
      ∙ by (retires_in v channel)
    where
      by : (b : Bool)
          → first_says (at cycle) told rest
          (if b then record { cycle = k; channel = channel; retire = retire_in v channel } ∷ [] else [])
          ≡ rest
      by true =
          ap (λ x. if x && (channel == check.channel) then such (retire_in v channel) else rest)
          (eq_false k cycle other)
      by false = refl

  -- what a cycle retires is found alike by any number that it has
  renumbered : (v : Values) (k l channel count : ℕ) (rest : Bool)
      → first_says (at k) told rest (retired_from v k channel count)
      ≡ first_says (at l) told rest (retired_from v l channel count)
  renumbered v k l channel zero rest = refl
  renumbered v k l channel (suc count) rest =
      says_append (at k) told rest (retired_by v k channel) (retired_from v k (channel + 1) count)
      ∙ ap (λ x. first_says (at k) told x (retired_by v k channel)) (renumbered v k l (channel + 1) count rest)
      ∙ by (retires_in v channel) (first_says (at l) told rest (retired_from v l (channel + 1) count))
      ∙ sym (says_append (at l) told rest (retired_by v l channel) (retired_from v l (channel + 1) count))
    where
      own : (k == k) ≡ (l == l)
      own = eq_true k ∙ sym (eq_true l)

      by : (b x : Bool)
          → first_says (at k) told x
          (if b then record { cycle = k; channel = channel; retire = retire_in v channel } ∷ [] else [])
          ≡ first_says (at l) told x
          (if b then record { cycle = l; channel = channel; retire = retire_in v channel } ∷ [] else [])
      by true x = ap (λ e. if e && (channel == check.channel) then such (retire_in v channel) else x) own
      by false x = refl

  -- nothing is found in cycles before
  none_found : (run : List Values) (channels first count cycle : ℕ) (rest : Bool) → first + count ≤ cycle
      → first_says (at cycle) told rest (retirements run channels first count) ≡ rest
  none_found run channels first zero cycle rest within = refl
  none_found run channels first (suc count) cycle rest within =
      let k = first + count in
      says_append (at cycle) told rest (retirements run channels first count)
      (retired_from (values_at run k) k 0 channels)
      ∙ ap (λ x. first_says (at cycle) told x (retirements run channels first count))
      (passed (values_at run k) k cycle 0 channels rest (λ e. omega (arith, e, within)))
      ∙ none_found run channels first count cycle rest (omega (arith, within))

  last_found : (run : List Values) (channels first count cycle : ℕ) → first + count ≡ cycle
      → first_says (at cycle) told true (retirements run channels first (suc count))
      ≡ first_says (at 0) told true (retired_from (values_at run cycle) 0 0 channels)
  last_found run channels first count cycle e =
      let k = first + count in
      let last = retired_from (values_at run k) k 0 channels in
      says_append (at cycle) told true (retirements run channels first count) last
      ∙ none_found run channels first count cycle (first_says (at cycle) told true last) (omega (arith, e))
      ∙ ap (λ j. first_says (at cycle) told true (retired_from (values_at run j) j 0 channels)) e
      ∙ renumbered (values_at run cycle) cycle 0 0 channels true

  -- so what the check's retirement is asked is asked of the cycle's map
  pub alike : (run : List Values) (channels : ℕ) → check.start ≤ check.cycle
      → where_found (found_at check check.cycle (retirements run channels check.start (check.cycle - check.start + 1)))
      such
      ≡ where_found
      (found_at (in_cycle check 0) 0 (retired_from (values_at run check.cycle) 0 0 channels)) such
  alike run channels le =
      let count = check.cycle - check.start in
      let one : count + 1 ≡ suc count = omega arith in
      let last : check.start + count ≡ check.cycle = omega (arith, le) in
      ap (λ n. where_found (found_at check check.cycle (retirements run channels check.start n)) such) one
      ∙ found_says (at check.cycle) such (retirements run channels check.start (suc count))
      ∙ last_found run channels check.start count check.cycle last
      ∙ sym (found_says (at 0) such (retired_from (values_at run check.cycle) 0 0 channels))

pub properties_are_of_maps : PropertiesAreOfMaps
properties_are_of_maps run channels wants check opts one le = by check.kind one
  where
    by : (kind : CheckKind) → is_of_one_cycle kind ≡ true
        → where_found
        (found_at check (cycle_of check kind) (retirements run channels check.start (check.cycle - check.start + 1)))
        (λ r. holds_at check (retirements run channels check.start (check.cycle - check.start + 1))
        (probe_in (values_at run check.cycle) wants) opts r kind)
        ≡ where_found
        (found_at (in_cycle check 0) (cycle_of (in_cycle check 0) kind)
        (retired_from (values_at run check.cycle) 0 0 channels))
        (λ r. holds_at (in_cycle check 0) (retired_from (values_at run check.cycle) 0 0 channels)
        (probe_in (values_at run check.cycle) wants) opts r kind)
    by kinds.Insn e = alike check (does_as_row check.row opts) run channels le
    by kinds.Ill e = alike check traps_zeros run channels le
    by kinds.Imem e = alike check (has_probed_halves (probe_in (values_at run check.cycle) wants)) run channels le
    by kinds.Reg e = absurd (true≢false (sym e))
    by kinds.PcFwd e = absurd (true≢false (sym e))
    by kinds.PcBwd e = absurd (true≢false (sym e))
    by kinds.Causal e = absurd (true≢false (sym e))
    by kinds.Unique e = absurd (true≢false (sym e))
    by kinds.Liveness e = absurd (true≢false (sym e))
    by kinds.Dmem e = absurd (true≢false (sym e))

-- the check's first cycle doesn't count there
pub any_start : (check : Check) (rs : List Retired) (probe : Probe) (opts : Opts) (kind : CheckKind)
    → is_of_one_cycle kind ≡ true
    → where_found (found_at (at_cycle check 0) (cycle_of (at_cycle check 0) kind) rs)
    (λ r. holds_at (at_cycle check 0) rs probe opts r kind)
    ≡ where_found (found_at (in_cycle check 0) (cycle_of (in_cycle check 0) kind) rs)
    (λ r. holds_at (in_cycle check 0) rs probe opts r kind)
any_start check rs probe opts kinds.Insn e = refl
any_start check rs probe opts kinds.Ill e = refl
any_start check rs probe opts kinds.Imem e = refl
any_start check rs probe opts kinds.Reg e = absurd (true≢false (sym e))
any_start check rs probe opts kinds.PcFwd e = absurd (true≢false (sym e))
any_start check rs probe opts kinds.PcBwd e = absurd (true≢false (sym e))
any_start check rs probe opts kinds.Causal e = absurd (true≢false (sym e))
any_start check rs probe opts kinds.Unique e = absurd (true≢false (sym e))
any_start check rs probe opts kinds.Liveness e = absurd (true≢false (sym e))
any_start check rs probe opts kinds.Dmem e = absurd (true≢false (sym e))
