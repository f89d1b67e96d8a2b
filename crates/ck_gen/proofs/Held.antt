-- The properties that are about earlier retirements, over the entries that are kept of them.
use Rattle.std.specs.Prelude.{◌≡◌, refl, ℕ, suc, ◌+◌, ◌*◌, ◌<◌, ◌≤◌, ◌==◌, Bool, true, false, not, ◌&&◌, ◌||◌}
use Rattle.std.specs.Prelude.{nat_le, nat_lt, if◌then◌else◌, List, ◌∷◌, ◌++◌, length, reverse}
use Rattle.std.proofs.Common.{ap, sym, ◌∙◌, arith}
use Rattle.std.proofs.lemmas.Bool.Decides.{nat_tests}
use Rattle.fv_bits.specs.Bits.{bit, part}
use Rattle.rv_table.specs.declared.retire.Retire.{Retire}
use Rattle.rv_table.specs.declared.retire.Opts.{Opts}
use Rattle.rv_table.specs.Agree.{has, byte}
use Rattle.rv_table.specs.Fields.{field}
use Rattle.wn_net.specs.Value.{Given}
use Rattle.wn_net.specs.Net.{Netlist}
use Rattle.rvfi_port.specs.declared.port.Channel.{Channel}
use Rattle.ck_cfg.specs.declared.check.Check.{Check}
use Rattle.ck_cfg.specs.declared.kind.CheckKind.{CheckKind}
use Rattle.ck_cfg.specs.declared.kind.CheckKind.TheVariants as kinds
use Rattle.ck_spec.specs.declared.retired.Retired.{Retired}
use Rattle.ck_spec.specs.declared.retired.Probe.{Probe}
use Rattle.ck_spec.specs.Lists.{looks_both_ways, is_other, stands_before, is_earlier, last_earlier, any_earlier}
use Rattle.ck_spec.specs.Lists.{where_found}
use Rattle.ck_spec.specs.Properties.{holds_at, was_written, reads_early}
use Rattle.ck_spec.specs.Properties.{byte_was_written, implies}
use Rattle.ck_history.specs.Entries.{Entry}
use Rattle.ck_history.specs.Lines.{past}
use Rattle.ck_history.specs.declared.sought.Sought.{Sought}
use Rattle.ck_history.specs.declared.sought.WordTest.TheVariants as datum
use Rattle.ck_history.specs.Searches.{agrees, first_agrees}
use Rattle.ck_gen.specs.Retirements.{retirements}
use Rattle.ck_gen.specs.Kept.{entry, kept, kept_in, holds_over, byte_as_stored, read_as_written}
use Rattle.ck_gen.specs.Kept.{sought_write, sought_before, sought_behind, sought_reader, sought_store}
use Rattle.ck_gen.proofs.Says.{first_says, found_says, none_says, first_or}
use Rattle.ck_gen.proofs.Cycles.{told, meets, AreAlike, IsPassedOver, earlier_says, others_say}

le_true : (a b : ℕ) → a ≤ b → nat_le a b ≡ true
le_true a b h = grind (arith, nat_tests, h)

lt_true : (a b : ℕ) → a < b → nat_lt a b ≡ true
lt_true a b h = grind (arith, nat_tests, h)

lt_false : (a b : ℕ) → b ≤ a → nat_lt a b ≡ false
lt_false a b h = grind (arith, nat_tests, h)

eq_false : (a b : ℕ) → (a ≡ b → ⊥) → (a == b) ≡ false
eq_false a b h = grind (arith, nat_tests, h)

eq_true : (a b : ℕ) → a ≡ b → (a == b) ≡ true
eq_true a b h = grind (arith, nat_tests, h)

-- whether a retirement comes before the one that the check is about
earlier_cycle : (a k b : ℕ) (x : Bool) → a ≤ k → k < b
    → ((nat_le a k && nat_le k b) && (nat_lt k b || ((k == b) && x))) ≡ true
earlier_cycle a k b x low high =
    λ i. (le_true a k low i && le_true k b (omega (arith, high)) i) && (lt_true k b high i || ((k == b) && x))

same_cycle : (a b : ℕ) (x : Bool) → a ≤ b
    → ((nat_le a b && nat_le b b) && (nat_lt b b || ((b == b) && x))) ≡ x
same_cycle a b x low =
    λ i. (le_true a b low i && le_true b b (omega arith) i)
    && (lt_false b b (omega arith) i || (eq_true b b refl i && x))

-- another one: in an earlier cycle, or in another channel of the same one
other_cycle : (a k b : ℕ) (x : Bool) → a ≤ k → k < b → ((nat_le a k && nat_le k b) && not ((k == b) && x)) ≡ true
other_cycle a k b x low high =
    λ i. (le_true a k low i && le_true k b (omega (arith, high)) i)
    && not (eq_false k b (λ e. omega (arith, e, high)) i && x)

other_channel : (a b : ℕ) (x : Bool) → a ≤ b → ((nat_le a b && nat_le b b) && not ((b == b) && x)) ≡ not x
other_channel a b x low =
    λ i. (le_true a b low i && le_true b b (omega arith) i) && not (eq_true b b refl i && x)

module _ (net : Netlist) (run : ℕ → Given) (before behind : List Channel) (c : Channel) (check : Check) (d : ℕ)
    (last : check.cycle ≡ check.start + d) (own_channel : check.channel ≡ length before) where
  abbrev pub cs : List Channel
  cs = before ++ c ∷ behind

  abbrev pub rs : List Retired
  rs = retirements net run cs check.start (suc d)

  -- the entries of the earlier ones, the last one first
  abbrev pub stood : CheckKind → List Entry
  stood kind = kept_in kind net (run (check.start + d)) before ++ past (λ k. kept_in kind net (run k) cs) check.start d

  abbrev pub earlier_by : Bool → CheckKind → List Entry
  earlier_by both kind = if both then kept_in kind net (run (check.start + d)) behind ++ stood kind else stood kind

  abbrev pub earlier : CheckKind → List Entry
  earlier kind = earlier_by (looks_both_ways kind) kind

  abbrev pub is_such : (Retire → Bool) → Retired → Bool
  is_such such r = is_earlier check r && such r.retire

  -- by whether the kind looks both ways
  abbrev pub is_such_by : Bool → (Retire → Bool) → Retired → Bool
  is_such_by both such r = (if both then is_other check r else stands_before check r) && such r.retire

  before_it : (both : Bool) (such : Retire → Bool) (k j : ℕ) (r : Retire) → check.start ≤ k → k < check.start + d
      → is_such_by both such (told k j r) ≡ such r
  before_it true such k j r low high =
      ap (λ b. b && such r) (other_cycle check.start k check.cycle (j == check.channel) low (omega (arith, high, last)))
  before_it false such k j r low high =
      ap (λ b. b && such r) (earlier_cycle check.start k check.cycle (nat_lt j check.channel) low
      (omega (arith, high, last)))

  -- in the check's cycle, in the channel of this number
  beside_it : (such : Retire → Bool) (j : ℕ) (r : Retire)
      → is_such_by false such (told (check.start + d) j r) ≡ (nat_lt j (length before) && such r)
  beside_it such j r =
      ap (λ k. is_such_by false such (told k j r)) (sym last)
      ∙ ap (λ b. b && such r) (same_cycle check.start check.cycle (nat_lt j check.channel) (omega (arith, last)))
      ∙ ap (λ n. nat_lt j n && such r) own_channel

  around_it : (such : Retire → Bool) (j : ℕ) (r : Retire)
      → is_such_by true such (told (check.start + d) j r) ≡ (not (j == length before) && such r)
  around_it such j r =
      ap (λ k. is_such_by true such (told k j r)) (sym last)
      ∙ ap (λ b. b && such r) (other_channel check.start check.cycle (j == check.channel) (omega (arith, last)))
      ∙ ap (λ n. not (j == n) && such r) own_channel

  module _ (kind : CheckKind) (s : Sought) (own : Entry) (such test : Retire → Bool)
      (sought : (there : ℕ) (r : Retire) → such r ≡ meets kind s own there r)
      (says : (there : ℕ) (r : Retire) → test r ≡ agrees s.word own (kept kind there r)) where
    alike_before : (both : Bool) (k : ℕ) → check.start ≤ k → k < check.start + d
        → AreAlike net kind s own (is_such_by both such) (λ e. test e.retire) k 0 (length cs)
    alike_before both k low high = record {
      sought = λ j there r a b. before_it both such k j r low high ∙ sought there r;
      says = λ j there r a b. says there r;
    }

    alike_beside : AreAlike net kind s own (is_such_by false such) (λ e. test e.retire) (check.start + d) 0
        (length before)
    alike_beside = record {
      sought = λ j there r a b.
          beside_it such j r ∙ ap (λ x. x && such r) (lt_true j (length before) b) ∙ sought there r;
      says = λ j there r a b. says there r;
    }

    none_behind : IsPassedOver net kind s own (is_such_by false such) (λ e. test e.retire) (check.start + d)
        (length before) (length before + length (c ∷ behind))
    none_behind = λ j r low high. beside_it such j r ∙ ap (λ x. x && such r) (lt_false j (length before) low)

    alike_around : (low high : ℕ) → ((j : ℕ) → low ≤ j → j < high → j ≡ length before → ⊥)
        → AreAlike net kind s own (is_such_by true such) (λ e. test e.retire) (check.start + d) low high
    alike_around low high other = record {
      sought = λ j there r a b.
          around_it such j r ∙ ap (λ x. not x && such r) (eq_false j (length before) (other j a b)) ∙ sought there r;
      says = λ j there r a b. says there r;
    }

    own_passed : IsPassedOver net kind s own (is_such_by true such) (λ e. test e.retire) (check.start + d)
        (0 + length before) (0 + length before + 1)
    own_passed = λ j r low high.
        around_it such j r ∙ ap (λ x. not x && such r) (eq_true j (length before) (omega (arith, low, high)))

    by_direction : (both : Bool)
        → first_says (is_such_by both such) (λ e. test e.retire) true (reverse rs)
        ≡ first_agrees s own (earlier_by both kind)
    by_direction true =
        let n = length before in
        others_say net kind s own (is_such_by true such) (λ e. test e.retire) run before behind c check.start d
        (alike_before true) (alike_around 0 n (λ j u v e. omega (arith, v, e))) own_passed
        (alike_around (0 + n + 1) (0 + n + 1 + length behind) (λ j u v e. omega (arith, u, e)))
        ∙ sym (first_or s own (earlier_by true kind))
    by_direction false =
        earlier_says net kind s own (is_such_by false such) (λ e. test e.retire) run before (c ∷ behind) check.start d
        (alike_before false) alike_beside none_behind
        ∙ sym (first_or s own (earlier_by false kind))

    earlier_are : check.kind ≡ kind
        → first_says (is_such such) (λ e. test e.retire) true (reverse rs) ≡ first_agrees s own (earlier kind)
    earlier_are of_kind =
        ap (λ k. first_says (is_such_by (looks_both_ways k) such) (λ e. test e.retire) true (reverse rs)) of_kind
        ∙ by_direction (looks_both_ways kind)

    -- the last of those before it that are such
    pub last_is : check.kind ≡ kind → where_found (last_earlier check such rs) test ≡ first_agrees s own (earlier kind)
    last_is of_kind = found_says (is_such such) test (reverse rs) ∙ earlier_are of_kind

  -- none of them is such
  pub none_is : (kind : CheckKind) (s : Sought) (own : Entry) (such : Retire → Bool) → check.kind ≡ kind
      → s.word ≡ datum.Never
      → ((there : ℕ) (r : Retire) → such r ≡ meets kind s own there r)
      → not (any_earlier check such rs) ≡ first_agrees s own (earlier kind)
  none_is kind s own such of_kind e sought =
      sym (none_says (is_such such) true rs)
      ∙ earlier_are kind s own such (λ r. false) sought
      (λ there r. sym (ap (λ w. agrees w own (kept kind there r)) e)) of_kind

  written_is : (there order register value : ℕ) (r : Retire) → check.kind ≡ kinds.Reg → r.order ≡ order
      → was_written check rs order register value
      ≡ read_as_written there r (earlier kinds.Reg) register value
  written_is there order register value r of_kind e =
      ap (λ o. was_written check rs o register value) (sym e)
      ∙ ap (λ b. (register == 0) || b)
      (last_is kinds.Reg sought_write (entry there r.order register value)
      (λ e. nat_lt e.order r.order && (e.rd_addr == register)) (λ e. e.rd_wdata == value) (λ t e. refl) (λ t e. refl)
      of_kind)

  and_comm : (a b : Bool) → (a && b) ≡ (b && a)
  and_comm true true = refl
  and_comm true false = refl
  and_comm false true = refl
  and_comm false false = refl

  and_true : (a : Bool) → a ≡ (a && true)
  and_true true = refl
  and_true false = refl

  no_bit : (b : Bool) → not b ≡ (bit b == 0)
  no_bit true = refl
  no_bit false = refl

  byte_is : (there i : ℕ) (r : Retire) → check.kind ≡ kinds.Dmem
      → ((mask : ℕ) → has mask i ≡ (part i 1 mask == 1))
      → ((a b : ℕ) → (byte i a == byte i b) ≡ (part (8 * i) 8 a == part (8 * i) 8 b))
      → byte_was_written check rs r i ≡ byte_as_stored there r (earlier kinds.Dmem) i
  byte_is there i r of_kind bits bytes =
      ap (implies (has r.mem_rmask i))
      (last_is kinds.Dmem (sought_store i) (entry there r.mem_addr r.rd_addr r.mem_rdata)
      (λ e. (e.mem_addr == r.mem_addr) && has e.mem_wmask i) (λ e. byte i e.mem_wdata == byte i r.mem_rdata)
      (λ t e. ap (λ b. (e.mem_addr == r.mem_addr) && b) (bits e.mem_wmask))
      (λ t e. bytes e.mem_wdata r.mem_rdata) of_kind)
      ∙ by (has r.mem_rmask i) _
      ∙ ap (λ b. not b || first_agrees (sought_store i) (entry there r.mem_addr r.rd_addr r.mem_rdata)
      (earlier kinds.Dmem)) (bits r.mem_rmask)
    where
      by : (b c : Bool) → implies b c ≡ (not b || c)
      by true c = refl
      by false c = refl

  pub reg_is : check.kind ≡ kinds.Reg → (there : ℕ) (r : Retire) (probe : Probe) (opts : Opts)
      → holds_at check rs probe opts r kinds.Reg ≡ holds_over there r (earlier kinds.Reg) probe.dmem_addr kinds.Reg
  reg_is of_kind there r probe opts = λ i.
      written_is there r.order r.rs1_addr r.rs1_rdata r of_kind refl i
      && written_is there r.order r.rs2_addr r.rs2_rdata r of_kind refl i

  pub fwd_is : check.kind ≡ kinds.PcFwd → (there : ℕ) (r : Retire) (probe : Probe) (opts : Opts)
      → holds_at check rs probe opts r kinds.PcFwd ≡ holds_over there r (earlier kinds.PcFwd) probe.dmem_addr
      kinds.PcFwd
  fwd_is of_kind there r probe opts =
      ap (λ b. r.intr || b)
      (last_is kinds.PcFwd sought_before (entry there r.order r.rd_addr r.pc_rdata)
      (λ e. r.order == e.order + 1) (λ e. e.pc_wdata == r.pc_rdata) (λ t e. and_true _) (λ t e. refl)
      of_kind)

  pub bwd_is : check.kind ≡ kinds.PcBwd → (there : ℕ) (r : Retire) (probe : Probe) (opts : Opts)
      → holds_at check rs probe opts r kinds.PcBwd ≡ holds_over there r (earlier kinds.PcBwd) probe.dmem_addr
      kinds.PcBwd
  bwd_is of_kind there r probe opts =
      last_is kinds.PcBwd sought_behind (entry there r.order r.rd_addr r.pc_wdata)
      (λ e. not e.intr && (e.order == r.order + 1)) (λ e. e.pc_rdata == r.pc_wdata)
      (λ t e. ap (λ b. b && (e.order == r.order + 1)) (no_bit e.intr)
      ∙ and_comm (bit e.intr == 0) (e.order == r.order + 1))
      (λ t e. refl) of_kind

  pub causal_is : check.kind ≡ kinds.Causal → (there : ℕ) (r : Retire) (probe : Probe) (opts : Opts)
      → holds_at check rs probe opts r kinds.Causal ≡ holds_over there r (earlier kinds.Causal) probe.dmem_addr
      kinds.Causal
  causal_is of_kind there r probe opts =
      ap (λ b. (r.rd_addr == 0) || b)
      (none_is kinds.Causal sought_reader (entry there r.order r.rd_addr r.rd_wdata) (λ e. reads_early e r) of_kind
      refl (λ t e. refl))

  pub dmem_is : check.kind ≡ kinds.Dmem → (there : ℕ) (r : Retire) (probe : Probe) (opts : Opts)
      → holds_at check rs probe opts r kinds.Dmem ≡ holds_over there r (earlier kinds.Dmem) probe.dmem_addr kinds.Dmem
  unfolding field
  dmem_is of_kind there r probe opts =
      let b : ℕ → Bool = byte_as_stored there r (earlier kinds.Dmem) in
      ap (implies (r.mem_addr == probe.dmem_addr))
      ((λ i. first i && second i && third i && fourth i) ∙ paired (b 0) (b 1) (b 2) (b 3))
      ∙ by (r.mem_addr == probe.dmem_addr) ((b 0 && b 1) && (b 2 && b 3))
    where
      by : (b c : Bool) → implies b c ≡ (not b || c)
      by true c = refl
      by false c = refl

      paired : (a b c d : Bool) → (a && b && c && d) ≡ ((a && b) && (c && d))
      paired true true c d = refl
      paired true false c d = refl
      paired false b c d = refl

      first : byte_was_written check rs r 0 ≡ byte_as_stored there r (earlier kinds.Dmem) 0
      first = byte_is there 0 r of_kind (λ m. refl) (λ a b. refl)

      second : byte_was_written check rs r 1 ≡ byte_as_stored there r (earlier kinds.Dmem) 1
      second = byte_is there 1 r of_kind (λ m. refl) (λ a b. refl)

      third : byte_was_written check rs r 2 ≡ byte_as_stored there r (earlier kinds.Dmem) 2
      third = byte_is there 2 r of_kind (λ m. refl) (λ a b. refl)

      fourth : byte_was_written check rs r 3 ≡ byte_as_stored there r (earlier kinds.Dmem) 3
      fourth = byte_is there 3 r of_kind (λ m. refl) (λ a b. refl)
