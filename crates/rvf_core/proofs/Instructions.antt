-- Where no check of an instruction fails at a channel, its words agree with the table.
use Rattle.std.proofs.Common.{◌≡◌, inl, inr, ℕ, zero, suc, ◌+◌, ◌-◌, ◌<◌, ◌≤◌, Bool, true, false, not, cond, ◌&&◌, ◌==◌}
use Rattle.std.proofs.Common.{List, [], ◌∷◌, ◌++◌, Option, Some, None, Ok, refl, sym, ap, ◌∙◌, subst, arith, true≢false}
use Rattle.std.specs.Prelude.{find, option_map, option_to_list, if◌then◌else◌}
use Rattle.std.specs.List.{AllByRecursion, Contains, filter, range_with_len}
use Rattle.std.proofs.lemmas.Bool.Decides.{nat_tests}
use Rattle.rv_table.specs.declared.row.RowId.{RowId}
use Rattle.rv_table.specs.declared.retire.Opts.{Opts}
use Rattle.rv_table.specs.declared.retire.Retire.{Retire}
use Rattle.rv_table.specs.Agree.{agrees}
use Rattle.rv_table.specs.Effect.{effect}
use Rattle.rv_table.specs.Matching.{matches}
use Rattle.vl_size.specs.Size.{Values}
use Rattle.vl_mean.specs.Runs.{IsRun}
use Rattle.ck_cfg.specs.declared.check.Check.{Check}
use Rattle.ck_cfg.specs.declared.config.Config.{Config}
use Rattle.ck_cfg.specs.declared.config.Depth.{Depth}
use Rattle.ck_cfg.specs.declared.kind.CheckKind.{CheckKind}
use Rattle.ck_cfg.specs.declared.kind.CheckKind.TheVariants as kind
use Rattle.ck_cfg.specs.Checks.{channel_check, channel_checks, check_at, checks_of, depth_for, is_named, isa_rows}
use Rattle.ck_cfg.specs.Checks.{kind_checks, kind_rows, listed_checks, moved}
use Rattle.ck_cfg.specs.Kind.{kinds}
use Rattle.ck_cfg.specs.Lawful.{IsCheck}
use Rattle.ck_cfg.proofs.Depths.{read_is_lawful}
use Rattle.ck_spec.specs.declared.retired.Retired.{Retired}
use Rattle.ck_spec.specs.declared.retired.Probe.{Probe}
use Rattle.ck_spec.specs.Lists.{is_at, where_found}
use Rattle.ck_spec.specs.Properties.{does_as_row, holds_at, property}
use Rattle.ck_design.specs.Retirements.{holds_over, probe_in, retire_in, retired_by, retired_from, retirements, retires_in}
use Rattle.ck_design.specs.Retirements.{values_at}
use Rattle.rvf_case.specs.Loads.{design_of}
use Rattle.rvf_core.specs.InsnLaw.{InstructionsAgree}
use Rattle.rvf_core.specs.Verdicts.{opts_in, text_of, wants_in}
use Rattle.rvf_core.proofs.Members.{In, from_contains, from_filter, from_flat, in_either, in_filter, in_flat, in_left}
use Rattle.rvf_core.proofs.Members.{in_map, in_range, in_right, to_contains}

-- ---- which checks there are

-- a check that stands in a list stands there when the named ones are moved to its front
into_moved : (names : List (List ℕ)) (x : Check) (xs : List Check) → In x xs → In x (moved names xs)
into_moved [] x xs h = h
into_moved (name ∷ names) x xs h =
    by (is_named name x) refl (λ i. into_moved names x (filter (λ c. not (is_named name c)) xs) i)
  where
    by : (b : Bool) → is_named name x ≡ b
        → (In x (filter (λ c. not (is_named name c)) xs) → In x (moved names (filter (λ c. not (is_named name c)) xs)))
        → In x (moved (name ∷ names) xs)
    by true e rest =
        in_left x (filter (is_named name) xs) (moved names (filter (λ c. not (is_named name c)) xs))
        (in_filter (is_named name) x xs h e)
    by false e rest =
        in_right x (filter (is_named name) xs) (moved names (filter (λ c. not (is_named name c)) xs))
        (rest (in_filter (λ c. not (is_named name c)) x xs h (ap not e)))

from_moved : (names : List (List ℕ)) (x : Check) (xs : List Check) → In x (moved names xs) → In x xs
from_moved [] x xs h = h
from_moved (name ∷ names) x xs h =
    elim (in_either x (filter (is_named name) xs) (moved names (filter (λ c. not (is_named name c)) xs)) h) [
      | inl i ↦ from_filter (is_named name) x xs i
      | inr i ↦ from_filter (λ c. not (is_named name c)) x xs
          (from_moved names x (filter (λ c. not (is_named name c)) xs) i)
    ]

-- a check is the one of its kind, its row and its channel, by a depth for these
record IsOfDepth (c : Config) (x : Check) : Type 0 where
  kind : CheckKind
  row : Option RowId
  channel : ℕ
  depth : Depth
  there : depth_for c.depths kind channel ≡ Some depth
  is : x ≡ check_at kind row channel depth

of_option : {X Y : Type 0} (f : X → Y) (o : Option X) (y : Y) → In y (option_to_list (option_map f o))
    → (x : X) × (o ≡ Some x) × (y ≡ f x)
of_option f None y h = absurd h
of_option f (Some x) y (inl e) = (x, refl, sym e)
of_option f (Some x) y (inr h) = absurd h

of_depth : (c : Config) (x : Check) → In x (checks_of c) → IsOfDepth c x
of_depth c x h =
    let k = from_flat (kind_checks c) x kinds (from_moved c.sort x (listed_checks c) h) in
    let r = from_flat (channel_checks c k.0) x (kind_rows c.isa k.0) k.2 in
    let n = from_flat (channel_check c.depths k.0 r.0) x (range_with_len 0 c.nret) r.2 in
    let d = of_option (check_at k.0 r.0 n.0) (depth_for c.depths k.0 n.0) x n.2 in
    record { kind = k.0; row = r.0; channel = n.0; depth = d.0; there = d.1; is = d.2 }

-- `Insn` is the first of the kinds
first_kind : In kind.Insn kinds
first_kind = inl refl

to_option : {X Y : Type 0} (f : X → Y) (o : Option X) (x : X) → o ≡ Some x → In (f x) (option_to_list (option_map f o))
to_option f o x e = subst (λ p. In (f x) (option_to_list (option_map f p))) (sym e) (inl refl)

-- each row of the instruction set has its check, where there is a depth
row_check : (c : Config) (row : RowId) (channel : ℕ) (d : Depth) → In row (isa_rows c.isa) → channel < c.nret
    → depth_for c.depths kind.Insn channel ≡ Some d
    → In (check_at kind.Insn (Some row) channel d) (checks_of c)
row_check c row channel d h less e =
    let y : Check = check_at kind.Insn (Some row) channel d in
    let z : 0 + channel ≡ channel = omega arith in
    into_moved c.sort y (listed_checks c)
    (in_flat (kind_checks c) y kind.Insn kinds first_kind
    (in_flat (channel_checks c kind.Insn) y (Some row) (kind_rows c.isa kind.Insn)
    (in_map (λ r. Some r) row (isa_rows c.isa) h)
    (in_flat (channel_check c.depths kind.Insn (Some row)) y channel (range_with_len 0 c.nret)
    (subst (λ k. In k (range_with_len 0 c.nret)) z (in_range c.nret 0 channel less))
    (to_option (check_at kind.Insn (Some row) channel) (depth_for c.depths kind.Insn channel) d e))))

-- ---- the retirement that a check is about

eq_true : (a b : ℕ) → a ≡ b → (a == b) ≡ true
eq_true a b h = grind (arith, nat_tests, h)

eq_false : (a b : ℕ) → (a ≡ b → ⊥) → (a == b) ≡ false
eq_false a b h = grind (arith, nat_tests, h)

find_behind : (p : Retired → Bool) (xs ys : List Retired) → find p xs ≡ None → find p (xs ++ ys) ≡ find p ys
find_behind p [] ys e = refl
find_behind p (x ∷ xs) ys e = by (p x) (λ f. find_behind p xs ys f) e
  where
    by : (b : Bool) → (find p xs ≡ None → find p (xs ++ ys) ≡ find p ys) → cond b (Some x) (find p xs) ≡ None
        → cond b (Some x) (find p (xs ++ ys)) ≡ find p ys
    by true rest f = absurd (let g : ⊥ = cc in g)
    by false rest f = rest f

find_front : (p : Retired → Bool) (xs ys : List Retired) (r : Retired) → find p xs ≡ Some r
    → find p (xs ++ ys) ≡ Some r
find_front p [] ys r e = absurd (let f : ⊥ = cc in f)
find_front p (x ∷ xs) ys r e = by (p x) (λ f. find_front p xs ys r f) e
  where
    by : (b : Bool) → (find p xs ≡ Some r → find p (xs ++ ys) ≡ Some r) → cond b (Some x) (find p xs) ≡ Some r
        → cond b (Some x) (find p (xs ++ ys)) ≡ Some r
    by true rest f = f
    by false rest f = rest f

module _ (x : Check) (k : ℕ) where
  abbrev p : Retired → Bool
  p r = is_at x k r

  none_by : (v : Values) (cycle channel : ℕ) → (cycle == k && channel == x.channel) ≡ false
      → find p (retired_by v cycle channel) ≡ None
  none_by v cycle channel e = by (retires_in v channel)
    where
      by : (b : Bool) → find p (if b then record {
        cycle = cycle;
        channel = channel;
        retire = retire_in v channel;
      } ∷ [] else []) ≡ None
      by true = ap (λ b. cond b (Some (record { cycle = cycle; channel = channel; retire = retire_in v channel })) None) e
      by false = refl

  other_cycle : (v : Values) (cycle channel count : ℕ) → (cycle ≡ k → ⊥)
      → find p (retired_from v cycle channel count) ≡ None
  other_cycle v cycle channel zero h = refl
  other_cycle v cycle channel (suc count) h =
      find_behind p (retired_by v cycle channel) (retired_from v cycle (channel + 1) count)
      (none_by v cycle channel (ap (λ b. b && channel == x.channel) (eq_false cycle k h)))
      ∙ other_cycle v cycle (channel + 1) count h

  before_cycle : (run : List Values) (channels first count : ℕ) → first + count ≤ k
      → find p (retirements run channels first count) ≡ None
  before_cycle run channels first zero h = refl
  before_cycle run channels first (suc count) h =
      find_behind p (retirements run channels first count)
      (retired_from (values_at run (first + count)) (first + count) 0 channels)
      (before_cycle run channels first count (omega (arith, h)))
      ∙ other_cycle (values_at run (first + count)) (first + count) 0 channels (λ e. omega (arith, e, h))

  -- that of the cycle and the channel
  abbrev own : Values → Retired
  own v = record { cycle = k; channel = x.channel; retire = retire_in v x.channel }

  here : (v : Values) (channel count : ℕ) → channel ≤ x.channel → x.channel < channel + count
      → retires_in v x.channel ≡ true → find p (retired_from v k channel count) ≡ Some (own v)
  here v channel zero low high t = absurd (omega (arith, low, high))
  here v channel (suc count) low high t =
      by (channel == x.channel) refl (λ lower higher. here v (channel + 1) count lower higher t)
    where
      rest : List Retired
      rest = retired_from v k (channel + 1) count

      by : (b : Bool) → (channel == x.channel) ≡ b
          → (channel + 1 ≤ x.channel → x.channel < channel + 1 + count → find p rest ≡ Some (own v))
          → find p (retired_from v k channel (suc count)) ≡ Some (own v)
      by true e behind =
          let same : channel ≡ x.channel = grind (arith, nat_tests, e) in
          let P : ℕ → Type 0 = λ n. find p (retired_by v k n) ≡ Some (own v) in
          let one : find p (retired_by v k x.channel) ≡ Some (own v) =
          ap (λ b. find p (if b then own v ∷ [] else [])) t
          ∙ ap (λ b. cond b (Some (own v)) None)
          (λ i. eq_true k k refl i && eq_true x.channel x.channel refl i) in
          find_front p (retired_by v k channel) rest (own v) (subst P (sym same) one)
      by false e behind =
          let apart : channel ≡ x.channel → ⊥ = λ q. true≢false (sym (eq_true channel x.channel q) ∙ e) in
          find_behind p (retired_by v k channel) rest
          (none_by v k channel (ap (λ b. b && channel == x.channel) (eq_true k k refl) ∙ e))
          ∙ behind (omega (arith, low, apart)) (omega (arith, high))

  found : (run : List Values) (channels first : ℕ) → first ≤ k → x.channel < channels
      → retires_in (values_at run k) x.channel ≡ true
      → find p (retirements run channels first (k - first + 1)) ≡ Some (own (values_at run k))
  found run channels first le less t =
      let n : ℕ = k - first in
      let next : n + 1 ≡ suc n = omega arith in
      let at : first + n ≡ k = omega (arith, le) in
      let P : ℕ → Type 0 = λ m. find p (retired_from (values_at run m) m 0 channels) ≡ Some (own (values_at run k)) in
      ap (λ m. find p (retirements run channels first m)) next
      ∙ find_behind p (retirements run channels first n)
      (retired_from (values_at run (first + n)) (first + n) 0 channels)
      (before_cycle run channels first n (omega (arith, at)))
      ∙ subst P (sym at) (here (values_at run k) 0 channels (omega arith) (omega (arith, less)) t)

-- ---- its property

holds_or : (b : Bool) → (b ≡ false → ⊥) → b ≡ true
holds_or true h = refl
holds_or false h = absurd (h refl)

implied : (a b : Bool) → a ≡ true → (if a then b else true) ≡ true → b ≡ true
implied true b e h = h
implied false b e h = absurd (true≢false (sym e))

-- the property of a check of a row is that the word of its retirement does as the row
row_property : (row : RowId) (channel : ℕ) (d : Depth) (run : List Values) (channels : ℕ) (probe : Probe) (opts : Opts)
    → d.start ≤ d.cycle → channel < channels → retires_in (values_at run d.cycle) channel ≡ true
    → property (check_at kind.Insn (Some row) channel d)
    (retirements run channels d.start (d.cycle - d.start + 1)) probe opts ≡ true
    → matches row (retire_in (values_at run d.cycle) channel).insn ≡ true
    → agrees (retire_in (values_at run d.cycle) channel) (effect row (retire_in (values_at run d.cycle) channel) opts)
    ≡ true
row_property row channel d run channels probe opts le less t holds matched =
    let y : Check = check_at kind.Insn (Some row) channel d in
    let rs : List Retired = retirements run channels d.start (d.cycle - d.start + 1) in
    let r : Retire = retire_in (values_at run d.cycle) channel in
    let does : does_as_row (Some row) opts r ≡ true =
    ap (λ o. where_found o (λ z. holds_at y rs probe opts z kind.Insn))
    (sym (found y d.cycle run channels d.start le less t)) ∙ holds in
    implied (matches row r.insn) (agrees r (effect row r opts)) matched does

lawful_at : (channels : ℕ) (x : Check) (xs : List Check) → AllByRecursion (IsCheck channels) xs → In x xs
    → IsCheck channels x
lawful_at channels x [] a h = absurd h
lawful_at channels x (y ∷ ys) a (inl e) = subst (IsCheck channels) e a.0
lawful_at channels x (y ∷ ys) a (inr h) = lawful_at channels x ys a.1 h

pub instructions_agree : InstructionsAgree
instructions_agree bytes c files x reading run row read there of_insn none is runs assumed retires member matched =
    let h : In x (checks_of c) = from_contains x (checks_of c) there in
    let o : IsOfDepth c x = of_depth c x h in
    let lawful : IsCheck c.nret x = lawful_at c.nret x (checks_of c) (read_is_lawful bytes (Ok c) read) h in
    let own : x.kind ≡ o.kind = ap (λ (z : Check). z.kind) o.is in
    let to_insn : o.kind ≡ kind.Insn = sym own ∙ of_insn in
    let channel : o.channel ≡ x.channel = sym (ap (λ (z : Check). z.channel) o.is) in
    let cycle : o.depth.cycle ≡ x.cycle = sym (ap (λ (z : Check). z.cycle) o.is) in
    let start : o.depth.start ≡ x.start = sym (ap (λ (z : Check). z.start) o.is) in
    let depth : depth_for c.depths kind.Insn x.channel ≡ Some o.depth =
    (λ i. depth_for c.depths (sym to_insn i) (sym channel i)) ∙ o.there in
    let y : Check = check_at kind.Insn (Some row) x.channel o.depth in
    let of_y : Contains (checks_of c) y =
    to_contains y (checks_of c) (row_check c row x.channel o.depth (from_contains row (isa_rows c.isa) member)
    lawful.channel depth) in
    let a = text_of c files kind.Insn in
    let ps = design_of reading.tree.modules in
    let run_of_y : IsRun ps o.depth.cycle run = subst (λ k. IsRun ps k run) (sym cycle) runs in
    let holds : holds_over run c.nret (wants_in a reading) y (opts_in a reading) ≡ true =
    holds_or (holds_over run c.nret (wants_in a reading) y (opts_in a reading))
    (λ fails. none y of_y refl refl run (record {
      reading = reading;
      is = is;
      violating = record { is_run = run_of_y; assumed = assumed; fails = fails };
    })) in
    let le : o.depth.start ≤ o.depth.cycle = omega (arith, lawful.lawful.start, lawful.lawful.trig, start, cycle) in
    let P : ℕ → Type 0 = λ k.
    retires_in (values_at run k) x.channel ≡ true
    → matches row (retire_in (values_at run k) x.channel).insn ≡ true
    → agrees (retire_in (values_at run k) x.channel)
    (effect row (retire_in (values_at run k) x.channel) (opts_in a reading)) ≡ true in
    subst P cycle
    (λ t m. row_property row x.channel o.depth run c.nret (probe_in (values_at run o.depth.cycle) (wants_in a reading))
    (opts_in a reading) le lawful.channel t holds m) retires matched
