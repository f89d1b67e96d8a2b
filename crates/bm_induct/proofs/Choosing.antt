-- What may be chosen in the runs of a net with more registers is what may be chosen in those of the net itself.
use Rattle.std.specs.Prelude.{◌≡◌, refl, ℕ, zero, suc, ◌<◌, ◌≤◌, ◌^◌, Bool, true, false, nat_lt, if◌then◌else◌}
use Rattle.std.specs.Prelude.{List, [], ◌∷◌, Some, drop, length, map, slice_get, slice_index, slice_index_or}
use Rattle.std.specs.Prelude.{take}
use Rattle.std.specs.List.{AllByRecursion}
use Rattle.std.proofs.Common.{ap, sym, ◌∙◌, arith, subst}
use Rattle.std.proofs.lemmas.Bool.Decides.{nat_tests}
use Rattle.std.proofs.lemmas.Nat.{pow_pos}
use Rattle.std.proofs.lemmas.List.{length-map}
use Rattle.wn_net.specs.declared.parts.Reg.{Reg}
use Rattle.wn_net.specs.declared.parts.Mem.{Mem}
use Rattle.wn_net.specs.declared.parts.Init.{Init}
use Rattle.wn_net.specs.declared.parts.Init.TheVariants.{Free}
use Rattle.wn_net.specs.Net.{Netlist}
use Rattle.wn_net.specs.Changes.{AddsRegs}
use Rattle.wn_net.proofs.Begun.{begun_map, begun_at}
use Rattle.wn_run.specs.Runs.{Choices, AreChoicesOf}
use Rattle.ck_history.specs.Lines.{AddsKnown, IsKnown}
use Rattle.bm_unroll.specs.declared.frames.Source.{Source}
use Rattle.bm_unroll.specs.declared.frames.Source.TheVariants as s
use Rattle.bm_unroll.specs.Frames.{IsChoice, chosen, source_width}

-- ---- a free register is an old one

free_is_old : (n r : ℕ) (rs : List Reg) → AllByRecursion (λ x. IsKnown x.init) (drop n rs)
    → slice_get (map (λ x. x.init) rs) r ≡ Some Free → r < n
free_is_old zero r [] known e = cc
free_is_old zero zero (x ∷ xs) known e =
    let free : x.init ≡ Free = cc in
    absurd (subst (λ (i : Init). IsKnown i) free known.0)
free_is_old zero (suc r) (x ∷ xs) known e = absurd (omega (arith, free_is_old zero r xs known.1 e))
free_is_old (suc n) r [] known e = cc
free_is_old (suc n) zero (x ∷ xs) known e = omega arith
free_is_old (suc n) (suc r) (x ∷ xs) known e = omega (arith, free_is_old n r xs known e)

get_taken : (n r : ℕ) (rs : List Reg) → r < n
    → slice_get (map (λ x. x.init) (take n rs)) r ≡ slice_get (map (λ x. x.init) rs) r
get_taken zero r rs h = absurd (omega (arith, h))
get_taken (suc n) r [] h = refl
get_taken (suc n) zero (x ∷ xs) h = refl
get_taken (suc n) (suc r) (x ∷ xs) h = get_taken n r xs (omega (arith, h))

width_taken : (n r : ℕ) (rs : List Reg) → r < n
    → slice_index (map (λ x. x.width) (take n rs)) r ≡ slice_index (map (λ x. x.width) rs) r
width_taken zero r rs h = absurd (omega (arith, h))
width_taken (suc n) r [] h = refl
width_taken (suc n) zero (x ∷ xs) h = refl
width_taken (suc n) (suc r) (x ∷ xs) h = width_taken n r xs (omega (arith, h))

old_choice : (old new : Netlist) (registers cycle : ℕ) (x : Source) → AddsKnown old new registers
    → IsChoice new cycle x → IsChoice old cycle x
old_choice old new registers cycle (s.Each i k) known c =
    (sym (ap (λ ins. slice_get (map (λ x. x.kind) ins) i) known.adds.inputs) ∙ c.0, c.1)
old_choice old new registers cycle (s.Once i) known c =
    sym (ap (λ ins. slice_get (map (λ x. x.kind) ins) i) known.adds.inputs) ∙ c
old_choice old new registers cycle (s.RegStart r) known c =
    let n = length old.regs in
    let less = free_is_old n r new.regs known.known c in
    sym (ap (λ rs. slice_get (map (λ x. x.init) rs) r) known.adds.regs) ∙ get_taken n r new.regs less ∙ c
old_choice old new registers cycle (s.WordStart m w) known c =
    let P = λ (ms : List Mem). slice_get (slice_index_or (map (λ x. x.init) ms) m []) w ≡ Some Free in
    subst P known.adds.mems c

pub old_choices : (old new : Netlist) (registers cycle : ℕ) (xs : List Source) → AddsKnown old new registers
    → AllByRecursion (IsChoice new cycle) xs → AllByRecursion (IsChoice old cycle) xs
old_choices old new registers cycle [] known own = tt
old_choices old new registers cycle (x ∷ xs) known own =
    (old_choice old new registers cycle x known own.0, old_choices old new registers cycle xs known own.1)

old_width : (old new : Netlist) (registers cycle : ℕ) (x : Source) → AddsKnown old new registers
    → IsChoice new cycle x → source_width new x ≡ source_width old x
old_width old new registers cycle (s.Each i k) known c =
    ap (λ ins. slice_index (map (λ x. x.width) ins) i) known.adds.inputs
old_width old new registers cycle (s.Once i) known c =
    ap (λ ins. slice_index (map (λ x. x.width) ins) i) known.adds.inputs
old_width old new registers cycle (s.RegStart r) known c =
    let n = length old.regs in
    let less = free_is_old n r new.regs known.known c in
    sym (width_taken n r new.regs less) ∙ ap (λ rs. slice_index (map (λ x. x.width) rs) r) known.adds.regs
old_width old new registers cycle (s.WordStart m w) known c =
    ap (λ ms. slice_index (map (λ x. x.width) ms) m) known.adds.mems

pub old_widths : (old new : Netlist) (registers cycle : ℕ) (xs : List Source) → AddsKnown old new registers
    → AllByRecursion (IsChoice new cycle) xs → map (source_width new) xs ≡ map (source_width old) xs
old_widths old new registers cycle [] known own = refl
old_widths old new registers cycle (x ∷ xs) known own = λ i.
    old_width old new registers cycle x known own.0 i ∷ old_widths old new registers cycle xs known own.1 i

-- ---- choices

take_within : (n : ℕ) (rs : List Reg) → length (take n rs) ≡ n → n ≤ length rs
take_within zero rs e = omega arith
take_within (suc n) [] e = absurd (omega (arith, e))
take_within (suc n) (r ∷ rs) e = omega (arith, take_within n rs (omega (arith, e)))

-- the choices of the net with more registers are choices of the net itself
pub fewer_choices : (old new : Netlist) (ch : Choices) → AddsRegs old new → AreChoicesOf new ch → AreChoicesOf old ch
fewer_choices old new ch adds own =
    let P : Netlist → Type 0 = λ m. AreChoicesOf m ch in
    let widths = begun_map (λ r. r.width) old.regs new.regs adds.regs in
    let within : length old.regs ≤ length new.regs =
    take_within (length old.regs) new.regs (ap length adds.regs) in
    record {
      each_cycle = λ k i below.
          let e : length new.inputs ≡ length old.inputs = ap length adds.inputs in
          rw (sym adds.inputs) (own.each_cycle k i (omega (arith, e, below)));
      once = λ i below.
          let e : length new.inputs ≡ length old.inputs = ap length adds.inputs in
          rw (sym adds.inputs) (own.once i (omega (arith, e, below)));
      regs = λ i below.
          rw (sym (begun_at _ _ i widths (omega (arith, below, length-map old.regs (λ (r : Reg). r.width)))))
          (own.regs i (omega (arith, below, within)));
      words = λ m i below.
          let e : length new.mems ≡ length old.mems = ap length adds.mems in
          rw (sym adds.mems) (own.words m i (omega (arith, e, below)));
    }

-- the choices of the net, and 0 for what begins with a known number
abbrev pub first_of : ℕ → (ℕ → ℕ) → ℕ → ℕ
first_of n choices i = if nat_lt i n then choices i else 0

pub first_is : (n i : ℕ) (choices : ℕ → ℕ) → i < n → first_of n choices i ≡ choices i
first_is n i choices h = grind (arith, nat_tests)

first_fits : (n i w : ℕ) (choices : ℕ → ℕ) → (i < n → choices i < 2 ^ w) → first_of n choices i < 2 ^ w
first_fits n i w choices h = by (nat_lt i n) refl
  where
    by : (b : Bool) → nat_lt i n ≡ b → (if b then choices i else 0) < 2 ^ w
    by true e = h (grind (arith, nat_tests, e))
    by false e = pow_pos w

abbrev pub more_choices : Netlist → Choices → Choices
more_choices old ch = record ch { regs = first_of (length old.regs) ch.regs }

pub choices_more : (old new : Netlist) (ch : Choices) → AddsRegs old new → AreChoicesOf old ch
    → AreChoicesOf new (more_choices old ch)
choices_more old new ch adds own =
    let n = length old.regs in
    let widths = begun_map (λ r. r.width) old.regs new.regs adds.regs in
    record {
      each_cycle = λ k i below.
          let e : length new.inputs ≡ length old.inputs = ap length adds.inputs in
          rw adds.inputs (own.each_cycle k i (omega (arith, e, below)));
      once = λ i below.
          let e : length new.inputs ≡ length old.inputs = ap length adds.inputs in
          rw adds.inputs (own.once i (omega (arith, e, below)));
      regs = λ i below.
          first_fits n i (slice_index (map (λ r. r.width) new.regs) i) ch.regs
          (λ less. rw (begun_at _ _ i widths (omega (arith, less, length-map old.regs (λ (r : Reg). r.width))))
          (own.regs i less));
      words = λ m i below.
          let e : length new.mems ≡ length old.mems = ap length adds.mems in
          rw adds.mems (own.words m i (omega (arith, e, below)));
    }

chosen_more : (old new : Netlist) (registers cycle : ℕ) (ch : Choices) (x : Source) → AddsKnown old new registers
    → IsChoice new cycle x → chosen (more_choices old ch) x ≡ chosen ch x
chosen_more old new registers cycle ch (s.Each i k) known c = refl
chosen_more old new registers cycle ch (s.Once i) known c = refl
chosen_more old new registers cycle ch (s.RegStart r) known c =
    first_is (length old.regs) r ch.regs (free_is_old (length old.regs) r new.regs known.known c)
chosen_more old new registers cycle ch (s.WordStart m w) known c = refl

pub same_chosen : (old new : Netlist) (registers cycle : ℕ) (ch : Choices) (xs : List Source)
    → AddsKnown old new registers → AllByRecursion (IsChoice new cycle) xs
    → map (chosen (more_choices old ch)) xs ≡ map (chosen ch) xs
same_chosen old new registers cycle ch [] known own = refl
same_chosen old new registers cycle ch (x ∷ xs) known own = λ i.
    chosen_more old new registers cycle ch x known own.0 i ∷ same_chosen old new registers cycle ch xs known own.1 i
