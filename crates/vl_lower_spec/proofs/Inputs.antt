-- The inputs of a cycle, by their kinds.
use Rattle.std.specs.Prelude.{◌≡◌, refl, ℕ, zero, suc, ◌+◌, ◌==◌, List, [], ◌∷◌, Some, is_none}
use Rattle.std.specs.Prelude.{slice_get, slice_index, Bool, true, false, if◌then◌else◌}
use Rattle.std.proofs.Common.{ap, sym, ◌∙◌, arith, true≢false}
use Rattle.std.proofs.lemmas.Bool.Decides.{nat_tests}
use Rattle.std.proofs.lemmas.Option.{same_Some}
use Rattle.wn_net.specs.declared.parts.Input.{Input}
use Rattle.wn_net.specs.declared.parts.InputKind.{InputKind}
use Rattle.wn_net.specs.declared.parts.InputKind.TheVariants as kind
use Rattle.wn_net.specs.Net.{Netlist}
use Rattle.wn_run.specs.Runs.{Choices, by_kind, inputs_from, inputs_at, reset_at}
use Rattle.vl_lower_spec.specs.Evaluations.{ResetIs, OnceIs, HaveReset, KeepOnce}

-- the input at a place
pub input_from : (each once : ℕ → ℕ) (reset j : ℕ) (xs : List Input) (i : ℕ) (x : Input) → slice_get xs i ≡ Some x
    → slice_index (inputs_from each once reset j xs) i ≡ by_kind (each (j + i)) (once (j + i)) reset x.kind
input_from each once reset j [] i x e = absurd (true≢false (ap is_none e))
input_from each once reset j (y ∷ xs) zero x e =
    let same : j ≡ j + zero = omega arith in
    (λ i. by_kind (each (same i)) (once (same i)) reset (same_Some y x e i).kind)
input_from each once reset j (y ∷ xs) (suc i) x e =
    let same : j + 1 + i ≡ j + suc i = omega arith in
    input_from each once reset (j + 1) xs i x e ∙ (λ k. by_kind (each (same k)) (once (same k)) reset x.kind)

pub input_at : (net : Netlist) (ch : Choices) (k i : ℕ) (x : Input) → slice_get net.inputs i ≡ Some x
    → slice_index (inputs_at net ch k) i ≡ by_kind (ch.each_cycle k i) (ch.once i) (reset_at k) x.kind
input_at net ch k i x e =
    let same : 0 + i ≡ i = omega arith in
    input_from (ch.each_cycle k) ch.once (reset_at k) 0 net.inputs i x e
    ∙ (λ j. by_kind (ch.each_cycle k (same j)) (ch.once (same j)) (reset_at k) x.kind)

-- a reset is 0 later
abbrev reset_if : Bool → ℕ
reset_if b = if b then 1 else 0

pub reset_later : (k : ℕ) → reset_at (suc k) ≡ 0
reset_later k = by (suc k == 0) refl
  where
    by : (b : Bool) → (suc k == 0) ≡ b → reset_if b ≡ 0
    by true e = let none : suc k ≡ 0 = grind (arith, nat_tests, e) in absurd (omega (arith, none))
    by false e = refl

-- the reset of a cycle
reset_by : (each once reset n : ℕ) (x : InputKind) → n ≡ by_kind each once reset x → ResetIs x n reset
reset_by each once reset n kind.Reset e = e
reset_by each once reset n kind.EachCycle e = tt
reset_by each once reset n kind.Once e = tt

pub has_reset : (net : Netlist) (ch : Choices) (k : ℕ) → HaveReset net (reset_at k) (inputs_at net ch k)
has_reset net ch k = λ i x e. reset_by _ _ (reset_at k) _ x.kind (input_at net ch k i x e)

-- what is chosen once
once_by : (each other once reset again m n : ℕ) (x : InputKind) → m ≡ by_kind other once again x
    → n ≡ by_kind each once reset x → OnceIs x m n
once_by each other once reset again m n kind.Reset e f = tt
once_by each other once reset again m n kind.EachCycle e f = tt
once_by each other once reset again m n kind.Once e f = e ∙ sym f

pub keeps_once : (net : Netlist) (ch : Choices) (k : ℕ) → KeepOnce net (inputs_at net ch k) (inputs_at net ch (suc k))
keeps_once net ch k = λ i x e.
    once_by _ _ _ _ _ _ _ x.kind (input_at net ch (suc k) i x e) (input_at net ch k i x e)
