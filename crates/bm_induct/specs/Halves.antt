-- Meaning: The frames of the two halves of an induction on the runs of a net. Rule of this project.
use Rattle.std.specs.Prelude.{◌≡◌, ◌↔◌, ℕ, ◌+◌, ◌<◌, ◌≤◌, [], length, map, sum}
use Rattle.std.specs.Prelude.{Some, slice_get, slice_index, slice_index_or}
use Rattle.std.specs.List.{AllByRecursion}
use Rattle.wn_net.specs.declared.parts.InputKind.TheVariants.{EachCycle, Once}
use Rattle.wn_net.specs.Net.{Netlist}
use Rattle.wn_run.specs.Runs.{Choices, AreChoicesOf}
use Rattle.bm_induct.specs.StepRuns.{IsBaseRun, IsStepRun}
use Rattle.bm_unroll.specs.declared.frames.Frames.{Frames}
use Rattle.bm_unroll.specs.declared.frames.Source.{Source}
use Rattle.bm_unroll.specs.declared.frames.Source.TheVariants as s
use Rattle.bm_unroll.specs.Frames.{values_under}

-- at most a million inputs, and at most a hundred million registers and words of memories together with those that are
-- added
abbrev pub IsWithinBy : ℕ → Netlist → Type 0
IsWithinBy more net =
    (length net.inputs ≤ 1000000) × (length net.regs + sum (map (λ m. m.words) net.mems) + more ≤ 100000000)

-- under these choices all roots are other than 0
abbrev pub AreOther : Frames → Choices → Type 0
AreOther f ch = AllByRecursion (λ id. slice_index (values_under f ch) id ≡ 0 → ⊥) f.roots

-- under each choice they are exactly where the run with it has the bad node other than 0 in a cycle from 1 to k, and
-- meets the assumptions up to this cycle
abbrev pub HasBase : Netlist → ℕ → ℕ → Frames → Type 0
HasBase net bad k f = (ch : Choices) → AreChoicesOf net ch → AreOther f ch ↔ IsBaseRun net bad k ch

-- under each choice they are exactly where it is that of a step run of length k
abbrev pub HasStep : Netlist → ℕ → ℕ → Frames → Type 0
HasStep net bad k f = (ch : Choices) → AreChoicesOf net ch → AreOther f ch ↔ IsStepRun net bad k ch

-- A source is chosen in step runs of length k: an input that may change in each cycle, in one of them; an input that is
-- chosen once; each register and each word, whatever it begins with in a run.
abbrev pub IsStepChoice : Netlist → ℕ → Source → Type 0
IsStepChoice net k (s.Each i j) = (slice_get (map (λ x. x.kind) net.inputs) i ≡ Some EachCycle) × (j ≤ k)
IsStepChoice net k (s.Once i) = slice_get (map (λ x. x.kind) net.inputs) i ≡ Some Once
IsStepChoice net k (s.RegStart r) = r < length net.regs
IsStepChoice net k (s.WordStart m w) = w < length (slice_index_or (map (λ x. x.init) net.mems) m [])
