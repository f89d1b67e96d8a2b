-- What the calls of both halves ask for.
use Rattle.std.specs.Prelude.{◌≡◌, refl, ℕ, ◌-◌, ◌<◌, ◌^◌}
use Rattle.std.specs.Prelude.{List, [], ◌∷◌, length, map, sum, slice_index}
use Rattle.std.specs.List.{AllByRecursion}
use Rattle.std.proofs.Common.{ap, sym, ◌∙◌, arith}
use Rattle.std.proofs.lemmas.Nat.{pow_pos}
use Rattle.std.proofs.lemmas.List.{length-map}
use Rattle.wn_net.specs.declared.parts.Reg.{Reg}
use Rattle.wn_net.specs.declared.parts.Mem.{Mem}
use Rattle.wn_net.specs.Net.{Netlist, AreNodes, IsNode, width_at}
use Rattle.wn_run.specs.Runs.{Choices}
use Rattle.bm_induct.specs.declared.how.Rebuild.{Rebuild}
use Rattle.bm_induct.specs.declared.how.Rebuild.TheVariants.{Waived, Freed}
use Rattle.bm_induct.specs.Rebuilt.{IsRebuilt, moved_id}
use Rattle.ck_history.specs.Lines.{AddsKnown}
use Rattle.bm_unroll.specs.declared.frames.Frames.{Frames}
use Rattle.bm_unroll.specs.declared.frames.Source.{Source}
use Rattle.bm_unroll.specs.Frames.{HasWatch, IsChoice, IsWithin}
use Rattle.bm_induct.specs.Halves.{IsStepChoice, IsWithinBy}
use Rattle.bm_induct.proofs.Choosing.{old_choices}
use Rattle.bm_induct.proofs.Halves.{freed_choice, waived_choice}

pub regs_many : (how : Rebuild) (net made : Netlist) → IsRebuilt how net made → length made.regs ≡ length net.regs
regs_many how net made r =
    sym (length-map made.regs (λ (r : Reg). r.width)) ∙ ap length r.reg_widths
    ∙ length-map net.regs (λ (r : Reg). r.width)

pub is_within : (how : Rebuild) (more : ℕ) (net made last : Netlist) → IsWithinBy more net → IsRebuilt how net made
    → AddsKnown made last more → IsWithin last
is_within how more net made last within r known =
    let inputs : length last.inputs ≡ length net.inputs = ap length (known.adds.inputs ∙ r.inputs) in
    let words : sum (map (λ m. m.words) last.mems) ≡ sum (map (λ m. m.words) net.mems) =
    ap (λ ms. sum (map (λ (m : Mem). m.words) ms)) known.adds.mems ∙ ap sum r.mem_words in
    let regs = regs_many how net made r in (
      omega (arith, inputs, within.0),
      omega (arith, words, regs, known.count, within.1),
    )

pub nodes_anew : (how : Rebuild) (net made : Netlist) (ids : List ℕ) → IsRebuilt how net made → AreNodes net ids
    → AreNodes made (map (moved_id net) ids)
nodes_anew how net made [] r own = tt
nodes_anew how net made (id ∷ ids) r own =
    ((r.there (width_at net id) id (own.0, refl)).0, nodes_anew how net made ids r own.1)

pub node_anew : (how : Rebuild) (net made : Netlist) (id : ℕ) → IsRebuilt how net made → IsNode net id
    → IsNode made (moved_id net id)
node_anew how net made id r own = (r.there (width_at net id) id (own, refl)).0

pub all_below : (net : Netlist) (ids : List ℕ) → length net.nodes < 2 ^ 62 → AreNodes net ids
    → AllByRecursion (λ id. id < 2 ^ 63) ids
all_below net [] few own = tt
all_below net (id ∷ ids) few own = (omega (arith, few, own.0), all_below net ids few own.1)

-- nothing is watched
none_watched : (f : ℕ → ℕ) (ids : List ℕ) → map f ids ≡ [] → ids ≡ []
none_watched f [] e = refl
none_watched f (id ∷ ids) e = cc

abbrev no_choices : Choices
no_choices = record { each_cycle = λ k i. 0; once = λ i. 0; regs = λ i. 0; words = λ m i. 0 }

pub no_watch : (net : Netlist) (k : ℕ) (f : Frames) → HasWatch net [] k f → f.watch ≡ []
no_watch net k f watch = none_watched _ f.watch (watch no_choices (record {
  each_cycle = λ k i below. pow_pos (slice_index (map (λ x. x.width) net.inputs) i);
  once = λ i below. pow_pos (slice_index (map (λ x. x.width) net.inputs) i);
  regs = λ i below. pow_pos (slice_index (map (λ r. r.width) net.regs) i);
  words = λ m i below. pow_pos (slice_index (map (λ m. m.width) net.mems) m);
}))

-- ---- sources

all_waived : (net made : Netlist) (k : ℕ) (xs : List Source) → IsRebuilt Waived net made
    → AllByRecursion (IsChoice made k) xs → AllByRecursion (IsChoice net k) xs
all_waived net made k [] r own = tt
all_waived net made k (x ∷ xs) r own = (waived_choice net made k x r own.0, all_waived net made k xs r own.1)

pub base_sources : (net made last : Netlist) (registers k : ℕ) (xs : List Source) → IsRebuilt Waived net made
    → AddsKnown made last registers → AllByRecursion (IsChoice last k) xs → AllByRecursion (IsChoice net k) xs
base_sources net made last registers k xs r known own =
    all_waived net made k xs r (old_choices made last registers k xs known own)

all_freed : (net made : Netlist) (k : ℕ) (xs : List Source) → IsRebuilt Freed net made
    → AllByRecursion (IsChoice made k) xs → AllByRecursion (IsStepChoice net k) xs
all_freed net made k [] r own = tt
all_freed net made k (x ∷ xs) r own = (freed_choice net made k x r own.0, all_freed net made k xs r own.1)

pub step_sources : (net made last : Netlist) (registers k : ℕ) (xs : List Source) → IsRebuilt Freed net made
    → AddsKnown made last registers → AllByRecursion (IsChoice last k) xs → AllByRecursion (IsStepChoice net k) xs
step_sources net made last registers k xs r known own =
    all_freed net made k xs r (old_choices made last registers k xs known own)
