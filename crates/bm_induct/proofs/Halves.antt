-- From the frames of a net that was built anew, with more nodes, to those of the net itself.
use Rattle.std.specs.Prelude.{◌≡◌, refl, ℕ, zero, suc, ◌<◌, ◌↔◌}
use Rattle.std.specs.Prelude.{List, [], ◌∷◌, length, map}
use Rattle.std.specs.Prelude.{Some, slice_get, slice_index, slice_index_or}
use Rattle.std.specs.List.{AllByRecursion}
use Rattle.std.proofs.Common.{ap, sym, ◌∙◌, arith, subst}
use Rattle.std.proofs.lemmas.List.{length-map}
use Rattle.wn_net.specs.declared.parts.Init.{Init}
use Rattle.wn_net.specs.declared.parts.Init.TheVariants.{Free}
use Rattle.wn_net.specs.declared.parts.InputKind.TheVariants.{EachCycle, Once}
use Rattle.wn_net.specs.declared.parts.Reg.{Reg}
use Rattle.wn_net.specs.declared.parts.Mem.{Mem}
use Rattle.wn_net.specs.Value.{values}
use Rattle.wn_net.specs.Given.{AreNumbersOf}
use Rattle.wn_net.specs.Net.{Netlist}
use Rattle.wn_run.specs.Runs.{Choices, AreChoicesOf}
use Rattle.bm_induct.specs.declared.how.Rebuild.{Rebuild}
use Rattle.bm_induct.specs.declared.how.Rebuild.TheVariants.{Waived, Freed}
use Rattle.bm_induct.specs.Rebuilt.{IsRebuilt, start_for}
use Rattle.ck_history.specs.Lines.{AddsKnown}
use Rattle.bm_unroll.specs.declared.frames.Source.{Source}
use Rattle.bm_unroll.specs.declared.frames.Source.TheVariants as s
use Rattle.bm_unroll.specs.declared.frames.Frames.{Frames}
use Rattle.bm_unroll.specs.Frames.{AreChosen, IsChoice, frames_shape, source_width}
use Rattle.bm_induct.specs.Halves.{AreOther, IsStepChoice}
use Rattle.bm_induct.proofs.Anew.{same_choices, old_choices}
use Rattle.bm_induct.proofs.Choosing as more

-- ---- sources of the net itself

pub waived_choice : (net made : Netlist) (k : ℕ) (x : Source) → IsRebuilt Waived net made → IsChoice made k x
    → IsChoice net k x
waived_choice net made k (s.Each i j) r c =
    (subst (λ xs. slice_get (map (λ x. x.kind) xs) i ≡ Some EachCycle) r.inputs c.0, c.1)
waived_choice net made k (s.Once i) r c = subst (λ xs. slice_get (map (λ x. x.kind) xs) i ≡ Some Once) r.inputs c
waived_choice net made k (s.RegStart n) r c = subst (λ xs. slice_get xs n ≡ Some Free) r.reg_starts c
waived_choice net made k (s.WordStart m w) r c =
    subst (λ xss. slice_get (slice_index_or xss m []) w ≡ Some Free) (r.mem_starts ∙ same_all net.mems) c
  where
    same_list : (xs : List Init) → map (start_for Waived) xs ≡ xs
    same_list [] = refl
    same_list (x ∷ xs) = ap (λ us. x ∷ us) (same_list xs)

    same_all : (ms : List Mem) → map (λ m. map (start_for Waived) m.init) ms ≡ map (λ m. m.init) ms
    same_all [] = refl
    same_all (m ∷ ms) = λ j. same_list m.init j ∷ same_all ms j

there_in : {A : Type 0} (xs : List A) (i : ℕ) (x : A) → slice_get xs i ≡ Some x → i < length xs
there_in {A} [] i x e = absurd (ne e)
  where
    ne : slice_get {X = A} [] i ≡ Some x → ⊥
    ne e = cc
there_in (y ∷ ys) zero x e = omega arith
there_in (y ∷ ys) (suc i) x e = let h = there_in ys i x e in omega arith

pub freed_choice : (net made : Netlist) (k : ℕ) (x : Source) → IsRebuilt Freed net made → IsChoice made k x
    → IsStepChoice net k x
freed_choice net made k (s.Each i j) r c =
    (subst (λ xs. slice_get (map (λ x. x.kind) xs) i ≡ Some EachCycle) r.inputs c.0, c.1)
freed_choice net made k (s.Once i) r c = subst (λ xs. slice_get (map (λ x. x.kind) xs) i ≡ Some Once) r.inputs c
freed_choice net made k (s.RegStart n) r c =
    let below = there_in (map (λ (r : Reg). start_for Freed r.init) net.regs) n Free
    (subst (λ xs. slice_get xs n ≡ Some Free) r.reg_starts c) in
    omega (arith, below, length-map net.regs (λ (r : Reg). start_for Freed r.init))
freed_choice net made k (s.WordStart m w) r c =
    words net.mems m (subst (λ xss. slice_get (slice_index_or xss m []) w ≡ Some Free) r.mem_starts c)
  where
    words : (ms : List Mem) (n : ℕ)
        → slice_get (slice_index_or (map (λ m. map (start_for Freed) m.init) ms) n []) w ≡ Some Free
        → w < length (slice_index_or (map (λ m. m.init) ms) n [])
    words [] zero e = there_in [] w Free e
    words [] (suc n) e = there_in [] w Free e
    words (m ∷ ms) zero e =
        let below = there_in (map (start_for Freed) m.init) w Free e in
        omega (arith, below, length-map m.init (start_for Freed))
    words (m ∷ ms) (suc n) e = words ms n e

width_same : (how : Rebuild) (net made : Netlist) (x : Source) → IsRebuilt how net made
    → source_width made x ≡ source_width net x
width_same how net made (s.Each i k) r = ap (λ xs. slice_index (map (λ x. x.width) xs) i) r.inputs
width_same how net made (s.Once i) r = ap (λ xs. slice_index (map (λ x. x.width) xs) i) r.inputs
width_same how net made (s.RegStart n) r = ap (λ ws. slice_index ws n) r.reg_widths
width_same how net made (s.WordStart m w) r = ap (λ ws. slice_index ws m) r.mem_widths

-- a net that was built anew, and one with known registers more
module _ (how : Rebuild) (net made last : Netlist) (registers k : ℕ) (r : IsRebuilt how net made)
    (known : AddsKnown made last registers) where
  pub all_widths : (xs : List Source) → AllByRecursion (IsChoice last k) xs
      → map (source_width last) xs ≡ map (source_width net) xs
  all_widths xs own = more.old_widths made last registers k xs known own ∙ old xs
    where
      old : (ys : List Source) → map (source_width made) ys ≡ map (source_width net) ys
      old [] = refl
      old (y ∷ ys) = λ j. width_same how net made y r j ∷ old ys j

  -- choices of the net, as those of the net with more registers
  pub on : (ch : Choices) → AreChoicesOf net ch → AreChoicesOf last (more.more_choices made ch)
  on ch of = more.choices_more made last ch known.adds (same_choices how net made ch r of)

  pub off : (ch : Choices) → AreChoicesOf last ch → AreChoicesOf net ch
  off ch of = old_choices how net made ch r (more.fewer_choices made last ch known.adds of)

  pub all_chosen : (ws : List ℕ) (xs : List Source) → AllByRecursion (IsChoice last k) xs
      → AreChosen last ws xs → AreChosen net ws xs
  all_chosen ws xs own chosen_last = record {
    number = λ ch of.
        subst (λ ns. AreNumbersOf ws ns) (more.same_chosen made last registers k ch xs known own)
        (chosen_last.number (more.more_choices made ch) (on ch of));
    choice = λ numbers of.
        let c = chosen_last.choice numbers of in
        record { ch = c.ch; of_net = off c.ch c.of_net; same = c.same };
  }

  -- the frames have the same values under both
  pub same_other : (f : Frames) (ch : Choices) → AllByRecursion (IsChoice last k) f.sources
      → AreOther f (more.more_choices made ch) ↔ AreOther f ch
  same_other f ch own =
      let same = more.same_chosen made last registers k ch f.sources known own in
      let P : List ℕ → Type 0 = λ ns.
      AllByRecursion (λ id. slice_index (values (frames_shape f)
      (record { inputs = ns; state = record { regs = []; mems = [] } }) [] [] f.nodes) id ≡ 0 → ⊥) f.roots in
      let to = λ (h : AreOther f (more.more_choices made ch)). subst P same h in
      let from = λ (h : AreOther f ch). subst P (sym same) h in
      (to, from)
