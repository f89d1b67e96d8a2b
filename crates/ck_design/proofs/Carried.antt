-- A lowered net stays lowered behind more nodes.
use Rattle.std.specs.Prelude.{◌≡◌, refl, ℕ, zero, suc, ◌≤◌, ◌↔◌, Bool, List, [], ◌∷◌, length, map, ℤ}
use Rattle.std.specs.Prelude.{Option, Some, bytes_eq, is_none, position, slice_get, slice_index}
use Rattle.std.specs.Int.{bit_at}
use Rattle.std.specs.List.{AllByRecursion}
use Rattle.std.proofs.Common.{ap, sym, ◌∙◌, arith, subst, true≢false}
use Rattle.std.proofs.lemmas.List.{length-map, take_all}
use Rattle.std.proofs.lemmas.Option.{same_Some}
use Rattle.vl_size.specs.declared.decl.Decl.{Decl}
use Rattle.vl_size.specs.Size.{Values}
use Rattle.vl_mean.specs.Cells.{cells_of}
use Rattle.vl_mean.specs.Parts.{Part}
use Rattle.vl_mean.specs.Runs.{Agrees, HasReset, Holds, Init, KeepsOnce, Next, Each, PartAssumes}
use Rattle.vl_mean_flat.specs.Flattened.{decls_of}
use Rattle.wn_net.specs.declared.names.Names.{Names}
use Rattle.wn_net.specs.declared.names.NetName.{NetName}
use Rattle.wn_net.specs.declared.names.Spot.{Spot}
use Rattle.wn_net.specs.declared.names.Place.{Place}
use Rattle.wn_net.specs.declared.names.Place.TheVariants as place
use Rattle.wn_net.specs.declared.parts.Input.{Input}
use Rattle.wn_net.specs.declared.parts.Mem.{Mem}
use Rattle.wn_net.specs.declared.parts.Reg.{Reg}
use Rattle.wn_net.specs.declared.parts.State.{State}
use Rattle.wn_net.specs.Value.{Given}
use Rattle.wn_net.specs.Net.{Netlist, IsNet, values_of}
use Rattle.wn_net.specs.Given.{AreMemsOf, AreNumbersOf, IsGiven}
use Rattle.wn_net.specs.Names.{AreNamesOf, IsNameOf, IsPlaced, IsShown, AreShown, number_at}
use Rattle.wn_net.specs.Next.{next_state}
use Rattle.wn_net.specs.Changes.{AddsNodes}
use Rattle.wn_net.proofs.Laws.{adds_regs, given_on, names_on}
use Rattle.wn_run.specs.Runs.{Choices, AreChoicesOf, IsMet, first_regs, mems_from, regs_from, start_of}
use Rattle.wn_run.proofs.OldRun.{old_run}
use Rattle.vl_lower_spec.specs.Evaluations.{HaveReset, IsLowered, IsStart, KeepOnce}
use Rattle.vl_lower_spec.specs.Spots.{AreEach, AreSources, IsInputOf, IsMemOf, IsRegOf}
use Rattle.vl_lower_spec.specs.Maps.{given_of, map_in, map_of, number_or, place_number, state_of}

first_all : (n : ℕ) (s : State) → length s.regs ≤ n → first_regs n s ≡ s
first_all n s le = λ i. record { regs = take_all n s.regs le i; mems = s.mems }

module _ (old new : Netlist) (whole : IsNet old) (adds : AddsNodes old new) where
  pub given_back : (g : Given) → IsGiven new g → IsGiven old g
  given_back g h = record {
    inputs = subst (λ (ins : List Input). AreNumbersOf (map (λ x. x.width) ins) g.inputs) adds.inputs h.inputs;
    state = record {
      regs = subst (λ (rs : List Reg). AreNumbersOf (map (λ x. x.width) rs) g.state.regs) adds.regs h.state.regs;
      mems = subst (λ (ms : List Mem). AreMemsOf ms g.state.mems) adds.mems h.state.mems;
    };
  }

  -- ---- the map of a cycle

  place_same : (g : Given) (width : ℕ) (output : Bool) (words : Option (ℤ × ℤ)) (p : Place) (k : ℕ)
      → IsPlaced old width output words p → place_number new g p k ≡ place_number old g p k
  place_same g width output words (place.Node id) k h = adds.keeps.values g id h.0.0
  place_same g width output words (place.Mem m) k h = refl

  in_same : (g : Given) (xs : List NetName) (text : List ℕ) → AllByRecursion (IsNameOf old) xs
      → map_in new g xs text ≡ map_in old g xs text
  in_same g [] text h = refl
  in_same g (x ∷ xs) text h = λ i.
      number_or (position (bytes_eq text) (cells_of x.text x.words))
      (λ k. place_same g x.width x.output x.words x.place k h.0 i) (in_same g xs text h.1 i)

  pub maps_same : (names : Names) (g : Given) → AreNamesOf old names → map_of new names g ≡ map_of old names g
  maps_same names g own = λ i text. in_same g names.list text own.placed i

  number_same : (g : Given) (width : ℕ) (output : Bool) (words : Option (ℤ × ℤ)) (p : Place)
      → IsPlaced old width output words p → number_at new g p ≡ number_at old g p
  number_same g width output words (place.Node id) h = adds.keeps.values g id h.0.0
  number_same g width output words (place.Mem m) h = refl

  pub named_number_same : (g : Given) (x : NetName) → IsNameOf old x
      → number_at new g x.place ≡ number_at old g x.place
  named_number_same g x h = number_same g x.width x.output x.words x.place h

  -- ---- what is shown

  name_at : (xs : List NetName) (i : ℕ) (x : NetName) → AllByRecursion (IsNameOf old) xs → slice_get xs i ≡ Some x
      → IsNameOf old x
  name_at [] i x h e = absurd (true≢false (ap is_none e))
  name_at (y ∷ ys) zero x h e = subst (λ (z : NetName). IsNameOf old z) (same_Some y x e) h.0
  name_at (y ∷ ys) (suc i) x h e = name_at ys i x h.1 e

  shown_on : (g : Given) (names : Names) (ns : List ℕ) (ss : List Spot) → AreNamesOf old names
      → AreShown old g names ns ss → AreShown new g names ns ss
  shown_on g names ns [] own h = tt
  shown_on g names [] (s ∷ ss) own h = h
  shown_on g names (n ∷ ns) (s ∷ ss) own h =
      let here : IsShown new g names n s = λ x e j less.
      h.0 x e j less
      ∙ ap (λ m. bit_at m (slice_index s.bits j))
      (sym (named_number_same g x (name_at names.list s.name x own.placed e))) in
      (here, shown_on g names ns ss own h.1)

  -- ---- what inputs, registers and memories are bits of

  pub sources_on : (ds : List Decl) (ps : List Part) (names : Names) → AreSources ds ps old names
      → AreSources ds ps new names
  sources_on ds ps names h = record {
    inputs = subst (λ (ins : List Input). AreEach (IsInputOf ds names) ins names.inputs) (sym adds.inputs) h.inputs;
    regs = subst (λ (rs : List Reg). AreEach (IsRegOf ds ps names) rs names.regs) (sym adds.regs) h.regs;
    mems = subst (λ (ms : List Mem). AreEach (IsMemOf ds ps names) ms names.mems) (sym adds.mems) h.mems;
    each = h.each;
  }

  -- ---- the next state

  few_regs : (g : Given) → IsGiven old g → length g.state.regs ≤ length old.regs
  few_regs g h = omega (arith, h.state.regs.each, length-map old.regs (λ (r : Reg). r.width))

  pub next_same : (g : Given) → IsGiven old g → next_state new g ≡ next_state old g
  next_same g h =
      let n = length old.regs in
      let ran = old_run old new (λ k. g.inputs) g.state 1 whole (adds_regs old new adds) in
      let e : length new.regs ≡ n = ap length adds.regs in
      let le : length (next_state new g).regs ≤ n =
      omega (arith, e, length-map new.regs (λ (r : Reg). slice_index (values_of new g) r.next)) in
      let S : State → State = λ s. next_state old (record { inputs = g.inputs; state = s }) in
      sym (first_all n (next_state new g) le) ∙ ran.state ∙ ap S (first_all n g.state (few_regs g h))

  pub met_same : (g : Given) → IsGiven old g → IsMet new g ↔ IsMet old g
  met_same g h =
      let n = length old.regs in
      let ran = old_run old new (λ k. g.inputs) g.state 0 whole (adds_regs old new adds) in
      let M : State → Type 0 = λ s. IsMet old (record { inputs = g.inputs; state = s }) in
      let e = first_all n g.state (few_regs g h) in
      let to = λ (m : IsMet new g). subst M e (ran.met.0 m) in
      let from = λ (m : IsMet old g). ran.met.1 (subst M (sym e) m) in
      (to, from)

  -- ---- starts, resets, what is chosen once

  pub choices_on : (ch : Choices) → AreChoicesOf old ch → AreChoicesOf new ch
  choices_on ch own =
      let ins : length new.inputs ≡ length old.inputs = ap length adds.inputs in
      let rs : length new.regs ≡ length old.regs = ap length adds.regs in
      let ms : length new.mems ≡ length old.mems = ap length adds.mems in
      record {
        each_cycle = λ k i below. rw adds.inputs (own.each_cycle k i (omega (arith, ins, below)));
        once = λ i below. rw adds.inputs (own.once i (omega (arith, ins, below)));
        regs = λ i below. rw adds.regs (own.regs i (omega (arith, rs, below)));
        words = λ m i below. rw adds.mems (own.words m i (omega (arith, ms, below)));
      }

  pub choices_back : (ch : Choices) → AreChoicesOf new ch → AreChoicesOf old ch
  choices_back ch own =
      let ins : length new.inputs ≡ length old.inputs = ap length adds.inputs in
      let rs : length new.regs ≡ length old.regs = ap length adds.regs in
      let ms : length new.mems ≡ length old.mems = ap length adds.mems in
      record {
        each_cycle = λ k i below. rw (sym adds.inputs) (own.each_cycle k i (omega (arith, ins, below)));
        once = λ i below. rw (sym adds.inputs) (own.once i (omega (arith, ins, below)));
        regs = λ i below. rw (sym adds.regs) (own.regs i (omega (arith, rs, below)));
        words = λ m i below. rw (sym adds.mems) (own.words m i (omega (arith, ms, below)));
      }

  start_same : (ch : Choices) → start_of new ch ≡ start_of old ch
  start_same ch = λ i. record {
    regs = regs_from ch.regs 0 (adds.regs i);
    mems = mems_from ch.words 0 (adds.mems i);
  }

  start_on : (s : State) → IsStart old s → IsStart new s
  start_on s x =
      record { choices = x.choices; of = choices_on x.choices x.of; same = x.same ∙ sym (start_same x.choices) }

  start_back : (s : State) → IsStart new s → IsStart old s
  start_back s x =
      record { choices = x.choices; of = choices_back x.choices x.of; same = x.same ∙ start_same x.choices }

  input_on : (i : ℕ) (x : Input) → slice_get new.inputs i ≡ Some x → slice_get old.inputs i ≡ Some x
  input_on i x e = sym (ap (λ ins. slice_get ins i) adds.inputs) ∙ e

  input_back : (i : ℕ) (x : Input) → slice_get old.inputs i ≡ Some x → slice_get new.inputs i ≡ Some x
  input_back i x e = ap (λ ins. slice_get ins i) adds.inputs ∙ e

pub lowered_on : (ps : List Part) (old new : Netlist) (names : Names) → IsLowered ps old names → IsNet old
    → AddsNodes old new → IsLowered ps new names
lowered_on ps old new names h whole adds =
    let back = given_back old new whole adds in
    let same = λ (g : Given). maps_same old new whole adds names g h.named in
    record {
      entries = h.entries;
      named = names_on old new names adds h.named;
      all = record {
        inputs = h.all.inputs ∙ sym (ap length adds.inputs);
        regs = h.all.regs ∙ sym (ap length adds.regs);
        mems = h.all.mems ∙ sym (ap length adds.mems);
      };
      shown = λ g is.
          let s = h.shown g (back g is) in
          record {
            inputs = shown_on old new whole adds g names g.inputs names.inputs h.named s.inputs;
            regs = shown_on old new whole adds g names g.state.regs names.regs h.named s.regs;
          };
      sources = sources_on old new whole adds (decls_of ps) ps names h.sources;
      different = h.different;
      apart = h.apart;
      holds = λ g is. subst (λ (v : Values). Holds ps v) (sym (same g)) (h.holds g (back g is));
      back = λ g is. ap (given_of names) (same g) ∙ h.back g (back g is);
      given = λ v is. given_on old new (given_of names v) adds (h.given v is);
      whole = λ v is. subst (λ (u : Values). Agrees ps u v) (sym (same (given_of names v))) (h.whole v is);
      steps = λ v u hv hu.
          let next = next_same old new whole adds (given_of names v) (h.given v hv) in
          let was = h.steps v u hv hu in
          let to = λ (n : Next ps v u). was.0 n ∙ sym next in
          let from = λ (e : state_of names u ≡ next_state new (given_of names v)). was.1 (e ∙ next) in
          (to, from);
      starts = λ v hv.
          let was = h.starts v hv in
          let s = state_of names v in
          let to = λ (n : Init ps v). start_on old new whole adds s (was.0 n) in
          let from = λ (n : IsStart new s). was.1 (start_back old new whole adds s n) in
          (to, from);
      resets = λ v y hv.
          let was = h.resets v y hv in
          let ins = (given_of names v).inputs in
          let to = λ (n : HasReset ps y v) (i : ℕ) (x : Input) (e : slice_get new.inputs i ≡ Some x).
          was.0 n i x (input_on old new whole adds i x e) in
          let from = λ (n : HaveReset new y ins).
          was.1 (λ i x e. n i x (input_back old new whole adds i x e)) in
          (to, from);
      once = λ v u hv hu.
          let was = h.once v u hv hu in
          let to = λ (n : KeepsOnce ps v u) (i : ℕ) (x : Input) (e : slice_get new.inputs i ≡ Some x).
          was.0 n i x (input_on old new whole adds i x e) in
          let from = λ (n : KeepOnce new (given_of names v).inputs (given_of names u).inputs).
          was.1 (λ i x e. n i x (input_back old new whole adds i x e)) in
          (to, from);
      assumes = λ v hv.
          let was = h.assumes v hv in
          let met = met_same old new whole adds (given_of names v) (h.given v hv) in
          let to = λ (n : Each (PartAssumes v) ps). met.1 (was.0 n) in
          let from = λ (n : IsMet new (given_of names v)). was.1 (met.0 n) in
          (to, from);
    }
