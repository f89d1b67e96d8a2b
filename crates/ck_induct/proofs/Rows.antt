-- The trace of a step run of a net is that of the maps of the design, and has a dump.
use Rattle.std.specs.Prelude.{◌≡◌, refl, ℕ, zero, suc, ◌+◌, ◌<◌, ◌^◌, List, [], ◌∷◌, ◌++◌, length, map}
use Rattle.std.specs.Prelude.{Bool, Option, Some, None, ℤ, slice_index}
use Rattle.std.specs.List.{AllByRecursion, flat_map}
use Rattle.std.proofs.Common.{ap, sym, ◌∙◌, arith, subst, length-append}
use Rattle.vl_size.specs.Size.{Values}
use Rattle.vl_mean.specs.Parts.{Part}
use Rattle.fv_text.specs.declared.trace.TraceName.{TraceName}
use Rattle.wn_net.specs.declared.names.Names.{Names}
use Rattle.wn_net.specs.declared.names.NetName.{NetName}
use Rattle.wn_net.specs.declared.names.Place.{Place}
use Rattle.wn_net.specs.declared.names.Place.TheVariants as place
use Rattle.wn_net.specs.Value.{Given, words_of}
use Rattle.wn_net.specs.Net.{Netlist, IsNet}
use Rattle.wn_net.specs.Given.{IsGiven}
use Rattle.wn_net.specs.Names.{AreNamesOf, IsNameOf, IsPlaced, words_in}
use Rattle.wn_net.proofs.Moved.{value_within}
use Rattle.wn_net.proofs.Small.{words_below}
use Rattle.wn_run.specs.Runs.{Choices, AreChoicesOf}
use Rattle.vl_lower_spec.specs.Maps.{map_of}
use Rattle.vl_lower_spec.specs.Evaluations.{IsLowered, maps_from}
use Rattle.vcd_dump.specs.Vcd.{AreValues, IsTrace}
use Rattle.tr_replay.specs.Traces.{first_cycles, name_values, names_by, names_of, place_values, word_names}
use Rattle.bm_induct.specs.StepRuns.{step_cycle}
use Rattle.bm_induct.specs.Steps.{step_trace_of}
use Rattle.ck_design.specs.Traces.{HaveOwnNames, numbers_shown, trace_of_run}
use Rattle.ck_design.proofs.Dumps.{dumps}
use Rattle.ck_design.proofs.Names.{names_shown, numbers_by_texts, texts_differ}
use Rattle.ck_design.proofs.Rows.{by_map, memory_length}
use Rattle.ck_induct.specs.Laws.{step_run_of}
use Rattle.ck_induct.proofs.StepGiven.{step_given}

-- ---- the trace

module _ (ps : List Part) (net : Netlist) (names : Names) (ch : Choices) (h : IsLowered ps net names)
    (whole : IsNet net) (own : HaveOwnNames ps) (of : AreChoicesOf net ch) where
  abbrev cycles : ℕ → Given
  cycles k = step_cycle net ch k

  row : (k : ℕ) → name_values net (cycles k) names.list ≡ numbers_shown ps (map_of net names (cycles k))
  row k =
      by_map net (cycles k) (step_given net ch k whole of) names.list h.named.placed
      (texts_differ ps names.list h.entries own)
      ∙ sym (numbers_by_texts ps names.list (map_of net names (cycles k)) h.entries)

  -- one cycle more
  more : (f : Values → List ℕ) (k n : ℕ) → map f (maps_from net names cycles k (suc n))
      ≡ map f (maps_from net names cycles k n) ++ f (map_of net names (cycles (k + n))) ∷ []
  more f k zero =
      let same : k ≡ k + 0 = omega arith in
      ap (λ j. f (map_of net names (cycles j)) ∷ []) same
  more f k (suc n) =
      let same : suc k + n ≡ k + suc n = omega arith in
      ap (λ xs. f (map_of net names (cycles k)) ∷ xs)
      (more f (suc k) n
      ∙ ap (λ j. map f (maps_from net names cycles (suc k) n) ++ f (map_of net names (cycles j)) ∷ []) same)

  rows : (n : ℕ) → first_cycles net names.list cycles n ≡ map (numbers_shown ps) (maps_from net names cycles 0 n)
  rows zero = refl
  rows (suc n) =
      let same : n ≡ 0 + n = omega arith in
      let last : name_values net (cycles n) names.list ≡ numbers_shown ps (map_of net names (cycles (0 + n))) =
      row n ∙ ap (λ j. numbers_shown ps (map_of net names (cycles j))) same in
      (λ i. rows n i ++ last i ∷ []) ∙ sym (more (numbers_shown ps) 0 n)

  pub step_traces : (k : ℕ) → step_trace_of net names ch k ≡ trace_of_run ps (step_run_of net names ch k)
  step_traces k =
      let next : k + 1 ≡ suc k = omega arith in
      let ns = names_shown ps net names.list h.entries h.named.placed in
      let rs : first_cycles net names.list cycles (k + 1) ≡ map (numbers_shown ps) (step_run_of net names ch k) =
      ap (first_cycles net names.list cycles) next ∙ rows (suc k) in
      λ i. record { names = ns i; cycles = rs i }

-- ---- the dump

both : {A : Type 0} (P : A → Type 0) (xs ys : List A) → AllByRecursion P xs → AllByRecursion P ys
    → AllByRecursion P (xs ++ ys)
both P [] ys h k = k
both P (x ∷ xs) ys h k = (h.0, both P xs ys h.1 k)

values_both : (ns ms : List TraceName) (vs us : List ℕ) → AreValues ns vs → AreValues ms us
    → AreValues (ns ++ ms) (vs ++ us)
values_both [] ms [] us h k = k
values_both [] ms (v ∷ vs) us h k = absurd h
values_both (n ∷ ns) ms [] us h k = absurd h
values_both (n ∷ ns) ms (v ∷ vs) us h k = (h.0, values_both ns ms vs us h.1 k)

words_values : (text : List ℕ) (width : ℕ) (range : ℤ × ℤ) (place count : ℕ) (ws : List ℕ) → length ws ≡ count
    → ((i : ℕ) → slice_index ws i < 2 ^ width) → AreValues (word_names text width range place count) ws
words_values text width range place zero [] e h = tt
words_values text width range place zero (w ∷ ws) e h = absurd (omega (arith, e))
words_values text width range place (suc count) [] e h = absurd (omega (arith, e))
words_values text width range place (suc count) (w ∷ ws) e h =
    (h 0, words_values text width range (place + 1) count ws (omega (arith, e)) (λ i. h (suc i)))

module _ (net : Netlist) (whole : IsNet net) where
  module _ (g : Given) (own : IsGiven net g) where
    entry_values : (n : NetName) (output : Bool) (words : Option (ℤ × ℤ)) (p : Place)
        → IsPlaced net n.width output words p → AreValues (names_by net n p words) (place_values net g p)
    entry_values n output words (place.Node id) h = (value_within net g n.width id whole own h.0, tt)
    entry_values n output None (place.Mem m) h = absurd h.3
    entry_values n output (Some range) (place.Mem m) h =
        let P : ℕ → Type 0 = λ w. (i : ℕ) → slice_index (words_of g m) i < 2 ^ w in
        words_values n.text n.width range 0 (words_in net m) (words_of g m)
        (memory_length net.mems g.state.mems m own.state.mems h.0)
        (subst P h.1 (words_below net.mems g.state.mems own.state.mems m))

    all_values : (xs : List NetName) → AllByRecursion (IsNameOf net) xs
        → AreValues (flat_map (names_of net) xs) (name_values net g xs)
    all_values [] h = tt
    all_values (x ∷ xs) h =
        values_both (names_of net x) (flat_map (names_of net) xs) (place_values net g x.place) (name_values net g xs)
        (entry_values x x.output x.words x.place h.0) (all_values xs h.1)

  module _ (names : Names) (ch : Choices) (named : AreNamesOf net names) (of : AreChoicesOf net ch) where
    each_cycle : (n : ℕ)
        → AllByRecursion (AreValues (flat_map (names_of net) names.list))
        (first_cycles net names.list (step_cycle net ch) n)
    each_cycle zero = tt
    each_cycle (suc n) =
        both (AreValues (flat_map (names_of net) names.list)) (first_cycles net names.list (step_cycle net ch) n)
        (name_values net (step_cycle net ch n) names.list ∷ []) (each_cycle n)
        (all_values (step_cycle net ch n) (step_given net ch n whole of) names.list named.placed, tt)

    some_cycle : (n : ℕ) → 0 < length (first_cycles net names.list (step_cycle net ch) (suc n))
    some_cycle n =
        let row = name_values net (step_cycle net ch n) names.list in
        omega (arith, length-append (first_cycles net names.list (step_cycle net ch) n) (row ∷ []))

pub step_dumps : (net : Netlist) (names : Names) (ch : Choices) (k : ℕ) → IsNet net → AreNamesOf net names
    → AreChoicesOf net ch → IsTrace (step_trace_of net names ch k)
step_dumps net names ch k whole named of =
    let next : suc k ≡ k + 1 = omega arith in
    let P : ℕ → Type 0 = λ n. 0 < length (first_cycles net names.list (step_cycle net ch) n) in record {
      some = subst P next (some_cycle net whole names ch named of k);
      wide = (dumps net names ch k whole named of).wide;
      values = each_cycle net whole names ch named of (k + 1);
    }
