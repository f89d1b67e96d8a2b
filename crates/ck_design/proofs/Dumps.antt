-- The trace of a net's run has a dump: widths from 1 to 128, and in each cycle one value of its width for each name.
use Rattle.std.specs.Prelude.{◌≡◌, refl, ℕ, zero, suc, ◌+◌, ◌<◌, ◌^◌, List, [], ◌∷◌, ◌++◌, length}
use Rattle.std.specs.Prelude.{Bool, Option, Some, None, ℤ, slice_index}
use Rattle.std.specs.List.{AllByRecursion, flat_map}
use Rattle.std.proofs.Common.{arith, subst, length-append}
use Rattle.std.proofs.lemmas.List.{length-map}
use Rattle.fv_text.specs.declared.trace.TraceName.{TraceName}
use Rattle.wn_net.specs.declared.names.Names.{Names}
use Rattle.wn_net.specs.declared.names.NetName.{NetName}
use Rattle.wn_net.specs.declared.names.Place.{Place}
use Rattle.wn_net.specs.declared.names.Place.TheVariants as place
use Rattle.wn_net.specs.Width.{IsWidth}
use Rattle.wn_net.specs.Value.{Given, words_of}
use Rattle.wn_net.specs.Net.{Netlist, IsNet, IsNodeOf, widths_of}
use Rattle.wn_net.specs.Given.{IsGiven}
use Rattle.wn_net.specs.Names.{IsNameOf, IsPlaced, words_in}
use Rattle.wn_net.specs.Changes.{mem_width}
use Rattle.wn_net.proofs.Kept.{is_small, width_at_small}
use Rattle.wn_net.proofs.Moved.{value_within}
use Rattle.wn_net.proofs.Small.{words_below}
use Rattle.wn_run.specs.Runs.{Choices, AreChoicesOf, inputs_at, start_of}
use Rattle.wn_run.proofs.Given.{choices_run, cycles_given}
use Rattle.vcd_dump.specs.Vcd.{AreValues, IsWide}
use Rattle.tr_replay.specs.Traces.{cycle_of, first_cycles, name_values, names_by, names_of, place_values, word_names}
use Rattle.ck_design.specs.Traces.{TracesHaveDumps}
use Rattle.ck_design.proofs.Rows.{memory_length}

both : {A : Type 0} (P : A → Type 0) (xs ys : List A) → AllByRecursion P xs → AllByRecursion P ys
    → AllByRecursion P (xs ++ ys)
both P [] ys h k = k
both P (x ∷ xs) ys h k = (h.0, both P xs ys h.1 k)

values_both : (ns ms : List TraceName) (vs us : List ℕ) → AreValues ns vs → AreValues ms us
    → AreValues (ns ++ ms) (vs ++ us)
values_both [] ms [] us h k = k
values_both [] ms (v ∷ vs) us h k = absurd h
values_both (n ∷ ns) ms [] us h k = absurd h
values_both (n ∷ ns) ms (v ∷ vs) us h k = (h.0, values_both ns ms vs us h.1 k)

words_wide : (text : List ℕ) (width : ℕ) (range : ℤ × ℤ) (place count : ℕ) → IsWidth width
    → AllByRecursion IsWide (word_names text width range place count)
words_wide text width range place zero h = tt
words_wide text width range place (suc count) h = (h, words_wide text width range (place + 1) count h)

words_values : (text : List ℕ) (width : ℕ) (range : ℤ × ℤ) (place count : ℕ) (ws : List ℕ) → length ws ≡ count
    → ((i : ℕ) → slice_index ws i < 2 ^ width) → AreValues (word_names text width range place count) ws
words_values text width range place zero [] e h = tt
words_values text width range place zero (w ∷ ws) e h = absurd (omega (arith, e))
words_values text width range place (suc count) [] e h = absurd (omega (arith, e))
words_values text width range place (suc count) (w ∷ ws) e h =
    (h 0, words_values text width range (place + 1) count ws (omega (arith, e)) (λ i. h (suc i)))

module _ (net : Netlist) (whole : IsNet net) where
  node_wide : (width id : ℕ) → IsNodeOf net width id → IsWidth width
  node_wide width id h =
      subst IsWidth h.1
      (width_at_small net net (widths_of net) id (record { whole = whole; widths = refl }) refl h.0)

  mem_wide : (m : ℕ) → m < length net.mems → IsWidth (mem_width net m)
  mem_wide m less = (is_small net whole).mems m (omega (arith, length-map net.mems (λ x. x.width), less))

  entry_wide : (n : NetName) (output : Bool) (words : Option (ℤ × ℤ)) (p : Place)
      → IsPlaced net n.width output words p → AllByRecursion IsWide (names_by net n p words)
  entry_wide n output words (place.Node id) h = (node_wide n.width id h.0, tt)
  entry_wide n output None (place.Mem m) h = absurd h.3
  entry_wide n output (Some range) (place.Mem m) h =
      words_wide n.text n.width range 0 (words_in net m) (subst IsWidth h.1 (mem_wide m h.0))

  all_wide : (xs : List NetName) → AllByRecursion (IsNameOf net) xs
      → AllByRecursion IsWide (flat_map (names_of net) xs)
  all_wide [] h = tt
  all_wide (x ∷ xs) h =
      both IsWide (names_of net x) (flat_map (names_of net) xs) (entry_wide x x.output x.words x.place h.0)
      (all_wide xs h.1)

  module _ (g : Given) (own : IsGiven net g) where
    entry_values : (n : NetName) (output : Bool) (words : Option (ℤ × ℤ)) (p : Place)
        → IsPlaced net n.width output words p → AreValues (names_by net n p words) (place_values net g p)
    entry_values n output words (place.Node id) h = (value_within net g n.width id whole own h.0, tt)
    entry_values n output None (place.Mem m) h = absurd h.3
    entry_values n output (Some range) (place.Mem m) h =
        let P : ℕ → Type 0 = λ w. (i : ℕ) → slice_index (words_of g m) i < 2 ^ w in
        words_values n.text n.width range 0 (words_in net m) (words_of g m)
        (memory_length net.mems g.state.mems m own.state.mems h.0)
        (subst P h.1 (words_below net.mems g.state.mems own.state.mems m))

    all_values : (xs : List NetName) → AllByRecursion (IsNameOf net) xs
        → AreValues (flat_map (names_of net) xs) (name_values net g xs)
    all_values [] h = tt
    all_values (x ∷ xs) h =
        values_both (names_of net x) (flat_map (names_of net) xs) (place_values net g x.place) (name_values net g xs)
        (entry_values x x.output x.words x.place h.0) (all_values xs h.1)

  module _ (names : Names) (ch : Choices) (placed : AllByRecursion (IsNameOf net) names.list)
      (of : AreChoicesOf net ch) where
    abbrev cycles : ℕ → Given
    cycles k = cycle_of net ch k

    given : (k : ℕ) → IsGiven net (cycles k)
    given k = cycles_given net (inputs_at net ch) (start_of net ch) k whole (choices_run net ch whole of)

    each_cycle : (n : ℕ)
        → AllByRecursion (AreValues (flat_map (names_of net) names.list)) (first_cycles net names.list cycles n)
    each_cycle zero = tt
    each_cycle (suc n) =
        both (AreValues (flat_map (names_of net) names.list)) (first_cycles net names.list cycles n)
        (name_values net (cycles n) names.list ∷ []) (each_cycle n)
        (all_values (cycles n) (given n) names.list placed, tt)

    some_cycle : (n : ℕ) → 0 < length (first_cycles net names.list cycles (suc n))
    some_cycle n =
        let row = name_values net (cycles n) names.list in
        omega (arith, length-append (first_cycles net names.list cycles n) (row ∷ []))

pub dumps : TracesHaveDumps
dumps net names ch cycle whole named of =
    let next : suc cycle ≡ cycle + 1 = omega arith in
    let P : ℕ → Type 0 = λ n. 0 < length (first_cycles net names.list (cycle_of net ch) n) in record {
      some = subst P next (some_cycle net whole names ch named.placed of cycle);
      wide = all_wide net whole names.list named.placed;
      values = each_cycle net whole names ch named.placed of (cycle + 1);
    }
