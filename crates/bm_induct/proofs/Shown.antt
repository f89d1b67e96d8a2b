-- What names show in the net that was built anew.
use Rattle.std.specs.Prelude.{◌≡◌, refl, ℕ, zero, suc, ◌+◌, ◌<◌, ◌^◌, Bool, false}
use Rattle.std.specs.Prelude.{Option, Some, None, MatchOption, ℤ}
use Rattle.std.specs.Prelude.{List, [], ◌∷◌, ◌++◌, length, map, slice_index, slice_index_or}
use Rattle.std.specs.List.{AllByRecursion, IsDistinct, flat_map}
use Rattle.std.specs.Str.{bytes_eq}
use Rattle.std.proofs.Common.{ap, sym, ◌∙◌, arith, subst}
use Rattle.std.proofs.lemmas.List.{length-map}
use Rattle.wn_net.specs.declared.names.Place.{Place}
use Rattle.wn_net.specs.declared.names.Place.TheVariants as place
use Rattle.wn_net.specs.declared.names.NetName.{NetName}
use Rattle.wn_net.specs.declared.names.Names.{Names}
use Rattle.wn_net.specs.declared.parts.Mem.{Mem}
use Rattle.wn_net.specs.Value.{words_at}
use Rattle.wn_net.specs.Net.{Netlist}
use Rattle.wn_net.specs.Names.{AreNamesOf, IsNameOf, IsPlaced, IsRangeOf}
use Rattle.wn_run.specs.Runs.{Choices}
use Rattle.bm_induct.specs.StepRuns.{run_cycle, step_cycle}
use Rattle.bm_induct.specs.declared.how.Rebuild.TheVariants.{Freed}
use Rattle.bm_induct.specs.Rebuilt.{IsRebuilt, offset}
use Rattle.tr_replay.specs.Traces.{first_cycles, name_values, names_by, names_of, place_values, trace_of, word_names}
use Rattle.bm_induct.specs.MovedNames.{IsBelow, moved_name, moved_names, moved_place}
use Rattle.bm_induct.specs.Steps.{step_trace_of}
use Rattle.bm_induct.proofs.Anew.{freed_state, freed_value}

-- ---- the numbers of nodes

below : (net : Netlist) (w : ℕ) (output : Bool) (words : Option (ℤ × ℤ)) (at : Place) → length net.nodes < 2 ^ 62
    → IsPlaced net w output words at → IsBelow (2 ^ 63) at
below net w output words (place.Node id) few own = omega (arith, few, own.0.0)
below net w output words (place.Mem m) few own = tt

pub names_below : (net : Netlist) (list : List NetName) → length net.nodes < 2 ^ 62
    → AllByRecursion (IsNameOf net) list → AllByRecursion (λ name. IsBelow (2 ^ 63) name.place) list
names_below net [] few own = tt
names_below net (x ∷ xs) few own =
    (below net x.width x.output x.words x.place few own.0, names_below net xs few own.1)

-- a name of a list of them
place_in : (list : List NetName) (i : ℕ) (x : NetName) → AllByRecursion (λ name. IsBelow (2 ^ 63) name.place) list
    → i < length list → x ≡ slice_index_or list i x → IsBelow (2 ^ 63) x.place
place_in [] i x own below is = absurd (omega (arith, below))
place_in (y ∷ ys) zero x own below is = subst (λ (n : NetName). IsBelow (2 ^ 63) n.place) (sym is) own.0
place_in (y ∷ ys) (suc i) x own below is = place_in ys i x own.1 (omega (arith, below)) is

pub place_at : (list items : List NetName) (i : ℕ) (x : NetName) → items ≡ list → i < length items
    → x ≡ slice_index_or items i x → AllByRecursion (λ name. IsBelow (2 ^ 63) name.place) list
    → IsBelow (2 ^ 63) x.place
place_at list items i x same below is own =
    place_in items i x (subst (λ ns. AllByRecursion (λ name. IsBelow (2 ^ 63) name.place) ns) (sym same) own) below is

module _ (net made : Netlist) (r : IsRebuilt Freed net made) where
  -- ---- names of the net anew

  mems_many : length made.mems ≡ length net.mems
  mems_many =
      sym (length-map made.mems (λ (m : Mem). m.width)) ∙ ap length r.mem_widths
      ∙ length-map net.mems (λ (m : Mem). m.width)

  placed_anew : (w : ℕ) (output : Bool) (words : Option (ℤ × ℤ)) (at : Place) → IsPlaced net w output words at
      → IsPlaced made w output words (moved_place (offset net) at)
  placed_anew w output words (place.Node id) own = (r.there w id own.0, own.1)
  placed_anew w output words (place.Mem m) own = (
    omega (arith, own.0, mems_many),
    ap (λ ws. slice_index ws m) r.mem_widths ∙ own.1,
    own.2,
    subst (λ count. MatchOption words ⊥ (IsRangeOf count)) (sym (ap (λ ws. slice_index ws m) r.mem_words)) own.3,
  )

  all_placed : (list : List NetName) → AllByRecursion (IsNameOf net) list
      → AllByRecursion (IsNameOf made) (map (moved_name (offset net)) list)
  all_placed [] own = tt
  all_placed (x ∷ xs) own = (placed_anew x.width x.output x.words x.place own.0, all_placed xs own.1)

  none_alike : (x : NetName) (list : List NetName) → AllByRecursion (λ y. bytes_eq x.text y.text ≡ false) list
      → AllByRecursion (λ y. bytes_eq x.text y.text ≡ false) (map (moved_name (offset net)) list)
  none_alike x [] own = tt
  none_alike x (y ∷ ys) own = (own.0, none_alike x ys own.1)

  all_differ : (list : List NetName) → IsDistinct (λ (a b : NetName). bytes_eq a.text b.text) list
      → IsDistinct (λ (a b : NetName). bytes_eq a.text b.text) (map (moved_name (offset net)) list)
  unfolding IsDistinct
  all_differ [] own = tt
  all_differ (x ∷ xs) own = (none_alike x xs own.0, all_differ xs own.1)

  pub names_anew : (names : Names) → AreNamesOf net names → AreNamesOf made (moved_names (offset net) names)
  names_anew names own = record {
    placed = all_placed names.list own.placed;
    differ = all_differ names.list own.differ;
    inputs = tt;
    regs = tt;
    mems = tt;
    few_mems = omega arith;
  }

  -- ---- their texts and values

  named : (n : NetName) (at : Place) (words : Option (ℤ × ℤ))
      → names_by made n (moved_place (offset net) at) words ≡ names_by net n at words
  named n (place.Node id) words = refl
  named n (place.Mem m) None = refl
  named n (place.Mem m) (Some range) =
      ap (λ ws. word_names n.text n.width range 0 (slice_index ws m)) r.mem_words

  all_named : (list : List NetName)
      → flat_map (names_of made) (map (moved_name (offset net)) list) ≡ flat_map (names_of net) list
  all_named [] = refl
  all_named (x ∷ xs) = λ j. named x x.place x.words j ++ all_named xs j

  valued : (ch : Choices) (k w : ℕ) (output : Bool) (words : Option (ℤ × ℤ)) (at : Place)
      → IsPlaced net w output words at
      → place_values made (run_cycle made ch k) (moved_place (offset net) at)
      ≡ place_values net (step_cycle net ch k) at
  valued ch k w output words (place.Node id) own = ap (λ v. v ∷ []) (freed_value net made ch k id r own.0.0)
  valued ch k w output words (place.Mem m) own = ap (λ s. words_at s.mems m) (freed_state net made ch k r)

  all_valued : (ch : Choices) (k : ℕ) (list : List NetName) → AllByRecursion (IsNameOf net) list
      → name_values made (run_cycle made ch k) (map (moved_name (offset net)) list)
      ≡ name_values net (step_cycle net ch k) list
  all_valued ch k [] own = refl
  all_valued ch k (x ∷ xs) own = λ j.
      valued ch k x.width x.output x.words x.place own.0 j ++ all_valued ch k xs own.1 j

  all_cycles : (ch : Choices) (count : ℕ) (list : List NetName) → AllByRecursion (IsNameOf net) list
      → first_cycles made (map (moved_name (offset net)) list) (run_cycle made ch) count
      ≡ first_cycles net list (step_cycle net ch) count
  all_cycles ch zero list own = refl
  all_cycles ch (suc k) list own = λ j. all_cycles ch k list own j ++ all_valued ch k list own j ∷ []

  pub trace_anew : (names : Names) (ch : Choices) (k : ℕ) → AreNamesOf net names
      → trace_of made (moved_names (offset net) names) ch k ≡ step_trace_of net names ch k
  trace_anew names ch k own = λ j. record {
    names = all_named names.list j;
    cycles = all_cycles ch (k + 1) names.list own.placed j;
  }
