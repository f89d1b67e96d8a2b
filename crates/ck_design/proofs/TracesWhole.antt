-- The trace of a net's run is that of the design's.
use Rattle.std.specs.Prelude.{◌≡◌, refl, ℕ, zero, suc, ◌+◌, List, [], ◌∷◌, ◌++◌, map}
use Rattle.std.proofs.Common.{ap, sym, ◌∙◌, arith}
use Rattle.vl_size.specs.Size.{Values}
use Rattle.vl_mean.specs.Parts.{Part}
use Rattle.wn_net.specs.declared.names.Names.{Names}
use Rattle.wn_net.specs.Value.{Given}
use Rattle.wn_net.specs.Net.{Netlist, IsNet}
use Rattle.wn_net.specs.Given.{IsGiven}
use Rattle.wn_run.specs.Runs.{Choices, AreChoicesOf, inputs_at, start_of}
use Rattle.wn_run.proofs.Given.{choices_run, cycles_given}
use Rattle.vl_lower_spec.specs.Maps.{map_of}
use Rattle.vl_lower_spec.specs.Evaluations.{IsLowered, maps_from, run_of}
use Rattle.tr_replay.specs.Traces.{cycle_of, first_cycles, name_values}
use Rattle.ck_design.specs.Traces.{HaveOwnNames, TracesAreTheDesigns, numbers_shown}
use Rattle.ck_design.proofs.Names.{names_shown, numbers_by_texts, texts_differ}
use Rattle.ck_design.proofs.Rows.{by_map}

module _ (ps : List Part) (net : Netlist) (names : Names) (ch : Choices) (h : IsLowered ps net names)
    (whole : IsNet net) (own : HaveOwnNames ps) (of : AreChoicesOf net ch) where
  abbrev cycles : ℕ → Given
  cycles k = cycle_of net ch k

  given : (k : ℕ) → IsGiven net (cycles k)
  given k = cycles_given net (inputs_at net ch) (start_of net ch) k whole (choices_run net ch whole of)

  row : (k : ℕ) → name_values net (cycles k) names.list ≡ numbers_shown ps (map_of net names (cycles k))
  row k =
      by_map net (cycles k) (given k) names.list h.named.placed (texts_differ ps names.list h.entries own)
      ∙ sym (numbers_by_texts ps names.list (map_of net names (cycles k)) h.entries)

  -- one cycle more
  more : (f : Values → List ℕ) (k n : ℕ) → map f (maps_from net names cycles k (suc n))
      ≡ map f (maps_from net names cycles k n) ++ f (map_of net names (cycles (k + n))) ∷ []
  more f k zero =
      let same : k ≡ k + 0 = omega arith in
      ap (λ j. f (map_of net names (cycles j)) ∷ []) same
  more f k (suc n) =
      let same : suc k + n ≡ k + suc n = omega arith in
      ap (λ xs. f (map_of net names (cycles k)) ∷ xs)
      (more f (suc k) n
      ∙ ap (λ j. map f (maps_from net names cycles (suc k) n) ++ f (map_of net names (cycles j)) ∷ []) same)

  rows : (n : ℕ) → first_cycles net names.list cycles n ≡ map (numbers_shown ps) (maps_from net names cycles 0 n)
  rows zero = refl
  rows (suc n) =
      let same : n ≡ 0 + n = omega arith in
      let last : name_values net (cycles n) names.list ≡ numbers_shown ps (map_of net names (cycles (0 + n))) =
      row n ∙ ap (λ j. numbers_shown ps (map_of net names (cycles j))) same in
      (λ i. rows n i ++ last i ∷ []) ∙ sym (more (numbers_shown ps) 0 n)

  all_rows : (cycle : ℕ) → first_cycles net names.list cycles (cycle + 1)
      ≡ map (numbers_shown ps) (run_of net names ch cycle)
  all_rows cycle =
      let next : cycle + 1 ≡ suc cycle = omega arith in
      ap (first_cycles net names.list cycles) next ∙ rows (suc cycle)

pub traces : TracesAreTheDesigns
traces ps net names ch cycle h whole own of =
    let ns = names_shown ps net names.list h.entries h.named.placed in
    let rs = all_rows ps net names ch h whole own of cycle in
    λ i. record { names = ns i; cycles = rs i }
