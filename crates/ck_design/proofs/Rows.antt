-- What a trace has in a cycle is what the map of the cycle has.
use Rattle.std.specs.Prelude.{◌≡◌, refl, ℕ, zero, suc, ◌<◌, List, [], ◌∷◌, ◌++◌, length, map, Bool, Option, Some, None}
use Rattle.std.specs.Prelude.{ℤ, int_le, slice_index, slice_index_or}
use Rattle.std.specs.List.{AllByRecursion}
use Rattle.std.proofs.Common.{ap, sym, ◌∙◌, arith, subst, get_or}
use Rattle.std.proofs.lemmas.List.{map-append}
use Rattle.vl_size.specs.Table.{span}
use Rattle.vl_mean.specs.Cells.{cells_of, words_from}
use Rattle.wn_net.specs.declared.names.NetName.{NetName}
use Rattle.wn_net.specs.declared.names.Place.{Place}
use Rattle.wn_net.specs.declared.names.Place.TheVariants as place
use Rattle.wn_net.specs.declared.parts.Mem.{Mem}
use Rattle.wn_net.specs.Value.{Given}
use Rattle.wn_net.specs.Net.{Netlist, value_at}
use Rattle.wn_net.specs.Given.{AreMemsOf, IsGiven}
use Rattle.wn_net.specs.Names.{IsNameOf, IsPlaced}
use Rattle.vl_lower_spec.specs.Maps.{map_in, place_number}
use Rattle.tr_replay.specs.Traces.{name_values, place_values}
use Rattle.ck_design.proofs.Names.{texts, texts_of}
use Rattle.ck_design.proofs.Texts.{Different, apart, by_others, by_places, different_back, different_front}

words_length : (memory : List ℕ) (count : ℕ) (up : Bool) (i : ℤ) → length (words_from memory count up i) ≡ count
words_length memory zero up i = refl
words_length memory (suc count) up i = ap suc (words_length memory count up _)

pub memory_length : (ms : List Mem) (rest : List (List ℕ)) (m : ℕ) → AreMemsOf ms rest → m < length ms
    → length (slice_index_or rest m []) ≡ slice_index (map (λ x. x.words) ms) m
memory_length [] rest m h less = absurd (omega (arith, less))
memory_length (x ∷ ms) [] m h less = absurd h
memory_length (x ∷ ms) (ws ∷ rest) zero h less = h.0.each
memory_length (x ∷ ms) (ws ∷ rest) (suc m) h less = memory_length ms rest m h.1 (omega (arith, less))

module _ (net : Netlist) (g : Given) (own : IsGiven net g) where
  -- one number for each text of an entry
  long : (width : ℕ) (output : Bool) (words : Option (ℤ × ℤ)) (p : Place) (text : List ℕ)
      → IsPlaced net width output words p → length (place_values net g p) ≡ length (cells_of text words)
  long width output words (place.Node id) text h = ap (λ w. length (cells_of text w)) (sym h.1)
  long width output None (place.Mem m) text h = absurd h.3
  long width output (Some range) (place.Mem m) text h =
      memory_length net.mems g.state.mems m own.state.mems h.0 ∙ sym h.3
      ∙ sym (words_length text (span range.0 range.1) (int_le range.0 range.1) range.0)

  -- that of its place
  at_place : (width : ℕ) (output : Bool) (words : Option (ℤ × ℤ)) (p : Place) (text : List ℕ)
      → IsPlaced net width output words p → (k : ℕ) → k < length (cells_of text words)
      → place_number net g p k ≡ get_or (place_values net g p) k 0
  at_place width output words (place.Node id) text h k less =
      first k (subst (λ w. k < length (cells_of text w)) h.1 less)
    where
      first : (j : ℕ) → j < length (text ∷ []) → value_at net g id ≡ get_or (value_at net g id ∷ []) j 0
      first zero l = refl
      first (suc j) l = absurd (omega (arith, l))
  at_place width output words (place.Mem m) text h k less = refl

  -- the entries' numbers are those of the map, text by text
  pub by_map : (xs : List NetName) → AllByRecursion (IsNameOf net) xs → Different (texts xs)
      → name_values net g xs ≡ map (map_in net g xs) (texts xs)
  by_map [] h d = refl
  by_map (x ∷ xs) h d =
      let ts = texts_of x in
      let at = place_number net g x.place in
      let first = by_places (place_values net g x.place) ts at (map_in net g xs)
      (different_front ts (texts xs) d) (long x.width x.output x.words x.place x.text h.0)
      (at_place x.width x.output x.words x.place x.text h.0) in
      let rest = by_map xs h.1 (different_back ts (texts xs) d)
      ∙ by_others ts (texts xs) at (map_in net g xs) (apart ts (texts xs) d) in
      (λ i. first i ++ rest i) ∙ sym (map-append (map_in net g (x ∷ xs)) ts (texts xs))
