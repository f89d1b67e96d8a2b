-- Frames with equal nodes once and with fewer sources.
use Rattle.std.specs.Prelude.{◌≡◌, refl, ℕ, zero, suc, ◌<◌, ◌≤◌, List, [], ◌∷◌, ◌++◌, length}
use Rattle.std.specs.Prelude.{map, take, drop}
use Rattle.std.specs.Prelude.{Some, slice_get, slice_index}
use Rattle.std.specs.List.{AllByRecursion}
use Rattle.std.proofs.Common.{ap, sym, ◌∙◌, arith, subst, lit<}
use Rattle.std.proofs.lemmas.List.{length-map, take-append-drop}
use Rattle.wn_net.specs.declared.node.Node.{Node}
use Rattle.wn_net.specs.declared.parts.Input.{Input}
use Rattle.wn_net.specs.declared.parts.Mem.{Mem}
use Rattle.wn_net.specs.declared.parts.Reg.{Reg}
use Rattle.wn_net.specs.Width.{Shape, IsWidth, AreFitting}
use Rattle.wn_net.specs.Value.{values}
use Rattle.wn_net.specs.Given.{AreMemsOf, AreNumbersOf, IsGiven, given}
use Rattle.wn_net.specs.Net.{Netlist, IsNet, shape_of, value_at, values_of}
use Rattle.wn_run.specs.Runs.{Choices, AreChoicesOf}
use Rattle.wn_opt.specs.Compact.{AreRising, IsCompact, IsFlat, IsRead}
use Rattle.bm_unroll.specs.declared.frames.Source.{Source}
use Rattle.bm_unroll.specs.declared.frames.Frames.{Frames}
use Rattle.bm_unroll.specs.Frames.{AreDistinct, HasRoots, HasWatch, IsChoice, IsFrames, chosen, frames_shape}
use Rattle.bm_unroll.specs.Frames.{source_width, values_by, values_under}
use Rattle.bm_unroll.specs.Shrunk.{IsShrunk, source_at}
use Rattle.bm_unroll.proofs.Choosing.{numbers_of_choice}
use Rattle.bm_unroll.proofs.Items.{all_in, index_mapped}
use Rattle.bm_unroll.proofs.Runs.{values_drafted, watched_at, widths_all}

-- ---- items that were picked

source_there : (xs : List Source) (k : ℕ) → k < length xs → Some (source_at xs k) ≡ slice_get xs k
source_there [] k less = absurd (omega (arith, less))
source_there (x ∷ xs) zero less = refl
source_there (x ∷ xs) (suc k) less = source_there xs k (omega (arith, less))

pub sources_there : (xs : List Source) (kept : List ℕ) → AllByRecursion (λ k. k < length xs) kept
    → map Some (map (source_at xs) kept) ≡ map (slice_get xs) kept
sources_there xs [] all = refl
sources_there xs (k ∷ kept) all =
    let here = source_there xs k all.0 in
    let rest = sources_there xs kept all.1 in
    λ i. here i ∷ rest i

module _ (xs : List Source) where
  pub all_picked : (P : Source → Type 0) (ys : List Source) (kept : List ℕ) → map Some ys ≡ map (slice_get xs) kept
      → AllByRecursion P xs → AllByRecursion P ys
  all_picked P [] kept e all = tt
  all_picked P (y ∷ ys) [] e all = cc
  all_picked P (y ∷ ys) (k ∷ kept) e all =
      let first : Some y ≡ slice_get xs k = cc in
      let rest : map Some ys ≡ map (slice_get xs) kept = cc in
      (all_in P xs k y all (sym first), all_picked P ys kept rest all)

  pub map_picked : (f : Source → ℕ) (ys : List Source) (kept : List ℕ) → map Some ys ≡ map (slice_get xs) kept
      → map f ys ≡ map (slice_index (map f xs)) kept
  map_picked f [] [] e = refl
  map_picked f [] (k ∷ kept) e = cc
  map_picked f (y ∷ ys) [] e = cc
  map_picked f (y ∷ ys) (k ∷ kept) e =
      let first : Some y ≡ slice_get xs k = cc in
      let rest : map Some ys ≡ map (slice_get xs) kept = cc in
      let here = index_mapped f xs k y (sym first) in
      let more = map_picked f ys kept rest in
      λ i. sym here i ∷ more i

-- two places of distinct items have two items
distinct_at : (xs : List Source) (i j : ℕ) (x y : Source) → AreDistinct xs → i < j → slice_get xs i ≡ Some x
    → slice_get xs j ≡ Some y → x ≡ y → ⊥
distinct_at [] i j x y h less e f = cc
distinct_at (z ∷ zs) zero zero x y h less e f = absurd (omega (arith, less))
distinct_at (z ∷ zs) zero (suc j) x y h less e f =
    let first : z ≡ x = cc in λ same. all_in (λ w. z ≡ w → ⊥) zs j y h.0 f (first ∙ same)
distinct_at (z ∷ zs) (suc i) zero x y h less e f = absurd (omega (arith, less))
distinct_at (z ∷ zs) (suc i) (suc j) x y h less e f = distinct_at zs i j x y h.1 (omega (arith, less)) e f

module _ (xs : List Source) (h : AreDistinct xs) where
  others_picked : (k : ℕ) (x : Source) (ys : List Source) (kept : List ℕ) → slice_get xs k ≡ Some x
      → map Some ys ≡ map (slice_get xs) kept → AllByRecursion (λ j. k < j) kept
      → AllByRecursion (λ y. x ≡ y → ⊥) ys
  others_picked k x [] kept at e above = tt
  others_picked k x (y ∷ ys) [] at e above = cc
  others_picked k x (y ∷ ys) (j ∷ kept) at e above =
      let first : Some y ≡ slice_get xs j = cc in
      let rest : map Some ys ≡ map (slice_get xs) kept = cc in
      (distinct_at xs k j x y h above.0 at (sym first), others_picked k x ys kept at rest above.1)

  pub distinct_picked : (ys : List Source) (kept : List ℕ) → map Some ys ≡ map (slice_get xs) kept → AreRising kept
      → AreDistinct ys
  distinct_picked [] kept e rising = tt
  distinct_picked (y ∷ ys) [] e rising = cc
  distinct_picked (y ∷ ys) (k ∷ kept) e rising =
      let first : Some y ≡ slice_get xs k = cc in
      let rest : map Some ys ≡ map (slice_get xs) kept = cc in
      (others_picked k y ys kept (sym first) rest rising.0, distinct_picked ys kept rest rising.1)

-- ---- roots and watched nodes, of which the first are the roots

map_first : (f g : ℕ → ℕ) (xs ys ends : List ℕ) → map f ends ≡ map g (xs ++ ys)
    → map f (take (length xs) ends) ≡ map g xs
map_first f g [] ys ends e = refl
map_first f g (x ∷ xs) ys [] e = cc
map_first f g (x ∷ xs) ys (z ∷ ends) e =
    let first : f z ≡ g x = cc in
    let rest : map f ends ≡ map g (xs ++ ys) = cc in
    let more = map_first f g xs ys ends rest in
    λ i. first i ∷ more i

map_rest : (f g : ℕ → ℕ) (xs ys ends : List ℕ) → map f ends ≡ map g (xs ++ ys)
    → map f (drop (length xs) ends) ≡ map g ys
map_rest f g [] ys ends e = e
map_rest f g (x ∷ xs) ys [] e = cc
map_rest f g (x ∷ xs) ys (z ∷ ends) e =
    let rest : map f ends ≡ map g (xs ++ ys) = cc in map_rest f g xs ys ends rest

pub first_within : (f g : ℕ → ℕ) (xs ys ends : List ℕ) → map f ends ≡ map g (xs ++ ys) → length xs ≤ length ends
first_within f g [] ys ends e = omega arith
first_within f g (x ∷ xs) ys [] e = cc
first_within f g (x ∷ xs) ys (z ∷ ends) e =
    let rest : map f ends ≡ map g (xs ++ ys) = cc in omega (arith, first_within f g xs ys ends rest)

all_first : (P : ℕ → Type 0) (n : ℕ) (xs : List ℕ) → AllByRecursion P xs → AllByRecursion P (take n xs)
all_first P zero xs h = tt
all_first P (suc n) [] h = tt
all_first P (suc n) (x ∷ xs) h = (h.0, all_first P n xs h.1)

all_rest : (P : ℕ → Type 0) (n : ℕ) (xs : List ℕ) → AllByRecursion P xs → AllByRecursion P (drop n xs)
all_rest P zero xs h = h
all_rest P (suc n) [] h = tt
all_rest P (suc n) (x ∷ xs) h = all_rest P n xs h.1

-- ---- the shrunk frames

pub flat_cycle : (net : Netlist) (numbers : List ℕ) → IsFlat net → AreNumbersOf (shape_of net).inputs numbers
    → IsGiven net (given numbers (record { regs = []; mems = [] }))
flat_cycle net numbers flat fits =
    let R : List Reg → Type 0 = λ rs. AreNumbersOf (map (λ r. r.width) rs) [] in
    let M : List Mem → Type 0 = λ ms. AreMemsOf ms [] in
    record {
      inputs = fits;
      state = record {
        regs = subst R (sym flat.0) (record { each = refl; below = λ i. lit< tt });
        mems = subst M (sym flat.1) tt;
      };
    }

module _ (old new : Frames) (net part : Netlist) (kept ids ends : List ℕ) (flat : IsFlat net)
    (nodes_are : old.nodes ≡ net.nodes) (widths_are : map (λ x. x.width) net.inputs ≡ old.widths)
    (ids_are : ids ≡ old.roots ++ old.watch) (c : IsCompact net ids part kept ends) (whole : IsNet part)
    (nodes : new.nodes ≡ part.nodes) (sources : map Some new.sources ≡ map (slice_get old.sources) kept)
    (widths : new.widths ≡ map (slice_index old.widths) kept) (roots : new.roots ≡ take (length old.roots) ends)
    (watch : new.watch ≡ drop (length old.roots) ends) where
  wide : map (λ (x : Input). x.width) part.inputs ≡ new.widths
  wide = c.widths ∙ ap (λ ws. map (slice_index ws) kept) widths_are ∙ sym widths

  old_values : (numbers : List ℕ)
      → values_by old numbers ≡ values_of net (given numbers (record { regs = []; mems = [] }))
  old_values numbers =
      let g = given numbers (record { regs = []; mems = [] }) in
      ap (λ ns. values (frames_shape old) g [] [] ns) nodes_are
      ∙ values_drafted net old.widths g flat.0 flat.1 widths_are

  new_values : (numbers : List ℕ)
      → values_by new numbers ≡ values_of part (given numbers (record { regs = []; mems = [] }))
  new_values numbers =
      let g = given numbers (record { regs = []; mems = [] }) in
      ap (λ ns. values (frames_shape new) g [] [] ns) nodes
      ∙ values_drafted part new.widths g c.flat.0 c.flat.1 wide

  same : (numbers : List ℕ) → AreNumbersOf old.widths numbers
      → map (value_at part (given (map (slice_index numbers) kept) (record { regs = []; mems = [] }))) ends
      ≡ map (value_at net (given numbers (record { regs = []; mems = [] }))) (old.roots ++ old.watch)
  same numbers fits =
      let g = given numbers (record { regs = []; mems = [] }) in
      let h = given (map (slice_index numbers) kept) (record { regs = []; mems = [] }) in
      let N : List ℕ → Type 0 = λ ws. AreNumbersOf ws numbers in
      c.values g h (flat_cycle net numbers flat (subst N (sym widths_are) fits)) refl
      ∙ ap (map (value_at net g)) ids_are

  same_roots : (numbers : List ℕ) → AreNumbersOf old.widths numbers
      → map (slice_index (values_by new (map (slice_index numbers) kept))) new.roots
      ≡ map (slice_index (values_by old numbers)) old.roots
  same_roots numbers fits =
      let g = given numbers (record { regs = []; mems = [] }) in
      let h = given (map (slice_index numbers) kept) (record { regs = []; mems = [] }) in
      watched_at part h (values_by new (map (slice_index numbers) kept)) new.roots
      (new_values (map (slice_index numbers) kept))
      ∙ ap (map (value_at part h)) roots
      ∙ map_first (value_at part h) (value_at net g) old.roots old.watch ends (same numbers fits)
      ∙ sym (watched_at net g (values_by old numbers) old.roots (old_values numbers))

  same_watch : (numbers : List ℕ) → AreNumbersOf old.widths numbers
      → map (slice_index (values_by new (map (slice_index numbers) kept))) new.watch
      ≡ map (slice_index (values_by old numbers)) old.watch
  same_watch numbers fits =
      let g = given numbers (record { regs = []; mems = [] }) in
      let h = given (map (slice_index numbers) kept) (record { regs = []; mems = [] }) in
      watched_at part h (values_by new (map (slice_index numbers) kept)) new.watch
      (new_values (map (slice_index numbers) kept))
      ∙ ap (map (value_at part h)) watch
      ∙ map_rest (value_at part h) (value_at net g) old.roots old.watch ends (same numbers fits)
      ∙ sym (watched_at net g (values_by old numbers) old.watch (old_values numbers))

  count : length new.sources ≡ length kept
  count =
      sym (length-map new.sources (λ (x : Source). Some x)) ∙ ap length sources
      ∙ length-map kept (slice_get old.sources)

  are_frames : IsFrames new
  are_frames =
      let regs : map (λ (r : Reg). r.width) part.regs ≡ [] = ap (map (λ (r : Reg). r.width)) c.flat.0 in
      let mems : map (λ (m : Mem). m.width) part.mems ≡ [] = ap (map (λ (m : Mem). m.width)) c.flat.1 in
      let shape : shape_of part ≡ frames_shape new =
      λ i. record { inputs = wide i; regs = regs i; mems = mems i } in
      let N : List Node → Type 0 = λ ns. AreFitting (shape_of part) [] ns in
      let S : Shape → Type 0 = λ s. AreFitting s [] new.nodes in
      let W : List ℕ → Type 0 = λ ws. AllByRecursion IsWidth ws in
      let A : List Node → Type 0 = λ ns. AllByRecursion (λ id. id < length ns) ends in
      let R : List ℕ → Type 0 = λ xs. AllByRecursion (λ id. id < length new.nodes) xs in
      let there = subst A (sym nodes) c.roots_there in
      let long : length new.widths ≡ length kept = ap length widths ∙ length-map kept (slice_index old.widths) in
      record {
        nodes = subst S shape (subst N (sym nodes) whole.nodes);
        widths = subst W wide (widths_all part.inputs whole.inputs);
        each = long ∙ sym count;
        few = omega (
          arith,
          whole.few_inputs,
          ap length wide,
          length-map part.inputs (λ (x : Input). x.width),
          long,
          count,
        );
        roots = subst R (sym roots) (all_first (λ id. id < length new.nodes) (length old.roots) ends there);
        watch = subst R (sym watch) (all_rest (λ id. id < length new.nodes) (length old.roots) ends there);
      }

  pub is_shrunk : IsShrunk old new
  is_shrunk = record {
    kept = kept;
    rising = c.rising;
    sources = sources;
    widths = widths;
    whole = are_frames;
    roots = same_roots;
    watch = same_watch;
    read = λ i less.
        let Of : List Node → Type 0 = λ ns. IsRead ns (new.roots ++ new.watch) i in
        let By : List ℕ → Type 0 = λ xs. IsRead part.nodes xs i in
        let both : ends ≡ new.roots ++ new.watch =
        sym (take-append-drop (length old.roots) ends) ∙ (λ j. sym roots j ++ sym watch j) in
        subst Of (sym nodes) (subst By both (c.read i (omega (arith, less, count))));
  }

-- ---- what is known of the old frames is known of them

others_like : (us vs ids ds : List ℕ) → map (slice_index us) ids ≡ map (slice_index vs) ds
    → AllByRecursion (λ id. slice_index us id ≡ 0 → ⊥) ids → AllByRecursion (λ id. slice_index vs id ≡ 0 → ⊥) ds
others_like us vs ids [] e h = tt
others_like us vs [] (d ∷ ds) e h = cc
others_like us vs (id ∷ ids) (d ∷ ds) e h =
    let first : slice_index us id ≡ slice_index vs d = cc in
    let rest : map (slice_index us) ids ≡ map (slice_index vs) ds = cc in
    (λ z. h.0 (first ∙ z), others_like us vs ids ds rest h.1)

module _ (net : Netlist) (cycle : ℕ) (old new : Frames) (s : IsShrunk old new)
    (choices : AllByRecursion (IsChoice net cycle) old.sources)
    (wide : old.widths ≡ map (source_width net) old.sources) where
  -- the numbers under choices
  numbers_are : (ch : Choices)
      → map (chosen ch) new.sources ≡ map (slice_index (map (chosen ch) old.sources)) s.kept
  numbers_are ch = map_picked old.sources (chosen ch) new.sources s.kept s.sources

  fits : (ch : Choices) → AreChoicesOf net ch → AreNumbersOf old.widths (map (chosen ch) old.sources)
  fits ch own =
      let N : List ℕ → Type 0 = λ ws. AreNumbersOf ws (map (chosen ch) old.sources) in
      subst N (sym wide) (numbers_of_choice net cycle ch old.sources own choices)

  pub shrunk_choices : AllByRecursion (IsChoice net cycle) new.sources
  shrunk_choices = all_picked old.sources (IsChoice net cycle) new.sources s.kept s.sources choices

  pub shrunk_widths : new.widths ≡ map (source_width net) new.sources
  shrunk_widths =
      s.widths ∙ ap (λ ws. map (slice_index ws) s.kept) wide
      ∙ sym (map_picked old.sources (source_width net) new.sources s.kept s.sources)

  pub shrunk_roots : (bad : ℕ) → HasRoots net bad cycle old → HasRoots net bad cycle new
  shrunk_roots bad h ch own =
      let is : map (slice_index (values_under new ch)) new.roots ≡ map (slice_index (values_under old ch)) old.roots =
      ap (λ ns. map (slice_index (values_by new ns)) new.roots) (numbers_are ch)
      ∙ s.roots (map (chosen ch) old.sources) (fits ch own) in
      let bad_is = h ch own in (
        λ m. bad_is.0 (others_like (values_under new ch) (values_under old ch) new.roots old.roots is m),
        λ m. others_like (values_under old ch) (values_under new ch) old.roots new.roots (sym is) (bad_is.1 m),
      )

  pub shrunk_watch : (watch : List ℕ) → HasWatch net watch cycle old → HasWatch net watch cycle new
  shrunk_watch watch h ch own =
      ap (λ ns. map (slice_index (values_by new ns)) new.watch) (numbers_are ch)
      ∙ s.watch (map (chosen ch) old.sources) (fits ch own) ∙ h ch own
