-- A net without registers and memories, with equal nodes once and then with fewer inputs.
use Rattle.std.specs.Prelude.{◌≡◌, ℕ, ◌<◌, List, [], ◌∷◌, Option, length, map, slice_index}
use Rattle.std.specs.List.{AllByRecursion}
use Rattle.std.proofs.Common.{ap, sym, ◌∙◌, subst}
use Rattle.wn_net.specs.declared.parts.Input.{Input}
use Rattle.wn_net.specs.Net.{Netlist, IsNode, AreNodes, width_at, value_at}
use Rattle.wn_opt.specs.Compact.{IsCompact}
use Rattle.wn_opt.specs.Cone.{HasPlace, place}
use Rattle.wn_opt.specs.Needed.{IsIn}
use Rattle.wn_opt.specs.Rebuilt.{AreWide, IsNarrowed, IsShared}
use Rattle.wn_opt.proofs.Copying.{place_is}
use Rattle.wn_opt.proofs.In.{in_here, in_next}
use Rattle.wn_opt.proofs.Marked.{map_places}
use Rattle.wn_opt.proofs.Narrowing.{in_map}

nodes_placed : (net part : Netlist) (t : List (Option ℕ)) (ids : List ℕ) → ((id : ℕ) → IsIn ids id → HasPlace t id)
    → AreWide net part t → AreNodes part (map (place t) ids)
nodes_placed net part t [] placed wide = tt
nodes_placed net part t (id ∷ ids) placed wide =
    let p = placed id (in_here id ids) in
    let P : ℕ → Type 0 = λ k. IsNode part k in (
      subst P (sym (place_is t id p.0 p.1)) (wide id p.0 p.1).0,
      nodes_placed net part t ids (λ i h. placed i (in_next id ids i h)) wide,
    )

-- the new numbers of the roots
pub heads_there : (net part : Netlist) (roots heads : List ℕ) (t : List (Option ℕ)) → IsShared net roots part t
    → heads ≡ map (place t) roots → AreNodes part heads
heads_there net part roots heads t h e =
    let P : List ℕ → Type 0 = λ ids. AreNodes part ids in
    subst P (sym e) (nodes_placed net part t roots h.placed h.widths)

pub is_compact : (net middle part : Netlist) (roots heads ends inputs : List ℕ) (t u : List (Option ℕ))
    → IsShared net roots middle t → heads ≡ map (place t) roots → IsNarrowed middle heads part inputs u
    → ends ≡ map (place u) heads → IsCompact net roots part inputs ends
is_compact net middle part roots heads ends inputs t u h e k f =
    let Below : List Input → Type 0 = λ xs. AllByRecursion (λ i. i < length xs) inputs in
    let There : List ℕ → Type 0 = λ ids. AreNodes part ids in
    record {
      flat = k.flat;
      there = subst Below h.inputs k.there;
      rising = k.rising;
      widths = k.input_widths ∙ ap (λ xs. map (slice_index (map (λ (x : Input). x.width) xs)) inputs) h.inputs;
      roots_there = subst There (sym f) (nodes_placed middle part u heads k.placed k.widths);
      root_widths = ap (map (width_at part)) f
          ∙ map_places (width_at part) (width_at middle) u heads k.placed (λ id at p. (k.widths id at p).1)
          ∙ ap (map (width_at middle)) e
          ∙ map_places (width_at middle) (width_at net) t roots h.placed (λ id at p. (h.widths id at p).1);
      values = λ g v is same.
          ap (map (value_at part v)) f
          ∙ map_places (value_at part v) (value_at middle g) u heads k.placed (k.values g v same)
          ∙ ap (map (value_at middle g)) e
          ∙ map_places (value_at middle g) (value_at net g) t roots h.placed (h.values g is);
      read = k.read ends (λ id at i p.
          let In : List ℕ → Type 0 = λ xs. IsIn xs at in
          let One : ℕ → Type 0 = λ x. IsIn (map (place u) heads) x in
          subst In (sym f) (subst One (place_is u id at p) (in_map (place u) heads id i)));
    }
