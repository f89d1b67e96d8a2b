-- What holds of the runs of the part of a net on which some nodes rest holds of the runs of the net.
use Rattle.std.specs.Prelude.{◌≡◌, ◌↔◌, refl, ℕ, zero, suc, List, [], ◌∷◌, ◌++◌}
use Rattle.std.specs.Prelude.{length, map, sum, Some, Option}
use Rattle.std.specs.Prelude.{slice_get, slice_index, slice_index_or}
use Rattle.std.specs.List.{AllByRecursion}
use Rattle.std.proofs.Common.{ap, sym, ◌∙◌, arith, subst}
use Rattle.fv_graph.proofs.Lists.{get_less, get_some}
use Rattle.wn_net.specs.declared.parts.Input.{Input}
use Rattle.wn_net.specs.declared.parts.InputKind.TheVariants.{EachCycle, Once}
use Rattle.wn_net.specs.declared.parts.Init.{Init}
use Rattle.wn_net.specs.declared.parts.Init.TheVariants.{Free}
use Rattle.wn_net.specs.Value.{Given}
use Rattle.wn_net.specs.Net.{Netlist, IsNet, IsNode, AreNodes, value_at}
use Rattle.wn_run.specs.Runs.{Choices, IsMet, cycle_at, inputs_at, start_of}
use Rattle.wn_opt.specs.Needed.{IsIn, root}
use Rattle.wn_opt.specs.Cone.{IsCone, KeepsRuns, HasPlace, place}
use Rattle.wn_opt.proofs.Choices.{HasSameState}
use Rattle.wn_opt.proofs.Copying.{place_is}
use Rattle.wn_opt.proofs.In.{in_here, in_next}
use Rattle.wn_opt.proofs.Whole.{same_state}
use Rattle.bm_unroll.specs.declared.frames.Source.{Source}
use Rattle.bm_unroll.specs.declared.frames.Source.TheVariants as s
use Rattle.bm_unroll.specs.declared.frames.Frames.{Frames}
use Rattle.bm_unroll.specs.Frames.{AreChosen, HasRoots, HasWatch, IsBadRun, IsChoice, IsWithin, source_width}
use Rattle.bm_unroll.proofs.Runs.{cycle_same}

all_moved : (P Q : Source → Type 0) (xs : List Source) → ((x : Source) → P x → Q x) → AllByRecursion P xs
    → AllByRecursion Q xs
all_moved P Q [] f h = tt
all_moved P Q (x ∷ xs) f h = (f x h.0, all_moved P Q xs f h.1)

-- ---- the roots: the assumptions, the watched nodes and the bad node

in_left : (xs ys : List ℕ) (x : ℕ) → IsIn xs x → IsIn (xs ++ ys) x
in_left xs ys x h = (h.0, get_left xs h.0 h.1)
  where
    get_left : (zs : List ℕ) (k : ℕ) → slice_get zs k ≡ Some x → slice_get (zs ++ ys) k ≡ Some x
    get_left [] k e = cc
    get_left (z ∷ zs) zero e = e
    get_left (z ∷ zs) (suc k) e = get_left zs k e

in_right : (xs ys : List ℕ) (x : ℕ) → IsIn ys x → IsIn (xs ++ ys) x
in_right [] ys x h = h
in_right (z ∷ xs) ys x h = let more = in_right xs ys x h in (suc more.0, more.1)

both_nodes : (net : Netlist) (xs ys : List ℕ) → AreNodes net xs → AreNodes net ys → AreNodes net (xs ++ ys)
both_nodes net [] ys h k = k
both_nodes net (x ∷ xs) ys h k = (h.0, both_nodes net xs ys h.1 k)

pub first_there : (net : Netlist) (watch : List ℕ) → IsNet net → AreNodes net watch
    → AreNodes net (net.assumes ++ watch)
first_there net watch whole watched = both_nodes net net.assumes watch whole.assumes watched

pub assumed_first : (net : Netlist) (watch : List ℕ) (id : ℕ) → IsIn net.assumes id → IsIn (net.assumes ++ watch) id
assumed_first net watch id h = in_left net.assumes watch id h

module _ (net : Netlist) (watch : List ℕ) (bad : ℕ) (roots : List ℕ)
    (are : roots ≡ (net.assumes ++ watch) ++ bad ∷ []) where
  abbrev In : ℕ → List ℕ → Type 0
  In id ids = IsIn ids id

  pub assumed_in : (id : ℕ) → IsIn net.assumes id → IsIn roots id
  assumed_in id h =
      subst (In id) (sym are) (in_left (net.assumes ++ watch) (bad ∷ []) id (in_left net.assumes watch id h))

  pub watched_in : (id : ℕ) → IsIn watch id → IsIn roots id
  watched_in id h =
      subst (In id) (sym are) (in_left (net.assumes ++ watch) (bad ∷ []) id (in_right net.assumes watch id h))

  pub bad_in : IsIn roots bad
  bad_in =
      subst (In bad) (sym are) (in_right (net.assumes ++ watch) (bad ∷ []) bad (in_here bad []))

-- ---- the part

module _ (net part : Netlist) (roots : List ℕ) (t : List (Option ℕ)) (whole : IsNet net) (own : IsNet part)
    (cone : IsCone net roots part t) (runs : KeepsRuns net roots part t) where
  state : HasSameState net part
  state = same_state net roots part t cone whole own

  pub part_within : IsWithin net → IsWithin part
  part_within h = (
    omega (arith, h.0, ap length cone.inputs),
    omega (arith, h.1, cone.regs_each, ap sum state.mem_words),
  )

  has_place : (id : ℕ) → IsIn roots id → HasPlace t id
  has_place id h = (cone.needed id).0 (root id h)

  pub place_there : (id : ℕ) → IsIn roots id → IsNode part (place t id)
  place_there id h =
      let p = has_place id h in
      let less = get_less t id (Some p.0) p.1 in
      let x = get_some net.nodes id (omega (arith, less, cone.each)) in
      let P : ℕ → Type 0 = λ k. IsNode part k in
      subst P (sym (place_is t id p.0 p.1)) (get_less part.nodes p.0 _ (cone.nodes id p.0 x.0 p.1 x.1))

  pub places_there : (ids : List ℕ) → ((id : ℕ) → IsIn ids id → IsIn roots id) → AreNodes part (map (place t) ids)
  places_there [] all = tt
  places_there (id ∷ ids) all =
      (place_there id (all id (in_here id ids)), places_there ids (λ i h. all i (in_next id ids i h)))

  -- ---- one run

  module _ (ch : Choices) where
    same : (k : ℕ) → cycle_at part (inputs_at part ch) (start_of part ch) k
        ≡ cycle_at part (inputs_at net ch) (start_of net ch) k
    same k =
        cycle_same part (inputs_at part ch) (inputs_at net ch) (start_of part ch) (start_of net ch) k (runs.start ch)
        (λ j low. runs.inputs ch j)

    value_same : (k id : ℕ) → IsIn roots id
        → value_at part (cycle_at part (inputs_at part ch) (start_of part ch) k) (place t id)
        ≡ value_at net (cycle_at net (inputs_at net ch) (start_of net ch) k) id
    value_same k id h =
        let p = has_place id h in
        ap (λ g. value_at part g (place t id)) (same k)
        ∙ ap (value_at part (cycle_at part (inputs_at net ch) (start_of net ch) k)) (place_is t id p.0 p.1)
        ∙ runs.values (inputs_at net ch) (start_of net ch) k id p.0 p.1

    values_same : (k : ℕ) (ids : List ℕ) → ((id : ℕ) → IsIn ids id → IsIn roots id)
        → map (value_at part (cycle_at part (inputs_at part ch) (start_of part ch) k)) (map (place t) ids)
        ≡ map (value_at net (cycle_at net (inputs_at net ch) (start_of net ch) k)) ids
    values_same k [] all = refl
    values_same k (id ∷ ids) all =
        let here = value_same k id (all id (in_here id ids)) in
        let rest = values_same k ids (λ i h. all i (in_next id ids i h)) in
        λ i. here i ∷ rest i

    module _ (assumed : (id : ℕ) → IsIn net.assumes id → IsIn roots id) where
      met_on : (k : ℕ) → IsMet part (cycle_at part (inputs_at part ch) (start_of part ch) k)
          → IsMet net (cycle_at net (inputs_at net ch) (start_of net ch) k)
      met_on k h =
          let P : Given → Type 0 = λ g. IsMet part g in
          (runs.all_met assumed (inputs_at net ch) (start_of net ch) k).0 (subst P (same k) h)

      met_back : (k : ℕ) → IsMet net (cycle_at net (inputs_at net ch) (start_of net ch) k)
          → IsMet part (cycle_at part (inputs_at part ch) (start_of part ch) k)
      met_back k h =
          let P : Given → Type 0 = λ g. IsMet part g in
          subst P (sym (same k)) ((runs.all_met assumed (inputs_at net ch) (start_of net ch) k).1 h)

      bad_same : (bad cycle : ℕ) → IsIn roots bad
          → IsBadRun part (place t bad) cycle ch ↔ IsBadRun net bad cycle ch
      bad_same bad cycle h = (
        λ m. (λ k low. met_on k (m.0 k low), λ z. m.1 (value_same cycle bad h ∙ z)),
        λ m. (λ k low. met_back k (m.0 k low), λ z. m.1 (sym (value_same cycle bad h) ∙ z)),
      )

  -- ---- frames

  pub net_roots : (bad cycle : ℕ) (f : Frames) → ((id : ℕ) → IsIn net.assumes id → IsIn roots id) → IsIn roots bad
      → HasRoots part (place t bad) cycle f → HasRoots net bad cycle f
  net_roots bad cycle f assumed there h ch of_net =
      let here = h ch ((runs.choices ch).0 of_net) in
      let bad_is = bad_same ch assumed bad cycle there in
      (λ m. bad_is.0 (here.0 m), λ m. here.1 (bad_is.1 m))

  pub net_watch : (watch : List ℕ) (cycle : ℕ) (f : Frames) → ((id : ℕ) → IsIn watch id → IsIn roots id)
      → HasWatch part (map (place t) watch) cycle f → HasWatch net watch cycle f
  net_watch watch cycle f all h ch of_net =
      h ch ((runs.choices ch).0 of_net) ∙ values_same ch cycle watch all

  choice_on : (cycle : ℕ) (x : Source) → IsChoice part cycle x → IsChoice net cycle x
  choice_on cycle (s.Each i k) h =
      let P : List Input → Type 0 = λ xs. slice_get (map (λ x. x.kind) xs) i ≡ Some EachCycle in
      (subst P cone.inputs h.0, h.1)
  choice_on cycle (s.Once i) h =
      let P : List Input → Type 0 = λ xs. slice_get (map (λ x. x.kind) xs) i ≡ Some Once in subst P cone.inputs h
  choice_on cycle (s.RegStart r) h =
      let P : List Init → Type 0 = λ xs. slice_get xs r ≡ Some Free in subst P state.reg_starts h
  choice_on cycle (s.WordStart m w) h =
      let P : List (List Init) → Type 0 = λ xs. slice_get (slice_index_or xs m []) w ≡ Some Free in
      subst P state.mem_starts h

  pub net_choices : (cycle : ℕ) (xs : List Source) → AllByRecursion (IsChoice part cycle) xs
      → AllByRecursion (IsChoice net cycle) xs
  net_choices cycle xs h = all_moved (IsChoice part cycle) (IsChoice net cycle) xs (choice_on cycle) h

  width_same : (x : Source) → source_width part x ≡ source_width net x
  width_same (s.Each i k) = ap (λ xs. slice_index (map (λ (x : Input). x.width) xs) i) cone.inputs
  width_same (s.Once i) = ap (λ xs. slice_index (map (λ (x : Input). x.width) xs) i) cone.inputs
  width_same (s.RegStart r) = ap (λ ws. slice_index ws r) state.reg_widths
  width_same (s.WordStart m w) = ap (λ ws. slice_index ws m) state.mem_widths

  pub net_widths : (xs : List Source) → map (source_width part) xs ≡ map (source_width net) xs
  net_widths [] = refl
  net_widths (x ∷ xs) = let here = width_same x in let rest = net_widths xs in λ i. here i ∷ rest i

  pub net_chosen : (widths : List ℕ) (xs : List Source) → AreChosen part widths xs → AreChosen net widths xs
  net_chosen widths xs h = record {
    number = λ ch of_net. h.number ch ((runs.choices ch).0 of_net);
    choice = λ numbers fits.
        let c = h.choice numbers fits in
        record { ch = c.ch; of_net = (runs.choices c.ch).1 c.of_net; same = c.same };
  }
