-- From drafts to runs: the theorem of the frames, over plain variables.
use Rattle.std.specs.Prelude.{◌≡◌, ◌↔◌, refl, ℕ, zero, suc, ◌+◌, ◌<◌, ◌≤◌, ◌^◌, List}
use Rattle.std.specs.Prelude.{[], ◌∷◌, length, map}
use Rattle.std.specs.Prelude.{slice_index}
use Rattle.std.specs.List.{AllByRecursion}
use Rattle.std.proofs.Common.{ap, sym, ◌∙◌, arith, subst, lit<}
use Rattle.std.proofs.lemmas.List.{length-map}
use Rattle.wn_net.specs.declared.node.Node.{Node}
use Rattle.wn_net.specs.declared.parts.Input.{Input}
use Rattle.wn_net.specs.declared.parts.Mem.{Mem}
use Rattle.wn_net.specs.declared.parts.Reg.{Reg}
use Rattle.wn_net.specs.declared.parts.State.{State}
use Rattle.wn_net.specs.Width.{Shape, IsWidth, AreFitting}
use Rattle.wn_net.specs.Value.{Given, values}
use Rattle.wn_net.specs.Given.{AreMemsOf, AreNumbersOf, IsGiven, given}
use Rattle.wn_net.specs.Next.{next_state}
use Rattle.wn_net.specs.Net.{Netlist, IsNet, AreNodes, value_at, shape_of, values_of}
use Rattle.wn_net.specs.Changes.{AddsNodes}
use Rattle.wn_run.specs.Runs.{Choices, AreChoicesOf, IsMet, cycle_at, inputs_at, start_of, state_at}
use Rattle.wn_mem.specs.Words.{numbers_of}
use Rattle.bm_unroll.specs.declared.state.StateNodes.{StateNodes}
use Rattle.bm_unroll.specs.Cycle.{state_by}
use Rattle.bm_unroll.specs.Walk.{AreOther, IsBadAt, rows_by}
use Rattle.bm_unroll.specs.declared.frames.Source.{Source}
use Rattle.bm_unroll.specs.declared.frames.Frames.{Frames}
use Rattle.bm_unroll.specs.declared.draft.Draft.{Draft}
use Rattle.bm_unroll.specs.Frames.{HasRoots, HasWatch, IsFrames, chosen, frames_shape, source_width, values_under}
use Rattle.bm_unroll.specs.Draft.{Agree, HasRows, HasBegun, IsDraft}
use Rattle.bm_unroll.proofs.Choosing.{numbers_of_choice}

-- the numbers of all sources
abbrev pub numbers_under : Choices → List Source → Given
numbers_under ch xs = given (map (chosen ch) xs) (record { regs = []; mems = [] })

pub agree_all : (ch : Choices) (xs : List Source) → Agree ch xs (map (chosen ch) xs)
agree_all ch [] = tt
agree_all ch (x ∷ xs) = (refl, agree_all ch xs)

-- runs with the same inputs up to a cycle are the same up to it
pub state_same : (net : Netlist) (ins own : ℕ → List ℕ) (first : State) (k : ℕ) → ((j : ℕ) → j < k
    → ins j ≡ own j)
    → state_at net ins first k ≡ state_at net own first k
state_same net ins own first zero same = refl
state_same net ins own first (suc k) same =
    λ i. next_state net (given (same k (omega arith) i)
    (state_same net ins own first k (λ j low. same j (omega (arith, low))) i))

pub cycle_same : (net : Netlist) (ins own : ℕ → List ℕ) (first start : State) (k : ℕ) → first ≡ start
    → ((j : ℕ) → j ≤ k → ins j ≡ own j) → cycle_at net ins first k ≡ cycle_at net own start k
cycle_same net ins own first start k e same =
    (λ i. given (same k (omega arith) i)
    (state_same net ins own first k (λ j low. same j (omega (arith, low))) i))
    ∙ ap (λ s. cycle_at net own s k) e

pub bad_same : (net : Netlist) (ins own : ℕ → List ℕ) (first start : State) (bad k : ℕ) → first ≡ start
    → ((j : ℕ) → j ≤ k → ins j ≡ own j) → IsBadAt net ins first bad k → IsBadAt net own start bad k
bad_same net ins own first start bad k e same h =
    let V : Given → Type 0 = λ g. value_at net g bad ≡ 0 → ⊥ in
    let M : Given → Type 0 = λ g. IsMet net g in (
      λ j low.
          subst M (cycle_same net ins own first start j e (λ i less. same i (omega (arith, low, less)))) (h.0 j low),
      subst V (cycle_same net ins own first start k e same) h.1,
    )

-- the values that the frames have are those of the net that was drafted
pub values_drafted : (frames : Netlist) (ws : List ℕ) (g : Given) → frames.regs ≡ [] → frames.mems ≡ []
    → map (λ x. x.width) frames.inputs ≡ ws
    → values (record { inputs = ws; regs = []; mems = [] }) g [] [] frames.nodes ≡ values_of frames g
values_drafted frames ws g no_regs no_mems inputs =
    λ i. values (record {
      inputs = sym inputs i;
      regs = map (λ r. r.width) (sym no_regs i);
      mems = map (λ m. m.width) (sym no_mems i);
    }) g [] [] frames.nodes

-- the numbers of roots, by the values of all nodes
pub others_at : (frames : Netlist) (g : Given) (vs ids : List ℕ) → vs ≡ values_of frames g
    → AreOther (numbers_of frames g ids) ↔ AllByRecursion (λ id. slice_index vs id ≡ 0 → ⊥) ids
unfolding value_at
others_at frames g vs [] e = (λ m. tt, λ m. tt)
others_at frames g vs (id ∷ ids) e =
    let rest = others_at frames g vs ids e in
    let here = ap (λ us. slice_index us id) e in (
      λ m. (λ z. m.0 (sym here ∙ z), rest.0 m.1),
      λ m. (λ z. m.0 (here ∙ z), rest.1 m.1),
    )

-- and those of watched nodes
pub watched_at : (frames : Netlist) (g : Given) (vs ids : List ℕ) → vs ≡ values_of frames g
    → map (slice_index vs) ids ≡ numbers_of frames g ids
unfolding value_at
watched_at frames g vs [] e = refl
watched_at frames g vs (id ∷ ids) e = λ i. slice_index (e i) id ∷ watched_at frames g vs ids e i

-- ---- drafts with frames

-- What the frames have of a draft, and of its net with more nodes.
pub record AreFramed (d : Draft) (frames : Netlist) (f : Frames) : Type 0 where
  pub adds : AddsNodes d.net frames
  pub nodes_are : f.nodes ≡ frames.nodes
  pub sources_are : f.sources ≡ d.sources.items
  pub widths_are : f.widths ≡ d.widths.items

-- the numbers of the sources are those of a cycle
numbers_given : (net : Netlist) (d : Draft) (cycle bound : ℕ) (ch : Choices) → IsDraft net cycle bound d
    → AreChoicesOf net ch → IsGiven d.net (numbers_under ch d.sources.items)
numbers_given net d cycle bound ch h own =
    let xs = d.sources.items in
    let I : List ℕ → Type 0 = λ ws. AreNumbersOf ws (map (chosen ch) xs) in
    let R : List Reg → Type 0 = λ rs. AreNumbersOf (map (λ r. r.width) rs) [] in
    let M : List Mem → Type 0 = λ ms. AreMemsOf ms [] in
    record {
      inputs = subst I (sym (h.inputs ∙ h.widths)) (numbers_of_choice net cycle ch xs own h.choices);
      state = record {
        regs = subst R (sym h.no_regs) (record { each = refl; below = λ i. lit< tt });
        mems = subst M (sym h.no_mems) tt;
      };
    }

-- the values of the frames are those of the net
values_are : (net : Netlist) (d : Draft) (frames : Netlist) (f : Frames) (cycle bound : ℕ) (ch : Choices)
    → IsDraft net cycle bound d → AreFramed d frames f
    → values_under f ch ≡ values_of frames (numbers_under ch d.sources.items)
values_are net d frames f cycle bound ch h k =
    (λ i. values (record { inputs = k.widths_are i; regs = []; mems = [] })
    (given (map (chosen ch) (k.sources_are i)) (record { regs = []; mems = [] })) [] [] (k.nodes_are i))
    ∙ values_drafted frames d.widths.items (numbers_under ch d.sources.items) (k.adds.regs ∙ h.no_regs)
    (k.adds.mems ∙ h.no_mems) (ap (map (λ (x : Input). x.width)) k.adds.inputs ∙ h.inputs)

-- the roots of all cycles
pub framed_roots : (net : Netlist) (d : Draft) (frames : Netlist) (f : Frames) (cycle bound bad : ℕ)
    (rows read : List (List ℕ)) (start : StateNodes) (roots : List ℕ) → IsDraft net cycle bound d
    → AreFramed d frames f → HasRows net d rows → length rows ≡ cycle + 1 → read ≡ rows → HasBegun net d start
    → f.roots ≡ roots
    → ((g : Given) → IsGiven d.net g → AreOther (numbers_of frames g roots)
    ↔ IsBadAt net (rows_by d.net g read) (state_by d.net g start) bad cycle)
    → HasRoots net bad cycle f
framed_roots net d frames f cycle bound bad rows read start roots h k rows_are each e start_is is says = λ ch own.
    let g = numbers_under ch d.sources.items in
    let agree : Agree ch d.sources.items g.inputs = agree_all ch d.sources.items in
    let ins = rows_by d.net g rows in
    let first : state_by d.net g start ≡ start_of net ch = start_is.values ch g agree in
    let same : (j : ℕ) → j ≤ cycle → ins j ≡ inputs_at net ch j =
    λ j low. (rows_are j (omega (arith, low, each))).values ch g agree in
    let all = others_at frames g (values_under f ch) f.roots (values_are net d frames f cycle bound ch h k) in
    let P : List ℕ → Type 0 = λ ids. AreOther (numbers_of frames g ids)
    ↔ IsBadAt net ins (state_by d.net g start) bad cycle in
    let Q : List (List ℕ) → Type 0 = λ rs. AreOther (numbers_of frames g roots)
    ↔ IsBadAt net (rows_by d.net g rs) (state_by d.net g start) bad cycle in
    let bad_is = subst P (sym is) (subst Q e (says g (numbers_given net d cycle bound ch h own))) in (
      λ m. bad_same net ins (inputs_at net ch) (state_by d.net g start) (start_of net ch) bad cycle first same
          (bad_is.0 (all.1 m)),
      λ m. all.0 (bad_is.1
          (bad_same net (inputs_at net ch) ins (start_of net ch) (state_by d.net g start) bad cycle (sym first)
          (λ j low. sym (same j low)) m)),
    )

-- and the watched nodes in the last
pub framed_watch : (net : Netlist) (d : Draft) (frames : Netlist) (f : Frames) (cycle bound : ℕ) (watch : List ℕ)
    (rows read : List (List ℕ)) (start : StateNodes) (ids : List ℕ) → IsDraft net cycle bound d → AreFramed d frames f
    → HasRows net d rows → length rows ≡ cycle + 1 → read ≡ rows → HasBegun net d start → f.watch ≡ ids
    → ((g : Given) → IsGiven d.net g → numbers_of frames g ids
    ≡ map (value_at net (cycle_at net (rows_by d.net g read) (state_by d.net g start) cycle)) watch)
    → HasWatch net watch cycle f
framed_watch net d frames f cycle bound watch rows read start ids h k rows_are each e start_is is says = λ ch own.
    let g = numbers_under ch d.sources.items in
    let agree : Agree ch d.sources.items g.inputs = agree_all ch d.sources.items in
    let ins = rows_by d.net g rows in
    let first : state_by d.net g start ≡ start_of net ch = start_is.values ch g agree in
    let same : (j : ℕ) → j ≤ cycle → ins j ≡ inputs_at net ch j =
    λ j low. (rows_are j (omega (arith, low, each))).values ch g agree in
    watched_at frames g (values_under f ch) f.watch (values_are net d frames f cycle bound ch h k)
    ∙ ap (numbers_of frames g) is ∙ says g (numbers_given net d cycle bound ch h own)
    ∙ ap (λ rs. map (value_at net (cycle_at net (rows_by d.net g rs) (state_by d.net g start) cycle)) watch) e
    ∙ ap (λ G. map (value_at net G) watch)
    (cycle_same net ins (inputs_at net ch) (state_by d.net g start) (start_of net ch) cycle first same)

-- ---- what holds of all frames

pub widths_all : (xs : List Input) → AllByRecursion (λ x. IsWidth x.width) xs
    → AllByRecursion IsWidth (map (λ x. x.width) xs)
widths_all [] h = tt
widths_all (x ∷ xs) h = (h.0, widths_all xs h.1)

pub framed_whole : (net : Netlist) (d : Draft) (frames : Netlist) (f : Frames) (cycle bound : ℕ) (roots watch : List ℕ)
    → IsDraft net cycle bound d → AreFramed d frames f → length d.sources.items < 2 ^ 32 → IsNet frames
    → AreNodes frames roots → AreNodes frames watch → f.roots ≡ roots → f.watch ≡ watch → IsFrames f
framed_whole net d frames f cycle bound roots watch h k few whole roots_there watch_there roots_are watch_are =
    let wide : map (λ (x : Input). x.width) frames.inputs ≡ f.widths =
    ap (map (λ (x : Input). x.width)) k.adds.inputs ∙ h.inputs ∙ sym k.widths_are in
    let regs : map (λ (r : Reg). r.width) frames.regs ≡ [] =
    ap (map (λ (r : Reg). r.width)) (k.adds.regs ∙ h.no_regs) in
    let mems : map (λ (m : Mem). m.width) frames.mems ≡ [] =
    ap (map (λ (m : Mem). m.width)) (k.adds.mems ∙ h.no_mems) in
    let shape : shape_of frames ≡ frames_shape f =
    λ i. record { inputs = wide i; regs = regs i; mems = mems i } in
    let N : List Node → Type 0 = λ ns. AreFitting (shape_of frames) [] ns in
    let S : Shape → Type 0 = λ s. AreFitting s [] f.nodes in
    let W : List ℕ → Type 0 = λ ws. AllByRecursion IsWidth ws in
    let A : List Node → Type 0 = λ ns. AllByRecursion (λ id. id < length ns) roots in
    let B : List Node → Type 0 = λ ns. AllByRecursion (λ id. id < length ns) watch in
    let R : List ℕ → Type 0 = λ ids. AllByRecursion (λ id. id < length f.nodes) ids in
    record {
      nodes = subst S shape (subst N (sym k.nodes_are) whole.nodes);
      widths = subst W wide (widths_all frames.inputs whole.inputs);
      each = ap length (k.widths_are ∙ h.widths) ∙ length-map d.sources.items (source_width net)
          ∙ sym (ap length k.sources_are);
      few = omega (arith, ap length k.sources_are, few);
      roots = subst R (sym roots_are) (subst A (sym k.nodes_are) roots_there);
      watch = subst R (sym watch_are) (subst B (sym k.nodes_are) watch_there);
    }
