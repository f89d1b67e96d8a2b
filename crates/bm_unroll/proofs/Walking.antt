-- The walk over the cycles.
use Rattle.std.specs.Prelude.{◌≡◌, ◌↔◌, refl, ℕ, zero, suc, ◌+◌, ◌<◌, Bool, true, false, nat_lt}
use Rattle.std.specs.Prelude.{List, [], ◌∷◌}
use Rattle.std.specs.Prelude.{◌++◌, length, map, slice_index, slice_index_or}
use Rattle.std.specs.List.{AllByRecursion}
use Rattle.std.proofs.Common.{ap, sym, ◌∙◌, arith, subst}
use Rattle.std.proofs.lemmas.Bool.Decides.{nat_tests}
use Rattle.std.proofs.lemmas.List.{get_or-map, get_or_default, map-append, map_push}
use Rattle.wn_net.specs.declared.parts.State.{State}
use Rattle.wn_net.specs.Width.{Shape}
use Rattle.wn_net.specs.Value.{Given}
use Rattle.wn_net.specs.Given.{IsGiven, given}
use Rattle.wn_net.specs.Net.{Netlist, IsNode, AreNodes, IsNet, value_at, shape_of, widths_of, values_of}
use Rattle.wn_net.specs.Changes.{AddsNodes}
use Rattle.wn_net.proofs.Laws.{adds_on, adds_none, given_on}
use Rattle.wn_run.specs.Runs.{IsMet, cycle_at}
use Rattle.wn_mem.specs.Words.{numbers_of}
use Rattle.bm_unroll.specs.declared.state.StateNodes.{StateNodes}
use Rattle.bm_unroll.specs.Memories.{memory_width}
use Rattle.bm_unroll.specs.Cycle.{AreStateNodes, StandFor, given_by, state_by, widths_at}
use Rattle.bm_unroll.specs.Moved.{moved}
use Rattle.bm_unroll.proofs.Copying.{node_in, nodes_there, nodes_push, widths_kept, numbers_kept}
use Rattle.bm_unroll.proofs.Copying.{state_kept}
use Rattle.bm_unroll.proofs.Moving.{table_long}
use Rattle.bm_unroll.specs.Walk.{AreOther, AreRows, IsAssumedBefore, IsBadAt, IsRow, IsStart, Passes, rows_by}

-- ---- numbers other than 0

others_join : (xs ys : List ℕ) → AreOther xs → AreOther ys → AreOther (xs ++ ys)
others_join [] ys h k = k
others_join (x ∷ xs) ys h k = (h.0, others_join xs ys h.1 k)

others_left : (xs ys : List ℕ) → AreOther (xs ++ ys) → AreOther xs
others_left [] ys h = tt
others_left (x ∷ xs) ys h = (h.0, others_left xs ys h.1)

others_right : (xs ys : List ℕ) → AreOther (xs ++ ys) → AreOther ys
others_right [] ys h = h
others_right (x ∷ xs) ys h = others_right xs ys h.1

-- ---- nodes of a cycle

-- what stands for a node has its value
pub table_value : (net mid : Netlist) (g G : Given) (table : List ℕ) (id : ℕ)
    → numbers_of mid g table ≡ values_of net G
    → id < length table → value_at mid g (slice_index table id) ≡ value_at net G id
unfolding value_at
table_value net mid g G table id same below =
    sym (get_or-map (value_at mid g) table id 0 0 below) ∙ ap (λ vs. slice_index vs id) same

pub all_below : (net : Netlist) (table ids : List ℕ) → length table ≡ length net.nodes → AreNodes net ids
    → AllByRecursion (λ id. id < length table) ids
all_below net table [] long own = tt
all_below net table (id ∷ ids) long own = (omega (arith, long, own.0), all_below net table ids long own.1)

pub copies_there : (net mid : Netlist) (table ids : List ℕ) → AreNodes mid table
    → length table ≡ length net.nodes
    → AreNodes net ids → AreNodes mid (map (slice_index table) ids)
copies_there net mid table [] there long own = tt
copies_there net mid table (id ∷ ids) there long own =
    (node_in mid table id 0 there (omega (arith, long, own.0)), copies_there net mid table ids there long own.1)

pub copies_values : (net mid : Netlist) (g G : Given) (table ids : List ℕ)
    → numbers_of mid g table ≡ values_of net G
    → length table ≡ length net.nodes → AreNodes net ids
    → numbers_of mid g (map (slice_index table) ids) ≡ map (value_at net G) ids
copies_values net mid g G table [] same long own = refl
copies_values net mid g G table (id ∷ ids) same long own =
    let here : value_at mid g (slice_index table id) ≡ value_at net G id =
    table_value net mid g G table id same (omega (arith, long, own.0)) in
    λ i. here i ∷ copies_values net mid g G table ids same long own.1 i

-- the assumptions are met exactly where no number is 0
others_met : (net : Netlist) (G : Given) (ids : List ℕ)
    → AreOther (map (value_at net G) ids) → AllByRecursion (λ id. value_at net G id ≡ 0 → ⊥) ids
others_met net G [] h = tt
others_met net G (id ∷ ids) h = (h.0, others_met net G ids h.1)

met_others : (net : Netlist) (G : Given) (ids : List ℕ)
    → AllByRecursion (λ id. value_at net G id ≡ 0 → ⊥) ids → AreOther (map (value_at net G) ids)
met_others net G [] h = tt
met_others net G (id ∷ ids) h = (h.0, met_others net G ids h.1)

nodes_join : (net : Netlist) (xs ys : List ℕ) → AreNodes net xs → AreNodes net ys → AreNodes net (xs ++ ys)
nodes_join net [] ys a b = b
nodes_join net (x ∷ xs) ys a b = (a.0, nodes_join net xs ys a.1 b)

-- the roots with the assumptions of one more cycle
pub roots_more : (old mid net : Netlist) (table roots longer : List ℕ) → AddsNodes old mid → IsNet net
    → AreNodes old roots → AreNodes mid table → widths_at mid table ≡ widths_of net
    → longer ≡ roots ++ map (slice_index table) net.assumes → AreNodes mid longer
roots_more old mid net table roots longer h whole own there wide is =
    let P : List ℕ → Type 0 = λ ids. AreNodes mid ids in
    subst P (sym is)
    (nodes_join mid roots (map (slice_index table) net.assumes) (nodes_there old mid roots h own)
    (copies_there net mid table net.assumes there (table_long net mid table wide) whole.assumes))

more_numbers : (old mid net : Netlist) (g G : Given) (table roots longer : List ℕ) → AddsNodes old mid → IsNet net
    → AreNodes old roots → widths_at mid table ≡ widths_of net → numbers_of mid g table ≡ values_of net G
    → longer ≡ roots ++ map (slice_index table) net.assumes
    → numbers_of mid g longer ≡ numbers_of old g roots ++ map (value_at net G) net.assumes
more_numbers old mid net g G table roots longer h whole own wide same is =
    let ids = map (slice_index table) net.assumes in
    ap (numbers_of mid g) is ∙ map-append (value_at mid g) roots ids
    ∙ (λ i. numbers_kept old mid g roots h own i
    ++ copies_values net mid g G table net.assumes same (table_long net mid table wide) whole.assumes i)

pub roots_say_more : (old mid net : Netlist) (g G : Given) (table roots longer : List ℕ) → AddsNodes old mid
    → IsNet net
    → AreNodes old roots → widths_at mid table ≡ widths_of net → numbers_of mid g table ≡ values_of net G
    → longer ≡ roots ++ map (slice_index table) net.assumes
    → AreOther (numbers_of mid g longer) ↔ (AreOther (numbers_of old g roots) × IsMet net G)
roots_say_more old mid net g G table roots longer h whole own wide same is =
    let e = more_numbers old mid net g G table roots longer h whole own wide same is in
    let xs = numbers_of old g roots in
    let ys = map (value_at net G) net.assumes in
    let P : List ℕ → Type 0 = λ vs. AreOther vs in (
      λ m. let k = subst P e m in (others_left xs ys k, others_met net G net.assumes (others_right xs ys k)),
      λ m. subst P (sym e) (others_join xs ys m.0 (met_others net G net.assumes m.1)),
    )

-- ---- the walk

pub row_in : (net : Netlist) (s : Shape) (rows : List (List ℕ)) (k : ℕ) (d : List ℕ) → AreRows net s rows
    → k < length rows → IsRow net s (slice_index_or rows k d)
row_in net s [] k d h below = absurd (omega arith)
row_in net s (r ∷ rs) zero d h below = h.0
row_in net s (r ∷ rs) (suc k) d h below = row_in net s rs k d h.1 (omega arith)

-- a row as the walk reads it, in a net with more nodes
pub row_read : (old now : Netlist) (s : Shape) (rows : List (List ℕ)) (k : ℕ) (row : List ℕ) → AddsNodes old now
    → AreRows old s rows → k < length rows → row ≡ slice_index_or rows k row → IsRow now s row
row_read old now s rows k row h all below is =
    let P : List ℕ → Type 0 = λ r. IsRow now s r in
    let own : IsRow old s (slice_index_or rows k row) = row_in old s rows k row all below in
    subst P (sym is) (
      nodes_there old now (slice_index_or rows k row) h own.0,
      widths_kept old now (slice_index_or rows k row) h own.0 ∙ own.1,
    )

pub stand_here : (now net : Netlist) (row : List ℕ) (state : StateNodes) → IsRow now (shape_of net) row
    → IsStart now (shape_of net) state → StandFor now net row state
stand_here now net row state r h = record {
  inputs_there = r.0;
  state_there = h.there;
  shape = λ i. record { inputs = sym r.1 i; regs = sym h.regs i; mems = sym h.mems i };
}

pub passes_none : (old net : Netlist) (rows : List (List ℕ)) (start : StateNodes) (roots : List ℕ)
    → IsStart old (shape_of net) start → roots ≡ [] → Passes old old net rows start 0 start roots
passes_none old net rows start roots h is =
    let P : List ℕ → Type 0 = λ r. Passes old old net rows start 0 start r in
    let none : Passes old old net rows start 0 start [] = record {
      adds = adds_none old;
      is_start = h;
      state_is = λ g given. refl;
      roots_there = tt;
      roots_say = λ g given. (λ m k below. absurd (omega arith), λ m. tt);
    } in
    subst P (sym is) none

-- the numbers of a cycle are those of the run
pub cycle_is : (old now net : Netlist) (rows : List (List ℕ)) (start : StateNodes) (k : ℕ) (row : List ℕ)
    (state : StateNodes) (roots : List ℕ) (g : Given) → IsGiven old g → AreRows old (shape_of net) rows
    → k < length rows → row ≡ slice_index_or rows k row → Passes old now net rows start k state roots
    → given_by now g row state ≡ cycle_at net (rows_by old g rows) (state_by old g start) k
cycle_is old now net rows start k row state roots g G all below is h =
    let own : IsRow old (shape_of net) (slice_index_or rows k []) = row_in old (shape_of net) rows k [] all below in
    let e : row ≡ slice_index_or rows k [] = is ∙ get_or_default rows k row [] below in
    λ i. given
    ((ap (numbers_of now g) e ∙ numbers_kept old now g (slice_index_or rows k []) h.adds own.0) i)
    (sym (h.state_is g G) i)

pub assumed_next : (net : Netlist) (inputs : ℕ → List ℕ) (start : State) (k n : ℕ) → n ≡ suc k
    → IsAssumedBefore net inputs start k → IsMet net (cycle_at net inputs start k)
    → IsAssumedBefore net inputs start n
assumed_next net inputs start k n e before here = λ j below. by j below (nat_lt j k) refl
  where
    by : (j : ℕ) → j < n → (b : Bool) → nat_lt j k ≡ b → IsMet net (cycle_at net inputs start j)
    by j below true q = before j (grind (arith, nat_tests, q))
    by j below false q =
        let same : j ≡ k = grind (arith, nat_tests, q, below, e) in
        let P : ℕ → Type 0 = λ m. IsMet net (cycle_at net inputs start m) in
        subst P (sym same) here

pub passes_next : (old now mid new net : Netlist) (rows : List (List ℕ)) (start : StateNodes) (k : ℕ) (row : List
    ℕ)
    (state next : StateNodes) (roots longer table : List ℕ)
    → IsNet net → AreRows old (shape_of net) rows → k < length rows → row ≡ slice_index_or rows k row
    → Passes old now net rows start k state roots
    → AddsNodes now mid → AreNodes mid table → widths_at mid table ≡ widths_of net
    → ((g : Given) → IsGiven now g → numbers_of mid g table ≡ values_of net (given_by now g row state))
    → longer ≡ roots ++ map (slice_index table) net.assumes
    → AddsNodes mid new → AreStateNodes new next → widths_at new next.regs ≡ (shape_of net).regs
    → map (memory_width new) next.mems ≡ (shape_of net).mems
    → ((g : Given) → IsGiven mid g
    → state_by new g next ≡ moved net (numbers_of mid g table) (state_by mid g state))
    → Passes old new net rows start (k + 1) next longer
passes_next old now mid new net rows start k row state next roots longer table whole all below is h
    adds there wide numbers pushed more next_there next_regs next_mems moves =
    let both = adds_on old now mid h.adds adds in
    let long = roots_more now mid net table roots longer adds whole h.roots_there there wide pushed in
    let cycle : (g : Given) → IsGiven old g
    → numbers_of mid g table ≡ values_of net (cycle_at net (rows_by old g rows) (state_by old g start) k) =
    λ g G. numbers g (given_on old now g h.adds G)
    ∙ ap (values_of net) (cycle_is old now net rows start k row state roots g G all below is h) in
    let e : suc k ≡ k + 1 = omega arith in
    let P : ℕ → Type 0 = λ n. Passes old new net rows start n next longer in
    let made : Passes old new net rows start (suc k) next longer = record {
      adds = adds_on old mid new both more;
      is_start = record { there = next_there; regs = next_regs; mems = next_mems };
      state_is = λ g G.
          (λ i. moved net (sym (cycle g G) i) (h.state_is g G i))
          ∙ ap (moved net (numbers_of mid g table)) (sym (state_kept now mid g state adds h.is_start.there))
          ∙ sym (moves g (given_on old mid g both G));
      roots_there = nodes_there mid new longer more long;
      roots_say = λ g G.
          let run = cycle_at net (rows_by old g rows) (state_by old g start) k in
          let say = roots_say_more now mid net g run table roots longer adds whole h.roots_there wide (cycle g G)
          pushed in
          let same = numbers_kept mid new g longer more long in
          let Q : List ℕ → Type 0 = λ vs. AreOther vs in (
            λ m.
                let parts = say.0 (subst Q same m) in
                assumed_next net (rows_by old g rows) (state_by old g start) k (suc k) refl
                ((h.roots_say g G).0 parts.0) parts.1,
            λ m. subst Q (sym same)
                (say.1 ((h.roots_say g G).1 (λ j low. m j (omega (arith, low))), m k (omega arith))),
          );
    } in
    subst P e made

-- ---- the last cycle

-- one more root
pub others_push : (xs : List ℕ) (x : ℕ) → AreOther (xs ++ x ∷ []) ↔ (AreOther xs × (x ≡ 0 → ⊥))
others_push xs x = (
  λ m. (others_left xs (x ∷ []) m, (others_right xs (x ∷ []) m).0),
  λ m. others_join xs (x ∷ []) m.0 (
    m.1,
    tt,
  ),
)

pub last_there : (old mid net : Netlist) (table roots longer more : List ℕ) (last bad : ℕ) → AddsNodes old mid
    → IsNet net
    → AreNodes old roots → AreNodes mid table → widths_at mid table ≡ widths_of net
    → longer ≡ roots ++ map (slice_index table) net.assumes → IsNode net bad → last ≡ slice_index table bad
    → more ≡ longer ++ last ∷ [] → AreNodes mid more
last_there old mid net table roots longer more last bad h whole own there wide is below last_is pushed =
    let P : List ℕ → Type 0 = λ ids. AreNodes mid ids in
    let Q : ℕ → Type 0 = λ id. IsNode mid id in
    subst P (sym pushed)
    (nodes_push mid longer last (roots_more old mid net table roots longer h whole own there wide is)
    (subst Q (sym last_is) (node_in mid table bad 0 there (omega (arith, table_long net mid table wide, below)))))

pub last_says : (old mid net : Netlist) (g G : Given) (table roots longer more : List ℕ) (last bad : ℕ)
    → AddsNodes old mid → IsNet net → AreNodes old roots → widths_at mid table ≡ widths_of net
    → numbers_of mid g table ≡ values_of net G
    → longer ≡ roots ++ map (slice_index table) net.assumes → IsNode net bad → last ≡ slice_index table bad
    → more ≡ longer ++ last ∷ []
    → AreOther (numbers_of mid g more)
    ↔ (AreOther (numbers_of old g roots) × IsMet net G × (value_at net G bad ≡ 0 → ⊥))
last_says old mid net g G table roots longer more last bad h whole own wide same is below last_is pushed =
    let say = roots_say_more old mid net g G table roots longer h whole own wide same is in
    let v : value_at mid g last ≡ value_at net G bad =
    ap (value_at mid g) last_is
    ∙ table_value net mid g G table bad same (omega (arith, table_long net mid table wide, below)) in
    let e : numbers_of mid g more ≡ numbers_of mid g longer ++ value_at net G bad ∷ [] =
    ap (numbers_of mid g) pushed ∙ map_push (value_at mid g) longer last
    ∙ ap (λ u. numbers_of mid g longer ++ u ∷ []) v in
    let push = others_push (numbers_of mid g longer) (value_at net G bad) in
    let P : List ℕ → Type 0 = λ vs. AreOther vs in (
      λ m. let k = push.0 (subst P e m) in let p = say.0 k.0 in (p.0, p.1, k.1),
      λ m. subst P (sym e) (push.1 (say.1 (m.0, m.1), m.2)),
    )

-- and so the roots of all cycles
pub bad_at : (net : Netlist) (inputs : ℕ → List ℕ) (start : State) (k bad : ℕ) (G : Given) (now more : List ℕ)
    → G ≡ cycle_at net inputs start k
    → AreOther now ↔ IsAssumedBefore net inputs start k
    → AreOther more ↔ (AreOther now × IsMet net G × (value_at net G bad ≡ 0 → ⊥))
    → AreOther more ↔ IsBadAt net inputs start bad k
bad_at net inputs start k bad G now more e before last =
    let M : Given → Type 0 = λ h. IsMet net h in
    let V : Given → Type 0 = λ h. (value_at net h bad ≡ 0 → ⊥) in (
      λ m.
          let p = last.0 m in
          let all = assumed_next net inputs start k (suc k) refl (before.0 p.0) (subst M e p.1) in
          (λ j below. all j (omega (arith, below)), subst V e p.2),
      λ m.
          last.1 (
            before.1 (λ j below. m.0 j (omega (arith, below))),
            subst M (sym e) (m.0 k (omega arith)),
            subst V (sym e) m.1,
          ),
    )
