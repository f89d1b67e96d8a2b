-- Rows of nodes for the inputs of cycles.
use Rattle.std.specs.Prelude.{◌≡◌, refl, ℕ, zero, suc, ◌+◌, ◌*◌, ◌-◌, ◌<◌, ◌≤◌, ◌^◌, Bool, true, false, nat_lt}
use Rattle.std.specs.Prelude.{List, [], ◌∷◌, ◌++◌, length, take, Some, slice_get, slice_index, slice_index_or}
use Rattle.std.specs.Prelude.{Option, IfSome}
use Rattle.std.specs.List.{AllByRecursion}
use Rattle.std.specs.Int.{from_bool}
use Rattle.std.proofs.Common.{ap, sym, ◌∙◌, arith, subst}
use Rattle.std.proofs.Math.Pow.{pow_mono}
use Rattle.std.proofs.lemmas.Nat.{pow_pos}
use Rattle.std.proofs.lemmas.Bool.Decides.{nat_tests}
use Rattle.std.proofs.lemmas.List.{get_or_append_left, get_or_push, length_push, length-map, take_all}
use Rattle.std.proofs.lemmas.Option.{IfSome_then}
use Rattle.wn_net.specs.declared.parts.Input.{Input}
use Rattle.wn_net.specs.declared.parts.InputKind.TheVariants.{Once}
use Rattle.wn_net.specs.Net.{Netlist, shape_of}
use Rattle.wn_run.specs.Runs.{Choices, by_kind, inputs_at, inputs_from, reset_at}
use Rattle.bm_unroll.specs.Walk.{AreRows, IsRow}
use Rattle.bm_unroll.specs.declared.draft.Draft.{Draft}
use Rattle.bm_unroll.specs.Draft.{Extends, HasRows, IsDraft, Means, MeansAll}
use Rattle.bm_unroll.proofs.Items.{all_from, get_within, index_mapped, mapped_next}
use Rattle.bm_unroll.proofs.Drafting.{draft_more, extends_none, extends_on}
use Rattle.bm_unroll.proofs.Meaning.{meant_as, meant_at, meant_long, meant_next, meant_none, meant_on}

-- ---- the numbers of inputs

-- a bit fits each width
pub bit_fits : (b : Bool) (w : ℕ) → 1 ≤ w → from_bool b < 2 ^ w
bit_fits true w h = let p : 2 ^ 1 ≤ 2 ^ w = pow_mono h in let e : from_bool true ≡ 1 = refl in omega (arith, p, e)
bit_fits false w h = pow_pos w

-- one more of the first
inputs_next : (each once : ℕ → ℕ) (reset i n j : ℕ) (xs : List Input) (x : Input) → slice_get xs n ≡ Some x
    → j ≡ i + n
    → take (suc n) (inputs_from each once reset i xs)
    ≡ take n (inputs_from each once reset i xs) ++ by_kind (each j) (once j) reset x.kind ∷ []
inputs_next each once reset i n j [] x at is = cc
inputs_next each once reset i zero j (y ∷ ys) x at is =
    let p : y ≡ x = cc in
    let e : i ≡ j = omega arith in
    λ k. by_kind (each (e k)) (once (e k)) reset (p k).kind ∷ []
inputs_next each once reset i (suc n) j (y ∷ ys) x at is =
    ap (λ us. by_kind (each i) (once i) reset y.kind ∷ us)
    (inputs_next each once reset (i + 1) n j ys x at (omega arith))

inputs_all : (each once : ℕ → ℕ) (reset i : ℕ) (xs : List Input)
    → length (inputs_from each once reset i xs) ≡ length xs
inputs_all each once reset i [] = refl
inputs_all each once reset i (x ∷ xs) = ap suc (inputs_all each once reset (i + 1) xs)

-- one of them
input_at : (each once : ℕ → ℕ) (reset i n j : ℕ) (xs : List Input) (x : Input) → slice_get xs n ≡ Some x
    → j ≡ i + n
    → slice_index (inputs_from each once reset i xs) n ≡ by_kind (each j) (once j) reset x.kind
input_at each once reset i n j [] x at is = cc
input_at each once reset i zero j (y ∷ ys) x at is =
    let p : y ≡ x = cc in
    let e : i ≡ j = omega arith in
    λ k. by_kind (each (e k)) (once (e k)) reset (p k).kind
input_at each once reset i (suc n) j (y ∷ ys) x at is =
    input_at each once reset (i + 1) n j ys x at (omega arith)

-- ---- rows

pub rows_on : (net : Netlist) (old new : Draft) (count : ℕ) (rows : List (List ℕ)) → Extends old new count
    → HasRows net old rows → HasRows net new rows
rows_on net old new count rows h own = λ k below.
    meant_on old new count (shape_of net).inputs (λ ch. inputs_at net ch k) (slice_index_or rows k []) h (own k below)

pub rows_none : (net : Netlist) (d : Draft) → HasRows net d []
rows_none net d = λ k below. absurd (omega arith)

rows_push : (net : Netlist) (old new : Draft) (count : ℕ) (rows : List (List ℕ)) (row : List ℕ) → Extends old new count
    → HasRows net old rows → MeansAll new (shape_of net).inputs (λ ch. inputs_at net ch (length rows)) row
    → HasRows net new (rows ++ row ∷ [])
rows_push net old new count rows row h own here = λ k below. by k below (nat_lt k (length rows)) refl
  where
    by : (k : ℕ) → k < length (rows ++ row ∷ []) → (b : Bool) → nat_lt k (length rows) ≡ b
        → MeansAll new (shape_of net).inputs (λ ch. inputs_at net ch k) (slice_index_or (rows ++ row ∷ []) k [])
    by k below true q =
        let low : k < length rows = grind (arith, nat_tests, q) in
        let P : List ℕ → Type 0 = λ r. MeansAll new (shape_of net).inputs (λ ch. inputs_at net ch k) r in
        subst P (sym (get_or_append_left rows (row ∷ []) [] k low))
        (meant_on old new count (shape_of net).inputs (λ ch. inputs_at net ch k) (slice_index_or rows k []) h
        (own k low))
    by k below false q =
        let high : length rows ≤ k = grind (arith, nat_tests, q) in
        let same : length rows ≡ k = omega (arith, length_push rows row, high, below) in
        let P : List ℕ → Type 0 = λ r. MeansAll new (shape_of net).inputs (λ ch. inputs_at net ch (length rows)) r in
        let Q : ℕ → Type 0 = λ j. MeansAll new (shape_of net).inputs (λ ch. inputs_at net ch j)
        (slice_index_or (rows ++ row ∷ []) j []) in
        subst Q same (subst P (sym (get_or_push rows row [] (length rows) refl)) here)

-- each row is as long as the list of inputs
pub rows_long : (net : Netlist) (d : Draft) (rows : List (List ℕ)) (i : ℕ) → HasRows net d rows
    → i < length net.inputs → AllByRecursion (λ row. i < length row) rows
rows_long net d rows i h below =
    all_from (λ row. i < length row) [] rows (λ k low.
    omega (
      arith,
      meant_long d (shape_of net).inputs (λ ch. inputs_at net ch k) (slice_index_or rows k []) (h k low),
      length-map net.inputs (λ (x : Input). x.width),
      below,
    ))

-- what stands for an input that is chosen once
pub once_before : (net : Netlist) (d : Draft) (rows : List (List ℕ)) (i : ℕ) (x : Input) (before : Option ℕ)
    → HasRows net d rows → slice_get net.inputs i ≡ Some x
    → IfSome before (λ id. (1 ≤ length rows) × (id ≡ slice_index (slice_index_or rows (length rows - 1) []) i))
    → IfSome before (λ id. x.kind ≡ Once → Means d x.width (λ ch. ch.once i) id)
once_before net d rows i x before h at own = IfSome_then before own (λ id p kind. here id p kind)
  where
    here : (id : ℕ) → (1 ≤ length rows) × (id ≡ slice_index (slice_index_or rows (length rows - 1) []) i)
        → x.kind ≡ Once → Means d x.width (λ ch. ch.once i) id
    here id p kind =
        let k : ℕ = length rows - 1 in
        let low : k < length rows = omega (arith, p.0) in
        let row : List ℕ = slice_index_or rows k [] in
        let inputs = (shape_of net).inputs in
        let m = h k low in
        let long : i < length row = omega (
          arith,
          meant_long d inputs (λ ch. inputs_at net ch k) row m,
          length-map net.inputs (λ (x : Input). x.width),
          get_within net.inputs i x at,
        ) in
        let one = meant_at d inputs (λ ch. inputs_at net ch k) row i m long in
        let P : ℕ → Type 0 = λ j. Means d x.width (λ ch. ch.once i) j in
        subst P (sym p.1) (record {
          there = (one.there.0, one.there.1 ∙ index_mapped (λ (x : Input). x.width) net.inputs i x at);
          value = λ ch g a.
              one.value ch g a
              ∙ input_at (ch.each_cycle k) ch.once (reset_at k) 0 i i net.inputs x at (omega arith)
              ∙ ap (by_kind (ch.each_cycle k i) (ch.once i) (reset_at k)) kind;
        })

-- ---- one row

-- What stands for the first inputs of a cycle.
pub record Rowing (net : Netlist) (old now : Draft) (cycle n : ℕ) (made : List ℕ) : Type 0 where
  pub low : n ≤ length net.inputs
  pub extends : Extends old now n
  pub means : MeansAll now (take n (shape_of net).inputs) (λ ch. take n (inputs_at net ch cycle)) made
  pub draft : (last bound : ℕ) → IsDraft net last bound old → cycle ≤ last → bound ≤ 2 ^ 66 + cycle * 2 ^ 32
      → IsDraft net last (2 ^ 66 + cycle * 2 ^ 32 + n) now

pub rowing_none : (net : Netlist) (d : Draft) (cycle : ℕ) (made : List ℕ) → made ≡ []
    → length d.net.inputs ≡ length d.sources.items → Rowing net d d cycle 0 made
rowing_none net d cycle made is each =
    let P : List ℕ → Type 0 = λ ids. Rowing net d d cycle 0 ids in
    let none : Rowing net d d cycle 0 [] = record {
      low = omega arith;
      extends = extends_none d 0 each;
      means = meant_none d;
      draft = λ last bound h low past.
          draft_more net last bound (2 ^ 66 + cycle * 2 ^ 32 + 0) d (omega (arith, past)) h;
    } in
    subst P (sym is) none

pub rowing_next : (net : Netlist) (old now new : Draft) (cycle n : ℕ) (made longer : List ℕ) (x : Input) (id : ℕ)
    → slice_get net.inputs n ≡ Some x → Rowing net old now cycle n made → Extends now new 1
    → Means new x.width (λ ch. by_kind (ch.each_cycle cycle n) (ch.once n) (reset_at cycle) x.kind) id
    → ((last bound : ℕ) → IsDraft net last bound now → slice_get net.inputs n ≡ Some x → cycle ≤ last
    → bound ≤ 2 ^ 66 + cycle * 2 ^ 32 + n → IsDraft net last (2 ^ 66 + cycle * 2 ^ 32 + n + 1) new)
    → longer ≡ made ++ id ∷ [] → Rowing net old new cycle (n + 1) longer
rowing_next net old now new cycle n made longer x id at h more means draft pushed =
    let one_more : suc n ≡ n + 1 = omega arith in
    let e : 2 ^ 66 + cycle * 2 ^ 32 + n + 1 ≡ 2 ^ 66 + cycle * 2 ^ 32 + suc n = omega arith in
    let P : ℕ → Type 0 = λ m. Rowing net old new cycle m longer in
    let made_is : Rowing net old new cycle (suc n) longer = record {
      low = let below = get_within net.inputs n x at in omega arith;
      extends = extends_on old now new n 1 (suc n) (omega arith) h.extends more;
      means =
          meant_next now new 1 (take n (shape_of net).inputs) (take (suc n) (shape_of net).inputs)
          (λ ch. take n (inputs_at net ch cycle)) (λ ch. take (suc n) (inputs_at net ch cycle)) made longer x.width
          (λ ch. by_kind (ch.each_cycle cycle n) (ch.once n) (reset_at cycle) x.kind) id more h.means means
          (mapped_next (λ (x : Input). x.width) net.inputs n x at)
          (λ ch. inputs_next (ch.each_cycle cycle) ch.once (reset_at cycle) 0 n n net.inputs x at (omega arith))
          pushed;
      draft = λ last bound d low past.
          let D : ℕ → Type 0 = λ b. IsDraft net last b new in
          subst D e (draft last (2 ^ 66 + cycle * 2 ^ 32 + n) (h.draft last bound d low past) at low (omega arith));
    } in
    subst P one_more made_is

-- all inputs
pub rowing_row : (net : Netlist) (old now : Draft) (cycle n : ℕ) (rows : List (List ℕ)) (made row : List ℕ)
    → row ≡ made → length net.inputs ≤ n → length rows ≡ cycle → HasRows net old rows
    → Rowing net old now cycle n made
    → HasRows net now (rows ++ row ∷ [])
rowing_row net old now cycle n rows made row is past count own h =
    let wide : take n (shape_of net).inputs ≡ (shape_of net).inputs = take_all n (shape_of net).inputs
    (omega (arith, length-map net.inputs (λ (x : Input). x.width), past)) in
    let all : (ch : Choices) → take n (inputs_at net ch cycle) ≡ inputs_at net ch (length rows) =
    λ ch. take_all n (inputs_at net ch cycle)
    (omega (arith, inputs_all (ch.each_cycle cycle) ch.once (reset_at cycle) 0 net.inputs, past))
    ∙ ap (inputs_at net ch) (sym count) in
    let P : List ℕ → Type 0 = λ ids. HasRows net now (rows ++ ids ∷ []) in
    subst P (sym is) (rows_push net old now n rows made h.extends own
    (meant_as now (take n (shape_of net).inputs) (shape_of net).inputs (λ ch. take n (inputs_at net ch cycle))
    (λ ch. inputs_at net ch (length rows)) made wide all h.means))

pub rowing_draft : (net : Netlist) (old now : Draft) (cycle n last bound : ℕ) (made : List ℕ) → n ≤ 1000000
    → Rowing net old now cycle n made → IsDraft net last bound old → cycle ≤ last → bound ≤ 2 ^ 66 + cycle * 2 ^ 32
    → IsDraft net last (2 ^ 66 + (cycle + 1) * 2 ^ 32) now
rowing_draft net old now cycle n last bound made few h d low past =
    draft_more net last (2 ^ 66 + cycle * 2 ^ 32 + n) (2 ^ 66 + (cycle + 1) * 2 ^ 32) now (omega (arith, few))
    (h.draft last bound d low past)

-- ---- all rows

-- What stands for the inputs of the first cycles.
pub record Laying (net : Netlist) (old now : Draft) (cycle n : ℕ) (rows : List (List ℕ)) : Type 0 where
  pub low : n ≤ cycle + 1
  pub extends : Extends old now (n * 1000000)
  pub each : length rows ≡ n
  pub own : HasRows net now rows
  pub draft : IsDraft net cycle (2 ^ 66) old → IsDraft net cycle (2 ^ 66 + n * 2 ^ 32) now

pub laying_none : (net : Netlist) (d : Draft) (cycle : ℕ) (made : List (List ℕ)) → made ≡ []
    → length d.net.inputs ≡ length d.sources.items → Laying net d d cycle 0 made
laying_none net d cycle made is each =
    let P : List (List ℕ) → Type 0 = λ rows. Laying net d d cycle 0 rows in
    let none : Laying net d d cycle 0 [] = record {
      low = omega arith;
      extends = extends_none d 0 each;
      each = refl;
      own = rows_none net d;
      draft = λ h. draft_more net cycle (2 ^ 66) (2 ^ 66 + 0 * 2 ^ 32) d (omega arith) h;
    } in
    subst P (sym is) none

pub laying_next : (net : Netlist) (old now new : Draft) (cycle n : ℕ) (rows longer : List (List ℕ)) (row : List ℕ)
    → n < cycle + 1 → Laying net old now cycle n rows → Extends now new 1000000 → HasRows net new (rows ++ row ∷ [])
    → ((last bound : ℕ) → IsDraft net last bound now → n ≤ last → bound ≤ 2 ^ 66 + n * 2 ^ 32
    → IsDraft net last (2 ^ 66 + (n + 1) * 2 ^ 32) new)
    → longer ≡ rows ++ row ∷ [] → Laying net old new cycle (n + 1) longer
laying_next net old now new cycle n rows longer row below h more own draft pushed =
    let P : List (List ℕ) → Type 0 = λ rs. HasRows net new rs in
    record {
      low = omega arith;
      extends = extends_on old now new (n * 1000000) 1000000 ((n + 1) * 1000000) (omega arith) h.extends more;
      each = omega (arith, ap length pushed, length_push rows row, h.each);
      own = subst P (sym pushed) own;
      draft = λ d. draft cycle (2 ^ 66 + n * 2 ^ 32) (h.draft d) (omega arith) (omega arith);
    }

-- as the walk wants them
pub rows_there : (net : Netlist) (d : Draft) (rows : List (List ℕ)) → HasRows net d rows
    → AreRows d.net (shape_of net) rows
rows_there net d rows h =
    all_from (IsRow d.net (shape_of net)) [] rows (λ k below. ((h k below).there, (h k below).wide))
