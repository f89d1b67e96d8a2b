-- The first cycle in which a number is other than 0.
use Rattle.std.specs.Prelude.{◌≡◌, refl, ℕ, zero, suc, ◌+◌, ◌<◌, ◌≤◌, List, [], ◌∷◌, ◌++◌, length, bytes_eq}
use Rattle.std.specs.Prelude.{slice_index, slice_index_or}
use Rattle.std.specs.List.{IsDistinct}
use Rattle.std.proofs.Common.{ap, sym, ◌∙◌, arith, subst, inl, inr, ◌⊎◌}
use Rattle.std.proofs.lemmas.Bool.{cases_lt}
use Rattle.wn_net.specs.declared.names.NetName.{NetName}
use Rattle.wn_net.specs.declared.names.Place.{Place}
use Rattle.wn_net.specs.declared.names.Place.TheVariants as place
use Rattle.wn_net.specs.Value.{Given}
use Rattle.wn_net.specs.Net.{Netlist, IsNodeOf, value_at}
use Rattle.wn_net.specs.Names.{AreNamesOf}
use Rattle.wn_run.specs.Runs.{Choices, IsAssumed, inputs_at, start_of}
use Rattle.tr_replay.specs.Traces.{first_cycles, name_values}
use Rattle.bm_induct.specs.StepRuns.{IsBaseRun, run_cycle}
use Rattle.ck_induct.specs.Traces.{IsFirstOther, first_in, name_of, names_of}

-- one cycle more in which it is 0
pub still_none : (rows : List (List ℕ)) (k : ℕ) → ((i : ℕ) → 1 ≤ i → i < k → first_in rows i ≡ 0)
    → first_in rows k ≡ 0 → (i : ℕ) → 1 ≤ i → i < k + 1 → first_in rows i ≡ 0
still_none rows k before here i some below = by (cases_lt i k)
  where
    by : (i < k) ⊎ (k ≤ i) → first_in rows i ≡ 0
    by (inl less) = before i some less
    by (inr high) = let same : k ≡ i = omega (arith, below, high) in subst (λ j. first_in rows j ≡ 0) same here

-- the first one in which it isn't, and the last one where it is in all before
pub found_here : (rows : List (List ℕ)) (k j : ℕ) → 1 ≤ j → j ≤ k
    → ((i : ℕ) → 1 ≤ i → i < j → first_in rows i ≡ 0) → (first_in rows j ≡ 0 → ⊥)
    → IsFirstOther (first_in rows) k j
found_here rows k j some few before other =
    record { some = some; few = few; before = before; other = λ less z. other z }

pub none_before : (rows : List (List ℕ)) (k : ℕ) → 1 ≤ k → ((i : ℕ) → 1 ≤ i → i < k → first_in rows i ≡ 0)
    → IsFirstOther (first_in rows) k k
none_before rows k some before = record {
  some = some;
  few = omega arith;
  before = before;
  other = λ less z. omega (arith, less);
}

pub ruleset firsts = (still_none, found_here, none_before)

-- ---- rows of one number

row_at : (rows : List (List ℕ)) (last : List ℕ) (i : ℕ) → i < length rows
    → slice_index_or (rows ++ last ∷ []) i [] ≡ slice_index_or rows i []
row_at [] last i less = absurd (omega (arith, less))
row_at (r ∷ rs) last zero less = refl
row_at (r ∷ rs) last (suc i) less = row_at rs last i (omega (arith, less))

last_at : (rows : List (List ℕ)) (last : List ℕ) → slice_index_or (rows ++ last ∷ []) (length rows) [] ≡ last
last_at [] last = refl
last_at (r ∷ rs) last = last_at rs last

module _ (net : Netlist) (names : List NetName) (cycles : ℕ → Given) where
  rows_long : (n : ℕ) → length (first_cycles net names cycles n) ≡ n
  rows_long zero = refl
  rows_long (suc n) =
      omega (
        arith,
        length-more (first_cycles net names cycles n) (name_values net (cycles n) names),
        rows_long n,
      )
    where
      length-more : (rows : List (List ℕ)) (last : List ℕ) → length (rows ++ last ∷ []) ≡ length rows + 1
      length-more [] last = refl
      length-more (r ∷ rs) last = let rest = length-more rs last in omega (arith, rest)

  pub row_of : (n i : ℕ) → i < n
      → slice_index_or (first_cycles net names cycles n) i [] ≡ name_values net (cycles i) names
  row_of zero i less = absurd (omega (arith, less))
  row_of (suc n) i less = by (cases_lt i n) (row_of n i)
    where
      by : (i < n) ⊎ (n ≤ i)
          → (i < n → slice_index_or (first_cycles net names cycles n) i [] ≡ name_values net (cycles i) names)
          → slice_index_or (first_cycles net names cycles (suc n)) i [] ≡ name_values net (cycles i) names
      by (inl below) rest =
          row_at (first_cycles net names cycles n) (name_values net (cycles n) names) i
          (omega (arith, below, rows_long n))
          ∙ rest below
      by (inr high) rest =
          let same : n ≡ i = omega (arith, less, high) in
          let long : length (first_cycles net names cycles n) ≡ n = rows_long n in
          ap (λ j. slice_index_or (first_cycles net names cycles n ++ name_values net (cycles n) names ∷ []) j [])
          (sym same ∙ sym long)
          ∙ last_at (first_cycles net names cycles n) (name_values net (cycles n) names)
          ∙ ap (λ j. name_values net (cycles j) names) same

-- what is so of rows is so of the node's values
pub first_of_rows : (net : Netlist) (name : NetName) (id : ℕ) (cycles : ℕ → Given) (k j : ℕ)
    → name.place ≡ place.Node id
    → IsFirstOther (first_in (first_cycles net (name ∷ []) cycles (k + 1))) k j
    → IsFirstOther (λ i. value_at net (cycles i) id) k j
first_of_rows net name id cycles k j at h =
    let row = λ (i : ℕ) (le : i ≤ k).
    ap (λ (ns : List ℕ). slice_index ns 0) (row_of net (name ∷ []) cycles (k + 1) i (omega (arith, le))) ∙ first i in
    record {
      some = h.some;
      few = h.few;
      before = λ i some less. sym (row i (omega (arith, less, h.few))) ∙ h.before i some less;
      other = λ less z. h.other less (row j h.few ∙ z);
    }
  where
    first : (i : ℕ) → slice_index (name_values net (cycles i) (name ∷ [])) 0 ≡ value_at net (cycles i) id
    first i = ap (λ (p : Place). slice_index (name_values net (cycles i) (record name { place = p } ∷ [])) 0) at

-- ---- in a run that fails

module _ (net : Netlist) (bad k : ℕ) (ch : Choices) (run : IsBaseRun net bad k ch) (j : ℕ)
    (first : IsFirstOther (λ i. value_at net (run_cycle net ch i) bad) k j) where
  -- it isn't behind the cycle in which the run fails
  not_behind : j ≤ run.at
  not_behind = by (cases_lt run.at j)
    where
      by : (run.at < j) ⊎ (j ≤ run.at) → j ≤ run.at
      by (inl less) = absurd (run.fails (first.before run.at run.some less))
      by (inr le) = le

  pub met_there : IsAssumed net (inputs_at net ch) (start_of net ch) j
  met_there = λ i le. run.assumed i (omega (arith, le, not_behind))

  pub fails_there : value_at net (run_cycle net ch j) bad ≡ 0 → ⊥
  fails_there z = by (cases_lt j k)
    where
      by : (j < k) ⊎ (k ≤ j) → ⊥
      by (inl less) = first.other less z
      by (inr high) =
          let same : j ≡ run.at = omega (arith, high, first.few, run.few, not_behind) in
          run.fails (subst (λ i. value_at net (run_cycle net ch i) bad ≡ 0) same z)

-- ---- names of which there is one alone

one_differs : (x : NetName) → IsDistinct (λ (a b : NetName). bytes_eq a.text b.text) (x ∷ [])
unfolding IsDistinct
one_differs x = (tt, tt)

pub names_are : (net : Netlist) (id : ℕ) → IsNodeOf net 1 id → AreNamesOf net (names_of id)
names_are net id own = record {
  placed = ((own, refl), tt);
  differ = one_differs (name_of id);
  inputs = tt;
  regs = tt;
  mems = tt;
  few_mems = omega arith;
}
