-- Each number is that of a cell of one declaration, and no cell has two numbers.
use Rattle.std.specs.Prelude.{◌≡◌, refl, ℕ, zero, suc, ◌+◌, ◌-◌, ◌<◌, ◌≤◌, List, [], ◌∷◌, ◌++◌, length, true, All}
use Rattle.std.specs.Prelude.{Option, Some, None, is_none, ℤ, int_le, slice_get}
use Rattle.std.proofs.Common.{ap, sym, ◌∙◌, arith, subst, true≢false, ◌⊎◌, inl, inr}
use Rattle.std.proofs.lemmas.Option.{same_Some}
use Rattle.vl_size.specs.declared.decl.Decl.{Decl}
use Rattle.vl_size.specs.Size.{is_bound}
use Rattle.vl_size.specs.Table.{span, AreApart, AreDifferent}
use Rattle.vl_mean.specs.Cells.{cells, cells_of, contains_name}
use Rattle.vl_mean.specs.FlatLaw.{IsKept, IsMemory, name_count, all_names_count}
use Rattle.vl_flow_spec.proofs.Cells.{own_cells}
use Rattle.vl_flow_cells.specs.Numbered.{all_cells, first_cell}
use Rattle.vl_flow_cells.proofs.Lists.{get_some, get_left, get_right, get_either, contained_at, place_in, one_place}
use Rattle.vl_flow_cells.proofs.Lists.{all_at, declared_own}
use Rattle.vl_flow_cells.proofs.Words.{own_place, words_length}

-- where a numbered cell stands
pub record StandsAt (ds : List Decl) (c : ℕ) (n : List ℕ) : Type 0 where
  pub place : ℕ
  pub decl : Decl
  pub within : ℕ
  pub at : slice_get ds place ≡ Some decl
  pub cell : slice_get (cells decl) within ≡ Some n
  pub number : c ≡ first_cell ds place + within

pub stands_at : (ds : List Decl) (c : ℕ) (n : List ℕ) → slice_get (all_cells ds) c ≡ Some n → StandsAt ds c n
stands_at [] c n e = absurd (true≢false (ap is_none e))
stands_at (d ∷ ds) c n e = by (λ j f. stands_at ds j n f) (get_either (cells d) (all_cells ds) c n e)
  where
    by : ((j : ℕ) → slice_get (all_cells ds) j ≡ Some n → StandsAt ds j n)
        → (slice_get (cells d) c ≡ Some n)
        ⊎ ((j : ℕ) × (c ≡ length (cells d) + j) × (slice_get (all_cells ds) j ≡ Some n)) → StandsAt (d ∷ ds) c n
    by more (inl h) =
        record { place = 0; decl = d; within = c; at = refl; cell = h; number = omega arith }
    by more (inr h) =
        let r = more h.0 h.2 in record {
          place = suc r.place;
          decl = r.decl;
          within = r.within;
          at = r.at;
          cell = r.cell;
          number = omega (arith, h.1, r.number);
        }

pub numbered : (ds : List Decl) (j : ℕ) (d : Decl) (k : ℕ) (n : List ℕ) (c : ℕ) → slice_get ds j ≡ Some d
    → slice_get (cells d) k ≡ Some n → c ≡ first_cell ds j + k → slice_get (all_cells ds) c ≡ Some n
numbered [] j d k n c at cell e = absurd (true≢false (ap is_none at))
numbered (x ∷ ds) zero d k n c at cell e =
    let same : c ≡ k = omega (arith, e) in
    ap (slice_get (all_cells (x ∷ ds))) same
    ∙ get_left (cells x) (all_cells ds) k n (ap (λ y. slice_get (cells y) k) (same_Some x d at) ∙ cell)
numbered (x ∷ ds) (suc j) d k n c at cell e =
    let behind : c ≡ length (cells x) + (first_cell ds j + k) = omega (arith, e) in
    get_right (cells x) (all_cells ds) (first_cell ds j + k) c behind
    ∙ numbered ds j d k n (first_cell ds j + k) at cell refl

pub own_number : (ds : List Decl) → AreDifferent ds → AreApart ds → All IsKept ds → (c e : ℕ) (n : List ℕ)
    → slice_get (all_cells ds) c ≡ Some n → slice_get (all_cells ds) e ≡ Some n → c ≡ e
own_number ds different apart kept c e n f g =
    let x = stands_at ds c n f in
    let y = stands_at ds e n g in
    let same : x.decl ≡ y.decl =
    own_cells ds apart x.decl y.decl n
    (record {
      declared = declared_own ds different x.place x.decl x.at;
      cell = contained_at (cells x.decl) x.within n x.cell;
    })
    (record {
      declared = declared_own ds different y.place y.decl y.at;
      cell = contained_at (cells y.decl) y.within n y.cell;
    }) in
    let place : x.place ≡ y.place = one_place ds different x.place y.place x.decl x.at (y.at ∙ ap Some (sym same)) in
    let within : x.within ≡ y.within =
    own_place x.decl (all_at IsKept ds x.place x.decl x.at kept) x.within y.within n x.cell
    (ap (λ d. slice_get (cells d) y.within) same ∙ y.cell) in
    x.number ∙ (λ i. first_cell ds (place i) + within i) ∙ sym y.number

-- a number from the first cell of a declaration on, up to its last one, is that of one of its cells
pub cell_between : (ds : List Decl) (j : ℕ) (d : Decl) (c : ℕ) (n : List ℕ) → slice_get ds j ≡ Some d
    → slice_get (all_cells ds) c ≡ Some n → first_cell ds j ≤ c → c < first_cell ds j + length (cells d)
    → contains_name (cells d) n ≡ true
cell_between ds j d c n at f low high =
    let k = c - first_cell ds j in
    let less : k < length (cells d) = omega (arith, low, high) in
    let sum : c ≡ first_cell ds j + k = omega (arith, low) in
    let r = get_some (cells d) k less in
    let same : n ≡ r.0 = same_Some n r.0 (sym f ∙ numbered ds j d k r.0 c at r.1 sum) in
    contained_at (cells d) k n (r.1 ∙ ap Some (sym same))

-- a cell of a declaration has such a number
pub between_cells : (ds : List Decl) → AreDifferent ds → AreApart ds → All IsKept ds → (j : ℕ) (d : Decl) (c : ℕ)
    (n : List ℕ) → slice_get ds j ≡ Some d → slice_get (all_cells ds) c ≡ Some n → contains_name (cells d) n ≡ true
    → (k : ℕ) × (slice_get (cells d) k ≡ Some n) × (c ≡ first_cell ds j + k)
between_cells ds different apart kept j d c n at f h =
    let r = place_in (cells d) n h in
    let there = numbered ds j d r.0 n (first_cell ds j + r.0) at r.1 refl in
    (r.0, r.1, own_number ds different apart kept c (first_cell ds j + r.0) n f there)

-- ---- how many cells there are

pub first_none : (ds : List Decl) → first_cell ds 0 ≡ 0
first_none [] = refl
first_none (d ∷ ds) = refl

pub words_count : (d : Decl) (w : Option (ℤ × ℤ)) → d.words ≡ w → length (cells d) ≡ length (cells_of d.name w)
words_count d w e = ap (λ o. length (cells_of d.name o)) e

cells_few : (text : List ℕ) (w : Option (ℤ × ℤ)) → length (cells_of text w) ≤ name_count w
cells_few text None = omega arith
cells_few text (Some b) =
    let size = words_length text (span b.0 b.1) (int_le b.0 b.1) b.0 in omega (arith, size)

pub first_few : (ds : List Decl) (j : ℕ) → first_cell ds j ≤ all_names_count ds
first_few [] j = omega arith
first_few (d ∷ ds) zero = omega arith
first_few (d ∷ ds) (suc j) =
    let one = cells_few d.name d.words in
    let more = first_few ds j in omega (arith, one, more)

pub next_first : (ds : List Decl) (j : ℕ) (d : Decl) → slice_get ds j ≡ Some d
    → first_cell ds (suc j) ≡ first_cell ds j + length (cells d)
next_first [] j d e = absurd (true≢false (ap is_none e))
next_first (x ∷ ds) zero d e =
    let same : length (cells x) ≡ length (cells d) = ap (λ y. length (cells y)) (same_Some x d e) in
    let none = first_none ds in omega (arith, same, none)
next_first (x ∷ ds) (suc j) d e = let more = next_first ds j d e in omega (arith, more)

pub firsts_more : (ds : List Decl) (xs : List ℕ) (x index : ℕ) → length xs ≡ index → x ≡ first_cell ds index
    → ((i first : ℕ) → slice_get xs i ≡ Some first → first ≡ first_cell ds i) → (i first : ℕ)
    → slice_get (xs ++ x ∷ []) i ≡ Some first → first ≡ first_cell ds i
firsts_more ds xs x index size here were i first e = by (get_either xs (x ∷ []) i first e)
  where
    last : (j : ℕ) → i ≡ length xs + j → slice_get (x ∷ []) j ≡ Some first → first ≡ first_cell ds i
    last zero p h =
        let same : i ≡ index = omega (arith, p, size) in
        sym (same_Some x first h) ∙ here ∙ ap (first_cell ds) (sym same)
    last (suc j) p h = absurd (true≢false (ap is_none h))

    by : (slice_get xs i ≡ Some first) ⊎ ((j : ℕ) × (i ≡ length xs + j) × (slice_get (x ∷ []) j ≡ Some first))
        → first ≡ first_cell ds i
    by (inl h) = were i first h
    by (inr h) = last h.0 h.1 h.2

pub length_more : {A : Type 0} (xs : List A) (x : A) → length (xs ++ x ∷ []) ≡ length xs + 1
length_more [] x = refl
length_more (y ∷ ys) x = let more = length_more ys x in omega (arith, more)

pub memory_bounds : (d : Decl) (b : ℤ × ℤ) → d.words ≡ Some b → IsKept d
    → (is_bound b.0 ≡ true) × (is_bound b.1 ≡ true)
memory_bounds d b e kept = let h : IsMemory (Some b) d = subst (λ w. IsMemory w d) e kept.memory in (h.0, h.1)
