-- The cells of the first declarations, and of one more.
use Rattle.std.specs.Prelude.{◌≡◌, refl, ℕ, zero, suc, ◌+◌, ◌<◌, ◌≤◌, List, [], ◌∷◌, ◌++◌, length, true, false}
use Rattle.std.specs.Prelude.{Some, is_none, slice_get, bytes_eq, Bool, if◌then◌else◌}
use Rattle.std.proofs.Common.{ap, sym, ◌∙◌, arith, subst, true≢false, length-append, ◌⊎◌, inl, inr}
use Rattle.std.proofs.lemmas.Bool.{cases_order}
use Rattle.vl_size.specs.declared.decl.Decl.{Decl}
use Rattle.vl_size.specs.Table.{declared_as}
use Rattle.vl_mean.specs.Cells.{cells}
use Rattle.vl_flow_cells.specs.Numbered.{all_cells, first_cell}
use Rattle.vl_flow_cells.proofs.Lists.{get_some, place_in}
use Rattle.vl_flow_cells.proofs.Numbers.{first_none, numbered}
use Rattle.fv_graph.proofs.Lists.{get_cases, length_more}
use Rattle.vl_flow_order.specs.declared.reads_groups.Groups.{Groups}
use Rattle.vl_flow_order.specs.Groups.{AreGroups}
use Rattle.vl_flow_spec.specs.Reads.{IsCellOf}
use Rattle.vl_flow_order.specs.CellGroups.{IsCellAt, AreGroupsBelow, AreGroupsOf, PutsCells}

pub first_rises : (ds : List Decl) (i j : ℕ) → i ≤ j → first_cell ds i ≤ first_cell ds j
first_rises [] i j le = omega arith
first_rises (d ∷ ds) zero j le = omega arith
first_rises (d ∷ ds) (suc i) zero le = absurd (omega (arith, le))
first_rises (d ∷ ds) (suc i) (suc j) le =
    let more = first_rises ds i j (omega (arith, le)) in omega (arith, more)

-- a cell is of one declaration
pub one_group : (ds : List Decl) (c g h : ℕ) → IsCellAt ds c g → IsCellAt ds c h → g ≡ h
one_group ds c g h x y = by (cases_order g h)
  where
    by : (g ≡ h) ⊎ ((g < h) ⊎ (h < g)) → g ≡ h
    by (inl same) = same
    by (inr (inl less)) =
        let rise = first_rises ds (suc g) h (omega (arith, less)) in absurd (omega (arith, x.1, y.0, rise))
    by (inr (inr more)) =
        let rise = first_rises ds (suc h) g (omega (arith, more)) in absurd (omega (arith, y.1, x.0, rise))

pub all_length : (ds : List Decl) → first_cell ds (length ds) ≡ length (all_cells ds)
all_length [] = refl
all_length (d ∷ ds) =
    let more = all_length ds in
    let both = length-append (cells d) (all_cells ds) in omega (arith, more, both)

pub no_groups : (ds : List Decl) (of_cells ends : List ℕ) → of_cells ≡ [] → ends ≡ []
    → AreGroupsBelow ds 0 of_cells ends
no_groups ds of_cells ends e f = record {
  cells = ap length e ∙ sym (first_none ds);
  names = ap length f;
  pasts = λ place past at. absurd (true≢false (ap is_none (ap (λ xs. slice_get xs place) (sym f) ∙ at)));
  known = λ cell place at. absurd (true≢false (ap is_none (ap (λ xs. slice_get xs cell) (sym e) ∙ at)));
  of = λ cell place at. absurd (true≢false (ap is_none (ap (λ xs. slice_get xs cell) (sym e) ∙ at)));
}

pub one_group_more : (ds : List Decl) (n count end : ℕ) (of_cells after ends more : List ℕ)
    → AreGroupsBelow ds n of_cells ends → PutsCells of_cells n count after
    → first_cell ds (suc n) ≡ first_cell ds n + count → end ≡ length after → more ≡ ends ++ end ∷ []
    → AreGroupsBelow ds (n + 1) after more
one_group_more ds n count end of_cells after ends more were puts next behind e = record {
  cells = cells ∙ ap (first_cell ds) (sym one);
  names = names;
  pasts = λ place past at.
      past_is place past (get_cases ends end place past (ap (λ xs. slice_get xs place) (sym e) ∙ at));
  known = λ cell place at. known cell place (puts.of cell place at);
  of = λ cell place at. of cell place (puts.of cell place at);
}
  where
    one : n + 1 ≡ suc n
    one = omega arith

    cells : length after ≡ first_cell ds (suc n)
    cells = omega (arith, puts.size, were.cells, next)

    names : length more ≡ n + 1
    names = let size = length_more ends end in omega (arith, ap length e, size, were.names)

    past_is : (place past : ℕ) → (slice_get ends place ≡ Some past) ⊎ ((place ≡ length ends) × (end ≡ past))
        → past ≡ first_cell ds (suc place)
    past_is place past (inl h) = were.pasts place past h
    past_is place past (inr h) = sym h.1 ∙ behind ∙ cells ∙ ap (λ k. first_cell ds (suc k)) (sym were.names ∙ sym h.0)

    known : (cell place : ℕ) → (slice_get of_cells cell ≡ Some place)
        ⊎ ((place ≡ n) × (length of_cells ≤ cell) × (cell < length of_cells + count)) → place < n + 1
    known cell place (inl h) = let less = were.known cell place h in omega (arith, less)
    known cell place (inr h) = omega (arith, h.0)

    of : (cell place : ℕ) → (slice_get of_cells cell ≡ Some place)
        ⊎ ((place ≡ n) × (length of_cells ≤ cell) × (cell < length of_cells + count)) → IsCellAt ds cell place
    of cell place (inl h) = were.of cell place h
    of cell place (inr h) =
        subst (IsCellAt ds cell) (sym h.0) (omega (arith, h.1, were.cells), omega (arith, h.2, were.cells, next))

pub are_groups : (ds : List Decl) (n : ℕ) (of_cells ends : List ℕ) → AreGroupsBelow ds n of_cells ends
    → AreGroups of_cells ends
are_groups ds n of_cells ends w = record {
  known = λ cell group at. let less = w.known cell group at in omega (arith, less, w.names);
  before = λ cell group past at behind.
      let here = w.of cell group at in
      let end = w.pasts group past behind in omega (arith, here.1, end);
  same = same;
}
  where
    same : (cell other group past : ℕ) → slice_get of_cells cell ≡ Some group → slice_get ends group ≡ Some past
        → cell ≤ other → other < past → slice_get of_cells other ≡ Some group
    same cell other group past at behind le less =
        let here = w.of cell group at in
        let end = w.pasts group past behind in
        let known = w.known cell group at in
        let rise = first_rises ds (suc group) n (omega (arith, known)) in
        let inside : other < length of_cells = omega (arith, less, end, rise, w.cells) in
        let r = get_some of_cells other inside in
        let there = w.of other r.0 r.1 in
        let one = one_group ds other r.0 group there (omega (arith, here.0, le), omega (arith, less, end)) in
        r.1 ∙ ap Some one

pub all_groups : (ds : List Decl) (n : ℕ) (groups : Groups) → n ≡ length ds
    → AreGroupsBelow ds n groups.of_cells groups.ends → AreGroupsOf ds groups
all_groups ds n groups e w = record {
  below = subst (λ k. AreGroupsBelow ds k groups.of_cells groups.ends) e w;
  cells = w.cells ∙ ap (first_cell ds) e ∙ all_length ds;
}

-- ---- cells that are put

pub no_puts : (before : List ℕ) (group : ℕ) → PutsCells before group 0 before
no_puts before group = record { size = omega arith; of = λ cell place at. inl at }

pub one_put_more : (before now more : List ℕ) (group n : ℕ) → PutsCells before group n now → more ≡ now ++ group ∷ []
    → PutsCells before group (n + 1) more
one_put_more before now more group n w e = record {
  size = let size = length_more now group in omega (arith, ap length e, size, w.size);
  of = λ cell place at. of cell place (get_cases now group cell place (ap (λ xs. slice_get xs cell) (sym e) ∙ at));
}
  where
    of : (cell place : ℕ) → (slice_get now cell ≡ Some place) ⊎ ((cell ≡ length now) × (group ≡ place))
        → (slice_get before cell ≡ Some place)
        ⊎ ((place ≡ group) × (length before ≤ cell) × (cell < length before + (n + 1)))
    of cell place (inl h) = by (w.of cell place h)
      where
        by : (slice_get before cell ≡ Some place)
            ⊎ ((place ≡ group) × (length before ≤ cell) × (cell < length before + n))
            → (slice_get before cell ≡ Some place)
            ⊎ ((place ≡ group) × (length before ≤ cell) × (cell < length before + (n + 1)))
        by (inl h) = inl h
        by (inr h) = inr (h.0, h.1, omega (arith, h.2))
    of cell place (inr h) = inr (sym h.1, omega (arith, h.0, w.size), omega (arith, h.0, w.size))

-- ---- the number of a cell

pub declared_place : (ds : List Decl) (text : List ℕ) (d : Decl) → declared_as ds text ≡ Some d
    → (j : ℕ) × (slice_get ds j ≡ Some d)
declared_place [] text d e = absurd (true≢false (ap is_none e))
declared_place (x ∷ xs) text d e = by (declared_place xs text d) (bytes_eq text x.name) e
  where
    by : (declared_as xs text ≡ Some d → (j : ℕ) × (slice_get xs j ≡ Some d)) → (b : Bool)
        → (if b then Some x else declared_as xs text) ≡ Some d → (j : ℕ) × (slice_get (x ∷ xs) j ≡ Some d)
    by later true h = (0, h)
    by later false h = let r = later h in (suc r.0, r.1)

pub number_of : (ds : List Decl) (d : Decl) (n : List ℕ) → IsCellOf ds d n
    → (c : ℕ) × (slice_get (all_cells ds) c ≡ Some n)
number_of ds d n of =
    let j = declared_place ds d.name d of.declared in
    let k = place_in (cells d) n of.cell in
    (first_cell ds j.0 + k.0, numbered ds j.0 d k.0 n (first_cell ds j.0 + k.0) j.1 k.1 refl)
