-- Names over cells in their order.
use Rattle.std.specs.Prelude.{◌≡◌, refl, ℕ, ◌+◌, ◌<◌, ◌≤◌, Bool, true, false, List, length, map, Option, Some}
use Rattle.std.specs.Prelude.{None, IsSome, is_some}
use Rattle.std.specs.Prelude.{MatchOption, IfSome, ℤ, int_le, is_none, slice_get, slice_index, if◌then◌else◌}
use Rattle.std.specs.Prelude.{zero, suc, [], ◌∷◌}
use Rattle.std.proofs.Common.{ap, sym, ◌∙◌, arith, subst, true≢false}
use Rattle.std.proofs.lemmas.List.{length-map}
use Rattle.std.proofs.lemmas.Option.{same_Some, get_or_from_slice_get}
use Rattle.vl_size.specs.declared.decl.Decl.{Decl}
use Rattle.vl_size.specs.Size.{Values, cells_in}
use Rattle.vl_size.specs.Table.{IsShaped, span, word_name}
use Rattle.vl_mean.specs.Cells.{cells, cells_of}
use Rattle.vl_mean.specs.FlatLaw.{IsKept, name_count, all_names_count}
use Rattle.wn_net.specs.Value.{Given}
use Rattle.wn_net.specs.Net.{Netlist, IsNodeOf, value_at}
use Rattle.vl_flow_cells.specs.Numbered.{first_cell}
use Rattle.vl_flow_cells.proofs.Lists.{get_some, get_left, get_right, all_at}
use Rattle.vl_flow_cells.proofs.Numbers.{first_few, numbered}
use Rattle.vl_flow_cells.proofs.Words.{place_of_word}
use Rattle.vl_lower_nodes.specs.Points.{past}
use Rattle.vl_lower_expr.specs.declared.place.Place.{Place}
use Rattle.vl_lower_expr.specs.declared.place.Place.TheVariants as place
use Rattle.vl_lower_expr.specs.Bound.{Bound, word_index, HasCell, FitsPlace, HasPlace, AreBound, HasNumber}
use Rattle.vl_lower_expr.specs.Bound.{HaveNumbers}
use Rattle.vl_lower_assign.specs.Frames.{cell_widths, AreCellsOf, Stand}
use Rattle.vl_lower_assign.proofs.Standing.{wide_cell}
use Rattle.vl_lower_stmt.specs.Layout.{place_at, IsDeclaredAt, IsLayout}

-- names over some cells
abbrev pub over : List Decl → List Place → List ℕ → Bound
over ds places cells = record { decls = ds; places = places; cells = cells }

has_cell : (net : Netlist) (cells : List ℕ) (w at : ℕ) → (at < length cells) × IsNodeOf net w (slice_index cells at)
    → HasCell net cells w at
has_cell net cells w at h =
    let r = get_some cells at h.0 in
    let P : Option ℕ → Type 0 = λ o. MatchOption o ⊥ (IsNodeOf net w) in
    let Q : ℕ → Type 0 = λ id. IsNodeOf net w id in
    subst P (sym r.1) (subst Q (get_or_from_slice_get cells at r.0 0 r.1) h.1)

-- ---- cells of a declaration

same_get : (ns : List (List ℕ)) (w k : ℕ) (n : List ℕ) → slice_get ns k ≡ Some n → slice_get (map (λ m. w) ns) k ≡
    Some w
same_get (m ∷ ns) w zero n e = refl
same_get (m ∷ ns) w (suc k) n e = same_get ns w k n e
same_get [] w k n e = absurd (true≢false (ap is_none e))

-- each has the declared width
pub width_of : (ds : List Decl) (j : ℕ) (d : Decl) (k : ℕ) (n : List ℕ) (c : ℕ) → slice_get ds j ≡ Some d
    → slice_get (cells d) k ≡ Some n → c ≡ first_cell ds j + k → slice_get (cell_widths ds) c ≡ Some d.width
width_of [] j d k n c at cell e = absurd (true≢false (ap is_none at))
width_of (x ∷ ds) zero d k n c at cell e =
    let same : c ≡ k = omega (arith, e) in
    let is = same_Some x d at in
    ap (slice_get (cell_widths (x ∷ ds))) same
    ∙ get_left (map (λ n. x.width) (cells x)) (cell_widths ds) k d.width
    (ap (λ y. slice_get (map (λ n. y.width) (cells y)) k) is ∙ same_get (cells d) d.width k n cell)
width_of (x ∷ ds) (suc j) d k n c at cell e =
    let long : length (map (λ (n : List ℕ). x.width) (cells x)) ≡ length (cells x) =
    length-map (cells x) (λ (n : List ℕ). x.width) in
    let behind : c ≡ length (map (λ (n : List ℕ). x.width) (cells x)) + (first_cell ds j + k) = omega (
      arith,
      e,
      long,
    ) in
    get_right (map (λ n. x.width) (cells x)) (cell_widths ds) (first_cell ds j + k) c behind
    ∙ width_of ds j d k n (first_cell ds j + k) at cell refl

-- ---- places

-- a declaration and its place
pub record IsPlacedAt (ds : List Decl) (d : Decl) (p : Place) : Type 0 where
  pub index : ℕ
  pub at : slice_get ds index ≡ Some d
  pub place : p ≡ place_at d (first_cell ds index)

pub placed_at : (ds : List Decl) (places : List Place) (cells : List ℕ) (d : Decl) (p : Place) → IsLayout ds places
    → HasPlace (over ds places cells) d p → IsPlacedAt ds d p
placed_at ds places cells d p own h = record {
  index = h.0;
  at = h.1.0;
  place = same_Some p (place_at d (first_cell ds h.0)) (sym h.1.1 ∙ own.at h.0 d h.1.0);
}

names_few : (ds : List Decl) (j : ℕ) (d : Decl) → slice_get ds j ≡ Some d → name_count d.words ≤ all_names_count ds
names_few [] j d e = absurd (true≢false (ap is_none e))
names_few (x ∷ ds) zero d e =
    let same : name_count x.words ≡ name_count d.words = ap (λ y. name_count y.words) (same_Some x d e) in
    omega (arith, same)
names_few (x ∷ ds) (suc j) d e = let more = names_few ds j d e in omega (arith, more)

-- a vector has a cell, and a memory cells
abbrev is_vector : Place → Bool
is_vector (place.Vector n) = true
is_vector p = false

abbrev in_vector : Place → ℕ
in_vector (place.Vector n) = n
in_vector p = 0

abbrev in_words : Place → ℕ
in_words (place.Words n) = n
in_words p = 0

abbrev is_memory : Place → Bool
is_memory (place.Memory n) = true
is_memory p = false

pub vector_at : (d : Decl) (n c : ℕ) → place.Vector n ≡ place_at d c → (d.words ≡ None) × (n ≡ c)
vector_at d n c e = by d.words refl e
  where
    by : (o : Option (ℤ × ℤ)) → d.words ≡ o
        → place.Vector n ≡ (if is_none o then place.Vector c else place.Words c)
        → (d.words ≡ None) × (n ≡ c)
    by None h e = (h, ap in_vector e)
    by (Some b) h e = absurd (true≢false (ap is_vector e))

pub words_at : (d : Decl) (n c : ℕ) → place.Words n ≡ place_at d c → IsSome d.words × (n ≡ c)
words_at d n c e = by d.words refl e
  where
    by : (o : Option (ℤ × ℤ)) → d.words ≡ o
        → place.Words n ≡ (if is_none o then place.Vector c else place.Words c)
        → IsSome d.words × (n ≡ c)
    by None h e = absurd (true≢false (sym (ap is_vector e)))
    by (Some b) h e = (ap is_some h, ap in_words e)

pub no_memory : (d : Decl) (n c : ℕ) → place.Memory n ≡ place_at d c → ⊥
no_memory d n c e = by d.words e
  where
    by : (o : Option (ℤ × ℤ)) → place.Memory n ≡ (if is_none o then place.Vector c else place.Words c) → ⊥
    by None e = true≢false (ap is_memory e)
    by (Some b) e = true≢false (ap is_memory e)

-- a declaration whose first cell is known
pub kept_at : (ds : List Decl) (places : List Place) (d : Decl) (first : ℕ) → IsLayout ds places
    → IsDeclaredAt ds d first → IsKept d
kept_at ds places d first own h = all_at IsKept ds h.0 d h.1 own.kept

pub shaped_at : (ds : List Decl) (places : List Place) (d : Decl) (first : ℕ) → IsLayout ds places
    → IsDeclaredAt ds d first → IsShaped d
shaped_at ds places d first own h = all_at IsShaped ds h.0 d h.1 own.shaped

pub first_within : (ds : List Decl) (places : List Place) (d : Decl) (first : ℕ) → IsLayout ds places
    → IsDeclaredAt ds d first → first ≤ past
first_within ds places d first own h = omega (arith, h.2, first_few ds h.0, own.few)

pub words_within : (ds : List Decl) (places : List Place) (d : Decl) (first : ℕ) (b : ℤ × ℤ) → IsLayout ds places
    → IsDeclaredAt ds d first → d.words ≡ Some b → span b.0 b.1 ≤ past
words_within ds places d first b own h e =
    let count : span b.0 b.1 + 1 ≤ all_names_count ds =
    subst (λ o. name_count o ≤ all_names_count ds) e (names_few ds h.0 d h.1) in
    omega (arith, count, own.few)

pub vector_cell : (d : Decl) (w : Option (ℤ × ℤ)) → d.words ≡ w → w ≡ None → slice_get (cells d) 0 ≡ Some d.name
vector_cell d w e none = ap (λ o. slice_get (cells_of d.name o) 0) (e ∙ none)

pub word_cell : (d : Decl) (b : ℤ × ℤ) (k : ℕ) → d.words ≡ Some b → k < span b.0 b.1
    → slice_get (cells d) k ≡ Some (word_name d.name (word_index b k))
word_cell d b k e less =
    ap (λ o. slice_get (cells_of d.name o) k) e
    ∙ place_of_word d.name (span b.0 b.1) (int_le b.0 b.1) b.0 k less

module _ (ds : List Decl) (places : List Place) (own : IsLayout ds places) where
  -- ---- the condition of expressions

  fits : (net : Netlist) (cs : List ℕ) (d : Decl) (j : ℕ) (w : Option (ℤ × ℤ)) → d.words ≡ w → AreCellsOf net ds cs
      → slice_get ds j ≡ Some d
      → FitsPlace net cs d (if is_none w then place.Vector (first_cell ds j) else place.Words (first_cell ds j))
  fits net cs d j None e are at =
      let c = first_cell ds j in
      let sum : c ≡ c + 0 = omega arith in (
        e,
        has_cell net cs d.width c (wide_cell net ds cs d.width c are
            (width_of ds j d 0 d.name c at (vector_cell d None e refl) sum)),
      )
  fits net cs d j (Some b) e are at =
      let P : Option (ℤ × ℤ) → Type 0 = λ o. MatchOption o ⊥ (λ bounds. (k : ℕ) → k < span bounds.0 bounds.1
      → HasCell net cs d.width (first_cell ds j + k)) in
      subst P (sym e) (λ k less. has_cell net cs d.width (first_cell ds j + k)
      (wide_cell net ds cs d.width (first_cell ds j + k) are
      (width_of ds j d k (word_name d.name (word_index b k)) (first_cell ds j + k) at (word_cell d b k e less) refl)))

  pub bound_over : (net : Netlist) (cs : List ℕ) → AreCellsOf net ds cs → AreBound net (over ds places cs)
  bound_over net cs are = record {
    each = own.each;
    placed = λ d p h.
        let r = placed_at ds places cs d p own h in
        let P : Place → Type 0 = λ q. FitsPlace net cs d q in
        record {
          shaped = all_at IsShaped ds r.index d r.at own.shaped;
          kept = all_at IsKept ds r.index d r.at own.kept;
          few = omega (arith, names_few ds r.index d r.at, own.few);
          fits = subst P (sym r.place) (fits net cs d r.index d.words refl are r.at);
        };
  }

  -- ---- numbers

  number : (net : Netlist) (g : Given) (v : Values) (cs : List ℕ) (d : Decl) (j : ℕ) (w : Option (ℤ × ℤ)) → d.words ≡ w
      → Stand net g ds cs v → slice_get ds j ≡ Some d
      → HasNumber net g (cells_in v) cs d (if is_none w then place.Vector (first_cell ds j)
      else place.Words (first_cell ds j))
  number net g v cs d j None e has at =
      let c = first_cell ds j in
      let sum : c ≡ c + 0 = omega arith in has c d.name (numbered ds j d 0 d.name c at (vector_cell d None e refl) sum)
  number net g v cs d j (Some b) e has at =
      let P : Option (ℤ × ℤ) → Type 0 = λ o. IfSome o (λ bounds. (k : ℕ) → k < span bounds.0 bounds.1
      → cells_in v d.name (Some (word_index bounds k)) ≡ value_at net g (slice_index cs (first_cell ds j + k))) in
      subst P (sym e) (λ k less. has (first_cell ds j + k) (word_name d.name (word_index b k))
      (numbered ds j d k (word_name d.name (word_index b k)) (first_cell ds j + k) at (word_cell d b k e less) refl))

  pub numbers_over : (net : Netlist) (g : Given) (v : Values) (cs : List ℕ) → Stand net g ds cs v
      → HaveNumbers net g (cells_in v) (over ds places cs)
  numbers_over net g v cs has d p h =
      let r = placed_at ds places cs d p own h in
      let P : Place → Type 0 = λ q. HasNumber net g (cells_in v) cs d q in
      subst P (sym r.place) (number net g v cs d r.index d.words refl has r.at)
