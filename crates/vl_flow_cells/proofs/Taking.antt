-- The cells and bits that selects of a name take.
use Rattle.std.specs.Prelude.{◌≡◌, refl, ℕ, ◌+◌, ◌<◌, ◌≤◌, ◌==◌, Bool, true, false, ◌&&◌, nat_le, nat_lt, is_none}
use Rattle.std.specs.Prelude.{if◌then◌else◌, List, length, All, Option, Some, None, ℤ, pos, nat_abs, slice_get, int_le}
use Rattle.std.specs.List.{position_or_len}
use Rattle.std.specs.Prelude.{bytes_eq, cond}
use Rattle.std.proofs.Common.{ap, sym, ◌∙◌, arith, true≢false}
use Rattle.std.proofs.lemmas.Bool.Decides.{nat_tests}
use Rattle.std.proofs.lemmas.List.Folds.{find_at}
use Rattle.std.proofs.lemmas.Option.{same_Some}
use Rattle.fv_text.specs.declared.pos.Pos.{Pos}
use Rattle.vl_tree.specs.Expr.{Expr, Selects, whole, bit, part, indexed}
use Rattle.fv_bit_sets.specs.Cells.{is_set}
use Rattle.fv_bits.specs.Bits.{ones}
use Rattle.vl_size.specs.declared.decl.Decl.{Decl}
use Rattle.vl_size.specs.Size.{index_of, no_names, operand_of, offset_of, start_of}
use Rattle.vl_size.specs.Table.{span, is_between, word_name, declared_as, place, AreApart, AreDifferent}
use Rattle.vl_mean.specs.Cells.{cells, cells_of, contains_name, is_cell}
use Rattle.vl_mean.specs.FlatLaw.{flat_scopes, IsKept}
use Rattle.vl_mean.specs.Scopes.{Scope, full, no_values, operand_in}
use Rattle.vl_mean.specs.Targets.{word_index, full_word, spots_of, is_decl, has_spot, vector_spots}
use Rattle.vl_mean.specs.Targets.{word_spots, name_spots, are_fixed}
use Rattle.vl_mean_flat.proofs.SameTarget.{flat_declared, flat_full}
use Rattle.vl_flow_spec.specs.Reads.{Bits, selected}
use Rattle.vl_flow_spec.proofs.Bools.{and_both, and_left, and_right, none_of}
use Rattle.vl_flow_spec.proofs.Same.{declared_name}
use Rattle.vl_flow_spec.proofs.Spots.{spot_is}
use Rattle.vl_flow_cells.specs.Numbered.{all_cells, first_cell, Shows}
use Rattle.vl_flow_cells.specs.Places.{index_at, IsMaskOf}
use Rattle.vl_flow_cells.proofs.Lists.{get_less}
use Rattle.vl_flow_cells.proofs.Masks.{all_set, index_is}
use Rattle.vl_flow_cells.proofs.Numbers.{numbered, own_number, cell_between, between_cells}
use Rattle.vl_flow_cells.proofs.Ranges.{same_test}
use Rattle.vl_flow_cells.proofs.Words.{place_of_word}

-- ---- the place of a declared name

pub get_past : {A : Type 0} (xs : List A) (k : ℕ) → length xs ≤ k → slice_get xs k ≡ None
get_past {A} xs k past = by (slice_get xs k) refl
  where
    by : (o : Option A) → slice_get xs k ≡ o → o ≡ None
    by None e = refl
    by (Some x) e = let less = get_less xs k x e in absurd (omega (arith, less, past))

pub place_none : (ds : List Decl) (text : List ℕ) → place ds text ≡ None → declared_as ds text ≡ None
place_none ds text h = by (nat_lt (position_or_len p ds) (length ds)) refl h
  where
    p : Decl → Bool
    p d = bytes_eq text d.name

    by : (b : Bool) → nat_lt (position_or_len p ds) (length ds) ≡ b → cond b (Some (position_or_len p ds)) None ≡ None
        → declared_as ds text ≡ None
    by true t h = absurd (true≢false (sym (ap is_none h)))
    by false t h =
        let past : length ds ≤ position_or_len p ds = grind (arith, nat_tests, t) in
        find_at p ds ∙ get_past ds (position_or_len p ds) past

pub place_some : (ds : List Decl) (text : List ℕ) (j : ℕ) → place ds text ≡ Some j
    → declared_as ds text ≡ slice_get ds j
place_some ds text j h = by (nat_lt (position_or_len p ds) (length ds)) h
  where
    p : Decl → Bool
    p d = bytes_eq text d.name

    by : (b : Bool) → cond b (Some (position_or_len p ds)) None ≡ Some j → declared_as ds text ≡ slice_get ds j
    by true h = find_at p ds ∙ ap (slice_get ds) (same_Some (position_or_len p ds) j h)
    by false h = absurd (true≢false (ap is_none h))

pub place_less : (ds : List Decl) (text : List ℕ) (j : ℕ) → place ds text ≡ Some j → j < length ds
place_less ds text j h = by (nat_lt (position_or_len p ds) (length ds)) refl h
  where
    p : Decl → Bool
    p d = bytes_eq text d.name

    by : (b : Bool) → nat_lt (position_or_len p ds) (length ds) ≡ b
        → cond b (Some (position_or_len p ds)) None ≡ Some j → j < length ds
    by true t h =
        let less : position_or_len p ds < length ds = grind (arith, nat_tests, t) in
        let same = same_Some (position_or_len p ds) j h in omega (arith, less, same)
    by false t h = absurd (true≢false (ap is_none h))

-- ---- what is selected

-- each spot of a vector is of the cell that the vector is
pub spot_text : (ss : List Scope) (d : Decl) (o : Option (List ℕ)) (xs : Selects) (n : List ℕ) (k : ℕ)
    → has_spot n k (vector_spots ss no_values d o xs) ≡ true → o ≡ Some n
spot_text ss d o whole n k h = (spot_is d.width d.width o (pos 0) n k h).0
spot_text ss d o (bit p i whole) n k h =
    (spot_is 1 d.width o (offset_of d (index_of (operand_in ss no_values i))) n k h).0
spot_text ss d o (part p l r whole) n k h =
    let low_end = index_of (operand_in ss no_values r) in
    (spot_is (span (index_of (operand_in ss no_values l)) low_end) d.width o (offset_of d low_end) n k h).0
spot_text ss d o (indexed p s m whole) n k h =
    let j = nat_abs (index_of (operand_in ss no_values m)) in
    (spot_is j d.width o (start_of d (index_of (operand_in ss no_values s)) j) n k h).0
spot_text ss d o (bit p y (bit q z ys)) n k h = absurd (true≢false (sym h))
spot_text ss d o (bit p y (part q l r ys)) n k h = absurd (true≢false (sym h))
spot_text ss d o (bit p y (indexed q z m ys)) n k h = absurd (true≢false (sym h))
spot_text ss d o (part p a b (bit q z ys)) n k h = absurd (true≢false (sym h))
spot_text ss d o (part p a b (part q l r ys)) n k h = absurd (true≢false (sym h))
spot_text ss d o (part p a b (indexed q z m ys)) n k h = absurd (true≢false (sym h))
spot_text ss d o (indexed p a b (bit q z ys)) n k h = absurd (true≢false (sym h))
spot_text ss d o (indexed p a b (part q l r ys)) n k h = absurd (true≢false (sym h))
spot_text ss d o (indexed p a b (indexed q z m ys)) n k h = absurd (true≢false (sym h))

-- of a vector of no cell there is none
pub no_spot : (ss : List Scope) (d : Decl) (xs : Selects) (n : List ℕ) (k : ℕ)
    → has_spot n k (vector_spots ss no_values d None xs) ≡ false
no_spot ss d xs n k =
    none_of (has_spot n k (vector_spots ss no_values d None xs)) (λ h.
    absurd (true≢false (ap is_none (spot_text ss d None xs n k h))))

module _ (ds : List Decl) (text : List ℕ) (d : Decl) (own : declared_as ds text ≡ Some d) where
  named : text ≡ d.name
  named = declared_name ds text d own

  -- where an index varies
  selected_all : (xs : Selects) → are_fixed (flat_scopes ds) xs ≡ false → (n : List ℕ) (k : ℕ)
      → selected ds text xs n k ≡ (contains_name (cells d) n && nat_lt k d.width)
  selected_all xs varying n k =
      λ i. is_decl ((flat_declared ds text ∙ own) i) (λ e. if varying i
      then has_spot n k (name_spots (flat_scopes ds) no_values text xs)
      else is_cell ((flat_full ds text ∙ named) i) e.words n && nat_lt k e.width)

  selected_fixed : (xs : Selects) → are_fixed (flat_scopes ds) xs ≡ true → (w : Option (ℤ × ℤ)) → d.words ≡ w
      → (n : List ℕ) (k : ℕ)
      → selected ds text xs n k ≡ has_spot n k (if is_none w
      then vector_spots (flat_scopes ds) no_values d (Some d.name) xs else word_spots (flat_scopes ds) no_values d xs)
  selected_fixed xs fix w words n k =
      (λ i. is_decl ((flat_declared ds text ∙ own) i) (λ e. if fix i
      then has_spot n k (spots_of ((flat_declared ds text ∙ own) i) (λ c. if is_none c.words
      then vector_spots (flat_scopes ds) no_values c (Some ((flat_full ds text ∙ named) i)) xs
      else word_spots (flat_scopes ds) no_values c xs))
      else is_cell (full (flat_scopes ds) text) e.words n && nat_lt k e.width))
      ∙ ap (λ o. has_spot n k (if is_none o
      then vector_spots (flat_scopes ds) no_values d (Some d.name) xs
      else word_spots (flat_scopes ds) no_values d xs)) words

  module _ (different : AreDifferent ds) (apart : AreApart ds) (kept : All IsKept ds) (j : ℕ)
      (at : slice_get ds j ≡ Some d) where
    -- all bits of all cells of a name
    pub takes_all : (xs : Selects) → are_fixed (flat_scopes ds) xs ≡ false → (first past mask : ℕ)
        → first ≡ first_cell ds j → past ≡ first + length (cells d) → mask ≡ ones d.width
        → Shows ds (λ c i. (nat_le first c && nat_lt c past) && is_set mask i) (selected ds text xs)
    takes_all xs varying first past mask from to bits c n i f =
        (λ q. same q && (ap (λ z. is_set z i) bits ∙ all_set d.width i) q) ∙ sym (selected_all xs varying n i)
      where
        there : (nat_le first c && nat_lt c past) ≡ true → contains_name (cells d) n ≡ true
        there h =
            let low : nat_le first c ≡ true = and_left (nat_le first c) (nat_lt c past) h in
            let high : nat_lt c past ≡ true = and_right (nat_le first c) (nat_lt c past) h in
            cell_between ds j d c n at f (grind (arith, nat_tests, low, from))
            (grind (arith, nat_tests, high, from, to))

        back : contains_name (cells d) n ≡ true → (nat_le first c && nat_lt c past) ≡ true
        back h =
            let r = between_cells ds different apart kept j d c n at f h in
            let less = get_less (cells d) r.0 n r.1 in
            let number = r.2 in
            and_both (nat_le first c) (nat_lt c past) (grind (arith, nat_tests, number, from))
            (grind (arith, nat_tests, number, from, to, less))

        same : (nat_le first c && nat_lt c past) ≡ contains_name (cells d) n
        same = same_test (nat_le first c && nat_lt c past) (contains_name (cells d) n) there back

    -- bits of one cell
    takes_one : (K : Bits) (k : ℕ) (m : List ℕ) → slice_get (cells d) k ≡ Some m → (first past mask : ℕ)
        → first ≡ first_cell ds j + k → past ≡ first + 1 → ((i : ℕ) → is_set mask i ≡ K m i)
        → ((n : List ℕ) (i : ℕ) → K n i ≡ true → m ≡ n)
        → Shows ds (λ c i. (nat_le first c && nat_lt c past) && is_set mask i) K
    takes_one K k m cell first past mask from to bits only c n i f = by (c == first) refl
      where
        here : slice_get (all_cells ds) first ≡ Some m
        here = numbered ds j d k m first at cell from

        by : (b : Bool) → (c == first) ≡ b → ((nat_le first c && nat_lt c past) && is_set mask i) ≡ K n i
        by true e =
            let same : c ≡ first = grind (arith, nat_tests, e) in
            let one : m ≡ n = same_Some m n (sym here ∙ ap (slice_get (all_cells ds)) (sym same) ∙ f) in
            let inside : (nat_le first c && nat_lt c past) ≡ true = grind (arith, nat_tests, same, to) in
            ap (λ b. b && is_set mask i) inside ∙ bits i ∙ ap (λ z. K z i) one
        by false e =
            let out : (nat_le first c && nat_lt c past) ≡ false = grind (arith, nat_tests, e, to) in
            ap (λ b. b && is_set mask i) out
            ∙ sym (none_of (K n i) (λ h.
            let one = only n i h in
            let same = own_number ds different apart kept c first n f (here ∙ ap Some one) in
            absurd (grind (arith, nat_tests, e, same))))

    -- bits of a vector
    pub takes_vector : (xs : Selects) → are_fixed (flat_scopes ds) xs ≡ true → d.words ≡ None → (first past mask : ℕ)
        → first ≡ first_cell ds j → past ≡ first + 1 → IsMaskOf ds d xs mask
        → Shows ds (λ c i. (nat_le first c && nat_lt c past) && is_set mask i) (selected ds text xs)
    takes_vector xs fix words first past mask from to bits =
        takes_one (selected ds text xs) 0 d.name (ap (λ w. slice_get (cells_of d.name w) 0) words) first past mask
        (omega (arith, from)) to
        (λ i. bits d.name i ∙ sym (selected_fixed xs fix None words d.name i))
        (λ n i h. same_Some d.name n
        (spot_text (flat_scopes ds) d (Some d.name) xs n i (sym (selected_fixed xs fix None words n i) ∙ h)))

    word_selected : (p : Pos) (e : Expr) (xs : Selects) → are_fixed (flat_scopes ds) (bit p e xs) ≡ true
        → (b : ℤ × ℤ) → d.words ≡ Some b → (x : ℤ) → x ≡ index_of (operand_of ds no_names e) → (t : Bool)
        → is_between b.0 b.1 x ≡ t → (n : List ℕ) (k : ℕ)
        → selected ds text (bit p e xs) n k ≡ has_spot n k (vector_spots (flat_scopes ds) no_values d
        (full_word d.name (if t then Some x else None)) xs)
    word_selected p e xs fix b words x index t between n k =
        selected_fixed (bit p e xs) fix (Some b) words n k
        ∙ (λ i. has_spot n k (vector_spots (flat_scopes ds) no_values d
        (full_word (flat_full ds d.name i) (word_index (words i) (sym (index_is ds d e x index) i))) xs))
        ∙ ap (λ c. has_spot n k (vector_spots (flat_scopes ds) no_values d
        (full_word d.name (if c then Some x else None)) xs)) between

    -- bits of a word
    pub takes_word : (p : Pos) (e : Expr) (xs : Selects) → are_fixed (flat_scopes ds) (bit p e xs) ≡ true
        → (b : ℤ × ℤ) → d.words ≡ Some b → (x : ℤ) → x ≡ index_of (operand_of ds no_names e)
        → is_between b.0 b.1 x ≡ true → (k : ℕ) → k < span b.0 b.1 → index_at (int_le b.0 b.1) b.0 k ≡ x
        → (first past mask : ℕ) → first ≡ first_cell ds j + k → past ≡ first + 1 → IsMaskOf ds d xs mask
        → Shows ds (λ c i. (nat_le first c && nat_lt c past) && is_set mask i) (selected ds text (bit p e xs))
    takes_word p e xs fix b words x index between k less is first past mask from to bits =
        takes_one (selected ds text (bit p e xs)) k (word_name d.name x)
        (ap (λ w. slice_get (cells_of d.name w) k) words
        ∙ place_of_word d.name (span b.0 b.1) (int_le b.0 b.1) b.0 k less ∙ ap (λ i. Some (word_name d.name i)) is)
        first past mask from to
        (λ i. bits (word_name d.name x) i
        ∙ sym (word_selected p e xs fix b words x index true between (word_name d.name x) i))
        (λ n i h. same_Some (word_name d.name x) n
        (spot_text (flat_scopes ds) d (Some (word_name d.name x)) xs n i
        (sym (word_selected p e xs fix b words x index true between n i) ∙ h)))

    -- of a word that isn't there no bit is taken
    pub takes_no_word : (p : Pos) (e : Expr) (xs : Selects) → are_fixed (flat_scopes ds) (bit p e xs) ≡ true
        → (b : ℤ × ℤ) → d.words ≡ Some b → (x : ℤ) → x ≡ index_of (operand_of ds no_names e)
        → is_between b.0 b.1 x ≡ false → Shows ds (λ c i. false) (selected ds text (bit p e xs))
    takes_no_word p e xs fix b words x index between c n i f =
        sym (word_selected p e xs fix b words x index false between n i ∙ no_spot (flat_scopes ds) d xs n i)
