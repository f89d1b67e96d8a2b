-- What a target's bits are: each is one of a declared name, those that are surely set are among them, and no other
-- bit may change.
use Rattle.std.specs.Prelude.{◌≡◌, refl, ℕ, ◌<◌, ◌≤◌, List, Bool, true, false, ◌&&◌}
use Rattle.std.specs.Prelude.{◌||◌}
use Rattle.std.specs.Prelude.{nat_lt, is_none, nat_abs, Option, Some, None, IsSome, ℤ, pos, if◌then◌else◌}
use Rattle.std.proofs.Common.{ap, sym, ◌∙◌, arith, subst, true≢false}
use Rattle.std.proofs.lemmas.Bool.Decides.{nat_tests}
use Rattle.std.proofs.lemmas.Option.{same_Some}
use Rattle.fv_text.specs.declared.pos.Pos.{Pos}
use Rattle.vl_tree.specs.Expr.{Expr, Selects, whole, bit, part, indexed}
use Rattle.vl_tree.specs.Lval.{Lval, Lvals, named, joined, no_lvals, more_lvals}
use Rattle.vl_size.specs.declared.decl.Decl.{Decl}
use Rattle.vl_size.specs.Sign.{sign}
use Rattle.vl_size.specs.Size.{◌>>=◌, Values, operand, index_of, is_constant, no_names, offset_of, start_of}
use Rattle.vl_size.specs.Size.{size, vector_size, word_size, value, part_size, times}
use Rattle.vl_size.specs.Table.{span, is_between, word_name, declared_as}
use Rattle.vl_mean.specs.Cells.{is_cell}
use Rattle.vl_mean.specs.FlatLaw.{flat_scopes, IsTarget, AreTargets}
use Rattle.vl_mean.specs.Scopes.{is_clock_class, no_values}
use Rattle.vl_mean.specs.Targets.{spots_from, word_index, full_word, spots_of, is_decl, has_spot, spots}
use Rattle.vl_mean.specs.Targets.{all_spots}
use Rattle.vl_mean.specs.Targets.{are_fixed, may_change, any_may_change}
use Rattle.vl_flow_spec.specs.Reads.{selected}
use Rattle.vl_flow_spec.specs.Paths.{sets, any_sets}
use Rattle.vl_flow_spec.specs.Settle.{IsBitOf}
use Rattle.vl_flow_spec.proofs.Bools.{or_left, or_right, or_either, or_case, and_both, and_left, and_right}
use Rattle.vl_flow_spec.proofs.Cells.{own_cell, word_is_cell}
use Rattle.vl_flow_spec.proofs.Flat.{index_in, fixed, vector_bits, word_bits, name_bits, decl_selected, flat_fixed}
use Rattle.vl_flow_spec.proofs.Flat.{flat_name}
use Rattle.vl_flow_spec.proofs.Same.{bind_first, bind_then, bind_next, bind_test, declared_name, constant_index}
use Rattle.vl_flow_spec.proofs.Same.{same_value}
use Rattle.vl_flow_spec.proofs.Same.{selected_at}
use Rattle.vl_flow_spec.proofs.Spots.{spot_is, spot_append}

module _ (ds : List Decl) where
  -- ---- each spot is a bit of the name

  vector_spot_is : (v : Values) (d : Decl) (o : Option (List ℕ)) (xs : Selects) (n : List ℕ) (k : ℕ)
      → has_spot n k (vector_bits ds v d o xs) ≡ true → (o ≡ Some n) × (k < d.width)
  vector_spot_is v d o whole n k h = spot_is d.width d.width o (pos 0) n k h
  vector_spot_is v d o (bit p i whole) n k h = spot_is 1 d.width o (offset_of d (index_in ds v i)) n k h
  vector_spot_is v d o (part p l r whole) n k h =
      spot_is (span (index_in ds v l) (index_in ds v r)) d.width o (offset_of d (index_in ds v r)) n k h
  vector_spot_is v d o (indexed p s m whole) n k h =
      let j = nat_abs (index_in ds v m) in spot_is j d.width o (start_of d (index_in ds v s) j) n k h
  vector_spot_is v d o (bit p y (bit q z ys)) n k h = absurd (true≢false (sym h))
  vector_spot_is v d o (bit p y (part q l r ys)) n k h = absurd (true≢false (sym h))
  vector_spot_is v d o (bit p y (indexed q z m ys)) n k h = absurd (true≢false (sym h))
  vector_spot_is v d o (part p a b (bit q z ys)) n k h = absurd (true≢false (sym h))
  vector_spot_is v d o (part p a b (part q l r ys)) n k h = absurd (true≢false (sym h))
  vector_spot_is v d o (part p a b (indexed q z m ys)) n k h = absurd (true≢false (sym h))
  vector_spot_is v d o (indexed p a b (bit q z ys)) n k h = absurd (true≢false (sym h))
  vector_spot_is v d o (indexed p a b (part q l r ys)) n k h = absurd (true≢false (sym h))
  vector_spot_is v d o (indexed p a b (indexed q z m ys)) n k h = absurd (true≢false (sym h))

  none_some : (n : List ℕ) → None ≡ Some n → ⊥
  none_some n e = true≢false (ap is_none e)

  full_word_is : (d : Decl) (words : Option (ℤ × ℤ)) (i : ℤ) (n : List ℕ)
      → full_word d.name (word_index words i) ≡ Some n → is_cell d.name words n ≡ true
  full_word_is d None i n h = absurd (none_some n h)
  full_word_is d (Some b) i n h = by (is_between b.0 b.1 i) refl h
    where
      by : (t : Bool) → is_between b.0 b.1 i ≡ t → full_word d.name (if t then Some i else None) ≡ Some n
          → is_cell d.name (Some b) n ≡ true
      by true t h =
          subst (λ m. is_cell d.name (Some b) m ≡ true) (same_Some (word_name d.name i) n h)
          (word_is_cell d.name b i t)
      by false t h = absurd (none_some n h)

  word_spot_is : (v : Values) (d : Decl) (xs : Selects) (n : List ℕ) (k : ℕ) → has_spot n k (word_bits ds v d xs) ≡ true
      → (is_cell d.name d.words n ≡ true) × (k < d.width)
  word_spot_is v d whole n k h = absurd (true≢false (sym h))
  word_spot_is v d (bit p i xs) n k h =
      let r = vector_spot_is v d (full_word d.name (word_index d.words (index_in ds v i))) xs n k h in
      (full_word_is d d.words (index_in ds v i) n r.0, r.1)
  word_spot_is v d (part p l r xs) n k h = absurd (true≢false (sym h))
  word_spot_is v d (indexed p s m xs) n k h = absurd (true≢false (sym h))

  decl_spot_is : (v : Values) (text : List ℕ) (xs : Selects) (d : Decl) → text ≡ d.name → (n : List ℕ) (k : ℕ)
      → has_spot n k (if is_none d.words then vector_bits ds v d (Some text) xs else word_bits ds v d xs) ≡ true
      → (is_cell d.name d.words n ≡ true) × (k < d.width)
  decl_spot_is v text xs d same n k h = by d.words refl h
    where
      by : (q : Option (ℤ × ℤ)) → d.words ≡ q
          → has_spot n k (if is_none q then vector_bits ds v d (Some text) xs else word_bits ds v d xs) ≡ true
          → (is_cell d.name d.words n ≡ true) × (k < d.width)
      by None q h =
          let r = vector_spot_is v d (Some text) xs n k h in
          let is : d.name ≡ n = sym same ∙ same_Some text n r.0 in
          (ap (λ o. is_cell d.name o n) q ∙ subst (λ m. is_cell d.name None m ≡ true) is (own_cell d.name), r.1)
      by (Some b) q h = word_spot_is v d xs n k h

  pub name_spot_is : (v : Values) (text : List ℕ) (xs : Selects) (d : Decl) → declared_as ds text ≡ Some d
      → (n : List ℕ) (k : ℕ) → has_spot n k (name_bits ds v text xs) ≡ true
      → (is_cell d.name d.words n ≡ true) × (k < d.width)
  name_spot_is v text xs d e n k h =
      decl_spot_is v text xs d (declared_name ds text d e) n k
      (ap (λ o. has_spot n k (spots_of o (λ d. if is_none d.words then vector_bits ds v d (Some text) xs
      else word_bits ds v d xs))) (sym e) ∙ h)

  -- ---- a target

  pub record Marks (l : Lval) : Type 0 where
    pub there : (v : Values) (n : List ℕ) (k : ℕ) → has_spot n k (spots (flat_scopes ds) v l) ≡ true → IsBitOf ds n k
    pub reached : (v : Values) (n : List ℕ) (k : ℕ) → sets ds l n k ≡ true
        → has_spot n k (spots (flat_scopes ds) v l) ≡ true
    pub within : (v : Values) (n : List ℕ) (k : ℕ) → has_spot n k (spots (flat_scopes ds) v l) ≡ true
        → may_change (flat_scopes ds) l n k ≡ true

  -- ---- by constant indices always the same ones

  module _ (wide : (d : Decl) → declared_as ds d.name ≡ Some d → 1 ≤ d.width) where
    at_once : (e : Expr) (v : Values) → IsSome (size ds e) → is_constant e ≡ true → index_in ds v e ≡ index_in ds no_values e
    at_once e v sized c = constant_index ds e v (same_value ds wide e) sized c

    vector_fixed : (v : Values) (d : Decl) (o : Option (List ℕ)) (xs : Selects) → IsSome (vector_size ds d xs)
        → fixed ds xs ≡ true → vector_bits ds v d o xs ≡ vector_bits ds no_values d o xs
    vector_fixed v d o whole sized f = refl
    vector_fixed v d o (bit p i whole) sized f =
        λ z. spots_from 1 d.width o
        (offset_of d (at_once i v (bind_first (size ds i) (λ k. Some 1) sized) (and_left (is_constant i) true f) z))
    vector_fixed v d o (part p l r whole) sized f =
        let of_ends : ℕ → ℕ → Option ℕ = λ k j.
        part_size d (index_of (operand (Some k) (sign ds l) (λ m t. value ds no_names m t l)))
        (index_of (operand (Some j) (sign ds r) (λ m t. value ds no_names m t r))) in
        let both = bind_test (size ds l) (size ds r) (is_constant l && is_constant r) of_ends sized in
        let inner : ℕ → ℕ → Option ℕ = λ k j. if is_constant l && is_constant r then of_ends k j else None in
        let left = at_once l v (bind_first (size ds l) (λ k. size ds r >>= λ j. inner k j) sized)
        (and_left (is_constant l) (is_constant r) both) in
        let right = at_once r v (bind_then (size ds l) (size ds r) inner sized)
        (and_right (is_constant l) (is_constant r) both) in
        λ z. spots_from (span (left z) (right z)) d.width o (offset_of d (right z))
    vector_fixed v d o (indexed p s m whole) sized f =
        let of_count : ℕ → ℕ → Option ℕ = λ k j.
        times (index_of (operand (Some j) (sign ds m) (λ i t. value ds no_names i t m))) 1 in
        let inner : ℕ → ℕ → Option ℕ = λ k j. if is_constant m then of_count k j else None in
        let start = at_once s v (bind_first (size ds s) (λ k. size ds m >>= λ j. inner k j) sized)
        (and_left (is_constant s) true f) in
        let count = at_once m v (bind_then (size ds s) (size ds m) inner sized)
        (bind_test (size ds s) (size ds m) (is_constant m) of_count sized) in
        λ z. spots_from (nat_abs (count z)) d.width o (start_of d (start z) (nat_abs (count z)))
    vector_fixed v d o (bit p y (bit q z ys)) sized f = refl
    vector_fixed v d o (bit p y (part q l r ys)) sized f = refl
    vector_fixed v d o (bit p y (indexed q z m ys)) sized f = refl
    vector_fixed v d o (part p a b (bit q z ys)) sized f = refl
    vector_fixed v d o (part p a b (part q l r ys)) sized f = refl
    vector_fixed v d o (part p a b (indexed q z m ys)) sized f = refl
    vector_fixed v d o (indexed p a b (bit q z ys)) sized f = refl
    vector_fixed v d o (indexed p a b (part q l r ys)) sized f = refl
    vector_fixed v d o (indexed p a b (indexed q z m ys)) sized f = refl

    word_fixed : (v : Values) (d : Decl) (xs : Selects) → IsSome (word_size ds d xs) → fixed ds xs ≡ true
        → word_bits ds v d xs ≡ word_bits ds no_values d xs
    word_fixed v d whole sized f = refl
    word_fixed v d (bit p i xs) sized f =
        (λ z. vector_bits ds v d (full_word d.name (word_index d.words
        (at_once i v (bind_first (size ds i) (λ k. vector_size ds d xs) sized)
        (and_left (is_constant i) (fixed ds xs) f) z))) xs)
        ∙ vector_fixed v d (full_word d.name (word_index d.words (index_in ds no_values i))) xs
        (bind_next (size ds i) (vector_size ds d xs) sized) (and_right (is_constant i) (fixed ds xs) f)
    word_fixed v d (part p l r xs) sized f = refl
    word_fixed v d (indexed p s m xs) sized f = refl

    decl_fixed : (v : Values) (text : List ℕ) (d : Decl) (xs : Selects)
        → IsSome (if is_none d.words then vector_size ds d xs else word_size ds d xs) → fixed ds xs ≡ true
        → (if is_none d.words then vector_bits ds v d (Some text) xs else word_bits ds v d xs)
        ≡ (if is_none d.words then vector_bits ds no_values d (Some text) xs else word_bits ds no_values d xs)
    decl_fixed v text d xs sized f = by (is_none d.words) sized
      where
        by : (b : Bool) → IsSome (if b then vector_size ds d xs else word_size ds d xs)
            → (if b then vector_bits ds v d (Some text) xs else word_bits ds v d xs)
            ≡ (if b then vector_bits ds no_values d (Some text) xs else word_bits ds no_values d xs)
        by true sized = vector_fixed v d (Some text) xs sized f
        by false sized = word_fixed v d xs sized f

    pub name_fixed : (v : Values) (text : List ℕ) (xs : Selects)
        → IsSome (declared_as ds text >>= λ d. if is_none d.words then vector_size ds d xs else word_size ds d xs)
        → fixed ds xs ≡ true → name_bits ds v text xs ≡ name_bits ds no_values text xs
    name_fixed v text xs sized f = by (declared_as ds text) sized
      where
        by : (o : Option Decl)
            → IsSome (o >>= λ d. if is_none d.words then vector_size ds d xs else word_size ds d xs)
            → spots_of o (λ d. if is_none d.words then vector_bits ds v d (Some text) xs else word_bits ds v d xs)
            ≡ spots_of o (λ d. if is_none d.words then vector_bits ds no_values d (Some text) xs
            else word_bits ds no_values d xs)
        by None sized = refl
        by (Some d) sized = decl_fixed v text d xs sized f

    module _ (may : Decl → Bool) (counted : (d : Decl) → may d ≡ true → is_clock_class d.class ≡ false) (fix : Bool) where
      found : (o : Option Decl) → is_decl o may ≡ true → (d : Decl) × (o ≡ Some d) × (may d ≡ true)
      found None h = absurd (true≢false (sym h))
      found (Some d) h = (d, refl, h)

      marks_name : (p : Pos) (text : List ℕ) (xs : Selects)
          → IsTarget ds may fix (named p text xs) → Marks (named p text xs)
      marks_name p text xs h = record {
        there = λ v n k s.
            let is = name_spot_is v text xs d e n k (spot v n k s) in
            record {
              decl = d;
              of = record { declared = own; cell = is.0 };
              below = is.1;
              counted = counted d r.2;
            };
        reached = λ v n k s.
            let f : fixed ds xs ≡ true =
            sym (flat_fixed ds xs) ∙ and_left (are_fixed (flat_scopes ds) xs) (selected ds text xs n k) s in
            let t : decl_selected ds d text xs n k ≡ true =
            sym (selected_at ds text xs d e n k) ∙ and_right (are_fixed (flat_scopes ds) xs) (selected ds text xs n k) s in
            let at : has_spot n k (name_bits ds no_values text xs) ≡ true =
            subst (λ b. (if b then has_spot n k (name_bits ds no_values text xs)
            else is_cell text d.words n && nat_lt k d.width) ≡ true) f t in
            ap (has_spot n k) (flat_name ds v text xs ∙ name_fixed v text xs h.0.sized f) ∙ at;
        within = λ v n k s. selected_at ds text xs d e n k ∙ chosen v n k (fixed ds xs) refl (spot v n k s);
      }
        where
          r : (d : Decl) × (declared_as ds text ≡ Some d) × (may d ≡ true)
          r = found (declared_as ds text) h.1

          d : Decl
          d = r.0

          e : declared_as ds text ≡ Some d
          e = r.1

          same : text ≡ d.name
          same = declared_name ds text d e

          own : declared_as ds d.name ≡ Some d
          own = subst (λ t. declared_as ds t ≡ Some d) same e

          spot : (v : Values) (n : List ℕ) (k : ℕ) → has_spot n k (spots (flat_scopes ds) v (named p text xs)) ≡ true
              → has_spot n k (name_bits ds v text xs) ≡ true
          spot v n k s = ap (has_spot n k) (sym (flat_name ds v text xs)) ∙ s

          chosen : (v : Values) (n : List ℕ) (k : ℕ) (b : Bool) → fixed ds xs ≡ b
              → has_spot n k (name_bits ds v text xs) ≡ true
              → (if b then has_spot n k (name_bits ds no_values text xs)
              else is_cell text d.words n && nat_lt k d.width) ≡ true
          chosen v n k true f s = ap (has_spot n k) (sym (name_fixed v text xs h.0.sized f)) ∙ s
          chosen v n k false f s =
              let is = name_spot_is v text xs d e n k s in
              and_both (is_cell text d.words n) (nat_lt k d.width) (ap (λ t. is_cell t d.words n) same ∙ is.0)
              (grind (arith, nat_tests, is.1))

      mutual
        pub marks : (l : Lval) → IsTarget ds may fix l → Marks l
        marks (named p text xs) h = marks_name p text xs h
        marks (joined p ls) h = record {
          there = λ v n k s. all_there ls h v n k s;
          reached = λ v n k s. all_reached ls h v n k s;
          within = λ v n k s. all_within ls h v n k s;
        }

        all_there : (ls : Lvals) → AreTargets ds may fix ls → (v : Values) (n : List ℕ) (k : ℕ)
            → has_spot n k (all_spots (flat_scopes ds) v ls) ≡ true → IsBitOf ds n k
        all_there no_lvals h v n k s = absurd (true≢false (sym s))
        all_there (more_lvals l ls) h v n k s =
            or_case (has_spot n k (spots (flat_scopes ds) v l)) (has_spot n k (all_spots (flat_scopes ds) v ls))
            (λ t. (marks l h.0).there v n k t) (λ t. all_there ls h.1 v n k t)
            (sym (spot_append n k (spots (flat_scopes ds) v l) (all_spots (flat_scopes ds) v ls)) ∙ s)

        all_reached : (ls : Lvals) → AreTargets ds may fix ls → (v : Values) (n : List ℕ) (k : ℕ)
            → any_sets ds ls n k ≡ true → has_spot n k (all_spots (flat_scopes ds) v ls) ≡ true
        all_reached no_lvals h v n k s = absurd (true≢false (sym s))
        all_reached (more_lvals l ls) h v n k s =
            spot_append n k (spots (flat_scopes ds) v l) (all_spots (flat_scopes ds) v ls)
            ∙ or_either (sets ds l n k) (any_sets ds ls n k)
            (has_spot n k (spots (flat_scopes ds) v l) || has_spot n k (all_spots (flat_scopes ds) v ls))
            (λ t. or_left (has_spot n k (spots (flat_scopes ds) v l))
            (has_spot n k (all_spots (flat_scopes ds) v ls)) ((marks l h.0).reached v n k t))
            (λ t. or_right (has_spot n k (spots (flat_scopes ds) v l))
            (has_spot n k (all_spots (flat_scopes ds) v ls)) (all_reached ls h.1 v n k t)) s

        all_within : (ls : Lvals) → AreTargets ds may fix ls → (v : Values) (n : List ℕ) (k : ℕ)
            → has_spot n k (all_spots (flat_scopes ds) v ls) ≡ true → any_may_change (flat_scopes ds) ls n k ≡ true
        all_within no_lvals h v n k s = absurd (true≢false (sym s))
        all_within (more_lvals l ls) h v n k s =
            or_either (has_spot n k (spots (flat_scopes ds) v l)) (has_spot n k (all_spots (flat_scopes ds) v ls))
            (may_change (flat_scopes ds) l n k || any_may_change (flat_scopes ds) ls n k)
            (λ t. or_left (may_change (flat_scopes ds) l n k) (any_may_change (flat_scopes ds) ls n k)
            ((marks l h.0).within v n k t))
            (λ t. or_right (may_change (flat_scopes ds) l n k) (any_may_change (flat_scopes ds) ls n k)
            (all_within ls h.1 v n k t))
            (sym (spot_append n k (spots (flat_scopes ds) v l) (all_spots (flat_scopes ds) v ls)) ∙ s)
