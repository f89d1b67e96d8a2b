-- The cells of vectors and of words of memories.
use Rattle.std.specs.Prelude.{◌≡◌, refl, ℕ, ◌+◌, ◌<◌, ◌≤◌, ◌==◌, ◌&&◌, nat_lt, Bool, true, false, List, Option, Some}
use Rattle.std.specs.Prelude.{None}
use Rattle.std.specs.Prelude.{All, ℤ, ◌-ℤ◌, int_le, nat_abs, is_none, bytes_eq, slice_get, if◌then◌else◌}
use Rattle.std.proofs.Common.{ap, sym, ◌∙◌, arith, true≢false}
use Rattle.std.proofs.lemmas.Bool.Decides.{nat_tests}
use Rattle.std.proofs.lemmas.Option.{same_Some}
use Rattle.std.proofs.lemmas.Slice.Eq.{bytes_eq-Decides}
use Rattle.vl_size.specs.declared.decl.Decl.{Decl}
use Rattle.vl_size.specs.Size.{Values}
use Rattle.vl_size.specs.Table.{AreApart, AreDifferent, is_between, span, word_name}
use Rattle.vl_mean.specs.FlatLaw.{IsKept}
use Rattle.vl_mean.specs.Targets.{full_word, word_index}
use Rattle.wn_net.specs.Value.{Given}
use Rattle.wn_net.specs.Net.{Netlist, IsNode, value_at}
use Rattle.wn_net.specs.Given.{IsGiven}
use Rattle.wn_net.specs.Changes.{AddsNodes}
use Rattle.wn_net.proofs.Laws.{adds_none}
use Rattle.vl_flow_cells.specs.Numbered.{all_cells, first_cell}
use Rattle.vl_flow_cells.specs.Places.{index_at}
use Rattle.vl_flow_cells.proofs.Numbers.{numbered, own_number}
use Rattle.vl_flow_cells.proofs.Ranges as ranges
use Rattle.vl_lower_nodes.specs.Points.{IsAddress, distance, past}
use Rattle.vl_lower_expr.proofs.Words.{address_at, address_past}
use Rattle.vl_lower_assign.specs.declared.slot.Holder.TheVariants as holder
use Rattle.vl_lower_assign.specs.Slots.{hits}
use Rattle.vl_lower_assign.specs.Frames.{Stand, is_named}
use Rattle.vl_lower_stmt.specs.Located.{IsHeld}
use Rattle.vl_lower_stmt.proofs.Named.{vector_cell, width_of, word_cell}

-- what isn't there isn't between
pub unpassed : {A : Type 0} (t : Bool) (x : A) → (if t then Some x else None) ≡ None → t ≡ false
unpassed true x e = absurd (true≢false (sym (ap is_none e)))
unpassed false x e = refl

-- the number of a name is one
same_cell : (ds : List Decl) → AreDifferent ds → AreApart ds → All IsKept ds → (i c : ℕ) (n m : List ℕ)
    → slice_get (all_cells ds) i ≡ Some n → slice_get (all_cells ds) c ≡ Some m → (i == c) ≡ bytes_eq n m
same_cell ds different apart kept i c n m at here =
    ranges.same_test (i == c) (bytes_eq n m)
    (λ e.
    let same : i ≡ c = grind (arith, nat_tests, e) in
    (bytes_eq-Decides n m).1 (same_Some n m (sym at ∙ ap (slice_get (all_cells ds)) same ∙ here)))
    (λ e.
    let same = own_number ds different apart kept i c n at (here ∙ ap Some (sym ((bytes_eq-Decides n m).0 e))) in
    grind (arith, nat_tests, same))

module _ (ds : List Decl) (different : AreDifferent ds) (apart : AreApart ds) (kept : All IsKept ds) (j : ℕ) (d : Decl)
    (at : slice_get ds j ≡ Some d)
  where
    -- ---- vectors

    pub held_cell : (net : Netlist) (cs : List ℕ) (c : ℕ) → d.words ≡ None → c ≡ first_cell ds j
        → IsHeld ds net net cs d.width (holder.Cell c) (λ v. Some d.name)
    held_cell net cs c none e =
        let sum : c ≡ first_cell ds j + 0 = omega (arith, e) in
        let cell = vector_cell d None none refl in
        record {
          adds = adds_none net;
          wide = width_of ds j d 0 d.name c at cell sum;
          there = tt;
          is = λ g v i n given has f.
              same_cell ds different apart kept i c n d.name f (numbered ds j d 0 d.name c at cell sum);
        }

    -- ---- words at an index

    module _ (b : ℤ × ℤ) (words : d.words ≡ Some b) (z : Values → ℤ) where
      -- the name of the word that has the index
      abbrev named_word : Values → Option (List ℕ)
      named_word v = full_word d.name (word_index d.words (z v))

      inside : (v : Values) → is_between b.0 b.1 (z v) ≡ true → named_word v ≡ Some (word_name d.name (z v))
      inside v e =
          ap (λ o. full_word d.name (word_index o (z v))) words
          ∙ ap (λ t. full_word d.name (if t then Some (z v) else None)) e

      outside : (v : Values) → is_between b.0 b.1 (z v) ≡ false → named_word v ≡ None
      outside v e =
          ap (λ o. full_word d.name (word_index o (z v))) words
          ∙ ap (λ t. full_word d.name (if t then Some (z v) else None)) e

      -- the number of the word
      word_number : (v : Values) (c k : ℕ) → is_between b.0 b.1 (z v) ≡ true → k ≡ nat_abs (z v -ℤ b.0) → c ≡
          first_cell ds j + k
          → slice_get (all_cells ds) c ≡ Some (word_name d.name (z v))
      word_number v c k e same sum =
          let place = ranges.word_at b.0 b.1 (z v) e in
          let less : k < span b.0 b.1 = omega (arith, same, place.0) in
          numbered ds j d k (word_name d.name (index_at (int_le b.0 b.1) b.0 k)) c at (word_cell d b k words less) sum
          ∙ (λ i. Some (word_name d.name ((ap (index_at (int_le b.0 b.1) b.0) same ∙ place.1) i)))

      pub held_word : (net : Netlist) (cs : List ℕ) (first k : ℕ) (i : ℤ) → ((v : Values) → z v ≡ i)
          → is_between b.0 b.1 i ≡ true → k ≡ nat_abs (i -ℤ b.0) → first ≡ first_cell ds j
          → IsHeld ds net net cs d.width (holder.Cell (first + k)) named_word
      held_word net cs first k i constant between place e =
          let less : k < span b.0 b.1 = omega (arith, place, (ranges.word_at b.0 b.1 i between).0) in
          let sum : first + k ≡ first_cell ds j + k = omega (arith, e) in
          record {
            adds = adds_none net;
            wide = width_of ds j d k (word_name d.name (index_at (int_le b.0 b.1) b.0 k)) (first + k) at
                (word_cell d b k words less) sum;
            there = tt;
            is = λ g v m n given has f.
                let here = ap (is_between b.0 b.1) (constant v) ∙ between in
                let own = place ∙ ap (λ y. nat_abs (y -ℤ b.0)) (sym (constant v)) in
                same_cell ds different apart kept m (first + k) n (word_name d.name (z v)) f
                (word_number v (first + k) k here own sum)
                ∙ sym (ap (λ o. is_named o n) (inside v here));
          }

      pub held_nowhere : (net : Netlist) (cs : List ℕ) (i : ℤ) → ((v : Values) → z v ≡ i)
          → is_between b.0 b.1 i ≡ false → IsHeld ds net net cs d.width holder.Nowhere named_word
      held_nowhere net cs i constant between = record {
        adds = adds_none net;
        wide = tt;
        there = tt;
        is = λ g v m n given has f.
            sym (ap (λ o. is_named o n) (outside v (ap (is_between b.0 b.1) (constant v) ∙ between)));
      }

      within : (n count k : ℕ) → n ≡ k → k < count → nat_lt n count ≡ true
      within n count k e less = grind (arith, nat_tests, e, less)

      beyond : (n count : ℕ) → count ≤ n → nat_lt n count ≡ false
      beyond n count far = grind (arith, nat_tests, far)

      -- an address counts from the first word
      pub held_varying : (old new : Netlist) (cs : List ℕ) (first count address : ℕ) → AddsNodes old new
          → IsNode new address → span b.0 b.1 ≤ past → first ≡ first_cell ds j → count ≡ span b.0 b.1
          → ((g : Given) (v : Values) → IsGiven old g → Stand old g ds cs v
          → IsAddress (value_at new g address) (distance (int_le b.0 b.1) b.0 (z v)))
          → IsHeld ds old new cs d.width (holder.Word first count address) named_word
      held_varying old new cs first count address adds there few e size addressed = record {
        adds = adds;
        wide = (
          omega (arith, size),
          λ k less.
              let near : k < span b.0 b.1 = omega (arith, size, less) in
              let sum : first + k ≡ first_cell ds j + k = omega (arith, e) in
              width_of ds j d k (word_name d.name (index_at (int_le b.0 b.1) b.0 k)) (first + k) at
              (word_cell d b k words near) sum,
        );
        there = there;
        is = λ g v m n given has f. by g v m n f (addressed g v given has) (is_between b.0 b.1 (z v)) refl;
      }
        where
          by : (g : Given) (v : Values) (m : ℕ) (n : List ℕ) → slice_get (all_cells ds) m ≡ Some n
              → IsAddress (value_at new g address) (distance (int_le b.0 b.1) b.0 (z v)) → (t : Bool) → is_between
              b.0 b.1 (z v) ≡ t
              → hits new g (holder.Word first count address) m ≡ is_named (named_word v) n
          by g v m n f placed true h =
              let k = value_at new g address in
              let own = address_at b.0 b.1 (z v) k few h placed in
              let less = (ranges.word_at b.0 b.1 (z v) h).0 in
              let sum : first + k ≡ first_cell ds j + k = omega (arith, e) in
              ap (λ t. t && (m == first + k)) (within k count (nat_abs (z v -ℤ b.0)) own (omega (arith, less, size)))
              ∙ same_cell ds different apart kept m (first + k) n (word_name d.name (z v)) f
              (word_number v (first + k) k h own sum)
              ∙ sym (ap (λ o. is_named o n) (inside v h))
          by g v m n f placed false h =
              let k = value_at new g address in
              let far = address_past b.0 b.1 (z v) k few h placed in
              ap (λ t. t && (m == first + k)) (beyond k count (omega (arith, far, size)))
              ∙ sym (ap (λ o. is_named o n) (outside v h))
