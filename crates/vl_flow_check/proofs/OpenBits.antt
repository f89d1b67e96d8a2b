-- The first net with a bit that no driver may assign.
use Rattle.std.specs.Prelude.{◌≡◌, refl, ℕ, zero, suc, ◌+◌, ◌<◌, ◌≤◌, ◌^◌, ◌==◌, List, [], ◌∷◌, length, Bool}
use Rattle.std.specs.Prelude.{true, false, ◌&&◌, ◌||◌, not, nat_lt, All, Option, Some, None, IfSome, is_none}
use Rattle.std.specs.Prelude.{slice_get, if◌then◌else◌, ℤ}
use Rattle.std.proofs.Common.{ap, sym, ◌∙◌, arith, subst, true≢false, ◌⊎◌, inl, inr}
use Rattle.std.proofs.lemmas.Bool.{and_parts, cases_order}
use Rattle.std.proofs.lemmas.Bool.Decides.{nat_tests}
use Rattle.std.proofs.lemmas.Nat.Bits.{bit_at-trailing_zeros}
use Rattle.std.proofs.lemmas.Option.{same_Some}
use Rattle.std.specs.Int.{trailing_zeros, w128}
use Rattle.vl_size.specs.declared.decl.Class.{Class}
use Rattle.vl_size.specs.declared.decl.Class.TheVariants as class
use Rattle.vl_size.specs.declared.decl.Decl.{Decl}
use Rattle.vl_mean.specs.Cells.{cells, cells_of}
use Rattle.vl_mean.specs.FlatLaw.{is_net, is_variable, IsKept, IsMemory}
use Rattle.vl_mean.specs.declared.driver.Driver.{Driver}
use Rattle.vl_flow_spec.specs.Drivers.{driven_by}
use Rattle.vl_flow_spec.specs.Refusals.{driven_in, first_below, undriven, with_bit_of}
use Rattle.fv_bit_sets.specs.declared.step.Step.{Step}
use Rattle.fv_bit_sets.specs.Cells.{has, is_set, IsBare, IsBefore}
use Rattle.fv_bit_sets.proofs.Masks.{set_zero}
use Rattle.vl_flow_cells.specs.Numbered.{all_cells, first_cell}
use Rattle.vl_flow_cells.proofs.Lists.{all_at, get_some}
use Rattle.vl_flow_cells.proofs.Numbers.{next_first, numbered}
use Rattle.vl_flow_order.specs.declared.reads_groups.Groups.{Groups}
use Rattle.vl_flow_order.specs.CellGroups.{AreGroupsOf, IsCellAt}
use Rattle.vl_flow_order.proofs.Cells.{first_rises}
use Rattle.vl_flow_order.specs.Sets.{some_has}
use Rattle.vl_flow_check.specs.Layouts.{AreBitsOf}
use Rattle.vl_flow_check.specs.Rows.{AreSets}
use Rattle.vl_flow_check.specs.Undriven.{IsUndriven, TellsBit}
use Rattle.vl_flow_check.proofs.Firsts.{first_at, none_at}
use Rattle.vl_flow_check.proofs.NameMarks.{cell_less}

pub driven_shown : (ds : List Decl) (sets : List (List Step)) (xs : List Driver) → AreSets ds (driven_by ds) sets xs
    → (c : ℕ) (n : List ℕ) (i : ℕ) → slice_get (all_cells ds) c ≡ Some n → some_has sets c i ≡ driven_in ds xs n i
driven_shown ds [] [] h c n i at = refl
driven_shown ds (s ∷ sets) (x ∷ xs) h c n i at = λ j. h.0 c n i at j || driven_shown ds sets xs h.1 c n i at j
driven_shown ds [] (x ∷ xs) h c n i at = absurd h
driven_shown ds (s ∷ sets) [] h c n i at = absurd h

pub undriven_are : (ds : List Decl) (drivers : List Driver) (sets ps : List (List Step)) (nets driven made : List Step)
    → AreBitsOf ds is_net nets → AreSets ds (driven_by ds) sets drivers → ps ≡ sets
    → ((c i : ℕ) → has driven c i ≡ some_has ps c i)
    → ((c i : ℕ) → has made c i ≡ (has nets c i && not (has driven c i))) → IsUndriven ds drivers made
undriven_are ds drivers sets ps nets driven made are h same is_driven is_made place cell bit d n at of name =
    is_made cell bit
    ∙ (λ j. are place cell bit d at of j && not ((is_driven cell bit ∙ ap (λ qs. some_has qs cell bit) same
    ∙ driven_shown ds sets drivers h cell n bit name) j))

-- ---- which name has a cell

module _ (ds : List Decl) (groups : Groups) (cell : ℕ) (w : AreGroupsOf ds groups) where
  pub none_told : slice_get groups.of_cells cell ≡ None → length (all_cells ds) ≤ cell
  none_told none = by (cases_order cell (length (all_cells ds)))
    where
      inside : cell < length (all_cells ds) → ⊥
      inside less =
          let r = get_some groups.of_cells cell (omega (arith, less, w.cells)) in
          true≢false (ap is_none (sym none ∙ r.1))

      by : (cell ≡ length (all_cells ds)) ⊎ ((cell < length (all_cells ds)) ⊎ (length (all_cells ds) < cell))
          → length (all_cells ds) ≤ cell
      by (inl same) = omega (arith, same)
      by (inr (inl less)) = absurd (inside less)
      by (inr (inr more)) = omega (arith, more)

  pub named_told : (bit place : ℕ) (name : List ℕ) → slice_get groups.of_cells cell ≡ Some place
      → ((d : Decl) → slice_get ds place ≡ Some d → name ≡ d.name) → TellsBit ds cell bit (Some (name, bit))
  named_told bit place name of is =
      let r = get_some ds place (w.below.known cell place of) in record {
        place = place;
        decl = r.0;
        at = r.1;
        of = w.below.of cell place of;
        is = ap (λ n. (n, bit)) (is r.0 r.1);
      }

-- ---- the first cell with a bit

pub some_open : (made : List Step) (next : Option ℕ) (cell : ℕ) → next ≡ Some cell
    → IfSome next (λ c. (0 ≤ c) × ((bit : ℕ) × (has made c bit ≡ true))) → (bit : ℕ) × (has made cell bit ≡ true)
some_open made None cell e h = absurd (true≢false (ap is_none e))
some_open made (Some c) cell e h = subst (λ x. (bit : ℕ) × (has made x bit ≡ true)) (same_Some c cell e) h.1

pub all_before : (made : List Step) (next : Option ℕ) (cell : ℕ) → next ≡ Some cell
    → ((c : ℕ) → 0 ≤ c → IsBefore c next → IsBare made c) → (c : ℕ) → 0 ≤ c → c < cell → IsBare made c
all_before made None cell e h c low less = absurd (true≢false (ap is_none e))
all_before made (Some x) cell e h c low less = h c low (subst (λ y. c < y) (sym (same_Some x cell e)) less)

-- ---- the lowest bit

pub none_below : (p : ℕ → Bool) (n : ℕ) → ((i : ℕ) → i < n → p i ≡ false) → first_below p n ≡ None
none_below p zero h = refl
none_below p (suc n) h =
    ap (λ o. if is_none o && p n then Some n else o) (none_below p n (λ i less. h i (omega (arith, less))))
    ∙ ap (λ b. if b then Some n else None) (h n (omega arith))

pub lowest_below : (p : ℕ → Bool) (n i : ℕ) → i < n → p i ≡ true → ((j : ℕ) → j < i → p j ≡ false)
    → first_below p n ≡ Some i
lowest_below p zero i less is before = absurd (omega (arith, less))
lowest_below p (suc n) i less is before =
    by (lowest_below p n i) (i == n) refl
  where
    by : (i < n → p i ≡ true → ((j : ℕ) → j < i → p j ≡ false) → first_below p n ≡ Some i) → (b : Bool)
        → (i == n) ≡ b → (if is_none (first_below p n) && p n then Some n else first_below p n) ≡ Some i
    by f true e =
        let same : n ≡ i = grind (arith, nat_tests, e) in
        let low = none_below p n (λ j h. before j (omega (arith, h, same))) in
        ap (λ o. if is_none o && p n then Some n else o) low
        ∙ ap (λ b. if b then Some n else None) (ap p same ∙ is) ∙ ap Some same
    by f false e =
        let inner = f (grind (arith, nat_tests, e, less)) is before in
        ap (λ o. if is_none o && p n then Some n else o) inner

pub lowest_bit : (mask bit : ℕ) → mask < 2 ^ 128 → is_set mask bit ≡ true
    → (is_set mask (trailing_zeros w128 mask) ≡ true)
    × ((j : ℕ) → j < trailing_zeros w128 mask → is_set mask j ≡ false)
lowest_bit mask bit fits set =
    let r = bit_at-trailing_zeros w128 mask (positive mask set) fits in
    (ap (λ z. z == 1) r.1, λ j less. ap (λ z. z == 1) (r.2 j less))
  where
    positive : (m : ℕ) → is_set m bit ≡ true → 0 < m
    positive zero h = absurd (true≢false (sym h ∙ set_zero bit))
    positive (suc m) h = omega arith

-- ---- nets have one cell

module _ (ds : List Decl) (kept : All IsKept ds) where
  net_class : (d : Decl) → is_net d ≡ true → is_variable d ≡ true → ⊥
  net_class d h k = by d.class refl
    where
      by : (c : Class) → d.class ≡ c → ⊥
      by class.Net e = true≢false (sym k ∙ ap (λ z. is_variable (record d { class = z })) e)
      by c e = true≢false (sym h ∙ ap (λ z. is_net (record d { class = z })) e)

  net_cells : (d : Decl) → IsKept d → is_net d ≡ true → cells d ≡ d.name ∷ []
  net_cells d of net = by d.words refl of.memory
    where
      by : (w : Option (ℤ × ℤ)) → d.words ≡ w → IsMemory w d → cells_of d.name w ≡ d.name ∷ []
      by None e h = refl
      by (Some b) e h = absurd (net_class d net h.2)

  module _ (drivers : List Driver) (made : List Step) (is : IsUndriven ds drivers made) where
    named : Decl → Option (List ℕ × ℕ)
    named d =
        if is_net d then with_bit_of d.name (first_below (λ i. not (driven_in ds drivers d.name i)) d.width) else None

    -- a net's only cell
    record NetCell (place : ℕ) (d : Decl) : Type 0 where
      of : IsCellAt ds (first_cell ds place) place
      number : slice_get (all_cells ds) (first_cell ds place) ≡ Some d.name

    net_cell : (place : ℕ) (d : Decl) → slice_get ds place ≡ Some d → is_net d ≡ true → NetCell place d
    net_cell place d at net =
        let one = net_cells d (all_at IsKept ds place d at kept) net in
        let next = next_first ds place d at in
        let size : length (cells d) ≡ 1 = ap length one in
        let c : first_cell ds place ≡ first_cell ds place + 0 = omega arith in record {
          of = (omega arith, omega (arith, next, size));
          number = numbered ds place d 0 d.name (first_cell ds place) at (ap (λ cs. slice_get cs 0) one) c;
        }

    open_bit : (place bit : ℕ) (d : Decl) → slice_get ds place ≡ Some d → is_net d ≡ true → bit < d.width
        → has made (first_cell ds place) bit ≡ not (driven_in ds drivers d.name bit)
    open_bit place bit d at net less =
        let cell = net_cell place d at net in
        let test : nat_lt bit d.width ≡ true = grind (arith, nat_tests, less) in
        is place (first_cell ds place) bit d d.name at cell.of cell.number
        ∙ ap (λ b. (b && nat_lt bit d.width) && not (driven_in ds drivers d.name bit)) net
        ∙ ap (λ b. b && not (driven_in ds drivers d.name bit)) test

    bare_none : (place : ℕ) (d : Decl) → slice_get ds place ≡ Some d
        → (is_net d ≡ true → IsBare made (first_cell ds place)) → named d ≡ None
    unfolding named
    bare_none place d at bare = by (is_net d) refl
      where
        by : (b : Bool) → is_net d ≡ b
            → (if b then with_bit_of d.name (first_below (λ i. not (driven_in ds drivers d.name i)) d.width) else None)
            ≡ None
        by false e = refl
        by true e =
            ap (with_bit_of d.name) (none_below (λ i. not (driven_in ds drivers d.name i)) d.width
            (λ i less. sym (open_bit place i d at e less) ∙ bare e i))

    pub all_driven : (next : Option ℕ) → ((cell : ℕ) → 0 ≤ cell → IsBefore cell next → IsBare made cell)
        → ((place : ℕ) (d : Decl) → slice_get ds place ≡ Some d → is_net d ≡ true
        → IsBefore (first_cell ds place) next)
        → None ≡ undriven ds drivers
    unfolding named
    all_driven next bare inside =
        sym (none_at named ds
        (λ place d at. bare_none place d at (λ net.
        bare (first_cell ds place) (omega arith) (inside place d at net))))

    pub found_open : (next : Option ℕ) → next ≡ None
        → ((cell : ℕ) → 0 ≤ cell → IsBefore cell next → IsBare made cell) → None ≡ undriven ds drivers
    found_open None e bare = all_driven None bare (λ place d at net. tt)
    found_open (Some c) e bare = absurd (true≢false (sym (ap is_none e)))

    pub past_all : (cell : ℕ) → length (all_cells ds) ≤ cell → (place : ℕ) (d : Decl) → slice_get ds place ≡ Some d
        → is_net d ≡ true → first_cell ds place < cell
    past_all cell le place d at net =
        let cell_of = net_cell place d at net in
        let less = cell_less ds place d (first_cell ds place) at cell_of.of in omega (arith, less, le)

    pub first_open : (place cell mask some : ℕ) (d : Decl) (text : List ℕ) → slice_get ds place ≡ Some d
        → IsCellAt ds cell place → mask < 2 ^ 128 → ((i : ℕ) → is_set mask i ≡ has made cell i)
        → has made cell some ≡ true → ((c : ℕ) → 0 ≤ c → c < cell → IsBare made c) → text ≡ d.name
        → Some (text, trailing_zeros w128 mask) ≡ undriven ds drivers
    unfolding named
    first_open place cell mask some d text at of fits is_mask found bare e =
        ap (λ t. Some (t, bit)) e ∙ sym (first_at named ds place d (d.name, bit) at here before)
      where
        bit : ℕ
        bit = trailing_zeros w128 mask

        name : (n : List ℕ) × (slice_get (all_cells ds) cell ≡ Some n)
        name = get_some (all_cells ds) cell (cell_less ds place d cell at of)

        low : (is_set mask (trailing_zeros w128 mask) ≡ true)
            × ((j : ℕ) → j < trailing_zeros w128 mask → is_set mask j ≡ false)
        low = lowest_bit mask some fits (is_mask some ∙ found)

        parts : ((is_net d && nat_lt bit d.width) ≡ true) × (not (driven_in ds drivers name.0 bit) ≡ true)
        parts = and_parts (is_net d && nat_lt bit d.width) (not (driven_in ds drivers name.0 bit))
            (sym (is place cell bit d name.0 at of name.1) ∙ sym (is_mask bit) ∙ low.0)

        inner : (is_net d ≡ true) × (nat_lt bit d.width ≡ true)
        inner = and_parts (is_net d) (nat_lt bit d.width) parts.0

        less : bit < d.width
        less = let test = inner.1 in grind (arith, nat_tests, test)

        same : cell ≡ first_cell ds place
        same =
            let one = net_cells d (all_at IsKept ds place d at kept) inner.0 in
            let size : length (cells d) ≡ 1 = ap length one in
            let next = next_first ds place d at in omega (arith, of.0, of.1, next, size)

        lowest : first_below (λ i. not (driven_in ds drivers d.name i)) d.width ≡ Some bit
        lowest = lowest_below (λ i. not (driven_in ds drivers d.name i)) d.width bit less
            (sym (open_bit place bit d at inner.0 less)
            ∙ ap (λ c. has made c bit) (sym same) ∙ sym (is_mask bit) ∙ low.0)
            (λ j h. sym (open_bit place j d at inner.0 (omega (arith, h, less)))
            ∙ ap (λ c. has made c j) (sym same) ∙ sym (is_mask j) ∙ low.1 j h)

        here : named d ≡ Some (d.name, bit)
        here =
            ap (λ b. if b then with_bit_of d.name
            (first_below (λ i. not (driven_in ds drivers d.name i)) d.width) else None) inner.0
            ∙ ap (with_bit_of d.name) lowest

        before : (k : ℕ) (z : Decl) → k < place → slice_get ds k ≡ Some z → named z ≡ None
        before k z h g =
            bare_none k z g (λ net.
            let rise = first_rises ds (suc k) place (omega (arith, h)) in
            let cell_of = net_cell k z g net in
            bare (first_cell ds k) (omega arith) (omega (arith, cell_of.of.1, rise, of.0)))

    pub open_told : (cell mask bit : ℕ) (found : Option (List ℕ × ℕ)) → mask < 2 ^ 128
        → ((i : ℕ) → is_set mask i ≡ has made cell i) → has made cell bit ≡ true
        → ((c : ℕ) → 0 ≤ c → c < cell → IsBare made c) → TellsBit ds cell (trailing_zeros w128 mask) found
        → found ≡ undriven ds drivers
    open_told cell mask bit None fits is_mask found_it bare told =
        all_driven (Some cell) bare (past_all cell told)
    open_told cell mask bit (Some f) fits is_mask found_it bare told =
        ap Some told.is
        ∙ first_open told.place cell mask bit told.decl told.decl.name told.at told.of fits is_mask found_it bare refl
