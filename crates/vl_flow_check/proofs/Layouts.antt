-- All bits of the first names, and of one more.
use Rattle.std.specs.Prelude.{◌≡◌, ℕ, suc, ◌+◌, ◌<◌, ◌≤◌, List, [], ◌∷◌, ◌++◌, length, Bool, true, false}
use Rattle.std.specs.Prelude.{◌&&◌, ◌||◌, nat_lt, Some, slice_get}
use Rattle.std.proofs.Common.{ap, sym, ◌∙◌, arith, subst, ◌⊎◌, inl, inr}
use Rattle.std.proofs.lemmas.Bool.{cases_order}
use Rattle.std.proofs.lemmas.Bool.Decides.{nat_tests}
use Rattle.std.proofs.lemmas.Option.{same_Some}
use Rattle.vl_size.specs.declared.decl.Decl.{Decl}
use Rattle.fv_bit_sets.specs.declared.step.Step.{Step}
use Rattle.fv_bit_sets.specs.Cells.{has, is_set, IsBare}
use Rattle.vl_flow_order.specs.declared.reads_groups.Groups.{Groups}
use Rattle.vl_flow_order.specs.Sets.{some_has}
use Rattle.vl_flow_order.proofs.Halves.{some_append}
use Rattle.vl_flow_order.proofs.Tests.{or_none}
use Rattle.vl_flow_cells.specs.Numbered.{first_cell}
use Rattle.vl_flow_cells.proofs.Lists.{get_less}
use Rattle.vl_flow_cells.proofs.Numbers.{first_none}
use Rattle.vl_flow_order.specs.CellGroups.{AreGroupsOf, IsCellAt}
use Rattle.vl_flow_order.proofs.Cells.{one_group}
use Rattle.vl_flow_check.specs.declared.layout.Span.{Span}
use Rattle.vl_flow_check.specs.Layouts.{AreBitsAt, AreBitsOf, IsFilled, IsSpan}

module _ (ds : List Decl) (test : Decl → Bool) where
  -- all bits of the names before the place
  abbrev pub AreParts : List (List Step) → ℕ → Type 0
  AreParts parts count =
      (place cell bit : ℕ) (d : Decl) → slice_get ds place ≡ Some d → IsCellAt ds cell place
      → some_has parts cell bit ≡ (nat_lt place count && (test d && nat_lt bit d.width))

  pub no_parts : (parts : List (List Step)) → parts ≡ [] → AreParts parts 0
  no_parts parts e place cell bit d at of =
      let none : nat_lt place 0 ≡ false = grind (arith, nat_tests) in
      ap (λ ps. some_has ps cell bit) e ∙ sym (ap (λ b. b && (test d && nat_lt bit d.width)) none)

  pub one_part_more : (parts more : List (List Step)) (part : List Step) (count : ℕ) → AreParts parts count
      → AreBitsAt ds test count part → more ≡ parts ++ part ∷ [] → AreParts more (count + 1)
  one_part_more parts more part count were is e place cell bit d at of = by (cases_order place count)
    where
      sum : some_has more cell bit ≡ (some_has parts cell bit || has part cell bit)
      sum = ap (λ ps. some_has ps cell bit) e ∙ some_append parts (part ∷ []) cell bit
          ∙ ap (λ b. some_has parts cell bit || b) (or_none (has part cell bit))

      old : (b : Bool) → nat_lt place count ≡ b → some_has parts cell bit ≡ (b && (test d && nat_lt bit d.width))
      old b f = were place cell bit d at of ∙ ap (λ t. t && (test d && nat_lt bit d.width)) f

      goal : (b : Bool) → nat_lt place (count + 1) ≡ b
          → (b && (test d && nat_lt bit d.width))
          ≡ (nat_lt place (count + 1) && (test d && nat_lt bit d.width))
      goal b f = sym (ap (λ t. t && (test d && nat_lt bit d.width)) f)

      by : (place ≡ count) ⊎ ((place < count) ⊎ (count < place))
          → some_has more cell bit ≡ (nat_lt place (count + 1) && (test d && nat_lt bit d.width))
      by (inl same) =
          let low : nat_lt place count ≡ false = grind (arith, nat_tests, same) in
          let high : nat_lt place (count + 1) ≡ true = grind (arith, nat_tests, same) in
          let here = is.inside cell bit d (ap (slice_get ds) (sym same) ∙ at) (subst (IsCellAt ds cell) same of) in
          sum ∙ (λ j. old false low j || here j) ∙ goal true high
      by (inr (inl less)) =
          let low : nat_lt place count ≡ true = grind (arith, nat_tests, less) in
          let high : nat_lt place (count + 1) ≡ true = grind (arith, nat_tests, less) in
          let here = is.outside place cell bit of (λ a. absurd (omega (arith, a, less))) in
          sum ∙ (λ j. old true low j || here j) ∙ or_none (test d && nat_lt bit d.width) ∙ goal true high
      by (inr (inr higher)) =
          let low : nat_lt place count ≡ false = grind (arith, nat_tests, higher) in
          let high : nat_lt place (count + 1) ≡ false = grind (arith, nat_tests, higher) in
          let here = is.outside place cell bit of (λ a. absurd (omega (arith, a, higher))) in
          sum ∙ (λ j. old false low j || here j) ∙ goal false high

  pub all_parts : (parts ps : List (List Step)) (made : List Step) (count : ℕ) → length ds ≤ count
      → AreParts parts count → ps ≡ parts → ((c i : ℕ) → has made c i ≡ some_has ps c i) → AreBitsOf ds test made
  all_parts parts ps made count le were same is place cell bit d at of =
      let less = get_less ds place d at in
      let below : nat_lt place count ≡ true = grind (arith, nat_tests, less, le) in
      is cell bit ∙ ap (λ qs. some_has qs cell bit) same ∙ were place cell bit d at of
      ∙ ap (λ b. b && (test d && nat_lt bit d.width)) below

-- ---- a name's cells

pub first_span : (ds : List Decl) (groups : Groups) (place : ℕ) (s : Span) → place ≡ 0
    → slice_get groups.ends place ≡ Some s.past → s.first ≡ 0 → AreGroupsOf ds groups → IsSpan ds place s
first_span ds groups place s none at e w =
    record { first = e ∙ sym (first_none ds) ∙ ap (first_cell ds) (sym none); past = w.below.pasts place s.past at }

pub later_span : (ds : List Decl) (groups : Groups) (place k : ℕ) (s : Span) → place ≡ suc k
    → slice_get groups.ends place ≡ Some s.past → slice_get groups.ends k ≡ Some s.first → AreGroupsOf ds groups
    → IsSpan ds place s
later_span ds groups place k s behind at before w = record {
  first = w.below.pasts k s.first before ∙ ap (first_cell ds) (sym behind);
  past = w.below.pasts place s.past at;
}

pub name_bits : (ds : List Decl) (test : Decl → Bool) (place : ℕ) (d : Decl) (s : Span) (counted : Bool)
    (made : List Step) → slice_get ds place ≡ Some d → IsSpan ds place s → counted ≡ test d
    → IsFilled s counted d made → AreBitsAt ds test place made
name_bits ds test place d s counted made at span e is = record {
  inside = λ cell bit x here of.
      let one : x ≡ d = same_Some x d (sym here ∙ at) in
      is.inside cell bit (omega (arith, of.0, span.first)) (omega (arith, of.1, span.past))
      ∙ ap (λ b. b && nat_lt bit d.width) e ∙ ap (λ z. test z && nat_lt bit z.width) (sym one);
  outside = λ p cell bit of other. out p cell bit of other (cases_order cell s.first) (cases_order cell s.past);
}
  where
    out : (p cell bit : ℕ) → IsCellAt ds cell p → (p ≡ place → ⊥)
        → (cell ≡ s.first) ⊎ ((cell < s.first) ⊎ (s.first < cell))
        → (cell ≡ s.past) ⊎ ((cell < s.past) ⊎ (s.past < cell)) → has made cell bit ≡ false
    out p cell bit of other (inr (inl less)) l = is.before cell less bit
    out p cell bit of other (inl same) (inl past) = is.behind cell (omega (arith, past)) bit
    out p cell bit of other (inl same) (inr (inr more)) = is.behind cell (omega (arith, more)) bit
    out p cell bit of other (inr (inr high)) (inl past) = is.behind cell (omega (arith, past)) bit
    out p cell bit of other (inr (inr high)) (inr (inr more)) = is.behind cell (omega (arith, more)) bit
    out p cell bit of other (inl same) (inr (inl less)) =
        absurd (other (one_group ds cell p place of
        (omega (arith, same, span.first), omega (arith, less, span.past))))
    out p cell bit of other (inr (inr high)) (inr (inl less)) =
        absurd (other (one_group ds cell p place of
        (omega (arith, high, span.first), omega (arith, less, span.past))))

pub none_filled : (s : Span) (counted : Bool) (d : Decl) (made : List Step) → s.past ≤ s.first
    → ((c : ℕ) → IsBare made c) → IsFilled s counted d made
none_filled s counted d made le bare = record {
  inside = λ cell bit low high. absurd (omega (arith, low, high, le));
  before = λ cell less. bare cell;
  behind = λ cell high. bare cell;
}

pub all_filled : (s : Span) (counted : Bool) (d : Decl) (mask : ℕ) (made : List Step)
    → ((i : ℕ) → is_set mask i ≡ (counted && nat_lt i d.width))
    → ((c i : ℕ) → s.first ≤ c → c < s.past → has made c i ≡ is_set mask i)
    → ((c : ℕ) → c < s.first → IsBare made c) → ((c : ℕ) → s.past ≤ c → IsBare made c)
    → IsFilled s counted d made
all_filled s counted d mask made is inside before behind = record {
  inside = λ cell bit low high. inside cell bit low high ∙ is bit;
  before = before;
  behind = behind;
}
