-- The places that one driver more adds.
use Rattle.std.specs.Prelude.{◌≡◌, refl, ℕ, ◌+◌, ◌<◌, ◌≤◌, ◌==◌, List, [], ◌∷◌, ◌++◌, length, take, Bool, true, false}
use Rattle.std.specs.Prelude.{◌||◌, is_none, Option, Some, None, replicate, slice_get, if◌then◌else◌, ℤ}
use Rattle.std.proofs.Common.{ap, sym, ◌∙◌, arith, subst, true≢false, get_or}
use Rattle.std.proofs.lemmas.Bool.Decides.{nat_tests}
use Rattle.std.proofs.lemmas.List.{append-nil, append_assoc, take_all, take_more}
use Rattle.std.proofs.lemmas.Option.{same_Some, slice_get-get_or}
use Rattle.fv_text.specs.declared.pos.Pos.{Pos}
use Rattle.vl_tree.specs.Expr.{Expr}
use Rattle.vl_tree.specs.Lval.{Lval}
use Rattle.vl_tree.specs.Stmt.{Stmt}
use Rattle.vl_size.specs.declared.decl.Decl.{Decl}
use Rattle.vl_mean.specs.Cells.{cells, cells_of}
use Rattle.vl_mean.specs.declared.driver.Driver.{Driver}
use Rattle.vl_mean.specs.declared.driver.DriverKind.{DriverKind}
use Rattle.vl_mean.specs.declared.driver.DriverKind.TheVariants as k
use Rattle.fv_bit_sets.specs.declared.step.Step.{Step}
use Rattle.fv_bit_sets.specs.Cells.{has}
use Rattle.vl_flow_spec.specs.Drivers.{driven_by}
use Rattle.vl_flow_spec.specs.Reads.{Bits}
use Rattle.vl_flow_spec.specs.Refusals.{has_bit, places_of, times_driven, times_of}
use Rattle.vl_flow_cells.specs.Numbered.{all_cells, first_cell, Shows}
use Rattle.vl_flow_cells.proofs.Lists.{get_less}
use Rattle.vl_flow_cells.proofs.Numbers.{numbered}
use Rattle.vl_flow_check.specs.Layouts.{Marks}
use Rattle.vl_flow_check.proofs.Tests.{or_same}
use Rattle.vl_flow_check.specs.declared.share.Share.{Share}
use Rattle.vl_flow_check.specs.Shares.{places_at, target_places, AddsPlaces, AreBitShares, AreNameShares}
use Rattle.vl_flow_check.proofs.Once.{one_if}
use Rattle.vl_flow_check.proofs.Places.{share_more}

-- ---- one driver

-- all bits of a block, as one share
pub block_added : (drives made : List Step) (place : Pos) (before after : List Share)
    → ((c i : ℕ) → has made c i ≡ (has drives c i || has drives c i))
    → after ≡ before ++ record { bits = made; pos = place } ∷ []
    → (ds : List Decl) (K : Bits) → Shows ds (has drives) K
    → AddsPlaces ds before after (λ n i. replicate (if K n i then 1 else 0) place)
block_added drives made place before after is pushed ds K shows c n i e =
    share_more before after (record { bits = made; pos = place }) c i pushed
    ∙ ap (λ b. places_at before c i ++ replicate (one_if b) place) (is c i ∙ or_same (has drives c i) ∙ shows c n i e)

module _ (ds : List Decl) (before after : List Share) (p : Pos) (x : DriverKind) where
  abbrev AddsTimes : DriverKind → Type 0
  AddsTimes y = AddsPlaces ds before after (λ n i. replicate (times_driven ds y n i) p)

  pub assign_added : (l : Lval) (e : Expr) → x ≡ k.Assign l e → AddsPlaces ds before after (target_places ds l p)
      → AddsTimes x
  assign_added l e is h = subst AddsTimes (sym is) h

  pub comb_added : (s : Stmt) → x ≡ k.Comb s
      → AddsPlaces ds before after (λ n i. replicate (if driven_by ds x n i then 1 else 0) p) → AddsTimes x
  comb_added s is =
      subst (λ y. AddsPlaces ds before after (λ n i. replicate (if driven_by ds y n i then 1 else 0) p) → AddsTimes y)
      (sym is) (λ h. h)

  pub clocked_added : (s : Stmt) → x ≡ k.Clocked s
      → AddsPlaces ds before after (λ n i. replicate (if driven_by ds x n i then 1 else 0) p) → AddsTimes x
  clocked_added s is =
      subst (λ y. AddsPlaces ds before after (λ n i. replicate (if driven_by ds y n i then 1 else 0) p) → AddsTimes y)
      (sym is) (λ h. h)

-- ---- the places of the first drivers, and of one more

module _ (ds : List Decl) where
  places_both : (xs ys : List Driver) (d : Decl) (i : ℕ)
      → places_of ds (xs ++ ys) d i ≡ places_of ds xs d i ++ places_of ds ys d i
  places_both [] ys d i = refl
  places_both (x ∷ xs) ys d i =
      ap (λ ps. replicate (times_of ds x.what d i) x.pos ++ ps) (places_both xs ys d i)
      ∙ sym (append_assoc (replicate (times_of ds x.what d i) x.pos) (places_of ds xs d i) (places_of ds ys d i))

  places_more : (drivers : List Driver) (at : ℕ) (x : Driver) (d : Decl) (i : ℕ) → slice_get drivers at ≡ Some x
      → places_of ds (take (at + 1) drivers) d i
      ≡ places_of ds (take at drivers) d i ++ replicate (times_of ds x.what d i) x.pos
  places_more drivers at x d i e =
      let less = get_less drivers at x e in
      let same : get_or drivers at x ≡ x =
      same_Some (get_or drivers at x) x (sym (slice_get-get_or drivers at x less) ∙ e) in
      ap (λ ys. places_of ds ys d i) (take_more drivers at x less ∙ ap (λ y. take at drivers ++ y ∷ []) same)
      ∙ places_both (take at drivers) (x ∷ []) d i
      ∙ ap (λ ps. places_of ds (take at drivers) d i ++ ps) (append-nil (replicate (times_of ds x.what d i) x.pos))

  -- ---- vectors

  pub one_cell : (d : Decl) → is_none d.words ≡ true → cells d ≡ d.name ∷ []
  one_cell d none = by d.words none
    where
      by : (w : Option (ℤ × ℤ)) → is_none w ≡ true → cells_of d.name w ≡ d.name ∷ []
      by None h = refl
      by (Some b) h = absurd (true≢false (sym h))

  pub vector_cell : (at : ℕ) (d : Decl) → slice_get ds at ≡ Some d → is_none d.words ≡ true
      → slice_get (all_cells ds) (first_cell ds at) ≡ Some d.name
  vector_cell at d e none =
      let here : first_cell ds at ≡ first_cell ds at + 0 = omega arith in
      numbered ds at d 0 d.name (first_cell ds at) e (ap (λ cs. slice_get cs 0) (one_cell d none)) here

  vector_times : (x : DriverKind) (d : Decl) (i : ℕ) → is_none d.words ≡ true
      → times_of ds x d i ≡ times_driven ds x d.name i
  vector_times x d i none =
      ap (λ b. if b then times_driven ds x d.name i else (if has_bit (driven_by ds x) d then 1 else 0)) none

  memory_times : (x : DriverKind) (d : Decl) (i : ℕ) → is_none d.words ≡ false
      → times_of ds x d i ≡ one_if (has_bit (driven_by ds x) d)
  memory_times x d i some =
      ap (λ b. if b then times_driven ds x d.name i else (if has_bit (driven_by ds x) d then 1 else 0)) some

  module _ (drivers : List Driver) where
    pub no_bits : (shares : List Share) → shares ≡ [] → AreBitShares ds (take 0 drivers) shares
    no_bits shares e at i d f none = ap (λ xs. places_at xs (first_cell ds at) i) e

    pub bits_more : (k : ℕ) (x : Driver) (shares more : List Share) → slice_get drivers k ≡ Some x
        → AreBitShares ds (take k drivers) shares
        → AddsPlaces ds shares more (λ n i. replicate (times_driven ds x.what n i) x.pos)
        → AreBitShares ds (take (k + 1) drivers) more
    bits_more k x shares more e were added at i d f none =
        added (first_cell ds at) d.name i (vector_cell at d f none)
        ∙ ap (λ ps. ps ++ replicate (times_driven ds x.what d.name i) x.pos) (were at i d f none)
        ∙ ap (λ m. places_of ds (take k drivers) d i ++ replicate m x.pos) (sym (vector_times x.what d i none))
        ∙ sym (places_more drivers k x d i e)

    pub all_bits : (shares : List Share) (k : ℕ) → length drivers ≤ k → AreBitShares ds (take k drivers) shares
        → AreBitShares ds drivers shares
    all_bits shares k le h = subst (λ xs. AreBitShares ds xs shares) (take_all k drivers le) h

    -- ---- memories

    pub no_names : (shares : List Share) → shares ≡ [] → AreNameShares ds (take 0 drivers) shares
    no_names shares e at i d f some = ap (λ xs. places_at xs at i) e ∙ none (i == 0)
      where
        none : (b : Bool) → [] ≡ (if b then places_of ds [] d i else [])
        none true = refl
        none false = refl

    pub names_more : (k : ℕ) (x : Driver) (bits : List Step) (place : Pos) (shares more : List Share)
        → slice_get drivers k ≡ Some x → place ≡ x.pos → Marks ds bits (has_bit (driven_by ds x.what))
        → AreNameShares ds (take k drivers) shares → more ≡ shares ++ record { bits = bits; pos = place } ∷ []
        → AreNameShares ds (take (k + 1) drivers) more
    names_more k x bits place shares more e where_it_is marks were pushed at i d f some =
        share_more shares more (record { bits = bits; pos = place }) at i pushed ∙ by (i == 0) refl
      where
        old : (b : Bool) → (i == 0) ≡ b → places_at shares at i ≡ (if b then places_of ds (take k drivers) d i else [])
        old b t = were at i d f some ∙ ap (λ c. if c then places_of ds (take k drivers) d i else []) t

        by : (b : Bool) → (i == 0) ≡ b
            → places_at shares at i ++ replicate (one_if (has bits at i)) place
            ≡ (if i == 0 then places_of ds (take (k + 1) drivers) d i else [])
        by true t =
            let zero_it : i ≡ 0 = grind (arith, nat_tests, t) in
            ap (λ ps. ps ++ replicate (one_if (has bits at i)) place) (old true t)
            ∙ (λ j. places_of ds (take k drivers) d i
            ++ replicate ((ap (λ z. one_if (has bits at z)) zero_it ∙ ap one_if (marks.is at d f)
            ∙ sym (memory_times x.what d i some)) j) (where_it_is j))
            ∙ sym (places_more drivers k x d i e)
            ∙ sym (ap (λ c. if c then places_of ds (take (k + 1) drivers) d i else []) t)
        by false t =
            let above : 0 < i = grind (arith, nat_tests, t) in
            (λ j. old false t j ++ replicate (one_if (marks.alone at i above j)) place)
            ∙ sym (ap (λ c. if c then places_of ds (take (k + 1) drivers) d i else []) t)

    pub all_names : (shares : List Share) (k : ℕ) → length drivers ≤ k → AreNameShares ds (take k drivers) shares
        → AreNameShares ds drivers shares
    all_names shares k le h = subst (λ xs. AreNameShares ds xs shares) (take_all k drivers le) h
