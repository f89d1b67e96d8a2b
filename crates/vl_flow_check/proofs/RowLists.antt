-- Rows of names, driver by driver.
use Rattle.std.specs.Prelude.{◌≡◌, refl, ℕ, zero, suc, ◌+◌, ◌≤◌, List, [], ◌∷◌, ◌++◌, length, take}
use Rattle.std.specs.Prelude.{Bool, true, false, ◌&&◌, ◌||◌, Some, is_none, slice_get}
use Rattle.std.proofs.Common.{ap, sym, ◌∙◌, arith, subst, true≢false, get_or}
use Rattle.std.proofs.lemmas.List.{take_all, take_more}
use Rattle.std.proofs.lemmas.Option.{same_Some, slice_get-get_or}
use Rattle.vl_tree.specs.declared.stmt.AssignKind.{AssignKind}
use Rattle.vl_tree.specs.declared.stmt.AssignKind.TheVariants as k
use Rattle.vl_size.specs.declared.decl.Decl.{Decl}
use Rattle.vl_mean.specs.Cells.{contains_name}
use Rattle.vl_mean.specs.declared.driver.Driver.{Driver}
use Rattle.vl_mean.specs.declared.driver.DriverKind.{DriverKind}
use Rattle.fv_bit_sets.specs.declared.step.Step.{Step}
use Rattle.fv_bit_sets.specs.Cells.{has}
use Rattle.vl_flow_spec.specs.Drivers.{driven_by, needed_by}
use Rattle.vl_flow_spec.specs.Reads.{Bits}
use Rattle.vl_flow_spec.specs.Refusals.{assigns_to, has_bit, names_in}
use Rattle.vl_flow_spec.proofs.Bools.{and_right}
use Rattle.vl_flow_order.specs.declared.footprint.Footprint.{Footprint}
use Rattle.vl_flow_order.specs.Names.{AreNames}
use Rattle.vl_flow_effects.specs.declared.assigned.Assigned.{Assigned}
use Rattle.vl_flow_effects.specs.Assigning.{AreAssignedBy, is_kind, set_of}
use Rattle.vl_flow_cells.specs.Numbered.{Shows}
use Rattle.vl_flow_cells.proofs.Lists.{get_less, get_some}
use Rattle.vl_flow_check.specs.declared.layout.Layout.{Layout}
use Rattle.vl_flow_check.specs.declared.which.Which.{Which}
use Rattle.vl_flow_check.specs.Layouts.{IsLayoutOf, Marks}
use Rattle.vl_flow_check.specs.Rows.{AreNameRows, AreSets, picked, picks}
use Rattle.vl_flow_check.proofs.Tests.{or_same}

module _ (ds : List Decl) where
  sets_push : (K : DriverKind → Bits) (sets : List (List Step)) (xs : List Driver) (s : List Step) (x : Driver)
      → AreSets ds K sets xs → Shows ds (has s) (K x.what) → AreSets ds K (sets ++ s ∷ []) (xs ++ x ∷ [])
  sets_push K [] [] s x h m = (m, tt)
  sets_push K (t ∷ sets) (y ∷ xs) s x h m = (h.0, sets_push K sets xs s x h.1 m)
  sets_push K [] (y ∷ xs) s x h m = absurd h
  sets_push K (t ∷ sets) [] s x h m = absurd h

  module _ (K : DriverKind → Bits) (drivers : List Driver) where
    pub no_sets : (sets : List (List Step)) → sets ≡ [] → AreSets ds K sets (take 0 drivers)
    no_sets sets e = subst (λ ss. AreSets ds K ss []) (sym e) tt

    one_set_more : (sets more : List (List Step)) (set : List Step) (at : ℕ) (x : Driver)
        → slice_get drivers at ≡ Some x → Shows ds (has set) (K x.what) → AreSets ds K sets (take at drivers)
        → more ≡ sets ++ set ∷ [] → AreSets ds K more (take (at + 1) drivers)
    one_set_more sets more set at x e shows were is =
        let less = get_less drivers at x e in
        let same : get_or drivers at x ≡ x =
        same_Some (get_or drivers at x) x (sym (slice_get-get_or drivers at x less) ∙ e) in
        subst (λ ss. AreSets ds K ss (take (at + 1) drivers)) (sym is)
        (subst (AreSets ds K (sets ++ set ∷ [])) (sym (take_more drivers at x less))
        (subst (λ y. AreSets ds K (sets ++ set ∷ []) (take at drivers ++ y ∷ [])) (sym same)
        (sets_push K sets (take at drivers) set x were shows)))

    pub all_sets : (sets : List (List Step)) (at : ℕ) → length drivers ≤ at → AreSets ds K sets (take at drivers)
        → AreSets ds K sets drivers
    all_sets sets at le h = subst (AreSets ds K sets) (take_all at drivers le) h

  pub rows_length : (t : Driver → Decl → Bool) (rows : List (List Step)) (drivers : List Driver)
      → AreNameRows ds t rows drivers → length rows ≡ length drivers
  rows_length t [] [] h = refl
  rows_length t (r ∷ rows) (x ∷ drivers) h = ap suc (rows_length t rows drivers h.1)
  rows_length t [] (x ∷ drivers) h = absurd h
  rows_length t (r ∷ rows) [] h = absurd h

  rows_push : (t : Driver → Decl → Bool) (rows : List (List Step)) (xs : List Driver) (r : List Step) (x : Driver)
      → AreNameRows ds t rows xs → Marks ds r (t x) → AreNameRows ds t (rows ++ r ∷ []) (xs ++ x ∷ [])
  rows_push t [] [] r x h m = (m, tt)
  rows_push t (q ∷ rows) (y ∷ xs) r x h m = (h.0, rows_push t rows xs r x h.1 m)
  rows_push t [] (y ∷ xs) r x h m = absurd h
  rows_push t (q ∷ rows) [] r x h m = absurd h

  module _ (t : Driver → Decl → Bool) (drivers : List Driver) where
    pub no_rows : (rows : List (List Step)) → rows ≡ [] → AreNameRows ds t rows (take 0 drivers)
    no_rows rows e = subst (λ rs. AreNameRows ds t rs []) (sym e) tt

    pub one_row_more : (rows more : List (List Step)) (row : List Step) (at : ℕ) (x : Driver)
        → slice_get drivers at ≡ Some x → Marks ds row (t x) → AreNameRows ds t rows (take at drivers)
        → more ≡ rows ++ row ∷ [] → AreNameRows ds t more (take (at + 1) drivers)
    one_row_more rows more row at x e marks were is =
        let less = get_less drivers at x e in
        let same : get_or drivers at x ≡ x =
        same_Some (get_or drivers at x) x (sym (slice_get-get_or drivers at x less) ∙ e) in
        subst (λ rs. AreNameRows ds t rs (take (at + 1) drivers)) (sym is)
        (subst (AreNameRows ds t (rows ++ row ∷ [])) (sym (take_more drivers at x less))
        (subst (λ y. AreNameRows ds t (rows ++ row ∷ []) (take at drivers ++ y ∷ [])) (sym same)
        (rows_push t rows (take at drivers) row x were marks)))

    pub all_rows : (rows : List (List Step)) (at : ℕ) → length drivers ≤ at → AreNameRows ds t rows (take at drivers)
        → AreNameRows ds t rows drivers
    all_rows rows at le h = subst (AreNameRows ds t rows) (take_all at drivers le) h

-- ---- one turn of each loop

module _ (ds : List Decl) where
  names_by : (kind : AssignKind) (a : Assigned) (y : DriverKind) → AreAssignedBy ds a y
      → AreNames ds (names_in (is_kind kind) y) (has (set_of a kind))
  names_by k.Blocking a y h = h.blocking
  names_by k.Nonblocking a y h = h.nonblocking

  -- names as marks, where they count
  row_marks : (b : Bool) (row set : List Step) (names : List (List ℕ))
      → ((c i : ℕ) → has row c i ≡ (b && has set c i)) → AreNames ds names (has set)
      → Marks ds row (λ d. b && contains_name names d.name)
  row_marks b row set names made h = record {
    is = λ p d at. made p 0 ∙ ap (λ t. b && t) (h.is p d at);
    known = λ p e. h.known p (and_right b (has set p 0) (sym (made p 0) ∙ e));
    alone = λ p i less. made p i ∙ ap (λ t. b && t) (h.alone p i less) ∙ none b;
  }
    where
      none : (b : Bool) → (b && false) ≡ false
      none true = refl
      none false = refl

module _ (ds : List Decl) (drivers : List Driver) (l : Layout) (w : IsLayoutOf ds drivers l) where
  pub picked_more : (which : Which) (kind : AssignKind) (at : ℕ) (a : Assigned) (f : Footprint) (counts : Bool)
      (rows more : List (List Step)) (row : List Step) → slice_get l.assigned at ≡ Some a
      → slice_get l.footprints at ≡ Some f → counts ≡ picks which f.is_clocked
      → ((c i : ℕ) → has row c i ≡ (counts && has (set_of a kind) c i))
      → AreNameRows ds (picked which kind) rows (take at drivers) → more ≡ rows ++ row ∷ []
      → AreNameRows ds (picked which kind) more (take (at + 1) drivers)
  picked_more which kind at a f counts rows more row e g is made were pushed =
      let less = get_less l.assigned at a e in
      let x = get_some drivers at (omega (arith, less, w.assigned.size)) in
      let clocked = (w.footprints.each at f x.0 g x.1).clocked in
      let named = names_by ds kind a x.0.what (w.assigned.each at a x.0 e x.1) in
      let marks = row_marks ds counts row (set_of a kind) (names_in (is_kind kind) x.0.what) made named in
      one_row_more ds (picked which kind) drivers rows more row at x.0 x.1
      (subst (λ b. Marks ds row (λ d. b && assigns_to (is_kind kind) x.0.what d)) (is ∙ ap (picks which) clocked) marks)
      were pushed

  pub read_more : (at : ℕ) (f : Footprint) (rows more : List (List Step)) (row : List Step)
      → slice_get l.footprints at ≡ Some f
      → ((ds : List Decl) (drivers : List Driver) (K : Bits) → IsLayoutOf ds drivers l → Shows ds (has f.needs) K
      → Marks ds row (has_bit K))
      → AreNameRows ds (λ x. has_bit (needed_by ds x.what)) rows (take at drivers) → more ≡ rows ++ row ∷ []
      → AreNameRows ds (λ x. has_bit (needed_by ds x.what)) more (take (at + 1) drivers)
  read_more at f rows more row g named were pushed =
      let less = get_less l.footprints at f g in
      let x = get_some drivers at (omega (arith, less, w.footprints.size)) in
      let shows = (w.footprints.each at f x.0 g x.1).needs in
      one_row_more ds (λ z. has_bit (needed_by ds z.what)) drivers rows more row at x.0 x.1
      (named ds drivers (needed_by ds x.0.what) w shows) were pushed

  pub drives_more : (at : ℕ) (f : Footprint) (sets more : List (List Step)) (set : List Step)
      → slice_get l.footprints at ≡ Some f
      → ((c i : ℕ) → has set c i ≡ (has f.drives c i || has f.drives c i))
      → AreSets ds (driven_by ds) sets (take at drivers) → more ≡ sets ++ set ∷ []
      → AreSets ds (driven_by ds) more (take (at + 1) drivers)
  drives_more at f sets more set g is were pushed =
      let less = get_less l.footprints at f g in
      let x = get_some drivers at (omega (arith, less, w.footprints.size)) in
      let shows = (w.footprints.each at f x.0 g x.1).drives in
      one_set_more ds (driven_by ds) drivers sets more set at x.0 x.1
      (λ c n i e. is c i ∙ or_same (has f.drives c i) ∙ shows c n i e) were pushed
