-- No bit has two drivers, and no target has a bit twice, where no such refusal is there.
use Rattle.std.specs.Prelude.{◌≡◌, refl, ℕ, zero, suc, ◌+◌, ◌<◌, ◌≤◌, ◌==◌, List, [], ◌∷◌, length, Bool, true, false}
use Rattle.std.specs.Prelude.{◌&&◌, ◌||◌, is_none, replicate, bytes_eq, slice_get, Option, Some, None, All, ℤ}
use Rattle.std.specs.Prelude.{if◌then◌else◌}
use Rattle.std.proofs.Common.{ap, sym, ◌∙◌, arith, subst, true≢false}
use Rattle.std.proofs.lemmas.Bool.Decides.{nat_tests}
use Rattle.std.proofs.lemmas.List.{length-append, length-replicate}
use Rattle.std.proofs.lemmas.Option.{same_Some}
use Rattle.std.proofs.lemmas.Slice.Eq.{bytes_eq-Decides}
use Rattle.fv_text.specs.declared.pos.Pos.{Pos}
use Rattle.vl_tree.specs.Expr.{Expr}
use Rattle.vl_tree.specs.Lval.{Lval}
use Rattle.vl_size.specs.declared.decl.Class.{Class}
use Rattle.vl_size.specs.declared.decl.Class.TheVariants as class
use Rattle.vl_size.specs.declared.decl.Decl.{Decl}
use Rattle.vl_size.specs.Table.{declared_as}
use Rattle.vl_mean.specs.declared.driver.Driver.{Driver}
use Rattle.vl_mean.specs.declared.driver.DriverKind.{DriverKind}
use Rattle.vl_mean.specs.declared.driver.DriverKind.TheVariants as k
use Rattle.vl_mean.specs.Cells.{is_cell}
use Rattle.vl_mean.specs.Execution.{assigns}
use Rattle.vl_mean.specs.FlatLaw.{flat_scopes, is_net, is_variable, IsKept, IsMemory, IsDriver, IsAssigned}
use Rattle.vl_mean.specs.Scopes.{no_values}
use Rattle.vl_mean.specs.Targets.{Spot, has_spot, spots, may_change}
use Rattle.vl_flow_spec.specs.Drivers.{driven_by, AreOnce}
use Rattle.vl_flow_spec.proofs.Bools.{and_both, or_left}
use Rattle.vl_flow_spec.proofs.Cells.{HaveOwnCells, declared_all, own_name}
use Rattle.vl_flow_spec.proofs.Execs.{net_counted}
use Rattle.vl_flow_spec.proofs.Stages.{fixed_sets}
use Rattle.vl_flow_spec.proofs.Targets.{marks}
use Rattle.vl_flow_spec.specs.Refusals.{has_bit, count_spot, times_driven, times_of, places_of, are_two, bits_counted}
use Rattle.vl_flow_spec.specs.Refusals.{with_two, twice_driven, two_drivers, first_below, in_order}
use Rattle.vl_flow_spec.proofs.Changed.{IsBitOfKind, driver_changed, target_changed, may_drive}
use Rattle.vl_flow_spec.proofs.Elements.{all_at, each_declared_as}
use Rattle.vl_flow_spec.proofs.Found.{has_it, none_below, lowest_is, none_of_names, ordered}

-- ---- spots that are counted

is_here : List ℕ → ℕ → Spot → Bool
is_here n i s = bytes_eq n s.name && (i == s.offset)

pub counted : (n : List ℕ) (i : ℕ) (spots : List (Option Spot)) → has_spot n i spots ≡ true → 1 ≤ count_spot n i spots
counted n i [] h = absurd (true≢false (sym h))
counted n i (None ∷ spots) h = counted n i spots h
counted n i (Some s ∷ spots) h = by (counted n i spots) (bytes_eq n s.name && (i == s.offset)) h
  where
    by : (has_spot n i spots ≡ true → 1 ≤ count_spot n i spots) → (b : Bool) → (b || has_spot n i spots) ≡ true
        → 1 ≤ (if b then 1 else 0) + count_spot n i spots
    by f true h = omega arith
    by f false h = omega (arith, f h)

same_number : (i : ℕ) → (i == i) ≡ true
same_number i = grind (arith, nat_tests)

abbrev one_if : Bool → ℕ
one_if b = if b then 1 else 0

-- where no bit is counted twice, none is there twice
pub once_each : (ds : List Decl) (spots : List (Option Spot))
    → ((n : List ℕ) (i : ℕ) → has_spot n i spots ≡ true → count_spot n i spots ≤ 1) → AreOnce ds spots
once_each ds [] f = tt
once_each ds (None ∷ spots) f = once_each ds spots f
once_each ds (Some s ∷ spots) f = (by (has_spot s.name s.offset spots) refl, once_each ds spots rest)
  where
    first : has_spot s.name s.offset (Some s ∷ spots) ≡ true
    first =
        or_left (bytes_eq s.name s.name && (s.offset == s.offset)) (has_spot s.name s.offset spots)
        (and_both (bytes_eq s.name s.name) (s.offset == s.offset) ((bytes_eq-Decides s.name s.name).1 refl)
        (same_number s.offset))

    full : one_if (bytes_eq s.name s.name && (s.offset == s.offset)) ≡ 1
    full =
        ap one_if
        (and_both (bytes_eq s.name s.name) (s.offset == s.offset) ((bytes_eq-Decides s.name s.name).1 refl)
        (same_number s.offset))

    by : (b : Bool) → has_spot s.name s.offset spots ≡ b → b ≡ false
    by true e = absurd (omega (arith, f s.name s.offset first, full, counted s.name s.offset spots e))
    by false e = refl

    rest : (n : List ℕ) (i : ℕ) → has_spot n i spots ≡ true → count_spot n i spots ≤ 1
    rest n i h =
        let all = f n i (behind (bytes_eq n s.name && (i == s.offset)) (has_spot n i spots) h) in
        fewer (bytes_eq n s.name && (i == s.offset)) all
      where
        behind : (b c : Bool) → c ≡ true → (b || c) ≡ true
        behind true c h = refl
        behind false c h = h

        fewer : (b : Bool) → (if b then 1 else 0) + count_spot n i spots ≤ 1 → count_spot n i spots ≤ 1
        fewer true h = omega (arith, h)
        fewer false h = omega (arith, h)

-- ---- at most one place

one_place : (ps : List Pos) → are_two ps ≡ false → length ps ≤ 1
one_place [] h = omega arith
one_place (p ∷ []) h = omega arith
one_place (p ∷ q ∷ ps) h = absurd (true≢false h)

two_places : (ps : List Pos) → are_two ps ≡ true → 2 ≤ length ps
two_places [] h = absurd (true≢false (sym h))
two_places (p ∷ []) h = absurd (true≢false (sym h))
two_places (p ∷ q ∷ ps) h = omega arith

no_two : (text : List ℕ) (i : ℕ) (ps : List Pos) → with_two text i ps ≡ None → length ps ≤ 1
no_two text i [] h = omega arith
no_two text i (p ∷ []) h = omega arith
no_two text i (p ∷ q ∷ ps) h = absurd (true≢false (sym (ap is_none h)))

module _ (ds : List Decl) where
  untwice : (drivers : List Driver) (d : Decl) (o : Option ℕ)
      → first_below (λ i. are_two (places_of ds drivers d i)) (bits_counted d) ≡ o
      → twice_driven ds drivers d o ≡ None → (i : ℕ) → i < bits_counted d → are_two (places_of ds drivers d i) ≡ false
  untwice drivers d None f e i less = none_below (λ i. are_two (places_of ds drivers d i)) (bits_counted d) f i less
  untwice drivers d (Some j) f e i less =
      let two = two_places (places_of ds drivers d j)
      (lowest_is (λ i. are_two (places_of ds drivers d i)) (bits_counted d) j f) in
      absurd (omega (
        arith,
        two,
        ordered (places_of ds drivers d j),
        no_two d.name j (in_order (places_of ds drivers d j)) e,
      ))

  -- each bit that counts has at most one place
  pub one_driver : (drivers : List Driver) → two_drivers ds drivers ≡ None → (d : Decl) → declared_as ds d.name ≡ Some d
      → (i : ℕ) → i < bits_counted d → length (places_of ds drivers d i) ≤ 1
  one_driver drivers none d own i less =
      one_place (places_of ds drivers d i)
      (untwice drivers d (first_below (λ i. are_two (places_of ds drivers d i)) (bits_counted d)) refl
      (each_declared_as (λ d. twice_driven ds drivers d
      (first_below (λ i. are_two (places_of ds drivers d i)) (bits_counted d)) ≡ None) ds d.name d own
      (none_of_names (λ d. twice_driven ds drivers d
      (first_below (λ i. are_two (places_of ds drivers d i)) (bits_counted d))) ds none)) i less)

  first_places : (x : Driver) (xs : List Driver) (d : Decl) (i : ℕ) → length (places_of ds (x ∷ xs) d i)
      ≡ times_of ds x.what d i + length (places_of ds xs d i)
  first_places x xs d i =
      length-append (replicate (times_of ds x.what d i) x.pos) (places_of ds xs d i)
      ∙ ap (λ n. n + length (places_of ds xs d i)) (length-replicate (times_of ds x.what d i) x.pos)

  pub one_within : (drivers : List Driver) (d : Decl) (i j : ℕ) (x : Driver) → slice_get drivers j ≡ Some x
      → times_of ds x.what d i ≤ length (places_of ds drivers d i)
  one_within [] d i j x e = absurd (true≢false (ap is_none e))
  one_within (y ∷ ys) d i zero x e =
      let same : times_of ds y.what d i ≡ times_of ds x.what d i = ap (λ z. times_of ds z.what d i) (same_Some y x e) in
      omega (arith, same, first_places y ys d i)
  one_within (y ∷ ys) d i (suc j) x e = omega (arith, one_within ys d i j x e, first_places y ys d i)

  pub both_within : (drivers : List Driver) (d : Decl) (i j m : ℕ) (x y : Driver) → slice_get drivers j ≡ Some x
      → slice_get drivers m ≡ Some y → (j ≡ m → ⊥)
      → times_of ds x.what d i + times_of ds y.what d i ≤ length (places_of ds drivers d i)
  both_within [] d i j m x y e f other = absurd (true≢false (ap is_none e))
  both_within (z ∷ zs) d i zero zero x y e f other = absurd (other refl)
  both_within (z ∷ zs) d i zero (suc m) x y e f other =
      let same : times_of ds z.what d i ≡ times_of ds x.what d i = ap (λ q. times_of ds q.what d i) (same_Some z x e) in
      omega (arith, same, first_places z zs d i, one_within zs d i m y f)
  both_within (z ∷ zs) d i (suc j) zero x y e f other =
      let same : times_of ds z.what d i ≡ times_of ds y.what d i = ap (λ q. times_of ds q.what d i) (same_Some z y f) in
      omega (arith, same, first_places z zs d i, one_within zs d i j x e)
  both_within (z ∷ zs) d i (suc j) (suc m) x y e f other =
      let less = both_within zs d i j m x y e f (λ s. other (ap suc s)) in
      omega (arith, less, first_places z zs d i)

  module _ (wide : (d : Decl) → declared_as ds d.name ≡ Some d → 1 ≤ d.width) (cells : HaveOwnCells ds)
      (kept : All IsKept ds) where
    -- ---- a bit that is driven counts

    -- the bit that counts for it
    abbrev pub counts_as : Decl → ℕ → ℕ
    counts_as d i = if is_none d.words then i else 0

    pub not_both_kinds : (d : Decl) (c : Class) → d.class ≡ c → is_net d ≡ true → is_variable d ≡ true → ⊥
    not_both_kinds d class.Net e n v = true≢false (sym v ∙ ap (λ c. is_variable (record d { class = c })) e)
    not_both_kinds d class.Variable e n v = true≢false (sym n ∙ ap (λ c. is_net (record d { class = c })) e)
    not_both_kinds d class.Clock e n v = true≢false (sym n ∙ ap (λ c. is_net (record d { class = c })) e)
    not_both_kinds d class.Reset e n v = true≢false (sym n ∙ ap (λ c. is_net (record d { class = c })) e)
    not_both_kinds d class.Input e n v = true≢false (sym n ∙ ap (λ c. is_net (record d { class = c })) e)
    not_both_kinds d class.EachCycle e n v = true≢false (sym n ∙ ap (λ c. is_net (record d { class = c })) e)
    not_both_kinds d class.Once e n v = true≢false (sym n ∙ ap (λ c. is_net (record d { class = c })) e)

    pub net_is_vector : (d : Decl) → declared_as ds d.name ≡ Some d → is_net d ≡ true → is_none d.words ≡ true
    net_is_vector d own net = by d.words (declared_all IsKept ds d.name d own kept).memory
      where
        by : (o : Option (ℤ × ℤ)) → IsMemory o d → is_none o ≡ true
        by None m = refl
        by (Some b) m = absurd (not_both_kinds d d.class refl net m.2)

    pub vector_cell : (d : Decl) (n : List ℕ) → is_none d.words ≡ true → is_cell d.name d.words n ≡ true → n ≡ d.name
    vector_cell d n vector cell = by d.words vector cell
      where
        by : (o : Option (ℤ × ℤ)) → is_none o ≡ true → is_cell d.name o n ≡ true → n ≡ d.name
        by None v c = own_name d.name n c
        by (Some b) v c = absurd (true≢false (sym v))

    -- a target's bits
    target_spots : (l : Lval) → IsAssigned ds is_net true l → (n : List ℕ) (i : ℕ)
        → may_change (flat_scopes ds) l n i ≡ true → has_spot n i (spots (flat_scopes ds) no_values l) ≡ true
    target_spots l is n i h =
        (marks ds wide is_net net_counted true l is.0).reached no_values n i (fixed_sets ds is_net l is.0 n i h)

    if_true : (b : Bool) → b ≡ true → 1 ≤ (if b then 1 else 0)
    if_true true h = omega arith
    if_true false h = absurd (true≢false (sym h))

    times_vector : (x : DriverKind) → IsDriver ds x → (n : List ℕ) (i : ℕ) → driven_by ds x n i ≡ true
        → 1 ≤ times_driven ds x n i
    times_vector (k.Assign l e) is n i h =
        counted n i (spots (flat_scopes ds) no_values l) (target_spots l is.0 n i h)
    times_vector (k.Comb s) is n i h = if_true (assigns (flat_scopes ds) s n i) h
    times_vector (k.Clocked s) is n i h = if_true (assigns (flat_scopes ds) s n i) h

    pub times_bit : (x : DriverKind) → IsDriver ds x → (d : Decl) (n : List ℕ) (i : ℕ) → is_cell d.name d.words n ≡ true
        → i < d.width → driven_by ds x n i ≡ true
        → (counts_as d i < bits_counted d) × (1 ≤ times_of ds x d (counts_as d i))
    times_bit x is d n i cell below h = by (is_none d.words) refl
      where
        at_name : is_none d.words ≡ true → driven_by ds x d.name i ≡ true
        at_name v = subst (λ m. driven_by ds x m i ≡ true) (vector_cell d n v cell) h

        by : (b : Bool) → is_none d.words ≡ b
            → ((if b then i else 0) < (if b then d.width else 1)) × (1 ≤
            (if b then times_driven ds x d.name (if b then i else 0) else if has_bit (driven_by ds x) d then 1 else 0))
        by true v = (below, times_vector x is d.name i (at_name v))
        by false v =
            (omega arith, if_true (has_bit (driven_by ds x) d) (has_it (driven_by ds x) d n i cell below h))

    -- ---- two drivers at different places don't drive one bit

    pub single : (drivers : List Driver) → All (λ x. IsDriver ds x.what) drivers → two_drivers ds drivers ≡ None
        → (j m : ℕ) (x y : Driver) → slice_get drivers j ≡ Some x → slice_get drivers m ≡ Some y → (n : List ℕ) (i : ℕ)
        → driven_by ds x.what n i ≡ true → driven_by ds y.what n i ≡ true → j ≡ m
    single drivers are none j m x y e f n i h g = by (j == m) refl
      where
        of_driver : (q : ℕ) (z : Driver) → slice_get drivers q ≡ Some z → IsDriver ds z.what
        of_driver q z e = all_at (λ z. IsDriver ds z.what) drivers q z e are

        here : IsBitOfKind ds (may_drive ds x.what) n i
        here = driver_changed ds x.what (of_driver j x e) n i h

        first : (counts_as here.decl i < bits_counted here.decl)
            × (1 ≤ times_of ds x.what here.decl (counts_as here.decl i))
        first = times_bit x.what (of_driver j x e) here.decl n i here.of.cell here.below h

        second : (counts_as here.decl i < bits_counted here.decl)
            × (1 ≤ times_of ds y.what here.decl (counts_as here.decl i))
        second = times_bit y.what (of_driver m y f) here.decl n i here.of.cell here.below g

        by : (b : Bool) → (j == m) ≡ b → j ≡ m
        by true t = grind (arith, nat_tests, t)
        by false t =
            let other : j ≡ m → ⊥ = λ s. grind (arith, nat_tests, t, s) in
            absurd (omega (
              arith,
              first.1,
              second.1,
              both_within drivers here.decl (counts_as here.decl i) j m x y e f other,
              one_driver drivers none here.decl here.of.declared (counts_as here.decl i) first.0,
            ))

    -- a target has no bit twice
    pub target_once : (drivers : List Driver) → two_drivers ds drivers ≡ None → (j : ℕ) (x : Driver)
        → slice_get drivers j ≡ Some x → (l : Lval) (e : Expr) → x.what ≡ k.Assign l e → IsDriver ds (k.Assign l e)
        → AreOnce ds (spots (flat_scopes ds) no_values l)
    target_once drivers none j x at l e what is =
        once_each ds (spots (flat_scopes ds) no_values l) (λ n i h. few n i h)
      where
        few : (n : List ℕ) (i : ℕ) → has_spot n i (spots (flat_scopes ds) no_values l) ≡ true
            → count_spot n i (spots (flat_scopes ds) no_values l) ≤ 1
        few n i h =
            let may = (marks ds wide is_net net_counted true l is.0.0).within no_values n i h in
            let b = target_changed ds is_net true l is.0.0 n i may in
            let v = net_is_vector b.decl b.of.declared b.may_be in
            let same = vector_cell b.decl n v b.of.cell in
            let at_bit : i < bits_counted b.decl =
            subst (λ c. i < (if c then b.decl.width else 1)) (sym v) b.below in
            let as_name : times_of ds x.what b.decl i ≡ count_spot n i (spots (flat_scopes ds) no_values l) =
            (λ z. times_of ds (what z) b.decl i)
            ∙ ap (λ c. if c then count_spot b.decl.name i (spots (flat_scopes ds) no_values l)
            else if has_bit (driven_by ds (k.Assign l e)) b.decl then 1 else 0) v
            ∙ ap (λ m. count_spot m i (spots (flat_scopes ds) no_values l)) (sym same) in
            omega (
              arith,
              as_name,
              one_within drivers b.decl i j x at,
              one_driver drivers none b.decl b.of.declared i at_bit,
            )
