-- The drivers of a sequence stand in an order in which each can be settled.
use Rattle.std.specs.Prelude.{◌≡◌, refl, ℕ, zero, suc, ◌<◌, ◌≤◌, ◌==◌, List, [], ◌∷◌, Bool, true, false, not}
use Rattle.std.specs.Prelude.{is_none, slice_get, Option, Some, None, All}
use Rattle.std.proofs.Common.{ap, sym, ◌∙◌, arith, subst, true≢false}
use Rattle.std.proofs.lemmas.Bool.Decides.{nat_tests}
use Rattle.std.proofs.lemmas.Option.{same_Some}
use Rattle.vl_size.specs.declared.decl.Decl.{Decl}
use Rattle.vl_size.specs.Size.{Values}
use Rattle.vl_size.specs.Table.{declared_as}
use Rattle.vl_mean.specs.declared.driver.Driver.{Driver}
use Rattle.vl_mean.specs.declared.driver.DriverKind.{DriverKind}
use Rattle.vl_mean.specs.declared.driver.DriverKind.TheVariants as k
use Rattle.vl_mean.specs.FlatLaw.{IsDriver, IsKept}
use Rattle.vl_flow_spec.specs.Drivers.{is_clocked, needed_by, driven_by, driven_by_any, Apart, AreInOrder, IsWhole}
use Rattle.vl_flow_spec.specs.Settle.{driven, AreOneOn, AreMet, AreAccepted}
use Rattle.vl_flow_spec.proofs.Bools.{or_left, or_right, or_case, none_of}
use Rattle.vl_flow_spec.proofs.Cells.{HaveOwnCells}
use Rattle.vl_flow_spec.specs.Refusals.{ReadsFrom, latch, two_drivers, mixed, HasNoRefusal}
use Rattle.vl_flow_spec.specs.Sequence.{is_settled, has_number}
use Rattle.vl_flow_spec.proofs.Elements.{nothing, all_at}
use Rattle.vl_flow_spec.proofs.Single.{single, target_once}
use Rattle.vl_flow_spec.proofs.Whole.{comb_is_whole}

-- ---- numbers and places

pub place_of_number : (s : List ℕ) (i : ℕ) → has_number s i ≡ true → (a : ℕ) × (slice_get s a ≡ Some i)
place_of_number [] i h = absurd (true≢false (sym h))
place_of_number (j ∷ js) i h =
    or_case (i == j) (has_number js i)
    (λ t. let same : j ≡ i = grind (arith, nat_tests, t) in (zero, ap Some same))
    (λ t. let r = place_of_number js i t in (suc r.0, r.1)) h

pub number_there : (s : List ℕ) (a i : ℕ) → slice_get s a ≡ Some i → has_number s i ≡ true
number_there [] a i e = absurd (true≢false (ap is_none e))
number_there (j ∷ js) zero i e =
    let same : j ≡ i = same_Some j i e in or_left (i == j) (has_number js i) (grind (arith, nat_tests, same))
number_there (j ∷ js) (suc a) i e = or_right (i == j) (has_number js i) (number_there js a i e)

-- no number is there twice
abbrev pub IsOnce : List ℕ → Type 0
IsOnce s = (a b i : ℕ) → slice_get s a ≡ Some i → slice_get s b ≡ Some i → a ≡ b

once_behind : (i : ℕ) (is : List ℕ) → IsOnce (i ∷ is) → IsOnce is
once_behind i is h a b j e f = let same : suc a ≡ suc b = h (suc a) (suc b) j e f in omega (arith, same)

module _ (drivers : List Driver) where
  -- each number is that of a driver that isn't clocked
  abbrev pub AreSettled : List ℕ → Type 0
  AreSettled s = (a i : ℕ) → slice_get s a ≡ Some i → is_settled (slice_get drivers i) ≡ true

  abbrev pub with_kind : Option Driver → List DriverKind → List DriverKind
  with_kind None xs = xs
  with_kind (Some x) xs = x.what ∷ xs

  -- what the numbers mean
  abbrev pub kinds : List ℕ → List DriverKind
  kinds [] = []
  kinds (i ∷ is) = with_kind (slice_get drivers i) (kinds is)

  unclocked_if : (x : Driver) → is_settled (Some x) ≡ true → is_clocked x.what ≡ false
  unclocked_if x h = by (is_clocked x.what) h
    where
      by : (b : Bool) → not b ≡ true → b ≡ false
      by true e = sym e
      by false e = refl

  pub settled_there : (i : ℕ) (x : Driver) → slice_get drivers i ≡ Some x → is_clocked x.what ≡ false
      → is_settled (slice_get drivers i) ≡ true
  settled_there i x e c = ap is_settled e ∙ ap not c

  module _ (ds : List Decl) where
    abbrev pub Behind : List ℕ → Type 0
    Behind s =
        (a b i j : ℕ) (x y : Driver) → slice_get s a ≡ Some i → slice_get s b ≡ Some j → slice_get drivers i ≡ Some x
        → slice_get drivers j ≡ Some y → ReadsFrom ds x y → b < a

    all_behind : (i : ℕ) (is : List ℕ) → Behind (i ∷ is) → Behind is
    all_behind i is h a b j m x y e f g q r =
        let less : suc b < suc a = h (suc a) (suc b) j m x y e f g q r in omega (arith, less)

    -- a driver of the sequence that drives the bit
    pub record Drives (s : List ℕ) (n : List ℕ) (q : ℕ) : Type 0 where
      pub place : ℕ
      pub number : ℕ
      pub driver : Driver
      pub stands : slice_get s place ≡ Some number
      pub is : slice_get drivers number ≡ Some driver
      pub unclocked : is_clocked driver.what ≡ false
      pub drives : driven_by ds driver.what n q ≡ true

    further : (i : ℕ) (is : List ℕ) (n : List ℕ) (q : ℕ) → Drives is n q → Drives (i ∷ is) n q
    further i is n q d = record {
      place = suc d.place;
      number = d.number;
      driver = d.driver;
      stands = d.stands;
      is = d.is;
      unclocked = d.unclocked;
      drives = d.drives;
    }

    settled_behind : (i : ℕ) (is : List ℕ) → AreSettled (i ∷ is) → AreSettled is
    settled_behind i is h a j e = h (suc a) j e

    pub driver_of : (s : List ℕ) → AreSettled s → (n : List ℕ) (q : ℕ) → driven_by_any ds (kinds s) n q ≡ true
        → Drives s n q
    driver_of [] are n q h = absurd (true≢false (sym h))
    driver_of (i ∷ is) are n q h =
        by (λ t. further i is n q (driver_of is (settled_behind i is are) n q t)) (slice_get drivers i) refl
        (are zero i refl) h
      where
        by : (driven_by_any ds (kinds is) n q ≡ true → Drives (i ∷ is) n q) → (o : Option Driver)
            → slice_get drivers i ≡ o → is_settled o ≡ true
            → driven_by_any ds (with_kind o (kinds is)) n q ≡ true → Drives (i ∷ is) n q
        by f None e s h = absurd (true≢false (sym s))
        by f (Some x) e s h =
            or_case (driven_by ds x.what n q) (driven_by_any ds (kinds is) n q)
            (λ t. record {
              place = zero;
              number = i;
              driver = x;
              stands = refl;
              is = e;
              unclocked = unclocked_if x s;
              drives = t;
            }) f h

    -- what a driver of the sequence drives, some driver does
    pub driven_of : (s : List ℕ) (i : ℕ) (x : Driver) (n : List ℕ) (q : ℕ) → has_number s i ≡ true
        → slice_get drivers i ≡ Some x → driven_by ds x.what n q ≡ true → driven_by_any ds (kinds s) n q ≡ true
    driven_of [] i x n q h e d = absurd (true≢false (sym h))
    driven_of (j ∷ js) i x n q h e d =
        or_case (i == j) (has_number js i)
        (λ t. let same : i ≡ j = grind (arith, nat_tests, t) in
        subst (λ o. driven_by_any ds (with_kind o (kinds js)) n q ≡ true)
        (sym (ap (slice_get drivers) (sym same) ∙ e)) (or_left (driven_by ds x.what n q) (driven_by_any ds (kinds js) n q) d))
        (λ t. behind (slice_get drivers j) (driven_of js i x n q t e d)) h
      where
        behind : (o : Option Driver) → driven_by_any ds (kinds js) n q ≡ true
            → driven_by_any ds (with_kind o (kinds js)) n q ≡ true
        behind None h = h
        behind (Some y) h = or_right (driven_by ds y.what n q) (driven_by_any ds (kinds js) n q) h

    -- ---- what each leaves

    -- the driver leaves what it drives as it is
    abbrev pub Leaves : Values → DriverKind → Type 0
    Leaves v x = AreOneOn ds (driven_by ds x) (driven ds x v) v

    pub met_of : (v : Values) → ((x : Driver) (i : ℕ) → slice_get drivers i ≡ Some x → Leaves v x.what) → (s : List ℕ)
        → AreMet ds v (kinds s)
    met_of v f [] = tt
    met_of v f (i ∷ is) = by (slice_get drivers i) refl (met_of v f is)
      where
        by : (o : Option Driver) → slice_get drivers i ≡ o → AreMet ds v (kinds is)
            → AreMet ds v (with_kind o (kinds is))
        by None e m = m
        by (Some x) e m = (f x i e, m)

    pub leaves_of : (v : Values) (s : List ℕ) → AreMet ds v (kinds s) → (i : ℕ) (x : Driver) → has_number s i ≡ true
        → slice_get drivers i ≡ Some x → Leaves v x.what
    leaves_of v [] m i x h e = absurd (true≢false (sym h))
    leaves_of v (j ∷ js) m i x h e =
        or_case (i == j) (has_number js i)
        (λ t. let same : i ≡ j = grind (arith, nat_tests, t) in
        (subst (λ o. AreMet ds v (with_kind o (kinds js))) (ap (slice_get drivers) (sym same) ∙ e) m).0)
        (λ t. leaves_of v js (rest (slice_get drivers j) m) i x t e) h
      where
        rest : (o : Option Driver) → AreMet ds v (with_kind o (kinds js)) → AreMet ds v (kinds js)
        rest None m = m
        rest (Some y) m = m.1

    -- ---- the order

    module _ (wide : (d : Decl) → declared_as ds d.name ≡ Some d → 1 ≤ d.width) (cells : HaveOwnCells ds)
        (kept : All IsKept ds) (are : All (λ x. IsDriver ds x.what) drivers) (none : HasNoRefusal ds drivers) where
      of_driver : (q : ℕ) (z : Driver) → slice_get drivers q ≡ Some z → IsDriver ds z.what
      of_driver q z e = all_at (λ z. IsDriver ds z.what) drivers q z e are

      pub whole_as : (i : ℕ) (x : Driver) → slice_get drivers i ≡ Some x → (y : DriverKind) → x.what ≡ y → IsWhole ds y
      whole_as i x at (k.Assign l e) what =
          target_once ds wide cells kept drivers (nothing (two_drivers ds drivers) none.single) i x at l e what
          (subst (IsDriver ds) what (of_driver i x at))
      whole_as i x at (k.Comb s) what = comb_is_whole ds drivers are (nothing (latch ds drivers) none.latchless)
          (nothing (mixed ds drivers) none.pure) i x s at what
      whole_as i x at (k.Clocked s) what = tt

      pub accepted : (s : List ℕ) → AreSettled s → AreAccepted ds (kinds s)
      accepted [] h = tt
      accepted (i ∷ is) h =
          by (slice_get drivers i) refl (h zero i refl) (accepted is (settled_behind i is h))
        where
          by : (o : Option Driver) → slice_get drivers i ≡ o → is_settled o ≡ true → AreAccepted ds (kinds is)
              → AreAccepted ds (with_kind o (kinds is))
          by None e s a = a
          by (Some x) e s a = (of_driver i x e, whole_as i x e x.what refl, unclocked_if x s, a)

      pub in_order_of : (s : List ℕ) → AreSettled s → IsOnce s → Behind s → AreInOrder ds (kinds s)
      in_order_of [] h o b = tt
      in_order_of (i ∷ is) h o b =
          by (slice_get drivers i) refl (h zero i refl)
          (in_order_of is (settled_behind i is h) (once_behind i is o) (all_behind i is b))
        where
          by : (z : Option Driver) → slice_get drivers i ≡ z → is_settled z ≡ true → AreInOrder ds (kinds is)
              → AreInOrder ds (with_kind z (kinds is))
          by None e s rest = rest
          by (Some x) e s rest = (reads_none, drives_none, rest)
            where
              all_of_it : driven_by_any ds (kinds (i ∷ is)) ≡ driven_by_any ds (x.what ∷ kinds is)
              all_of_it = ap (λ z. driven_by_any ds (with_kind z (kinds is))) e

              reads_none : Apart (needed_by ds x.what) (driven_by_any ds (x.what ∷ kinds is))
              reads_none n q t =
                  none_of (driven_by_any ds (x.what ∷ kinds is) n q) (λ f.
                  let d = driver_of (i ∷ is) h n q ((λ z. all_of_it z n q) ∙ f) in
                  let less : d.place < zero =
                  b zero d.place i d.number x d.driver refl d.stands e d.is
                  (record { cell = n; offset = q; read = t; driven = d.drives }) in
                  absurd (omega (arith, less)))

              drives_none : Apart (driven_by ds x.what) (driven_by_any ds (kinds is))
              drives_none n q t =
                  none_of (driven_by_any ds (kinds is) n q) (λ f.
                  let d = driver_of is (settled_behind i is h) n q f in
                  let same : i ≡ d.number =
                  single ds wide cells kept drivers are (nothing (two_drivers ds drivers) none.single) i d.number x d.driver e d.is n q t d.drives in
                  let zero_is : zero ≡ suc d.place = o zero (suc d.place) i refl (d.stands ∙ ap Some (sym same)) in
                  absurd (omega (arith, zero_is)))
