-- The first of a design's refusals.
use Rattle.std.specs.Prelude.{◌≡◌, refl, ℕ, List, true, Option, Some, None, Err, is_none}
use Rattle.std.specs.Option.{option_map}
use Rattle.std.proofs.Common.{ap, sym, ◌∙◌, subst, true≢false}
use Rattle.std.proofs.lemmas.Option.{same_Some}
use Rattle.fv_text.specs.declared.pos.Pos.{Pos}
use Rattle.vl_size.specs.declared.decl.Decl.{Decl}
use Rattle.vl_mean.specs.declared.driver.Driver.{Driver}
use Rattle.vl_flow_spec.specs.Refusals.{HasNoRefusal, blocking_shared, latch, mixed, two_drivers, undriven}
use Rattle.vl_flow.specs.declared.fault.FlowFault.{FlowFault}
use Rattle.vl_flow.specs.declared.fault.FlowFault.TheVariants as f
use Rattle.vl_flow.specs.Faults.{Answers, AreLoop, HasNoLoop, IsAnswer, IsFault, later_fault, or_else}

pub here : {A : Type 0} (g : A → FlowFault) (o : Option A) (rest : Option FlowFault) (x : A) → Some x ≡ o
    → Some (g x) ≡ or_else (option_map g o) rest
here g o rest x e = ap (λ p. or_else (option_map g p) rest) e

pub past : {A : Type 0} (g : A → FlowFault) (o : Option A) (rest found : Option FlowFault) → None ≡ o
    → found ≡ rest → found ≡ or_else (option_map g o) rest
past g o rest found e h = h ∙ ap (λ p. or_else (option_map g p) rest) e

none_first : (o p : Option FlowFault) → or_else o p ≡ None → o ≡ None
none_first None p h = refl
none_first (Some x) p h = h

none_second : (o p : Option FlowFault) → or_else o p ≡ None → p ≡ None
none_second None p h = h
none_second (Some x) p h = absurd (true≢false (sym (ap is_none h)))

unmapped : {A : Type 0} (g : A → FlowFault) (o : Option A) → option_map g o ≡ None → is_none o ≡ true
unmapped g None h = refl
unmapped g (Some x) h = absurd (true≢false (sym (ap is_none h)))

-- ---- refusals 2 to 6

abbrev IsLater : FlowFault → Type 0
IsLater f.Memory = ⊥
IsLater (f.Loop ps) = ⊥
IsLater fault = Unit {0}

either : (o p : Option FlowFault) → ((x : FlowFault) → o ≡ Some x → IsLater x)
    → ((x : FlowFault) → p ≡ Some x → IsLater x) → (x : FlowFault) → or_else o p ≡ Some x → IsLater x
either None p g h x e = h x e
either (Some y) p g h x e = g x e

mapped : {A : Type 0} (g : A → FlowFault) → ((a : A) → IsLater (g a)) → (o : Option A) → (x : FlowFault)
    → option_map g o ≡ Some x → IsLater x
mapped g h None x e = absurd (true≢false (ap is_none e))
mapped g h (Some a) x e = subst IsLater (same_Some (g a) x e) (h a)

-- a refusal answers itself
itself : (x : FlowFault) → Answers (Err x) x
itself f.Memory = tt
itself (f.Loop ps) = tt
itself (f.Latch name p) = refl
itself (f.TwoDrivers name bit p q) = refl
itself (f.Undriven name bit) = refl
itself (f.BlockingShared name p) = refl
itself (f.Mixed name p) = refl

module _ (ds : List Decl) (drivers : List Driver) where
  pub none_refused : HasNoLoop ds drivers → later_fault ds drivers ≡ None → HasNoRefusal ds drivers
  none_refused loopless h =
      let l = option_map (λ x. f.Latch x.0 x.1) (latch ds drivers) in
      let t = option_map (λ x. f.TwoDrivers x.0 x.1 x.2 x.3) (two_drivers ds drivers) in
      let u = option_map (λ x. f.Undriven x.0 x.1) (undriven ds drivers) in
      let b = option_map (λ x. f.BlockingShared x.0 x.1) (blocking_shared ds drivers) in
      let m = option_map (λ x. f.Mixed x.0 x.1) (mixed ds drivers) in
      let second = none_second l (or_else t (or_else u (or_else b m))) h in
      let third = none_second t (or_else u (or_else b m)) second in
      let fourth = none_second u (or_else b m) third in record {
        loopless = loopless;
        latchless = unmapped (λ x. f.Latch x.0 x.1) (latch ds drivers)
            (none_first l (or_else t (or_else u (or_else b m))) h);
        single = unmapped (λ x. f.TwoDrivers x.0 x.1 x.2 x.3) (two_drivers ds drivers)
            (none_first t (or_else u (or_else b m)) second);
        driven = unmapped (λ x. f.Undriven x.0 x.1) (undriven ds drivers) (none_first u (or_else b m) third);
        apart = unmapped (λ x. f.BlockingShared x.0 x.1) (blocking_shared ds drivers) (none_first b m fourth);
        pure = unmapped (λ x. f.Mixed x.0 x.1) (mixed ds drivers) (none_second b m fourth);
      }

  abbrev two : Option FlowFault
  two = option_map (λ x. f.TwoDrivers x.0 x.1 x.2 x.3) (two_drivers ds drivers)

  abbrev open_net : Option FlowFault
  open_net = option_map (λ x. f.Undriven x.0 x.1) (undriven ds drivers)

  abbrev shared : Option FlowFault
  shared = option_map (λ x. f.BlockingShared x.0 x.1) (blocking_shared ds drivers)

  abbrev both : Option FlowFault
  both = option_map (λ x. f.Mixed x.0 x.1) (mixed ds drivers)

  -- ---- the first that is there

  pub by_latch : (x : List ℕ × Pos) → Some x ≡ latch ds drivers → Some (f.Latch x.0 x.1) ≡ later_fault ds drivers
  by_latch x e = here (λ x. f.Latch x.0 x.1) (latch ds drivers) (or_else two (or_else open_net (or_else shared both))) x e

  without_latch : (found : Option FlowFault) → None ≡ latch ds drivers
      → found ≡ or_else two (or_else open_net (or_else shared both)) → found ≡ later_fault ds drivers
  without_latch found =
      past (λ x. f.Latch x.0 x.1) (latch ds drivers) (or_else two (or_else open_net (or_else shared both))) found

  without_two : (found : Option FlowFault) → None ≡ latch ds drivers → None ≡ two_drivers ds drivers
      → found ≡ or_else open_net (or_else shared both) → found ≡ later_fault ds drivers
  without_two found l t e =
      without_latch found l
      (past (λ x. f.TwoDrivers x.0 x.1 x.2 x.3) (two_drivers ds drivers) (or_else open_net (or_else shared both)) found t e)

  without_open : (found : Option FlowFault) → None ≡ latch ds drivers → None ≡ two_drivers ds drivers
      → None ≡ undriven ds drivers → found ≡ or_else shared both → found ≡ later_fault ds drivers
  without_open found l t u e =
      without_two found l t (past (λ x. f.Undriven x.0 x.1) (undriven ds drivers) (or_else shared both) found u e)

  pub by_two : (x : List ℕ × ℕ × Pos × Pos) → None ≡ latch ds drivers → Some x ≡ two_drivers ds drivers
      → Some (f.TwoDrivers x.0 x.1 x.2 x.3) ≡ later_fault ds drivers
  by_two x l e =
      without_latch (Some (f.TwoDrivers x.0 x.1 x.2 x.3)) l
      (here (λ x. f.TwoDrivers x.0 x.1 x.2 x.3) (two_drivers ds drivers) (or_else open_net (or_else shared both)) x e)

  pub by_undriven : (x : List ℕ × ℕ) → None ≡ latch ds drivers → None ≡ two_drivers ds drivers
      → Some x ≡ undriven ds drivers → Some (f.Undriven x.0 x.1) ≡ later_fault ds drivers
  by_undriven x l t e =
      without_two (Some (f.Undriven x.0 x.1)) l t
      (here (λ x. f.Undriven x.0 x.1) (undriven ds drivers) (or_else shared both) x e)

  pub by_shared : (x : List ℕ × Pos) → None ≡ latch ds drivers → None ≡ two_drivers ds drivers
      → None ≡ undriven ds drivers → Some x ≡ blocking_shared ds drivers
      → Some (f.BlockingShared x.0 x.1) ≡ later_fault ds drivers
  by_shared x l t u e =
      without_open (Some (f.BlockingShared x.0 x.1)) l t u
      (here (λ x. f.BlockingShared x.0 x.1) (blocking_shared ds drivers) both x e)

  pub by_mixed : (o : Option (List ℕ × Pos)) → None ≡ latch ds drivers → None ≡ two_drivers ds drivers
      → None ≡ undriven ds drivers → None ≡ blocking_shared ds drivers → o ≡ mixed ds drivers
      → option_map (λ x. f.Mixed x.0 x.1) o ≡ later_fault ds drivers
  by_mixed o l t u b e =
      without_open (option_map (λ x. f.Mixed x.0 x.1) o) l t u
      (past (λ x. f.BlockingShared x.0 x.1) (blocking_shared ds drivers) both (option_map (λ x. f.Mixed x.0 x.1) o) b
      (ap (option_map (λ x. f.Mixed x.0 x.1)) e))

  -- ---- which refusals come later than loops

  is_later : (x : FlowFault) → later_fault ds drivers ≡ Some x → IsLater x
  is_later =
      either (option_map (λ x. f.Latch x.0 x.1) (latch ds drivers)) (or_else two (or_else open_net (or_else shared both)))
      (mapped (λ x. f.Latch x.0 x.1) (λ x. tt) (latch ds drivers))
      (either two (or_else open_net (or_else shared both))
      (mapped (λ x. f.TwoDrivers x.0 x.1 x.2 x.3) (λ x. tt) (two_drivers ds drivers))
      (either open_net (or_else shared both) (mapped (λ x. f.Undriven x.0 x.1) (λ x. tt) (undriven ds drivers))
      (either shared both (mapped (λ x. f.BlockingShared x.0 x.1) (λ x. tt) (blocking_shared ds drivers))
      (mapped (λ x. f.Mixed x.0 x.1) (λ x. tt) (mixed ds drivers)))))

  -- ---- what is answered

  pub fault_is : (fault : FlowFault) → HasNoLoop ds drivers → later_fault ds drivers ≡ Some fault
      → IsFault ds drivers fault
  fault_is f.Memory loopless h = absurd (is_later f.Memory h)
  fault_is (f.Loop ps) loopless h = absurd (is_later (f.Loop ps) h)
  fault_is (f.Latch name p) loopless h = (loopless, h)
  fault_is (f.TwoDrivers name bit p q) loopless h = (loopless, h)
  fault_is (f.Undriven name bit) loopless h = (loopless, h)
  fault_is (f.BlockingShared name p) loopless h = (loopless, h)
  fault_is (f.Mixed name p) loopless h = (loopless, h)

  pub answer_is : (fault : FlowFault) → HasNoLoop ds drivers → later_fault ds drivers ≡ Some fault
      → IsAnswer ds drivers fault
  answer_is f.Memory loopless h = tt
  answer_is (f.Loop ps) loopless h = fault_is (f.Loop ps) loopless h
  answer_is (f.Latch name p) loopless h = fault_is (f.Latch name p) loopless h
  answer_is (f.TwoDrivers name bit p q) loopless h = fault_is (f.TwoDrivers name bit p q) loopless h
  answer_is (f.Undriven name bit) loopless h = fault_is (f.Undriven name bit) loopless h
  answer_is (f.BlockingShared name p) loopless h = fault_is (f.BlockingShared name p) loopless h
  answer_is (f.Mixed name p) loopless h = fault_is (f.Mixed name p) loopless h

  no_loop_and : {A : Type 0} {ps : List Pos} → HasNoLoop ds drivers → AreLoop ds drivers ps → A
  no_loop_and loopless h = absurd (loopless h.0 h.1 h.2)

  -- a loop is answered
  pub loop_answered : (qs : List Pos) → AreLoop ds drivers qs → (fault : FlowFault) → IsFault ds drivers fault
      → Answers (Err (f.Loop qs)) fault
  loop_answered qs h f.Memory is = absurd is
  loop_answered qs h (f.Loop ps) is = tt
  loop_answered qs h (f.Latch name p) is = no_loop_and is.0 h
  loop_answered qs h (f.TwoDrivers name bit p q) is = no_loop_and is.0 h
  loop_answered qs h (f.Undriven name bit) is = no_loop_and is.0 h
  loop_answered qs h (f.BlockingShared name p) is = no_loop_and is.0 h
  loop_answered qs h (f.Mixed name p) is = no_loop_and is.0 h

  -- where there is no loop, the refusal is the first of the others
  first_of : HasNoLoop ds drivers → (fault : FlowFault) → IsFault ds drivers fault → later_fault ds drivers ≡ Some fault
  first_of loopless f.Memory is = absurd is
  first_of loopless (f.Loop ps) is = no_loop_and loopless is
  first_of loopless (f.Latch name p) is = is.1
  first_of loopless (f.TwoDrivers name bit p q) is = is.1
  first_of loopless (f.Undriven name bit) is = is.1
  first_of loopless (f.BlockingShared name p) is = is.1
  first_of loopless (f.Mixed name p) is = is.1

  pub later_answered : (found : FlowFault) → HasNoLoop ds drivers → later_fault ds drivers ≡ Some found
      → (fault : FlowFault) → IsFault ds drivers fault → Answers (Err found) fault
  later_answered found loopless h fault is =
      let same : fault ≡ found = same_Some fault found (sym (first_of loopless fault is) ∙ h) in
      subst (λ e. Answers (Err e) fault) same (itself fault)

  pub none_answered : HasNoLoop ds drivers → later_fault ds drivers ≡ None → (fault : FlowFault)
      → IsFault ds drivers fault → ⊥
  none_answered loopless h fault is = true≢false (ap is_none (sym h ∙ first_of loopless fault is))

pub memory_answered : (fault : FlowFault) → Answers (Err f.Memory) fault
memory_answered fault = tt
