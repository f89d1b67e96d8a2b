-- Maps that the design allows from any one on are those of a step run of the net, for the choices that they make.
use Rattle.std.specs.Prelude.{◌≡◌, refl, ℕ, zero, suc, ◌+◌, ◌<◌, ◌≤◌, ◌^◌, List, [], ◌∷◌, length, map}
use Rattle.std.specs.Prelude.{Option, Some, None}
use Rattle.std.specs.Prelude.{is_none, slice_get, slice_index}
use Rattle.std.proofs.Common.{ap, sym, ◌∙◌, arith, subst, true≢false}
use Rattle.std.proofs.lemmas.List.{length-map}
use Rattle.std.proofs.lemmas.Nat.{pow_pos}
use Rattle.std.proofs.lemmas.Option.{same_Some}
use Rattle.vl_size.specs.Size.{Values}
use Rattle.vl_mean.specs.Parts.{Part}
use Rattle.vl_mean.specs.Runs.{Each, FollowedBy, HasReset, Holds, KeepsOnce, Next}
use Rattle.wn_net.specs.declared.names.Names.{Names}
use Rattle.wn_net.specs.declared.parts.Input.{Input}
use Rattle.wn_net.specs.declared.parts.InputKind.{InputKind}
use Rattle.wn_net.specs.declared.parts.InputKind.TheVariants as kind
use Rattle.wn_net.specs.declared.parts.Reg.{Reg}
use Rattle.wn_net.specs.declared.parts.State.{State}
use Rattle.wn_net.specs.Value.{word_at, words_at}
use Rattle.wn_net.specs.Net.{Netlist, IsNet}
use Rattle.wn_net.specs.Given.{IsStateOf, given}
use Rattle.wn_net.specs.Next.{next_state}
use Rattle.wn_run.specs.Runs.{Choices, AreChoicesOf, by_kind, state_at}
use Rattle.vl_lower_spec.specs.Maps.{given_of, inputs_of, state_of}
use Rattle.vl_lower_spec.specs.Evaluations.{HaveReset, IsLowered, OnceIs, ResetIs}
use Rattle.vl_lower_spec.proofs.Inputs.{input_from}
use Rattle.bm_induct.specs.StepRuns.{step_cycle, step_inputs, step_start}
use Rattle.ck_design.specs.Retirements.{values_at}
use Rattle.ck_induct.specs.Halves.{AreMapsOn}
use Rattle.ck_induct.specs.Laws.{IsStepRunOf, StepRunsAreEvaluated}
use Rattle.ck_induct.proofs.Lists.{map_there}
use Rattle.ck_induct.proofs.Starts.{mems_back, regs_back, words_fit}
use Rattle.ck_induct.proofs.StepGiven.{step_given}

-- ---- lists

same_list : (xs ys : List ℕ) → length xs ≡ length ys → ((i : ℕ) → i < length xs → slice_index xs i ≡ slice_index ys i)
    → xs ≡ ys
same_list [] [] h e = refl
same_list [] (y ∷ ys) h e = absurd (omega (arith, h))
same_list (x ∷ xs) [] h e = absurd (omega (arith, h))
same_list (x ∷ xs) (y ∷ ys) h e =
    let first : x ≡ y = e zero (omega arith) in
    let rest = same_list xs ys (omega (arith, h)) (λ i less. e (suc i) (omega (arith, less))) in
    λ i. first i ∷ rest i

one_there : {A : Type 0} (xs : List A) (i : ℕ) → i < length xs → (x : A) × (slice_get xs i ≡ Some x)
one_there [] i h = absurd (omega (arith, h))
one_there (x ∷ xs) zero h = (x, refl)
one_there (x ∷ xs) (suc i) h = one_there xs i (omega (arith, h))

each_there : {A : Type 0} (P : A → Type 0) (xs : List A) (i : ℕ) (x : A) → Each P xs → slice_get xs i ≡ Some x → P x
each_there P [] i x h e = absurd (true≢false (ap is_none e))
each_there P (y ∷ xs) zero x h e = subst P (same_Some y x e) h.0
each_there P (y ∷ xs) (suc i) x h e = each_there P xs i x h.1 e

before : {A : Type 0} (xs : List A) (i : ℕ) (x : A) → slice_get xs (suc i) ≡ Some x
    → (y : A) × (slice_get xs i ≡ Some y)
before [] i x e = absurd (true≢false (ap is_none e))
before (y ∷ xs) zero x e = (y, refl)
before (y ∷ xs) (suc i) x e = before xs i x e

followed_at : {A : Type 0} (R : A → A → Type 0) (x : A) (ys : List A) (i : ℕ) (u v : A) → FollowedBy R x ys
    → slice_get (x ∷ ys) i ≡ Some u → slice_get ys i ≡ Some v → R u v
followed_at R x [] i u v h e f = absurd (true≢false (ap is_none f))
followed_at {A} R x (y ∷ ys) zero u v h e f =
    let P : A → Type 0 = λ z. R z v in
    let Q : A → Type 0 = λ z. R x z in
    subst P (same_Some x u e) (subst Q (same_Some y v f) h.0)
followed_at R x (y ∷ ys) (suc i) u v h e f = followed_at R y ys i u v h.1 e f

-- ---- choices

abbrev numbers_in : Names → Option Values → ℕ → ℕ
numbers_in names None i = 0
numbers_in names (Some v) i = slice_index (inputs_of names v) i

module _ (ps : List Part) (net : Netlist) (names : Names) (h : IsLowered ps net names) (whole : IsNet net) (d : ℕ)
    (v0 : Values) (vs : List Values) (r : AreMapsOn ps d (v0 ∷ vs)) where
  holds : (k : ℕ) (v : Values) → slice_get (v0 ∷ vs) k ≡ Some v → Holds ps v
  holds k v e = each_there (Holds ps) (v0 ∷ vs) k v r.holds e

  -- the first map's state
  abbrev s : State
  s = state_of names v0

  is_state : IsStateOf net s
  is_state = (h.given v0 r.holds.0).state

  abbrev ch : Choices
  ch = record {
    each_cycle = λ k i. numbers_in names (slice_get (v0 ∷ vs) k) i;
    once = λ i. slice_index (inputs_of names v0) i;
    regs = slice_index s.regs;
    words = λ m a. word_at (words_at s.mems m) a;
  }

  fits : (i : ℕ) (o : Option Values) → ((v : Values) → o ≡ Some v → Holds ps v)
      → numbers_in names o i < 2 ^ slice_index (map (λ x. x.width) net.inputs) i
  fits i None hold = pow_pos (slice_index (map (λ x. x.width) net.inputs) i)
  fits i (Some v) hold = (h.given v (hold v refl)).inputs.below i

  of : AreChoicesOf net ch
  of = record {
    each_cycle = λ k i less. fits i (slice_get (v0 ∷ vs) k) (λ v e. holds k v e);
    once = λ i less. (h.given v0 r.holds.0).inputs.below i;
    regs = λ i less. is_state.regs.below i;
    words = λ m i less. words_fit net.mems s.mems m i is_state.mems less;
  }

  begins : step_start net ch ≡ s
  begins = λ j. record {
    regs =
        regs_back s.regs s.regs 0 net.regs
        (is_state.regs.each ∙ length-map net.regs (λ (x : Reg). x.width))
        (λ k. (let none : 0 + k ≡ k = omega arith in ap (slice_index s.regs) none)) j;
    mems = mems_back net ch.words s.mems 0 net.mems is_state.mems whole.mems
        (λ m a. (let none : 0 + m ≡ m = omega arith in ap (λ n. word_at (words_at s.mems n) a) none)) j;
  }

  -- ---- inputs

  resets : (k : ℕ) (v : Values) → slice_get (v0 ∷ vs) k ≡ Some v → HaveReset net 0 (inputs_of names v)
  resets k v e = (h.resets v 0 (holds k v e)).0 (each_there (HasReset ps 0) (v0 ∷ vs) k v r.no_reset e)

  kept : (k : ℕ) (v : Values) → slice_get (v0 ∷ vs) k ≡ Some v → (i : ℕ) (x : Input) → slice_get net.inputs i ≡ Some x
      → x.kind ≡ kind.Once → slice_index (inputs_of names v) i ≡ slice_index (inputs_of names v0) i
  kept zero v e i x f o = ap (λ u. slice_index (inputs_of names u) i) (sym (same_Some v0 v e))
  kept (suc k) v e i x f o =
      let u = before (v0 ∷ vs) k v e in
      let step = followed_at (KeepsOnce ps) v0 vs k u.0 v r.once u.1 e in
      let same = (h.once u.0 v (holds k u.0 u.1) (holds (suc k) v e)).0 step in
      let P : InputKind → Type 0 =
      λ z. OnceIs z (slice_index (inputs_of names v) i) (slice_index (inputs_of names u.0) i) in
      subst P o (same i x f) ∙ kept k u.0 u.1 i x f o

  by_each : (k i : ℕ) (v : Values) (x : InputKind) → slice_get (v0 ∷ vs) k ≡ Some v
      → ResetIs x (slice_index (inputs_of names v) i) 0
      → (x ≡ kind.Once → slice_index (inputs_of names v) i ≡ slice_index (inputs_of names v0) i)
      → by_kind (numbers_in names (slice_get (v0 ∷ vs) k) i) (slice_index (inputs_of names v0) i) 0 x
      ≡ slice_index (inputs_of names v) i
  by_each k i v kind.EachCycle e reset once = ap (λ o. numbers_in names o i) e
  by_each k i v kind.Once e reset once = sym (once refl)
  by_each k i v kind.Reset e reset once = sym reset

  input_here : (k i : ℕ) (x : Input) → slice_get net.inputs i ≡ Some x
      → slice_index (step_inputs net ch k) i ≡ by_kind (ch.each_cycle k i) (ch.once i) 0 x.kind
  input_here k i x e =
      let same : 0 + i ≡ i = omega arith in
      input_from (ch.each_cycle k) ch.once 0 0 net.inputs i x e
      ∙ (λ j. by_kind (ch.each_cycle k (same j)) (ch.once (same j)) 0 x.kind)

  inputs : (k : ℕ) (v : Values) → slice_get (v0 ∷ vs) k ≡ Some v → step_inputs net ch k ≡ inputs_of names v
  inputs k v e =
      let ours = (step_given net ch k whole of).inputs in
      let theirs = (h.given v (holds k v e)).inputs in
      same_list (step_inputs net ch k) (inputs_of names v) (ours.each ∙ sym theirs.each) (λ i less.
      let long = length-map net.inputs (λ (x : Input). x.width) in
      let there : i < length net.inputs = omega (arith, less, ours.each, long) in
      let x = one_there net.inputs i there in
      input_here k i x.0 x.1
      ∙ by_each k i v x.0.kind e (resets k v e i x.0 x.1) (λ o. kept k v e i x.0 x.1 o))

  -- ---- states

  states : (k : ℕ) (v : Values) → slice_get (v0 ∷ vs) k ≡ Some v
      → state_at net (step_inputs net ch) (step_start net ch) k ≡ state_of names v
  states zero v e = begins ∙ ap (state_of names) (same_Some v0 v e)
  states (suc k) v e =
      let u = before (v0 ∷ vs) k v e in
      let step = followed_at (Next ps) v0 vs k u.0 v r.steps u.1 e in
      (λ i. next_state net (given (inputs k u.0 u.1 i) (states k u.0 u.1 i)))
      ∙ sym ((h.steps u.0 v (holds k u.0 u.1) (holds (suc k) v e)).0 step)

  numbers : (k : ℕ) (v : Values) → slice_get (v0 ∷ vs) k ≡ Some v → step_cycle net ch k ≡ given_of names v
  numbers k v e i = given (inputs k v e i) (states k v e i)

  evaluated : (c : Choices) × AreChoicesOf net c × IsStepRunOf net names c d (v0 ∷ vs)
  evaluated = (
    ch,
    of,
    λ j le. numbers j (values_at (v0 ∷ vs) j) (map_there (v0 ∷ vs) j (within j d (length (v0 ∷ vs)) r.cycles le)),
  )
    where
      within : (j k n : ℕ) → n ≡ k + 1 → j ≤ k → j < n
      within j k n e le = omega (arith, e, le)

pub steps_evaluated : StepRunsAreEvaluated
steps_evaluated ps net names d [] h whole r = absurd (omega (arith, r.cycles))
steps_evaluated ps net names d (v0 ∷ vs) h whole r = evaluated ps net names h whole d v0 vs r
