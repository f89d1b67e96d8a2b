-- Runs that the design allows are runs of the net, for the choices that their maps make.
use Rattle.std.specs.Prelude.{◌≡◌, refl, ℕ, zero, suc, ◌<◌, ◌^◌, List, [], ◌∷◌, length, map, Option, Some, None}
use Rattle.std.specs.Prelude.{is_none, slice_get, slice_index}
use Rattle.std.proofs.Common.{ap, sym, ◌∙◌, arith, subst, true≢false}
use Rattle.std.proofs.lemmas.List.{length-map}
use Rattle.std.proofs.lemmas.Nat.{pow_pos}
use Rattle.std.proofs.lemmas.Option.{same_Some}
use Rattle.vl_size.specs.Size.{Values}
use Rattle.vl_mean.specs.Parts.{Part}
use Rattle.vl_mean.specs.Runs.{Each, FollowedBy, HasReset, Holds, IsRun, KeepsOnce, Next}
use Rattle.wn_net.specs.declared.names.Names.{Names}
use Rattle.wn_net.specs.declared.parts.Input.{Input}
use Rattle.wn_net.specs.declared.parts.InputKind.{InputKind}
use Rattle.wn_net.specs.declared.parts.InputKind.TheVariants as kind
use Rattle.wn_net.specs.Net.{Netlist, IsNet}
use Rattle.wn_net.specs.Given.{given}
use Rattle.wn_net.specs.Next.{next_state}
use Rattle.wn_run.specs.Runs.{Choices, AreChoicesOf, by_kind, inputs_at, reset_at, start_of, state_at}
use Rattle.wn_run.proofs.Given.{choices_run}
use Rattle.vl_lower_spec.specs.Maps.{inputs_of, state_of}
use Rattle.vl_lower_spec.specs.Evaluations.{IsLowered, IsStart, IsEvaluated, HaveReset, ResetIs, OnceIs}
use Rattle.vl_lower_spec.proofs.Inputs.{input_at, reset_later}

-- ---- lists

same_list : (xs ys : List ℕ) → length xs ≡ length ys → ((i : ℕ) → i < length xs → slice_index xs i ≡ slice_index ys i)
    → xs ≡ ys
same_list [] [] h e = refl
same_list [] (y ∷ ys) h e = absurd (omega (arith, h))
same_list (x ∷ xs) [] h e = absurd (omega (arith, h))
same_list (x ∷ xs) (y ∷ ys) h e =
    let first : x ≡ y = e zero (omega arith) in
    let rest = same_list xs ys (omega (arith, h)) (λ i less. e (suc i) (omega (arith, less))) in
    λ i. first i ∷ rest i

one_there : {A : Type 0} (xs : List A) (i : ℕ) → i < length xs → (x : A) × (slice_get xs i ≡ Some x)
one_there [] i h = absurd (omega (arith, h))
one_there (x ∷ xs) zero h = (x, refl)
one_there (x ∷ xs) (suc i) h = one_there xs i (omega (arith, h))

each_at : {A : Type 0} (P : A → Type 0) (xs : List A) (i : ℕ) (x : A) → Each P xs → slice_get xs i ≡ Some x → P x
each_at P [] i x h e = absurd (true≢false (ap is_none e))
each_at P (y ∷ xs) zero x h e = subst P (same_Some y x e) h.0
each_at P (y ∷ xs) (suc i) x h e = each_at P xs i x h.1 e

before : {A : Type 0} (xs : List A) (i : ℕ) (x : A) → slice_get xs (suc i) ≡ Some x
    → (y : A) × (slice_get xs i ≡ Some y)
before [] i x e = absurd (true≢false (ap is_none e))
before (y ∷ xs) zero x e = (y, refl)
before (y ∷ xs) (suc i) x e = before xs i x e

followed_at : {A : Type 0} (R : A → A → Type 0) (x : A) (ys : List A) (i : ℕ) (u v : A) → FollowedBy R x ys
    → slice_get (x ∷ ys) i ≡ Some u → slice_get ys i ≡ Some v → R u v
followed_at R x [] i u v h e f = absurd (true≢false (ap is_none f))
followed_at {A} R x (y ∷ ys) zero u v h e f =
    let P : A → Type 0 = λ z. R z v in
    let Q : A → Type 0 = λ z. R x z in
    subst P (same_Some x u e) (subst Q (same_Some y v f) h.0)
followed_at R x (y ∷ ys) (suc i) u v h e f = followed_at R y ys i u v h.1 e f

-- ---- choices

abbrev numbers_in : Names → Option Values → ℕ → ℕ
numbers_in names None i = 0
numbers_in names (Some v) i = slice_index (inputs_of names v) i

module _ (ps : List Part) (net : Netlist) (names : Names) (h : IsLowered ps net names) (whole : IsNet net) (d : ℕ)
    (v0 : Values) (vs : List Values) (r : IsRun ps d (v0 ∷ vs)) where
  holds : (k : ℕ) (v : Values) → slice_get (v0 ∷ vs) k ≡ Some v → Holds ps v
  holds k v e = each_at (Holds ps) (v0 ∷ vs) k v r.holds e

  begins : IsStart net (state_of names v0)
  begins = (h.starts v0 r.holds.0).0 r.begins

  abbrev ch : Choices
  ch = record {
    each_cycle = λ k i. numbers_in names (slice_get (v0 ∷ vs) k) i;
    once = λ i. slice_index (inputs_of names v0) i;
    regs = begins.choices.regs;
    words = begins.choices.words;
  }

  fits : (i : ℕ) (o : Option Values) → ((v : Values) → o ≡ Some v → Holds ps v)
      → numbers_in names o i < 2 ^ slice_index (map (λ x. x.width) net.inputs) i
  fits i None hold = pow_pos (slice_index (map (λ x. x.width) net.inputs) i)
  fits i (Some v) hold = (h.given v (hold v refl)).inputs.below i

  of : AreChoicesOf net ch
  of = record {
    each_cycle = λ k i less. fits i (slice_get (v0 ∷ vs) k) (λ v e. holds k v e);
    once = λ i less. (h.given v0 r.holds.0).inputs.below i;
    regs = begins.of.regs;
    words = begins.of.words;
  }

  -- ---- inputs

  resets : (k : ℕ) (v : Values) → slice_get (v0 ∷ vs) k ≡ Some v → HaveReset net (reset_at k) (inputs_of names v)
  resets zero v e =
      let P : Values → Type 0 = λ u. HaveReset net 1 (inputs_of names u) in
      subst P (same_Some v0 v e) ((h.resets v0 1 r.holds.0).0 r.reset)
  resets (suc k) v e =
      let P : ℕ → Type 0 = λ y. HaveReset net y (inputs_of names v) in
      subst P (sym (reset_later k)) ((h.resets v 0 (holds (suc k) v e)).0 (each_at (HasReset ps 0) vs k v r.no_reset e))

  kept : (k : ℕ) (v : Values) → slice_get (v0 ∷ vs) k ≡ Some v → (i : ℕ) (x : Input) → slice_get net.inputs i ≡ Some x
      → x.kind ≡ kind.Once → slice_index (inputs_of names v) i ≡ slice_index (inputs_of names v0) i
  kept zero v e i x f o = ap (λ u. slice_index (inputs_of names u) i) (sym (same_Some v0 v e))
  kept (suc k) v e i x f o =
      let u = before (v0 ∷ vs) k v e in
      let step = followed_at (KeepsOnce ps) v0 vs k u.0 v r.once u.1 e in
      let same = (h.once u.0 v (holds k u.0 u.1) (holds (suc k) v e)).0 step in
      let P : InputKind → Type 0 =
      λ z. OnceIs z (slice_index (inputs_of names v) i) (slice_index (inputs_of names u.0) i) in
      subst P o (same i x f) ∙ kept k u.0 u.1 i x f o

  by_each : (k i : ℕ) (v : Values) (x : InputKind) → slice_get (v0 ∷ vs) k ≡ Some v
      → ResetIs x (slice_index (inputs_of names v) i) (reset_at k)
      → (x ≡ kind.Once → slice_index (inputs_of names v) i ≡ slice_index (inputs_of names v0) i)
      → by_kind (numbers_in names (slice_get (v0 ∷ vs) k) i) (slice_index (inputs_of names v0) i) (reset_at k) x
      ≡ slice_index (inputs_of names v) i
  by_each k i v kind.EachCycle e reset once = ap (λ o. numbers_in names o i) e
  by_each k i v kind.Once e reset once = sym (once refl)
  by_each k i v kind.Reset e reset once = sym reset

  inputs : (k : ℕ) (v : Values) → slice_get (v0 ∷ vs) k ≡ Some v → inputs_at net ch k ≡ inputs_of names v
  inputs k v e =
      let ours = (choices_run net ch whole of).inputs k in
      let theirs = (h.given v (holds k v e)).inputs in
      same_list (inputs_at net ch k) (inputs_of names v) (ours.each ∙ sym theirs.each) (λ i less.
      let long = length-map net.inputs (λ (x : Input). x.width) in
      let there : i < length net.inputs = omega (arith, less, ours.each, long) in
      let x = one_there net.inputs i there in
      input_at net ch k i x.0 x.1
      ∙ by_each k i v x.0.kind e (resets k v e i x.0 x.1) (λ o. kept k v e i x.0 x.1 o))

  -- ---- states

  states : (k : ℕ) (v : Values) → slice_get (v0 ∷ vs) k ≡ Some v
      → state_at net (inputs_at net ch) (start_of net ch) k ≡ state_of names v
  states zero v e = sym begins.same ∙ ap (state_of names) (same_Some v0 v e)
  states (suc k) v e =
      let u = before (v0 ∷ vs) k v e in
      let step = followed_at (Next ps) v0 vs k u.0 v r.steps u.1 e in
      (λ i. next_state net (given (inputs k u.0 u.1 i) (states k u.0 u.1 i)))
      ∙ sym ((h.steps u.0 v (holds k u.0 u.1) (holds (suc k) v e)).0 step)

  is_evaluated : IsEvaluated net names (v0 ∷ vs)
  is_evaluated = record { choices = ch; of = of; same = λ k v e i. given (inputs k v e i) (states k v e i) }

pub evaluated : (ps : List Part) (net : Netlist) (names : Names) → IsLowered ps net names → IsNet net
    → (d : ℕ) (run : List Values) → IsRun ps d run → IsEvaluated net names run
evaluated ps net names h whole d [] r = absurd (omega (arith, r.cycles))
evaluated ps net names h whole d (v0 ∷ vs) r = is_evaluated ps net names h whole d v0 vs r
