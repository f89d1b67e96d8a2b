-- Loops of small designs, and that an order has none.
use Rattle.std.specs.Prelude.{◌≡◌, refl, ℕ, zero, suc, ◌<◌, ◌≤◌, List, [], ◌∷◌, true, false, slice_get, Some, All}
use Rattle.std.specs.Prelude.{is_none, not}
use Rattle.std.proofs.Common.{ap, sym, ◌∙◌, arith, true≢false}
use Rattle.std.proofs.lemmas.Option.{same_Some}
use Rattle.std.proofs.lemmas.List.Elements.{All-nil, All-cons, All-head, All-tail}
use Rattle.vl_size.specs.Places.{is_earlier}
use Rattle.vl_size.specs.declared.decl.Decl.{Decl}
use Rattle.vl_mean.specs.declared.driver.Driver.{Driver}
use Rattle.vl_mean.specs.Runs.{FollowedBy}
use Rattle.vl_mean.specs.Parts.{plain, plain_target}
use Rattle.vl_flow_spec.specs.Drivers.{is_clocked, needed_by, driven_by}
use Rattle.vl_flow_spec.specs.FlowExamples.{a, b, always, copies, high, low, net, now, variable}
use Rattle.vl_flow_spec.specs.Refusals.{AreDistinct, ReadsFrom, IsLoop, StandAt, last_of}
use Rattle.vl_flow_spec.specs.Sequence.{is_settled, IsSequence}
use Rattle.vl_flow_spec.proofs.Chain.{place_of_number}

-- it is one of the drivers
abbrev pub Stands : List Driver → Driver → Type 0
Stands drivers x = (i : ℕ) × (slice_get drivers i ≡ Some x)

-- ---- an order has no loop

each_stands : (drivers : List Driver) (numbers : List ℕ) (xs : List Driver) → StandAt drivers numbers xs
    → All (λ x. is_clocked x.what ≡ false) xs → All (λ x. Stands drivers x × (is_clocked x.what ≡ false)) xs
each_stands drivers [] [] h f = All-nil (λ x. Stands drivers x × (is_clocked x.what ≡ false))
each_stands drivers [] (x ∷ xs) h f = absurd h
each_stands drivers (i ∷ numbers) [] h f = absurd h
each_stands drivers (i ∷ numbers) (x ∷ xs) h f =
    All-cons (λ x. Stands drivers x × (is_clocked x.what ≡ false)) x xs
    ((i, h.0), All-head (λ x. is_clocked x.what ≡ false) x xs f)
    (each_stands drivers numbers xs h.1 (All-tail (λ x. is_clocked x.what ≡ false) x xs f))

module _ (ds : List Decl) (drivers : List Driver) (s : List ℕ) (order : IsSequence ds drivers s) where
  -- where a driver stands in the sequence
  record Stood (x : Driver) : Type 0 where
    number : ℕ
    place : ℕ
    is : slice_get drivers number ≡ Some x
    stands : slice_get s place ≡ Some number

  stood : (x : Driver) → Stands drivers x × (is_clocked x.what ≡ false) → Stood x
  stood x h =
      let r = place_of_number s h.0.0 (order.all h.0.0 (ap is_settled h.0.1 ∙ ap not h.1)) in
      record { number = h.0.0; place = r.0; is = h.0.1; stands = r.1 }

  falls : (x y : Driver) → (m : Stood x) → (n : Stood y) → ReadsFrom ds x y → n.place < m.place
  falls x y m n r = order.behind m.place n.place m.number n.number x y m.stands n.stands m.is n.is r

  -- along drivers that each read from the next one, places fall
  along : (x : Driver) (ys : List Driver) → All (λ x. Stands drivers x × (is_clocked x.what ≡ false)) (x ∷ ys)
      → FollowedBy (ReadsFrom ds) x ys → (m : Stood x)
      → (n : Stood (last_of ds x ys)) × (n.place ≤ m.place)
  along x [] all f m = (m, omega arith)
  along x (y ∷ ys) all f m =
      let rest = All-tail (λ x. Stands drivers x × (is_clocked x.what ≡ false)) x (y ∷ ys) all in
      let n = stood y (All-head (λ x. Stands drivers x × (is_clocked x.what ≡ false)) y ys rest) in
      let r = along y ys rest f.1 n in
      let less = falls x y m n f.0 in
      (r.0, omega (arith, less, r.1))

  pub no_loop : (first : Driver) (others : List Driver) → IsLoop ds drivers first others → ⊥
  no_loop first others l =
      let all = each_stands drivers l.numbers (first ∷ others) l.among l.settled in
      let m = stood first (All-head (λ x. Stands drivers x × (is_clocked x.what ≡ false)) first others all) in
      let r = along first others all l.reads m in
      let less = falls (last_of ds first others) first r.0 m l.closed in
      absurd (omega (arith, less, r.1))

-- ---- small loops

one_distinct : (i : ℕ) → AreDistinct (i ∷ [])
one_distinct i zero zero n e f = refl
one_distinct i zero (suc b) n e f = absurd (true≢false (ap is_none f))
one_distinct i (suc a) b n e f = absurd (true≢false (ap is_none e))

two_distinct : (i j : ℕ) → (i ≡ j → ⊥) → AreDistinct (i ∷ j ∷ [])
two_distinct i j h zero zero n e f = refl
two_distinct i j h zero (suc zero) n e f = absurd (h (same_Some i n e ∙ sym (same_Some j n f)))
two_distinct i j h (suc zero) zero n e f = absurd (h (same_Some i n f ∙ sym (same_Some j n e)))
two_distinct i j h (suc zero) (suc zero) n e f = refl
two_distinct i j h a (suc (suc b)) n e f = absurd (true≢false (ap is_none f))
two_distinct i j h (suc (suc a)) b n e f = absurd (true≢false (ap is_none e))

module _ (ds : List Decl) (drivers : List Driver) where
  abbrev IsThere : Driver → Type 0
  IsThere x = Stands drivers x × (is_clocked x.what ≡ false)

  abbrev IsSettled : Driver → Type 0
  IsSettled x = is_clocked x.what ≡ false

  abbrev IsNoEarlier : Driver → Driver → Type 0
  IsNoEarlier first x = is_earlier x.pos first.pos ≡ false

  pub loop_of_one : (x : Driver) → IsThere x → ReadsFrom ds x x → IsLoop ds drivers x []
  loop_of_one x there r = record {
    numbers = there.0.0 ∷ [];
    among = (there.0.1, tt);
    once = one_distinct there.0.0;
    settled = All-cons IsSettled x [] there.1 (All-nil IsSettled);
    reads = tt;
    closed = r;
    earliest = All-nil (IsNoEarlier x);
  }

  pub loop_of_two : (x y : Driver) → (first : IsThere x) → (second : IsThere y) → (first.0.0 ≡ second.0.0 → ⊥)
      → IsNoEarlier x y → ReadsFrom ds x y → ReadsFrom ds y x → IsLoop ds drivers x (y ∷ [])
  loop_of_two x y first second apart late r q = record {
    numbers = first.0.0 ∷ second.0.0 ∷ [];
    among = (first.0.1, (second.0.1, tt));
    once = two_distinct first.0.0 second.0.0 apart;
    settled = All-cons IsSettled x (y ∷ []) first.1 (All-cons IsSettled y [] second.1 (All-nil IsSettled));
    reads = (r, tt);
    closed = q;
    earliest = All-cons (IsNoEarlier x) y [] late (All-nil (IsNoEarlier x));
  }

abbrev reads_at : (ds : List Decl) (x y : Driver) (n : List ℕ) (i : ℕ) → needed_by ds x.what n i ≡ true
    → driven_by ds y.what n i ≡ true → ReadsFrom ds x y
reads_at ds x y n i r d = record { cell = n; offset = i; read = r; driven = d }

pub of_itself : IsLoop (variable a ∷ []) (always 3 (now (plain_target a) (plain a)) ∷ [])
    (always 3 (now (plain_target a) (plain a))) []
of_itself =
    let x = always 3 (now (plain_target a) (plain a)) in
    loop_of_one (variable a ∷ []) (x ∷ []) x ((0, refl), refl) (reads_at (variable a ∷ []) x x a 0 refl refl)

pub of_two : IsLoop (net a ∷ net b ∷ []) (copies 31 b a ∷ copies 30 a b ∷ []) (copies 30 a b) (copies 31 b a ∷ [])
of_two =
    let ds = net a ∷ net b ∷ [] in
    let x = copies 30 a b in
    let y = copies 31 b a in
    loop_of_two ds (y ∷ x ∷ []) x y ((1, refl), refl) ((0, refl), refl)
    (λ e. let far : 1 ≡ 0 = e in absurd (omega (arith, far))) refl (reads_at ds x y b 0 refl refl)
    (reads_at ds y x a 0 refl refl)

-- each reads one bit of the other, and no bit depends on itself
pub of_whole_drivers : IsLoop (net a ∷ net b ∷ []) (high 1 a b ∷ low 2 b a ∷ []) (high 1 a b)
    (low 2 b a ∷ [])
of_whole_drivers =
    let ds = net a ∷ net b ∷ [] in
    let x = high 1 a b in
    let y = low 2 b a in
    loop_of_two ds (x ∷ y ∷ []) x y ((0, refl), refl) ((1, refl), refl)
    (λ e. let far : 0 ≡ 1 = e in absurd (omega (arith, far))) refl (reads_at ds x y b 0 refl refl)
    (reads_at ds y x a 0 refl refl)

-- through a block
pub of_a_block : IsLoop (net a ∷ variable b ∷ []) (copies 4 a b ∷ always 3 (now (plain_target b) (plain a)) ∷ [])
    (always 3 (now (plain_target b) (plain a))) (copies 4 a b ∷ [])
of_a_block =
    let ds = net a ∷ variable b ∷ [] in
    let x = always 3 (now (plain_target b) (plain a)) in
    let y = copies 4 a b in
    loop_of_two ds (y ∷ x ∷ []) x y ((1, refl), refl) ((0, refl), refl)
    (λ e. let far : 1 ≡ 0 = e in absurd (omega (arith, far))) refl (reads_at ds x y a 0 refl refl)
    (reads_at ds y x b 0 refl refl)

pub ruleset loops = (of_itself, of_two, of_whole_drivers, of_a_block)
