-- The properties that are about all other retirements of the cycles that a check looks at.
use Rattle.std.specs.Prelude.{◌≡◌, refl, ℕ, zero, suc, ◌+◌, ◌-◌, ◌^◌, ◌<◌, ◌≤◌, ◌==◌, Bool, true, false, not, ◌&&◌}
use Rattle.std.specs.Prelude.{◌||◌, nat_le, if◌then◌else◌, List, [], ◌∷◌, ◌++◌, length, map, reverse}
use Rattle.std.specs.List.{list_any, list_all}
use Rattle.std.proofs.Common.{ap, sym, ◌∙◌, arith}
use Rattle.std.proofs.lemmas.Bool.Decides.{nat_tests}
use Rattle.std.proofs.lemmas.List.{reverse-append, append_assoc, map-append}
use Rattle.fv_bits.specs.Bits.{bit}
use Rattle.rv_table.specs.declared.retire.Retire.{Retire}
use Rattle.rv_table.specs.declared.retire.Opts.{Opts}
use Rattle.wn_net.specs.Value.{Given}
use Rattle.wn_net.specs.Net.{Netlist, value_at}
use Rattle.rvfi_port.specs.declared.port.Channel.{Channel}
use Rattle.rvfi_port.specs.Channels.{retires, retire_at}
use Rattle.ck_cfg.specs.declared.check.Check.{Check}
use Rattle.ck_cfg.specs.declared.kind.CheckKind.{CheckKind}
use Rattle.ck_cfg.specs.declared.kind.CheckKind.TheVariants as kinds
use Rattle.ck_spec.specs.declared.retired.Retired.{Retired}
use Rattle.ck_spec.specs.declared.retired.Probe.{Probe}
use Rattle.ck_spec.specs.Lists.{is_at, counts, has_next, found_at, where_found}
use Rattle.ck_spec.specs.Properties.{holds_at, has_own_order, is_followed, implies}
use Rattle.ck_history.specs.Entries.{Entry}
use Rattle.ck_history.specs.Lines.{past}
use Rattle.ck_history.specs.declared.sought.Sought.{Sought}
use Rattle.ck_history.specs.declared.sought.WordTest.TheVariants as datum
use Rattle.ck_history.specs.Searches.{is_sought, agrees, first_agrees}
use Rattle.ck_gen.specs.Retirements.{retired_from, retirements}
use Rattle.ck_gen.specs.Kept.{kept, kept_in, sought_same, sought_next}
use Rattle.ck_gen.proofs.Says.{first_says, says_append, none_says, agrees_or, first_or, or_append}
use Rattle.ck_gen.proofs.Cycles.{told, meets, AreAlike, IsPassedOver, cycles_say, cycle_says, others_of}
use Rattle.ck_gen.proofs.Property.{found_is}
use Rattle.ck_gen.specs.Around.{order_is_own, is_followed_so}

le_true : (a b : ℕ) → a ≤ b → nat_le a b ≡ true
le_true a b h = grind (arith, nat_tests, h)

eq_true : (a : ℕ) → (a == a) ≡ true
eq_true a = grind (arith, nat_tests)

eq_false : (a b : ℕ) → (a ≡ b → ⊥) → (a == b) ≡ false
eq_false a b h = grind (arith, nat_tests, h)

and_true : (a : Bool) → (a && true) ≡ a
and_true true = refl
and_true false = refl

and_false : (a : Bool) → (a && false) ≡ false
and_false true = refl
and_false false = refl

counted : (a k b : ℕ) → a ≤ k → k ≤ b → (nat_le a k && nat_le k b) ≡ true
counted a k b low high = λ i. le_true a k low i && le_true k b high i

-- where none may be there, the rest and the items before it both have none
never_split : (s : Sought) (own : Entry) (rest : Bool) (es : List Entry) → s.word ≡ datum.Never
    → agrees_or s own rest es ≡ (agrees_or s own true es && rest)
never_split s own rest [] e = refl
never_split s own rest (x ∷ xs) e =
    ap (λ b. if is_sought s own x then agrees s.word own x else b) (never_split s own rest xs e)
    ∙ ap (λ w. if is_sought s own x then agrees w own x else (agrees_or s own true xs && rest)) e
    ∙ by (is_sought s own x) (agrees_or s own true xs)
    ∙ sym (ap (λ w. (if is_sought s own x then agrees w own x else agrees_or s own true xs) && rest) e)
  where
    by : (b a : Bool) → (if b then false else (a && rest)) ≡ ((if b then false else a) && rest)
    by true a = refl
    by false a = refl

all_none : (f p : Retired → Bool) (rs : List Retired) → ((r : Retired) → f r ≡ not (p r))
    → list_all f rs ≡ not (list_any p rs)
all_none f p [] h = refl
all_none f p (r ∷ rs) h = (λ i. h r i && all_none f p rs h i) ∙ by (p r) (list_any p rs)
  where
    by : (a b : Bool) → (not a && not b) ≡ not (a || b)
    by true b = refl
    by false b = refl

-- entries of cycles in two parts
past_more : (f : ℕ → List Entry) (first a b : ℕ) → past f first (a + b) ≡ past f (first + a) b ++ past f first a
past_more f first a zero = let e : a + 0 ≡ a = omega arith in ap (past f first) e
past_more f first a (suc b) =
    let e : a + suc b ≡ suc (a + b) = omega arith in
    let g : first + (a + b) ≡ first + a + b = omega arith in
    ap (past f first) e
    ∙ (λ i. f (g i) ++ past_more f first a b i)
    ∙ sym (append_assoc (f (first + a + b)) (past f (first + a) b) (past f first a))

module _ (net : Netlist) (run : ℕ → Given) (before behind : List Channel) (c : Channel) (check : Check) (a b : ℕ)
    (trig : check.trig ≡ check.start + a) (last : check.cycle ≡ check.start + (a + b))
    (own_channel : check.channel ≡ length before) where
  abbrev pub cs : List Channel
  cs = before ++ c ∷ behind

  abbrev pub rs : List Retired
  rs = retirements net run cs check.start (suc (a + b))

  abbrev pub at_trig : Given
  at_trig = run (check.start + a)

  abbrev pub entries_at : CheckKind → ℕ → List Entry
  entries_at kind k = kept_in kind net (run k) cs

  -- those of the trigger's channel and cycle, and those before and behind it, the last one first
  abbrev pub own_entry : CheckKind → Entry
  own_entry kind = kept kind (value_at net at_trig c.valid) (retire_at net at_trig c)

  abbrev pub front : CheckKind → List Entry
  front kind = past (entries_at kind) (check.start + a + 1) b ++ kept_in kind net at_trig behind

  abbrev pub back : CheckKind → List Entry
  back kind = kept_in kind net at_trig before ++ past (entries_at kind) check.start a

  cycle_parts : (kind : CheckKind)
      → kept_in kind net at_trig cs ≡ kept_in kind net at_trig behind ++ own_entry kind ∷ kept_in kind net at_trig
      before
  cycle_parts kind =
      let f : Channel → Entry = λ x. kept kind (value_at net at_trig x.valid) (retire_at net at_trig x) in
      ap reverse (map-append f before (c ∷ behind))
      ∙ reverse-append (map f before) (map f (c ∷ behind))
      ∙ ap (λ es. es ++ reverse (map f before)) (reverse-append (f c ∷ []) (map f behind))
      ∙ append_assoc (reverse (map f behind)) (f c ∷ []) (reverse (map f before))

  -- all entries, the last one first
  pub parts : (kind : CheckKind)
      → past (entries_at kind) check.start (suc (a + b)) ≡ front kind ++ own_entry kind ∷ back kind
  parts kind =
      let f = entries_at kind in
      let e : suc (a + b) ≡ (a + 1) + b = omega arith in
      let g : check.start + (a + 1) ≡ check.start + a + 1 = omega arith in
      let h : a + 1 ≡ suc a = omega arith in
      let later = past f (check.start + a + 1) b in
      let mid = kept_in kind net at_trig behind in
      ap (past f check.start) e
      ∙ past_more f check.start (a + 1) b
      ∙ (λ i. past f (g i) b ++ past f check.start (h i))
      ∙ ap (λ es. later ++ (es ++ past f check.start a)) (cycle_parts kind)
      ∙ ap (λ es. later ++ es) (append_assoc mid (own_entry kind ∷ kept_in kind net at_trig before)
      (past f check.start a))
      ∙ sym (append_assoc later mid (own_entry kind ∷ back kind))

  module _ (kind : CheckKind) (s : Sought) (own : Entry) (never : s.word ≡ datum.Never) (such : Retire → Bool)
      (sought : (there : ℕ) (r : Retire) → such r ≡ meets kind s own there r) where
    -- all that count
    abbrev pub p_all : Retired → Bool
    p_all e = counts check e && such e.retire

    -- and are no other than that of the trigger
    abbrev pub p_other : Retired → Bool
    p_other e = (counts check e && such e.retire) && not (is_at check check.trig e)

    none : Retired → Bool
    none e = false

    says_never : (there : ℕ) (r : Retire) → false ≡ agrees s.word own (kept kind there r)
    says_never there r = sym (ap (λ w. agrees w own (kept kind there r)) never)

    counts_is : (k j : ℕ) (r : Retire) → check.start ≤ k → k ≤ check.start + (a + b)
        → p_all (told k j r) ≡ such r
    counts_is k j r low high =
        ap (λ x. x && such r) (counted check.start k check.cycle low (omega (arith, high, last)))

    all_alike : (k : ℕ) → check.start ≤ k → k < check.start + suc (a + b)
        → AreAlike net kind s own p_all (λ e. false) k 0 (length cs)
    all_alike k low high = record {
      sought = λ j there r x y. counts_is k j r low (omega (arith, high)) ∙ sought there r;
      says = λ j there r x y. says_never there r;
    }

    -- none of all is such
    pub none_of_all : not (list_any p_all rs) ≡ first_agrees s own (past (entries_at kind) check.start (suc (a + b)))
    none_of_all =
        sym (none_says p_all true rs)
        ∙ cycles_say net kind s own p_all (λ e. false) run cs check.start (suc (a + b)) true all_alike
        ∙ sym (first_or s own (past (entries_at kind) check.start (suc (a + b))))

    other_cycle : (k j : ℕ) (r : Retire) → check.start ≤ k → k ≤ check.start + (a + b)
        → (k ≡ check.start + a → ⊥) → p_other (told k j r) ≡ such r
    other_cycle k j r low high other =
        (λ i. counts_is k j r low high i
        && not (eq_false k check.trig (λ e. other (e ∙ trig)) i && (j == check.channel)))
        ∙ and_true (such r)

    other_channel : (j : ℕ) (r : Retire) → (j ≡ length before → ⊥)
        → p_other (told (check.start + a) j r) ≡ such r
    other_channel j r other =
        (λ i. counts_is (check.start + a) j r (omega arith) (omega arith) i
        && not (((check.start + a) == check.trig) && eq_false j check.channel (λ e. other (e ∙ own_channel)) i))
        ∙ ap (λ x. such r && not x) (and_false ((check.start + a) == check.trig))
        ∙ and_true (such r)

    at_own : (j : ℕ) (r : Retire) → j ≡ length before → p_other (told (check.start + a) j r) ≡ false
    at_own j r e =
        let same : j ≡ check.channel = e ∙ sym own_channel in
        (λ i. p_all (told (check.start + a) j r) && not ((sym trig i == check.trig) && (same i == check.channel)))
        ∙ (λ i. p_all (told (check.start + a) j r) && not (eq_true check.trig i && eq_true check.channel i))
        ∙ and_false (p_all (told (check.start + a) j r))

    before_alike : (k : ℕ) → check.start ≤ k → k < check.start + a
        → AreAlike net kind s own p_other (λ e. false) k 0 (length cs)
    before_alike k low high = record {
      sought = λ j there r x y.
          other_cycle k j r low (omega (arith, high)) (λ e. omega (arith, e, high)) ∙ sought there r;
      says = λ j there r x y. says_never there r;
    }

    later_alike : (k : ℕ) → check.start + a < k → k ≤ check.start + (a + b)
        → AreAlike net kind s own p_other (λ e. false) k 0 (length cs)
    later_alike k low high = record {
      sought = λ j there r x y.
          other_cycle k j r (omega (arith, low)) high (λ e. omega (arith, e, low)) ∙ sought there r;
      says = λ j there r x y. says_never there r;
    }

    beside_alike : (low high : ℕ) → ((j : ℕ) → low ≤ j → j < high → j ≡ length before → ⊥)
        → AreAlike net kind s own p_other (λ e. false) (check.start + a) low high
    beside_alike low high other = record {
      sought = λ j there r x y. other_channel j r (other j x y) ∙ sought there r;
      says = λ j there r x y. says_never there r;
    }

    own_passed : IsPassedOver net kind s own p_other (λ e. false) (check.start + a) (0 + length before)
        (0 + length before + 1)
    own_passed = λ j r x y. at_own j r (omega (arith, x, y))

    -- the trigger's cycle
    in_trig : (rest : Bool)
        → first_says p_other (λ e. false) rest (reverse (retired_from net at_trig (check.start + a) 0 cs))
        ≡ agrees_or s own rest (kept_in kind net at_trig behind ++ kept_in kind net at_trig before)
    in_trig rest =
        let n = length before in
        others_of net kind s own p_other (λ e. false) at_trig (check.start + a) before behind c rest
        (beside_alike 0 n (λ j u v e. omega (arith, v, e))) own_passed
        (beside_alike (0 + n + 1) (0 + n + 1 + length behind) (λ j u v e. omega (arith, u, e)))

    so_far : ℕ → List Entry
    so_far m = (past (entries_at kind) (check.start + a + 1) m ++ kept_in kind net at_trig behind) ++ back kind

    around : (m : ℕ) → m ≤ b
        → first_says p_other (λ e. false) true (reverse (retirements net run cs check.start (suc (a + m))))
        ≡ agrees_or s own true (so_far m)
    unfolding so_far
    around zero within =
        let e : a + 0 ≡ a = omega arith in
        let rs0 = retirements net run cs check.start a in
        let here = retired_from net at_trig (check.start + a) 0 cs in
        let es = past (entries_at kind) check.start a in
        ap (λ m. first_says p_other (λ e. false) true (reverse (retirements net run cs check.start (suc m)))) e
        ∙ ap (first_says p_other (λ e. false) true) (reverse-append rs0 here)
        ∙ says_append p_other (λ e. false) true (reverse here) (reverse rs0)
        ∙ ap (λ x. first_says p_other (λ e. false) x (reverse here))
        (cycles_say net kind s own p_other (λ e. false) run cs check.start a true before_alike)
        ∙ in_trig (agrees_or s own true es)
        ∙ sym (or_append s own true (kept_in kind net at_trig behind ++ kept_in kind net at_trig before) es)
        ∙ ap (agrees_or s own true)
        (append_assoc (kept_in kind net at_trig behind) (kept_in kind net at_trig before) es)
    around (suc m) within =
        let e : a + suc m ≡ suc (a + m) = omega arith in
        let rs0 = retirements net run cs check.start (suc (a + m)) in
        let k = check.start + suc (a + m) in
        let here = retired_from net (run k) k 0 cs in
        let g : k ≡ check.start + a + 1 + m = omega arith in
        let later = past (entries_at kind) (check.start + a + 1) m in
        let mid = kept_in kind net at_trig behind in
        ap (λ x. first_says p_other (λ e. false) true (reverse (retirements net run cs check.start (suc x)))) e
        ∙ ap (first_says p_other (λ e. false) true) (reverse-append rs0 here)
        ∙ says_append p_other (λ e. false) true (reverse here) (reverse rs0)
        ∙ ap (λ x. first_says p_other (λ e. false) x (reverse here)) (around m (omega (arith, within)))
        ∙ cycle_says net kind s own p_other (λ e. false) (run k) k 0 (length cs) cs (agrees_or s own true (so_far m))
        (later_alike k (omega arith) (omega (arith, within))) (omega arith)
        ∙ sym (or_append s own true (entries_at kind k) (so_far m))
        ∙ ap (λ x. agrees_or s own true (entries_at kind x ++ so_far m)) g
        ∙ ap (agrees_or s own true)
        (sym (append_assoc (entries_at kind (check.start + a + 1 + m)) (later ++ mid) (back kind))
        ∙ ap (λ xs. xs ++ back kind) (sym (append_assoc (entries_at kind (check.start + a + 1 + m)) later mid)))

    -- no other is such
    pub none_other : not (list_any p_other rs) ≡ (first_agrees s own (front kind) && first_agrees s own (back kind))
    unfolding so_far
    none_other =
        sym (none_says p_other true rs)
        ∙ around b (omega arith)
        ∙ or_append s own true (front kind) (back kind)
        ∙ never_split s own (agrees_or s own true (back kind)) (front kind) never
        ∙ sym (λ i. first_or s own (front kind) i && first_or s own (back kind) i)

  -- the order of the trigger's retirement is that of no other
  own_order_is : has_own_order check rs (retire_at net at_trig c)
      ≡ order_is_own (own_entry kinds.Unique) (front kinds.Unique) (back kinds.Unique)
  own_order_is =
      let r = retire_at net at_trig c in
      let such : Retire → Bool = λ e. e.order == r.order in
      all_none (λ e. implies (counts check e && e.retire.order == r.order) (is_at check check.trig e))
      (λ e. (counts check e && such e.retire) && not (is_at check check.trig e)) rs
      (λ e. by (counts check e && such e.retire) (is_at check check.trig e))
      ∙ none_other kinds.Unique sought_same (own_entry kinds.Unique) refl such (λ t e. sym (and_true (such e)))
    where
      by : (x y : Bool) → implies x y ≡ not (x && not y)
      by true true = refl
      by true false = refl
      by false y = refl

  -- the order behind it is there
  followed_is : is_followed check rs (retire_at net at_trig c)
      ≡ is_followed_so (own_entry kinds.Liveness) (past (entries_at kinds.Liveness) check.start (suc (a + b)))
  followed_is =
      let r = retire_at net at_trig c in
      let such : Retire → Bool = λ e. e.order == r.order + 1 in
      let all = past (entries_at kinds.Liveness) check.start (suc (a + b)) in
      let found : has_next check r.order rs ≡ not (first_agrees sought_next (own_entry kinds.Liveness) all) =
      sym (twice (has_next check r.order rs))
      ∙ ap not (none_of_all kinds.Liveness sought_next (own_entry kinds.Liveness) refl such
      (λ t e. sym (and_true (such e)))) in
      λ i. (is_bit r.halt i || (r.order == 2 ^ 64 - 1)) || found i
    where
      twice : (x : Bool) → not (not x) ≡ x
      twice true = refl
      twice false = refl

      is_bit : (x : Bool) → x ≡ not (bit x == 0)
      is_bit true = refl
      is_bit false = refl

  -- the properties, of the trigger's retirement
  pub unique_is : (probe : Probe) (opts : Opts)
      → where_found (found_at check check.trig rs) (λ r. holds_at check rs probe opts r kinds.Unique)
      ≡ (if retires net at_trig c
      then order_is_own (own_entry kinds.Unique) (front kinds.Unique) (back kinds.Unique) else true)
  unique_is probe opts =
      (λ i. where_found (found_at check (trig i) rs) (λ r. holds_at check rs probe opts r kinds.Unique))
      ∙ found_is net run before behind c check own_channel (check.start + a)
      (λ r. holds_at check rs probe opts r kinds.Unique) check.start (suc (a + b)) (omega arith) (omega arith)
      ∙ ap (λ x. if retires net at_trig c then x else true) own_order_is

  pub liveness_is : (probe : Probe) (opts : Opts)
      → where_found (found_at check check.trig rs) (λ r. holds_at check rs probe opts r kinds.Liveness)
      ≡ (if retires net at_trig c
      then is_followed_so (own_entry kinds.Liveness) (past (entries_at kinds.Liveness) check.start (suc (a + b)))
      else true)
  liveness_is probe opts =
      (λ i. where_found (found_at check (trig i) rs) (λ r. holds_at check rs probe opts r kinds.Liveness))
      ∙ found_is net run before behind c check own_channel (check.start + a)
      (λ r. holds_at check rs probe opts r kinds.Liveness) check.start (suc (a + b)) (omega arith) (omega arith)
      ∙ ap (λ x. if retires net at_trig c then x else true) followed_is
