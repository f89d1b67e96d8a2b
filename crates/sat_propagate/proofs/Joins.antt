-- A clause joins the held ones.
use Rattle.std.proofs.Common.{◌≡◌, ℕ, zero, suc, ◌+◌, ◌-◌, ◌<◌, ◌≤◌, Bool, true, false, cond, eqb, List, [], ◌∷◌}
use Rattle.std.proofs.Common.{ℤ, pos, length, drop, get_or, Option, Some, None, refl, ap, sym, subst, ◌∙◌, ◌⊎◌}
use Rattle.std.proofs.Common.{inl, inr, arith}
use Rattle.std.specs.List.{list_any}
use Rattle.std.specs.Ordering.{int_eq}
use Rattle.std.proofs.lemmas.Bool.{false≢true, cases_Bool}
use Rattle.lrat_check.specs.declared.reading.Reading.{Reading}
use Rattle.lrat_check.specs.declared.reading.Reading.TheVariants as read
use Rattle.lrat_check.specs.Codes.{code_of, lit_of, codes_of, lits_of}
use Rattle.lrat_check.specs.Sets.{has, is_false, first_open, other_open, reading_of, reading, IsLit, AreLits}
use Rattle.lrat_check.specs.Resolved.{is_open}
use Rattle.lrat_check.specs.Store.{Coded, with_code}
use Rattle.lrat_check.proofs.Codes.{lit_code, lits_codes}
use Rattle.sat_trail.specs.Trail.{Entries, lits, oldest, true_codes, has_code, Outlasts}
use Rattle.sat_trail.proofs.Codes.{codes_has}
use Rattle.sat_trail.proofs.Members.{same_is, same_self, or_left, has_tail, any_has}
use Rattle.sat_trail.proofs.Readings.{Two, open_to}
use Rattle.sat_propagate.specs.declared.watch.Watch.{Watch}
use Rattle.sat_propagate.specs.Watching.{is_false_code, Among, satisfied, Lists, is_listed, with_watch, Quiet, Watched}
use Rattle.sat_propagate.specs.Watching.{CalmBelow, Fits, AreFit, Ready}
use Rattle.sat_propagate.specs.Watches.{SameLits, Leads, OpenBelow}
use Rattle.sat_propagate.proofs.Quiets.{eq_is, eq_self, some_is, stays, joins}
use Rattle.sat_propagate.proofs.Readies.{all_map, ready_push}
use Rattle.sat_propagate.proofs.Visits.{satisfies}
use Rattle.sat_propagate.proofs.Closings.{false_lits}

never_true : (o : Option ℤ) (other : ℤ → Bool) → reading_of o other ≡ read.True → ⊥
never_true None other e = cc
never_true (Some l) other e = at (other l) e where
  at : (b : Bool) → cond b read.Open (read.Unit l) ≡ read.True → ⊥
  at true e = cc
  at false e = cc

two_of : (set c : List ℤ) (r : Reading) → reading set c ≡ r → is_open r ≡ true → list_any (has set) c ≡ false
    → Two set c
two_of set c read.True e o h = absurd (never_true (first_open set c) (λ l. other_open set l c)
    (sym (ap (λ b. cond b read.True (reading_of (first_open set c) (λ l. other_open set l c))) h) ∙ e))
two_of set c read.False e o h = absurd (false≢true o)
two_of set c (read.Unit l) e o h = absurd (false≢true o)
two_of set c read.Open e o h = (open_to set c e).0

-- a clause that reads so has a true literal or two different ones that aren't false
open_parts : (set c : List ℤ) → is_open (reading set c) ≡ true → (list_any (has set) c ≡ true) ⊎ Two set c
open_parts set c o = elim (cases_Bool (list_any (has set) c)) [
  | inl h ↦ inl h
  | inr h ↦ inr (two_of set c (reading set c) refl o h)
]

pub code_at : (c : List ℤ) (place : ℕ) → get_or (codes_of c) place 0 ≡ code_of (get_or c place (pos 0))
code_at [] place = refl
code_at (l ∷ c) zero = refl
code_at (l ∷ c) (suc place) = code_at c place

pub lit_there : (c : List ℤ) (place : ℕ) → AreLits c → place < length c → IsLit (get_or c place (pos 0))
lit_there [] place a l = absurd (omega (arith, l))
lit_there (x ∷ c) zero a l = a.0
lit_there (x ∷ c) (suc place) a l = lit_there c place a.1 (omega (arith, l))

pub has_place : (c : List ℤ) (place : ℕ) → place < length c → has c (get_or c place (pos 0)) ≡ true
has_place [] place l = absurd (omega (arith, l))
has_place (x ∷ c) zero l = or_left (int_eq x x) (has c x) (same_self x x refl)
has_place (x ∷ c) (suc place) l =
    has_tail (get_or c place (pos 0)) x c (has_place c place (omega (arith, l)))

pub length_codes : (c : List ℤ) → length (codes_of c) ≡ length c
length_codes [] = refl
length_codes (l ∷ c) = ap suc (length_codes c)

-- what was older than an entry
drop_next : (k : ℕ) (t u : Entries) (e : _) → drop k t ≡ e ∷ u → (k < length t) × (drop (suc k) t ≡ u)
drop_next zero [] u e h = cc
drop_next zero (x ∷ t) u e h = (omega arith, tail h) where
  tail : x ∷ t ≡ e ∷ u → t ≡ u
  tail h = cc
drop_next (suc k) [] u e h = cc
drop_next (suc k) (x ∷ t) u e h = let r = drop_next k t u e h in (omega (arith, r.0), r.1)

module _ (t : Entries) (clause lits_now : List ℤ) (same : SameLits clause lits_now) (a : AreLits lits_now)
    (leads : Leads t lits_now) where
  -- under what is older than a decision the clause is calm
  module _ (u : Entries) (k : ℕ) (d : drop k t ≡ u) (w : k ≤ length t)
      (o : is_open (reading (lits u) clause) ≡ true) where
    back : oldest (length t - k) t ≡ u
    back = let q : length t - (length t - k) ≡ k = omega (arith, w) in ap (λ n. drop n t) q ∙ d

    outlasts_at : (x y : ℤ) → Outlasts t x y → is_false (lits u) x ≡ true → is_false (lits u) y ≡ true
    outlasts_at x y s h =
        ap (λ z. is_false (lits z) y) (sym back) ∙ s (length t - k) (ap (λ z. is_false (lits z) x) back ∙ h)

    satisfied_by : list_any (has (lits u)) clause ≡ true → satisfied (true_codes u) (codes_of lits_now) ≡ true
    satisfied_by h =
        let r = any_has (has (lits u)) clause h in
        satisfies (true_codes u) (codes_of lits_now) (code_of r.0)
        (codes_has lits_now r.0 ∙ sym (same r.0) ∙ r.1) (codes_has (lits u) r.0 ∙ r.2)

    -- at most one literal isn't false
    not_two : (l : ℤ) → ((x : ℤ) → has lits_now x ≡ true → int_eq l x ≡ false → is_false (lits u) x ≡ true)
        → Two (lits u) clause → ⊥
    not_two l f two = elim (cases_Bool (int_eq l two.one)) [
      | inr e ↦ false≢true (sym two.one_unfalse ∙ f two.one (sym (same two.one) ∙ two.has_one) e)
      | inl e ↦ false≢true (sym two.two_unfalse ∙ f two.two (sym (same two.two) ∙ two.has_two)
          (ap (λ z. int_eq z two.two) (same_is l two.one e) ∙ two.differ))
    ]

    calm_at : (place : ℕ) → place < 2 → is_false_code (true_codes u) (get_or (codes_of lits_now) place 0) ≡ true
        → satisfied (true_codes u) (codes_of lits_now) ≡ true
    calm_at place l f = elim (open_parts (lits u) clause o) [
      | inl h ↦ satisfied_by h
      | inr two ↦ absurd (at place l (sym (false_lits (lits u) (get_or lits_now place (pos 0))
          (lit_there lits_now place a (let n = leads.long in omega (arith, n, l))))
          ∙ ap (is_false_code (true_codes u)) (sym (code_at lits_now place)) ∙ f) two)
    ] where
      at : (place : ℕ) → place < 2 → is_false (lits u) (get_or lits_now place (pos 0)) ≡ true
          → Two (lits u) clause → ⊥
      at zero l g two =
          not_two (get_or lits_now 0 (pos 0)) (λ x h e. outlasts_at (get_or lits_now 0 (pos 0)) x (leads.first x h) g) two
      at (suc zero) l g two = not_two (get_or lits_now 0 (pos 0))
          (λ x h e. outlasts_at (get_or lits_now 1 (pos 0)) x (leads.second x h e) g) two
      at (suc (suc place)) l g two = absurd (omega (arith, l))

  module _ (held now : Coded) (id : ℕ) (e : now ≡ with_code held id (codes_of lits_now)) where
    in_now : (i : ℕ) (c : List ℕ) → now i ≡ Some c → ((id ≡ i) × (codes_of lits_now ≡ c)) ⊎ (held i ≡ Some c)
    in_now i c h = let g : with_code held id (codes_of lits_now) i ≡ Some c = ap (λ z. z i) (sym e) ∙ h in
        elim (cases_Bool (eqb id i)) [
          | inl j ↦ inl (
            eq_is id i j,
            some_is (codes_of lits_now) c (sym (ap (λ b. cond b (Some (codes_of lits_now)) (held i)) j) ∙ g),
          )
          | inr j ↦ inr (sym (ap (λ b. cond b (Some (codes_of lits_now)) (held i)) j) ∙ g)
        ]

    pub below_more : (u : Entries) (k : ℕ) → drop k t ≡ u → k ≤ length t → OpenBelow clause u → CalmBelow held u
        → CalmBelow now u
    below_more [] k d w o c = tt
    below_more (x ∷ u) k d w o c =
        let n = drop_next k t u x d in (
          λ h i y place f l g. elim (in_now i y f) [
            | inl r ↦ subst (λ z. satisfied (true_codes u) z ≡ true) r.1
                (calm_at u (suc k) n.1 (omega (arith, n.0)) (o.0 h) place l
                (ap (λ z. is_false_code (true_codes u) (get_or z place 0)) r.1 ∙ g))
            | inr r ↦ c.0 h i y place r l g
          ],
          below_more u (suc k) n.1 (omega (arith, n.0)) o.1 c.1,
        )

    module _ (lists : Lists) (done less set : List ℕ) (code bound : ℕ) (rest : List Watch) (v w : Watch)
        (iv : v.id ≡ id) (iw : w.id ≡ id) where
      abbrev pub x : ℕ
      x = get_or (codes_of lits_now) 0 0

      abbrev pub y : ℕ
      y = get_or (codes_of lits_now) 1 0

      listed_at : (place : ℕ) → place < 2
          → is_listed (with_watch (with_watch lists x v) y w (get_or (codes_of lits_now) place 0)) id ≡ true
      listed_at zero l = stays (with_watch lists x v) y w x id (joins lists x v x id refl iv)
      listed_at (suc zero) l = joins (with_watch lists x v) y w y id refl iw
      listed_at (suc (suc place)) l = absurd (omega (arith, l))

      pub watched_more : Watched held lists done set code rest → Among less done
          → ((place : ℕ) → place < 2 → is_false_code less (get_or (codes_of lits_now) place 0) ≡ false)
          → eqb x y ≡ false
          → Watched now (with_watch (with_watch lists x v) y w) less set code rest
      watched_more s u n z = record {
        two = λ i c h. elim (in_now i c h) [
          | inl r ↦ let m = leads.long in omega (arith, m, length_codes lits_now, ap length r.1)
          | inr r ↦ s.two i c r
        ];
        apart = λ i c h. elim (in_now i c h) [
          | inl r ↦ ap (λ q. eqb (get_or q 0 0) (get_or q 1 0)) (sym r.1) ∙ z
          | inr r ↦ s.apart i c r
        ];
        kept = λ i c place h l. elim (in_now i c h) [
          | inl r ↦ inl (subst (λ q. Quiet (with_watch (with_watch lists x v) y w) less set i q (get_or q place 0)) r.1
              (record {
                inside = ap (is_listed (with_watch (with_watch lists x v) y w (get_or (codes_of lits_now) place 0)))
                    (sym r.0) ∙ listed_at place l;
                calm = λ f. absurd (false≢true (sym (n place l) ∙ f));
              }))
          | inr r ↦ elim (s.kept i c place r l) [
            | inl q ↦ inl (record {
              inside = stays (with_watch lists x v) y w (get_or c place 0) i
                  (stays lists x v (get_or c place 0) i q.inside);
              calm = λ f. q.calm (u _ f);
            })
            | inr q ↦ inr q
          ]
        ];
      }

      -- a watch of another clause fits as before
      fits_other : bound ≤ id → (o : Watch) → Fits held bound o → Fits now (id + 1) o
      fits_other b o f = record {
        known = let k = f.known in omega (arith, k, b);
        lit = f.lit;
        stands = λ c h. elim (in_now o.id c h) [
          | inl r ↦ absurd (let k = f.known in let q = r.0 in omega (arith, k, b, q))
          | inr r ↦ f.stands c r
        ];
      }

      fits_this : (o : Watch) (place : ℕ) → o.id ≡ id → o.blocker ≡ code_of (get_or lits_now place (pos 0))
          → place < length lits_now → Fits now (id + 1) o
      fits_this o place i b l = record {
        known = omega (arith, i);
        lit = subst (λ z. IsLit (lit_of z)) (sym b) (subst IsLit (sym (lit_code (get_or lits_now place (pos 0))))
            (lit_there lits_now place a l));
        stands = λ c h.
            let g : Some (codes_of lits_now) ≡ Some c =
            sym (ap (λ b. cond b (Some (codes_of lits_now)) (held o.id)) (eq_self id o.id (sym i)))
            ∙ sym (ap (λ z. z o.id) e) ∙ h in
            subst (λ z. has_code z o.blocker ≡ true) (some_is (codes_of lits_now) c g)
            (ap (has_code (codes_of lits_now)) b ∙ codes_has lits_now (get_or lits_now place (pos 0))
            ∙ has_place lits_now place l);
      }

      pub fit_more : bound ≤ id → (ws : List Watch) → AreFit held bound ws → AreFit now (id + 1) ws
      fit_more b ws f = all_map (Fits held bound) (Fits now (id + 1)) ws (fits_other b) f

      pub ready_more : bound ≤ id → Ready held bound lists
          → v.blocker ≡ code_of (get_or lits_now 1 (pos 0)) → w.blocker ≡ code_of (get_or lits_now 0 (pos 0))
          → Ready now (id + 1) (with_watch (with_watch lists x v) y w)
      ready_more b r k m =
          let n = leads.long in
          let base : Ready now (id + 1) lists = record {
            lits = λ i c h. elim (in_now i c h) [
              | inl q ↦ subst (λ z. AreLits (lits_of z)) q.1 (subst AreLits (sym (lits_codes lits_now)) a)
              | inr q ↦ r.lits i c q
            ];
            long = λ i c h. elim (in_now i c h) [
              | inl q ↦ omega (arith, n, length_codes lits_now, ap length q.1)
              | inr q ↦ r.long i c q
            ];
            fit = λ z. fit_more b (lists z) (r.fit z);
          } in
          ready_push now (id + 1) (with_watch lists x v) (with_watch (with_watch lists x v) y w) y w
          (ready_push now (id + 1) lists (with_watch lists x v) x v base (fits_this v 1 iv k n) refl)
          (fits_this w 0 iw m (omega (arith, n))) refl
