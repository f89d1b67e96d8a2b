-- What a look at the watched literals says of the clauses at their places.
use Rattle.std.proofs.Common.{◌≡◌, ℕ, ◌+◌, ◌-◌, ◌<◌, ◌≤◌, true, List, ℤ, length, Option}
use Rattle.std.proofs.Common.{Some, None, refl}
use Rattle.std.proofs.Common.{ap, sym, subst, ◌∙◌, inl, inr, arith}
use Rattle.std.specs.Prelude.{slice_get}
use Rattle.std.specs.List.{list_any}
use Rattle.lrat_check.specs.Codes.{code_of, lits_of}
use Rattle.lrat_check.specs.Sets.{has, AreLits}
use Rattle.lrat_check.specs.Resolved.{Closed}
use Rattle.lrat_check.specs.Store.{coded, literals, held_of, next}
use Rattle.sat_trail.specs.Trail.{Entries, lits, settled, has_code, Stand}
use Rattle.sat_propagate.specs.declared.watch_scan.Scan.TheVariants as look
use Rattle.sat_propagate.specs.Watching.{Alike, SameHeld}
use Rattle.sat_propagate.specs.Watches.{State, Keeps, Sees as Looks, SameLits}
use Rattle.sat_propagate.proofs.Closings.{has_lits}
use Rattle.sat_propagate.proofs.Orders.{lit_from}
use Rattle.sat_trail.proofs.Codes.{lit_kept}
use Rattle.sat_trail.proofs.Readings.{unit_to}
use Rattle.lrat_check.specs.declared.reading.Reading.TheVariants as read
use Rattle.std.proofs.Common.{w64, to_z, of_z, get_or}
use Rattle.std.proofs.lemmas.List.{get_or_read}
use Rattle.lrat_check.specs.Sets.{reading}
use Rattle.std.proofs.lemmas.Bool.{cases_eq}
use Rattle.sat_propagate.specs.declared.unit_scan.Scan.TheVariants as scan
use Rattle.sat_propagate.specs.Propagation.{AllLits, Taken, Holds, Sees, IsShort, IsTrueAt, place_at}
use Rattle.sat_propagate.proofs.Consistent.{true_reads, reads_false, reads_unit, reads_open}
use Rattle.sat_propagate.proofs.ByPlace.{same_clause, lits_at, get_below, each_settled}

same_lits : (a b : List ℕ) → AreLits (lits_of a) → AreLits (lits_of b)
    → ((x : ℕ) → has_code a x ≡ has_code b x) → SameLits (lits_of a) (lits_of b)
same_lits a b k l f x = sym (has_lits a x k) ∙ f (code_of x) ∙ has_lits b x l

some_is : (c d : List ℤ) → Some c ≡ Some d → c ≡ d
some_is c d e = cc

none_some : (d : List ℤ) → literals None ≡ Some d → ⊥
none_some d e = cc

-- where two hold alike, what the one holds the other holds in some order
alike_at : (a b : Option (List ℕ)) → ((c : List ℕ) → a ≡ Some c → AreLits (lits_of c))
    → ((c : List ℕ) → b ≡ Some c → AreLits (lits_of c)) → Alike a b → (d : List ℤ) → literals a ≡ Some d
    → (e : List ℤ) × (literals b ≡ Some e) × SameLits d e
alike_at None b k l s d m = absurd (none_some d m)
alike_at (Some a) None k l s d m = absurd s
alike_at (Some a) (Some b) k l s d m = (
  lits_of b,
  refl,
  subst (λ z. SameLits z (lits_of b)) (some_is (lits_of a) d m) (same_lits a b (k a refl) (l b refl) s),
)

alike_back : (a b : Option (List ℕ)) → Alike a b → Alike b a
alike_back None None s = tt
alike_back None (Some b) s = absurd s
alike_back (Some a) None s = absurd s
alike_back (Some a) (Some b) s = λ x. sym (s x)

-- after a look, the same clauses are held
pub looked_on : (cs : List (List ℤ)) (t : Entries) (p : Taken) (w : State) → Holds cs t p → Keeps w t
    → SameHeld (coded p.watches.store) (coded w.store) → next w.store ≡ next p.watches.store
    → Holds cs t (record { watches = w; many = p.many; short = p.short; looked = p.looked })
looked_on cs t p w h k s n = record {
  keeps = k;
  above = (let b = h.above in omega (arith, b, n));
  few = h.few;
  known = λ id d e.
      let m = alike_at (coded w.store id) (coded p.watches.store id) (k.ready.lits id) (h.keeps.ready.lits id)
      (alike_back (coded p.watches.store id) (coded w.store id) (s id)) d e in
      let o = h.known id m.0 m.1 in
      (o.0, o.1, o.2, o.3, o.4, λ x. o.5 x ∙ sym (m.2 x));
  taken = λ place c l e. elim (h.taken place c l e) [
    | inl o ↦
        let id = place + 1 in
        let m = alike_at (coded p.watches.store id) (coded w.store id) (h.keeps.ready.lits id) (k.ready.lits id)
        (s id) o.0 o.1 in
        inl (m.0, m.1, λ x. o.2 x ∙ m.2 x)
    | inr o ↦ inr o
  ];
  short = h.short;
  looked = h.looked;
  true_there = h.true_there;
}

module _ (cs : List (List ℤ)) (t : Entries) (p : Taken) (s : Stand cs t) (h : Holds cs t p) where
  -- the clause under the id is false
  pub conflict_at : (id : ℕ) → Looks (held_of p.watches.store) (lits t) (look.Conflict id)
      → Sees cs (lits t) (scan.Conflict (id - 1))
  conflict_at id f =
      let o = h.known id f.0 f.1 in
      let at : id - 1 ≡ o.0 = (let b = o.2 in omega (arith, b)) in
      (o.1, ap (slice_get cs) at ∙ o.4, reads_false cs t o.1 f.0 s o.5 f.2)

  -- the clause under the id forces the literal
  pub unit_at : (id : ℕ) (l : ℤ) → Looks (held_of p.watches.store) (lits t) (look.Unit id l)
      → Sees cs (lits t) (scan.Unit (id - 1) l)
  unit_at id l f =
      let o = h.known id f.0 f.1 in
      let at : id - 1 ≡ o.0 = (let b = o.2 in omega (arith, b)) in
      (o.1, ap (slice_get cs) at ∙ o.4, reads_unit cs t o.1 f.0 l s o.5 f.2)

  -- an id is one above a place
  pub some_id : (id : ℕ) (d : List ℤ) → held_of p.watches.store id ≡ Some d → 0 < id
  some_id id d e = let o = h.known id d e in let b = o.2 in omega (arith, b)

  -- the held clauses are settled, and each of the others is true
  pub all_settled : Closed (held_of p.watches.store) (lits t) → p.many ≡ length cs → length p.short ≤ p.looked
      → settled cs (lits t) ≡ true
  all_settled closed m l = each_settled (lits t) cs (λ place c e.
      let b = get_below cs place c e in
      elim (h.taken place c (omega (arith, b, m)) e) [
        | inl o ↦ reads_open (lits t) c o.0 o.2 (closed (place + 1) o.0 o.1)
        | inr o ↦
            let q = o.1 in
            let r = h.true_there o.0 (omega (arith, l, q)) in
            let is : r.0 ≡ c = same_clause cs place r.0 c (ap (slice_get cs) (sym o.2) ∙ r.1) e in
            true_reads (lits t) c (ap (λ z. list_any (has (lits t)) z) (sym is) ∙ r.2)
      ])

-- the next short clause is true
pub one_true : (cs : List (List ℤ)) (t : Entries) (p : Taken) (place : ℕ) (c : List ℤ) → Holds cs t p
    → p.looked < length p.short → place ≡ place_at p.short p.looked → slice_get cs place ≡ Some c
    → list_any (has (lits t)) c ≡ true
    → Holds cs t (record { watches = p.watches; many = p.many; short = p.short; looked = p.looked + 1 })
one_true cs t p place c h l at g k = record {
  keeps = h.keeps;
  above = h.above;
  few = h.few;
  known = h.known;
  taken = h.taken;
  short = h.short;
  looked = omega (arith, l);
  true_there = λ index b. elim (cases_eq index p.looked) [
    | inl q ↦ subst (λ z. IsTrueAt cs (lits t) (place_at p.short z)) (sym q)
        (subst (IsTrueAt cs (lits t)) at (c, g, k))
    | inr q ↦ h.true_there index (omega (arith, b, q))
  ];
}

-- the clause at the place of a list of places
pub short_at : (cs : List (List ℤ)) (t : Entries) (p : Taken) (index place : ℕ) → Holds cs t p
    → index < length p.short → place ≡ place_at p.short index → IsShort cs p.many place
short_at cs t p index place h l at = subst (IsShort cs p.many) (sym at) (h.short index l)

-- a place that is read from the list is one of a clause
pub place_below : (cs : List (List ℤ)) (t : Entries) (p : Taken) (index place : ℕ) → Holds cs t p
    → index < length p.short → place ≡ get_or p.short index place → place < length cs
place_below cs t p index place h l at =
    let s = short_at cs t p index place h l (get_or_read p.short index place l at 0) in
    let below = s.1 in
    let few = h.few in
    omega (arith, below, few)

-- a forced literal is as it was in 64 bits
pub forced_kept : (cs : List (List ℤ)) (set c : List ℤ) (place : ℕ) (l : ℤ) → AllLits cs
    → slice_get cs place ≡ Some c → reading set c ≡ read.Unit l → to_z w64 (of_z w64 l) ≡ l
forced_kept cs set c place l a g r =
    lit_kept l (lit_from c l (lits_at cs place c a g) (unit_to set c l r).member)
