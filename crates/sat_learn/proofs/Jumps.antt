-- Levels are taken off a trail until a learnt clause can join the others.
use Rattle.std.proofs.Common.{◌≡◌, ℕ, ◌<◌, ◌≤◌, true, false, ◌||◌, List, [], ◌∷◌, ◌++◌}
use Rattle.std.proofs.Common.{ℤ}
use Rattle.std.proofs.Common.{neg_ℤ, length, Option, Some, None, refl, ap, sym, ◌∙◌, arith}
use Rattle.std.proofs.lemmas.Bool.{true≢false, false≢true, and_from, and_parts}
use Rattle.std.proofs.lemmas.Bool.{false_from_ne_true}
use Rattle.lrat_check.specs.declared.reading.Reading.{Reading}
use Rattle.lrat_check.specs.declared.reading.Reading.TheVariants as read
use Rattle.lrat_check.specs.Sets.{has, is_false, reading}
use Rattle.lrat_check.specs.Resolved.{is_open}
use Rattle.sat_trail.specs.Trail.{Entries, lits, decides, is_decision, decided, below_at, below, settled, Because}
use Rattle.sat_trail.specs.Trail.{Stand}
use Rattle.sat_trail.specs.Clauses.{NoneTrue, Within}
use Rattle.sat_learn.specs.Analysis.{is_unit}
use Rattle.sat_trail.proofs.Members.{has_tail}
use Rattle.sat_trail.proofs.Readings.{Two, unit_to, false_to, open_to, open_from}
use Rattle.sat_propagate.proofs.ByPlace.{get_more}
use Rattle.sat_learn.proofs.Levels.{below_within}
use Rattle.sat_learn.proofs.News.{unit_is, true_has}

-- a smaller set leaves at least as much open
two_less : (a b c : List ℤ) → Within a b → Two b c → Two a c
two_less a b c w t = record {
  one = t.one;
  two = t.two;
  has_one = t.has_one;
  has_two = t.has_two;
  differ = t.differ;
  one_unfalse = false_from_ne_true (is_false a t.one) (λ h. false≢true (sym t.one_unfalse ∙ w (neg_ℤ t.one) h));
  two_unfalse = false_from_ne_true (is_false a t.two) (λ h. false≢true (sym t.two_unfalse ∙ w (neg_ℤ t.two) h));
}

pub none_less : (a b c : List ℤ) → Within a b → NoneTrue b c → NoneTrue a c
none_less a b c w n x h = false_from_ne_true (has a x) (λ k. false≢true (sym (n x h) ∙ w x k))

-- at each decision the clause had two open literals
abbrev pub Blocks : List ℤ → Entries → Type 0
Blocks r [] = Unit {0}
Blocks r (e ∷ t) = (is_decision e ≡ true → is_open (reading (lits t) r) ≡ true) × Blocks r t

blocks_open : (r : List ℤ) (t : Entries) → Two (lits t) r → NoneTrue (lits t) r → Blocks r t
blocks_open r [] w n = tt
blocks_open r (e ∷ t) w n =
    let inside : Within (lits t) (lits (e ∷ t)) = λ x h. has_tail x e.lit (lits t) h in
    let w2 = two_less (lits t) (lits (e ∷ t)) r inside w in
    let n2 = none_less (lits t) (lits (e ∷ t)) r inside n in
    (λ d. ap is_open (open_from (lits t) r w2 n2), blocks_open r t w2 n2)

blocks_below_at : (r : List ℤ) (reason : Option ℕ) (t : Entries)
    → ((decides reason || decided t) ≡ true → Two (lits (below_at reason t (below t))) r
    × NoneTrue (lits (below_at reason t (below t))) r)
    → ((decided t ≡ true → Two (lits (below t)) r × NoneTrue (lits (below t)) r) → Blocks r t)
    → (decides reason ≡ true → is_open (reading (lits t) r) ≡ true) × Blocks r t
blocks_below_at r None t h rest =
    let p = h refl in (λ d. ap is_open (open_from (lits t) r p.0 p.1), blocks_open r t p.0 p.1)
blocks_below_at r (Some place) t h rest = (λ d. absurd (false≢true d), rest h)

blocks_below : (r : List ℤ) (t : Entries) → (decided t ≡ true → Two (lits (below t)) r × NoneTrue (lits (below t)) r)
    → Blocks r t
blocks_below r [] h = tt
blocks_below r (e ∷ t) h = blocks_below_at r e.reason t h (blocks_below r t)

settled_more : (cs : List (List ℤ)) (r set : List ℤ) → settled cs set ≡ true → is_open (reading set r) ≡ true
    → settled (cs ++ r ∷ []) set ≡ true
settled_more [] r set s o = and_from (is_open (reading set r)) true o refl
settled_more (c ∷ cs) r set s o = let p = and_parts (is_open (reading set c)) (settled cs set) s
    in and_from (is_open (reading set c)) (settled (cs ++ r ∷ []) set) p.0 (settled_more cs r set p.1 o)

because_more : (cs : List (List ℤ)) (r set : List ℤ) (lit : ℤ) (reason : Option ℕ) → Because cs set lit reason
    → (decides reason ≡ true → is_open (reading set r) ≡ true) → Because (cs ++ r ∷ []) set lit reason
because_more cs r set lit None b o = settled_more cs r set b (o refl)
because_more cs r set lit (Some place) b o = (b.0, get_more cs r place b.0 b.1, b.2)

stand_more : (cs : List (List ℤ)) (r : List ℤ) (t : Entries) → Stand cs t → Blocks r t → Stand (cs ++ r ∷ []) t
stand_more cs r [] s b = tt
stand_more cs r (e ∷ t) s b = (
  record {
    lit = s.0.lit;
    free = s.0.free;
    unfalse = s.0.unfalse;
    because = because_more cs r (lits t) e.lit e.reason s.0.because b.0;
  },
  stand_more cs r t s.1 b.1,
)

stand_below_at : (cs : List (List ℤ)) (reason : Option ℕ) (t : Entries) → Stand cs t → Stand cs (below t)
    → Stand cs (below_at reason t (below t))
stand_below_at cs None t s b = s
stand_below_at cs (Some place) t s b = b

pub stand_below : (cs : List (List ℤ)) (t : Entries) → Stand cs t → Stand cs (below t)
stand_below cs [] s = tt
stand_below cs (e ∷ t) s = stand_below_at cs e.reason t s.1 (stand_below cs t s.1)

shorter_at : (reason : Option ℕ) (t : Entries) → length (below t) ≤ length t
    → length (below_at reason t (below t)) ≤ length t
shorter_at None t h = omega arith
shorter_at (Some place) t h = h

below_short : (t : Entries) → length (below t) ≤ length t
below_short [] = omega arith
below_short (e ∷ t) = let h = shorter_at e.reason t (below_short t) in omega (arith, h)

pub below_shorter : (t : Entries) → decided t ≡ true → length (below t) < length t
below_shorter [] d = absurd (false≢true d)
below_shorter (e ∷ t) d = let h = shorter_at e.reason t (below_short t) in omega (arith, h)

two_from : (u r : List ℤ) (l : ℤ) (now : Reading) → reading u r ≡ now → has r l ≡ true → is_false u l ≡ false
    → NoneTrue u r → is_unit now ≡ false → Two u r
two_from u r l read.True e h f n k = let x = true_has u r e in absurd (false≢true (sym (n x.0 x.1) ∙ x.2))
two_from u r l read.False e h f n k = absurd (false≢true (sym f ∙ (false_to u r e).0 l h))
two_from u r l (read.Unit m) e h f n k = absurd (true≢false k)
two_from u r l read.Open e h f n k = (open_to u r e).0

-- where the levels are taken off as far as the clause stays a unit, it can join the others
pub joins : (cs : List (List ℤ)) (r : List ℤ) (t : Entries) → Stand cs t → is_unit (reading (lits t) r) ≡ true
    → (decided t ≡ true → is_unit (reading (lits (below t)) r) ≡ false) → Stand (cs ++ r ∷ []) t
joins cs r t s u stop =
    let l = unit_is (reading (lits t) r) u in
    let a = unit_to (lits t) r l.0 l.1 in
    let n = none_less (lits (below t)) (lits t) r (below_within t) a.none in
    stand_more cs r t s (blocks_below r t (λ d. (
      two_from (lits (below t)) r l.0 (reading (lits (below t)) r) refl a.member
          (false_from_ne_true (is_false (lits (below t)) l.0)
          (λ h. false≢true (sym a.unfalse ∙ below_within t (neg_ℤ l.0) h))) n (stop d),
      n,
    )))

-- where no decision is left, any clause can join the others
pub joins_anew : (cs : List (List ℤ)) (r : List ℤ) (t : Entries) → Stand cs t → decided t ≡ false
    → Stand (cs ++ r ∷ []) t
joins_anew cs r t s n = stand_more cs r t s (blocks_below r t (λ d. absurd (true≢false (sym d ∙ n))))
