-- Where the newest decision stands among the entries, which are stored the oldest first.
use Rattle.std.proofs.Common.{
  ◌≡◌,
  ℕ,
  suc,
  ◌+◌,
  ◌-◌,
  ◌<◌,
  ◌≤◌,
  true,
  false,
  ◌∷◌,
  length,
  drop,
  get_or,
  reverse,
}
use Rattle.std.proofs.Common.{List, [], ℤ, ◌||◌, Option, Some, None, refl, ap, sym, subst, ◌∙◌, inl, inr, arith}
use Rattle.std.proofs.Common.{length-drop}
use Rattle.std.specs.Option.{is_some}
use Rattle.std.proofs.Math.Seq.{drop-cons}
use Rattle.std.proofs.lemmas.List.{get_or-reverse, length-reverse}
use Rattle.sat_trail.specs.declared.trail.Entry.{Entry}
use Rattle.std.specs.Ordering.{int_eq}
use Rattle.std.proofs.lemmas.Bool.{false≢true}
use Rattle.lrat_check.specs.Sets.{has, IsLit, AreLits}
use Rattle.sat_trail.proofs.Members.{same_is, or_cases, or_left, has_head}
use Rattle.sat_trail.proofs.Standing.{in_dropped, oldest_whole}
use Rattle.sat_trail.specs.Trail.{IsNext, lits}
use Rattle.sat_trail.specs.Trail.{Entries, oldest, decides, is_decision, decided, below_at, below}

pub decides_none : (reason : Option ℕ) → is_some reason ≡ false → decides reason ≡ true
decides_none None h = refl
decides_none (Some place) h = sym h

pub decides_some : (reason : Option ℕ) → is_some reason ≡ true → decides reason ≡ false
decides_some None h = sym h
decides_some (Some place) h = refl

-- one more of the oldest entries
oldest_next : (xs : Entries) (place : ℕ) (e : Entry) → place < length xs
    → oldest (place + 1) (reverse xs) ≡ get_or xs place e ∷ oldest place (reverse xs)
oldest_next xs place e h =
    let r : length (reverse xs) ≡ length xs = length-reverse xs in
    let k : length (reverse xs) - (place + 1) ≡ length xs - 1 - place = omega (arith, r) in
    let s : suc (length xs - 1 - place) ≡ length (reverse xs) - place = omega (arith, r, h) in
    let q : length xs - 1 - (length xs - 1 - place) ≡ place = omega (arith, h) in
    ap (λ n. drop n (reverse xs)) k
    ∙ drop-cons (reverse xs) (length xs - 1 - place) e (omega (arith, r, h))
    ∙ ap (λ n. get_or (reverse xs) (length xs - 1 - place) e ∷ drop n (reverse xs)) s
    ∙ ap (λ x. x ∷ oldest place (reverse xs))
    (get_or-reverse xs (length xs - 1 - place) e (omega (arith, h)) ∙ ap (λ n. get_or xs n e) q)

pub below_decision : (e : Entry) (older : Entries) (reason : Option ℕ) → e.reason ≡ reason → decides reason ≡ true
    → below (e ∷ older) ≡ older
below_decision e older None h d = ap (λ r. below_at r older (below older)) h
below_decision e older (Some place) h d = absurd (cc)

below_implied : (e : Entry) (older : Entries) (reason : Option ℕ) → e.reason ≡ reason → decides reason ≡ false
    → below (e ∷ older) ≡ below older
below_implied e older None h d = absurd (cc)
below_implied e older (Some place) h d = ap (λ r. below_at r older (below older)) h

-- the entries as they are stored, and as contracts see them
module _ (xs t : Entries) (view : reverse xs ≡ t) (next : ℕ) (d : Entry) (some : 0 < next)
    (within : next ≤ length t) where
  next_is : oldest next t ≡ get_or xs (next - 1) d ∷ oldest (next - 1) t
  next_is =
      let n : next ≡ next - 1 + 1 = omega (arith, some) in
      let r : length (reverse xs) ≡ length xs = length-reverse xs in
      let w : length (reverse xs) ≡ length t = ap length view in
      ap (λ n. oldest n t) n ∙ ap (oldest (next - 1 + 1)) (sym view)
      ∙ oldest_next xs (next - 1) d (omega (arith, r, w, some, within))
      ∙ ap (λ z. get_or xs (next - 1) d ∷ oldest (next - 1) z) view

  -- how many entries are older than a decision that is the newest of so many entries
  pub starts_here : is_some (get_or xs (next - 1) d).reason ≡ false → below (oldest next t) ≡ below t
      → next - 1 ≡ length (below t)
  starts_here n b =
      let here : below (oldest next t) ≡ oldest (next - 1) t = ap below next_is
      ∙ below_decision (get_or xs (next - 1) d) (oldest (next - 1) t) (get_or xs (next - 1) d).reason refl
      (decides_none (get_or xs (next - 1) d).reason n) in
      let many : length (oldest (next - 1) t) ≡ length t - (length t - (next - 1)) = length-drop
      (length t - (next - 1)) t in
      let whole : length (oldest (next - 1) t) ≡ next - 1 = omega (arith, many, some, within) in
      sym (ap length (sym b ∙ here) ∙ whole)

  newest_tells : decided (oldest next t) ≡ (is_decision (get_or xs (next - 1) d) || decided (oldest (next - 1) t))
  newest_tells = ap decided next_is

  -- a decision among so many entries
  pub decided_here : is_some (get_or xs (next - 1) d).reason ≡ false → decided (oldest next t) ≡ decided t
      → true ≡ decided t
  decided_here n b =
      sym (or_left (is_decision (get_or xs (next - 1) d)) (decided (oldest (next - 1) t))
      (decides_none (get_or xs (next - 1) d).reason n)) ∙ sym newest_tells ∙ b

  -- an implied entry is none
  pub decided_older : is_some (get_or xs (next - 1) d).reason ≡ true → decided (oldest next t) ≡ decided t
      → decided (oldest (next - 1) t) ≡ decided t
  decided_older n b =
      sym (newest_tells ∙ ap (λ z. z || decided (oldest (next - 1) t))
      (decides_some (get_or xs (next - 1) d).reason n)) ∙ b

  -- an implied entry does not change what is older than the newest decision
  pub starts_below : is_some (get_or xs (next - 1) d).reason ≡ true → below (oldest next t) ≡ below t
      → below (oldest (next - 1) t) ≡ below t
  starts_below n b = sym (ap below next_is
      ∙ below_implied (get_or xs (next - 1) d) (oldest (next - 1) t) (get_or xs (next - 1) d).reason refl
      (decides_some (get_or xs (next - 1) d).reason n)) ∙ b

lit_from : (c : List ℤ) (x : ℤ) → AreLits c → has c x ≡ true → IsLit x
lit_from [] x a h = absurd (false≢true h)
lit_from (l ∷ c) x a h = elim (or_cases (int_eq x l) (has c x) h) [
  | inl e ↦ subst IsLit (sym (same_is x l e)) a.0
  | inr e ↦ lit_from c x a.1 e
]

-- the newest entry, as the entries are stored
pub newest_is : (xs t : Entries) → reverse xs ≡ t → (many : ℕ) (e : Entry) → many ≡ length xs → (many ≡ 0 → ⊥)
    → e ≡ get_or xs (many - 1) e → (older : Entries) × (t ≡ e ∷ older)
newest_is xs t view many e m some f =
    let n : many ≡ length t = m ∙ sym (length-reverse xs) ∙ ap length view in (
      oldest (many - 1) t,
      sym (oldest_whole t many (omega (arith, n)))
          ∙ next_is xs t view many e (omega (arith, some)) (omega (arith, n))
          ∙ ap (λ z. z ∷ oldest (many - 1) t) (sym f),
    )

-- the entry at a place, as the entries are stored
pub next_lit : (xs t : Entries) → reverse xs ≡ t → (place : ℕ) (e : Entry) → place < length xs
    → e ≡ get_or xs place e → AreLits (lits (reverse xs)) → IsNext t place e.lit
next_lit xs t view place e l f a = subst (λ z. IsNext z place e.lit) view (record {
  within = omega (arith, l, length-reverse xs);
  is_lit = lit_from (lits (reverse xs)) e.lit a (in_dropped (length (reverse xs) - (place + 1)) (reverse xs) e.lit
      (ap (λ z. has z e.lit) next ∙ has_head e.lit (lits (oldest place (reverse xs)))));
  next = next;
}) where
  next : lits (oldest (place + 1) (reverse xs)) ≡ e.lit ∷ lits (oldest place (reverse xs))
  next = ap lits (oldest_next xs place e l ∙ ap (λ z. z ∷ oldest place (reverse xs)) (sym f))
