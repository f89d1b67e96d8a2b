-- What steps lead to, as a clause comes in.
use Rattle.std.proofs.Common.{◌≡◌, ℕ, zero, suc, ◌+◌, ◌-◌, ◌<◌, ◌≤◌, ◌^◌, Bool, true, false, cond, ltb, ◌&&◌, List, []}
use Rattle.std.proofs.Common.{◌∷◌, ◌++◌, ℤ, pos, neg_ℤ, length, get_or, map, Option, Some, None, refl, ap, sym, subst}
use Rattle.std.proofs.Common.{◌∙◌, inl, inr, length-append, append_assoc, arith}
use Rattle.std.specs.Prelude.{unsigned_abs, slice_get}
use Rattle.std.specs.List.{AllByRecursion, list_all}
use Rattle.std.proofs.lemmas.Bool.{and_from, lt-ltb, lt-leb, cases_lt}
use Rattle.std.proofs.lemmas.Option.{slice_get_within, slice_get-get_or, get_or_from_slice_get}
use Rattle.cnf_form.specs.Cnf.{Cnf, IsLiteral, AreLiterals, AreClauses}
use Rattle.lrat_check.specs.declared.step.Step.{Step}
use Rattle.lrat_check.specs.declared.step.Step.TheVariants.{Add, Delete}
use Rattle.lrat_check.specs.Sets.{has, within, same_set, negs, IsLit, AreLits}
use Rattle.lrat_check.specs.Steps.{Held, numbered, judged, verdict, add_fault, with_clause, is_empty, AreSteps}
use Rattle.lrat_check.specs.Texts.{IsShortLiteral, AreShort}
use Rattle.lrat_check.proofs.Sound.{verdict_adds, verdict_empty}
use Rattle.sat_trail.proofs.Members.{has_head, has_tail}
use Rattle.sat_search.specs.Found.{EndsEmpty}
use Rattle.sat_search.proofs.Literals.{lits_of}
use Rattle.sat_search.proofs.Short.{literals_short}
use Rattle.sat_search.proofs.Places.{push_last, push_cases}
use Rattle.sat_cubes.specs.Cubes.{IsCube, cube_of}
use Rattle.sat_cubes.specs.Splits.{AddsClause}
use Rattle.sat_cubes.specs.Joined.{State, Adds, Stands, AreBlocks, Reaches, Joins, StaysAdded, AreRefuting}
use Rattle.sat_cubes.proofs.Renumbers.{abs_neg}
use Rattle.sat_cubes.proofs.Lifts.{with_at, with_other}
use Rattle.sat_cubes.proofs.Blocks.{AreApart, cube_is, joins}

-- ---- lists

all_from : (p : ℤ → Bool) (c : List ℤ) → ((x : ℤ) → has c x ≡ true → p x ≡ true) → list_all p c ≡ true
all_from p [] h = refl
all_from p (l ∷ ls) h =
    and_from (p l) (list_all p ls) (h l (has_head l ls)) (all_from p ls (λ x k. h x (has_tail x l ls k)))

pub same_set_self : (c : List ℤ) → same_set c c ≡ true
same_set_self c =
    let w : within c c ≡ true = all_from (has c) c (λ x h. h) in and_from (within c c) (within c c) w w

none_some : {X : Type 0} (x : X) → None ≡ Some x → ⊥
none_some x e = cc

pub get_left : {X : Type 0} (xs ys : List X) (k : ℕ) (x : X) → slice_get xs k ≡ Some x
    → slice_get (xs ++ ys) k ≡ Some x
get_left [] ys k x e = absurd (none_some x e)
get_left (z ∷ zs) ys zero x e = e
get_left (z ∷ zs) ys (suc k) x e = get_left zs ys k x e

pub append_steps : (xs ys : List Step) → AreSteps xs → AreSteps ys → AreSteps (xs ++ ys)
append_steps [] ys h k = k
append_steps (x ∷ xs) ys h k = (h.0, append_steps xs ys h.1 k)

pub append_short : (xs ys : List Step) → AreShort xs → AreShort ys → AreShort (xs ++ ys)
append_short [] ys h k = k
append_short (x ∷ xs) ys h k = (h.0, append_short xs ys h.1 k)

pub negs_within : (vars : ℕ) (q : List ℤ) → AreLiterals vars q → AreLiterals vars (negs q)
negs_within vars [] h = tt
negs_within vars (l ∷ ls) h = (
  (subst (λ n. 0 < n) (sym (abs_neg l)) h.0.0, subst (λ n. n ≤ vars) (sym (abs_neg l)) h.0.1),
  negs_within vars ls h.1,
)

pub stays_added : (xs ys all : List Step) (clause : List ℤ) → all ≡ xs ++ ys → AddsClause xs clause
    → AddsClause all clause
stays_added xs ys all clause e a =
    (a.0, a.1, a.2, a.3, ap (λ s. slice_get s a.0) e ∙ get_left xs ys a.0 (Add a.1 a.2 a.3) a.4, a.5)

pub adds_last : (xs all : List Step) (id : ℕ) (lits hints : List ℤ) → all ≡ xs ++ Add id lits hints ∷ []
    → AddsClause all lits
adds_last xs all id lits hints e = (
  length xs,
  id,
  lits,
  hints,
  ap (λ s. slice_get s (length xs)) e ∙ push_last xs (Add id lits hints) (length xs) refl,
  same_set_self lits,
)

-- ---- a clause comes in

module _ (formula : Cnf) (s now : State) (held : Held) (lits hints : List ℤ) (stands : Stands formula s held)
    (adds : Adds s now lits hints) (accepted : add_fault held s.top (s.top + 1) lits hints ≡ None) where
  abbrev step : Step
  step = Add (s.top + 1) lits hints

  added_leads : (more : List Step) → judged formula.clauses (now.steps ++ more) ≡ verdict held s.top (step ∷ more)
  added_leads more =
      ap (λ x. judged formula.clauses (x ++ more)) adds.steps
      ∙ ap (judged formula.clauses) (append_assoc s.steps (step ∷ []) more) ∙ stands.leads (step ∷ more)

  more_steps : AreLits lits → AreSteps now.steps
  more_steps h = subst AreSteps (sym adds.steps) (append_steps s.steps (step ∷ []) stands.are_steps (h, tt))

  more_short : AllByRecursion IsShortLiteral hints → AreLiterals formula.vars lits → formula.vars < 10 ^ 18
      → AreShort now.steps
  more_short h k v =
      let top = adds.top in
      let most = adds.most in
      subst AreShort (sym adds.steps) (append_short s.steps (step ∷ []) (stands.short v)
      ((omega (arith, top, most), literals_short formula.vars lits v k, h), tt))

  pub stands_add : is_empty lits ≡ false → AreLits lits → AreLiterals formula.vars lits
      → AllByRecursion IsShortLiteral hints → Stands formula now (with_clause held (s.top + 1) lits)
  stands_add e h k short =
      let top = adds.top in
      let first = stands.first in
      record {
        leads = λ more. added_leads more ∙ verdict_adds held s.top (s.top + 1) lits hints more accepted e
            ∙ ap (λ t. verdict (with_clause held (s.top + 1) lits) t more) (sym top);
        first = omega (arith, top, first);
        keeps = λ id below. with_other held (s.top + 1) id lits (λ q. omega (arith, q, below, first))
            ∙ stands.keeps id below;
        most = adds.most;
        are_steps = more_steps h;
        short = more_short short k;
      }

  pub refutes_add : lits ≡ [] → AllByRecursion IsShortLiteral hints → AreRefuting formula now.steps
  refutes_add e short = record {
    id = s.top + 1;
    refutes = ap (judged formula.clauses) (sym (append_nothing now.steps)) ∙ added_leads []
        ∙ verdict_empty held s.top (s.top + 1) lits hints [] accepted (ap is_empty e);
    ends = (s.steps, hints, adds.steps ∙ ap (λ c. s.steps ++ Add (s.top + 1) c hints ∷ []) e);
    are_steps = more_steps (subst AreLits (sym e) tt);
    short = more_short short (subst (AreLiterals formula.vars) (sym e) tt);
  } where
    append_nothing : (xs : List Step) → xs ++ [] ≡ xs
    append_nothing [] = refl
    append_nothing (x ∷ xs) = ap (λ ys. x ∷ ys) (append_nothing xs)

-- ---- the cubes' clauses

module _ (held now : Held) (top high : ℕ) (split : List ℕ) (level many : ℕ) (ids : List ℕ)
    (b : AreBlocks held top split level many ids) (up : top ≤ high)
    (keeps : (i : ℕ) → i ≤ top → now i ≡ held i) where
  pub blocks_keep : AreBlocks now high split level many ids
  blocks_keep = record {
    whole = b.whole;
    at = λ i h.
        let k = b.at i h in
        let most = k.3 in
        (k.0, k.1, k.2, omega (arith, most, up), keeps k.0 most ∙ k.4);
  }

pub blocks_push : (held : Held) (top : ℕ) (split : List ℕ) (level many : ℕ) (ids : List ℕ) (id : ℕ)
    → AreBlocks held top split level many ids → 0 < id → id ≤ top
    → held id ≡ Some (negs (cube_of split level many)) → AreBlocks held top split level (many + 1) (ids ++ id ∷ [])
blocks_push held top split level many ids id b some most is =
    let whole = b.whole in
    record {
      whole = length-append ids (id ∷ []) ∙ ap (λ n. n + 1) whole;
      at = λ i h. elim (cases_lt i many) [
        | inl l ↦ let k = b.at i l in (k.0, get_left ids (id ∷ []) i k.0 k.1, k.2, k.3, k.4)
        | inr l ↦
            let e : i ≡ many = omega (arith, l, h) in (
              id,
              push_last ids id i (e ∙ sym whole),
              some,
              most,
              is ∙ ap (λ j. Some (negs (cube_of split level j))) (sym e),
            )
      ];
    }

pub no_blocks : (held : Held) (top : ℕ) (split : List ℕ) (level : ℕ) → AreBlocks held top split level 0 []
no_blocks held top split level = record { whole = refl; at = λ i h. absurd (omega (arith, h)) }

pub id_short : (held : Held) (top : ℕ) (split : List ℕ) (level many : ℕ) (ids : List ℕ)
    → AreBlocks held top split level many ids → top < 10 ^ 18 → (i id : ℕ) → slice_get ids i ≡ Some id
    → IsShortLiteral (pos id)
id_short held top split level many ids b most i id e =
    let whole = b.whole in
    let k = b.at i (omega (arith, whole, slice_get_within ids i id e)) in
    let same : id ≡ k.0 = some_is id k.0 (sym e ∙ k.1) in
    let some = k.2 in
    let below = k.3 in
    (omega (arith, same, some), omega (arith, same, below, most)) where
      some_is : (x y : ℕ) → Some x ≡ Some y → x ≡ y
      some_is x y f = cc

held_at : (held : Held) (top : ℕ) (split : List ℕ) (level many : ℕ) (ids : List ℕ)
    → AreBlocks held top split level many ids → (i id : ℕ) → slice_get ids i ≡ Some id
    → held id ≡ Some (negs (cube_of split level i))
held_at held top split level many ids b i id e =
    let whole = b.whole in
    let k = b.at i (omega (arith, whole, slice_get_within ids i id e)) in
    ap held (some_is id k.0 (sym e ∙ k.1)) ∙ k.4 where
      some_is : (x y : ℕ) → Some x ≡ Some y → x ≡ y
      some_is x y f = cc

-- the two cubes of one more variable
low_cube : (split : List ℕ) (level i : ℕ) → i < 2 ^ level
    → cube_of split (level + 1) i ≡ neg_ℤ (pos (get_or split level 0)) ∷ cube_of split level i
low_cube split level i h =
    let e : level + 1 ≡ suc level = omega arith in
    ap (λ b. cube_of split b i) e
    ∙ ap (λ t. cond t (neg_ℤ (pos (get_or split level 0)) ∷ cube_of split level i)
    (pos (get_or split level 0) ∷ cube_of split level (i - 2 ^ level))) (lt-ltb i (2 ^ level) h)

high_cube : (split : List ℕ) (level i : ℕ)
    → cube_of split (level + 1) (2 ^ level + i) ≡ pos (get_or split level 0) ∷ cube_of split level i
high_cube split level i =
    let e : level + 1 ≡ suc level = omega arith in
    let half = 2 ^ level in
    let f : half + i - half ≡ i = omega arith in
    ap (λ b. cube_of split b (half + i)) e
    ∙ ap (λ t. cond t (neg_ℤ (pos (get_or split level 0)) ∷ cube_of split level (half + i))
    (pos (get_or split level 0) ∷ cube_of split level (half + i - half))) (ltb_not (half + i) half (omega arith))
    ∙ ap (λ j. pos (get_or split level 0) ∷ cube_of split level j) f where
      ltb_not : (a b : ℕ) → b ≤ a → ltb a b ≡ false
      ltb_not a b h = grind arith

module _ (formula : Cnf) (split : List ℕ) (level : ℕ) (d : AreApart formula.vars split)
    (room : level + 1 ≤ length split) where
  -- the clauses of two cubes lead to that of one with a variable less
  pub pair_joins : (held : Held) (top high : ℕ) (ids : List ℕ) (i one other : ℕ)
      → AreBlocks held top split (level + 1) (2 ^ (level + 1)) ids → i < 2 ^ level → slice_get ids i ≡ Some one
      → slice_get ids (2 ^ level + i) ≡ Some other
      → add_fault held high (high + 1) (negs (cube_of split level i)) (pos one ∷ pos other ∷ []) ≡ None
  pair_joins held top high ids i one other b h e f =
      joins formula.vars (cube_of split level i) (pos (get_or split level 0)) cube held high one other
      (held_at held top split (level + 1) (2 ^ (level + 1)) ids b i one e
      ∙ ap (λ c. Some (negs c)) (low_cube split level i h))
      (held_at held top split (level + 1) (2 ^ (level + 1)) ids b (2 ^ level + i) other f
      ∙ ap (λ c. Some (negs c)) (high_cube split level i)) where
        cube : IsCube formula.vars (pos (get_or split level 0) ∷ cube_of split level i)
        cube = subst (IsCube formula.vars) (high_cube split level i)
            (cube_is formula.vars split d (level + 1) (2 ^ level + i) room)

  pair_short : (held : Held) (top : ℕ) (ids : List ℕ) (i k one other : ℕ)
      → AreBlocks held top split (level + 1) (2 ^ (level + 1)) ids → top < 10 ^ 18 → slice_get ids i ≡ Some one
      → slice_get ids k ≡ Some other → AllByRecursion IsShortLiteral (pos one ∷ pos other ∷ [])
  pair_short held top ids i k one other b most e f = (
    id_short held top split (level + 1) (2 ^ (level + 1)) ids b most i one e,
    (id_short held top split (level + 1) (2 ^ (level + 1)) ids b most k other f, tt),
  )

  nonempty : (i : ℕ) → 0 < level → is_empty (negs (cube_of split level i)) ≡ false
  nonempty i h = at level h where
    at : (b : ℕ) → 0 < b → is_empty (negs (cube_of split b i)) ≡ false
    at zero h = absurd (omega (arith, h))
    at (suc b) h = by (ltb i (2 ^ b)) where
      by : (t : Bool) → is_empty (negs (cond t (neg_ℤ (pos (get_or split b 0)) ∷ cube_of split b i)
          (pos (get_or split b 0) ∷ cube_of split b (i - 2 ^ b)))) ≡ false
      by true = refl
      by false = refl

  pub joins_step : (s now : State) (ids joined : List ℕ) (i one other : ℕ) → formula.vars < 2 ^ 63 → 0 < level
      → Joins formula split level s ids i joined → i < 2 ^ level → slice_get ids i ≡ Some one
      → slice_get ids (2 ^ level + i) ≡ Some other
      → Adds s now (negs (cube_of split level i)) (pos one ∷ pos other ∷ [])
      → Joins formula split level now ids (i + 1) (joined ++ now.top ∷ [])
  joins_step s now ids joined i one other small some j h e f adds =
      let lits = negs (cube_of split level i) in
      let held = with_clause j.held (s.top + 1) lits in
      let top = adds.top in
      let names : AreLiterals formula.vars lits =
      negs_within formula.vars (cube_of split level i)
      (cube_is formula.vars split d level i (omega (arith, room))).0 in
      let keeps : (k : ℕ) → k ≤ s.top → held k ≡ j.held k =
      λ k below. with_other j.held (s.top + 1) k lits (λ q. omega (arith, q, below)) in
      let up : s.top ≤ now.top = omega (arith, top) in
      record {
        held = held;
        stands = stands_add formula s now j.held lits (pos one ∷ pos other ∷ []) j.stands adds
            (pair_joins j.held s.top s.top ids i one other j.whole h e f) (nonempty i some)
            (lits_of formula.vars lits small names) names
            (pair_short j.held s.top ids i (2 ^ level + i) one other j.whole j.stands.most e f);
        whole = blocks_keep j.held held s.top now.top split (level + 1) (2 ^ (level + 1)) ids j.whole up keeps;
        some = blocks_push held now.top split level i joined now.top
            (blocks_keep j.held held s.top now.top split level i joined j.some up keeps)
            (omega (arith, top)) (omega arith)
            (ap held top ∙ with_at j.held (s.top + 1) lits);
      }

-- the last two clauses, a variable and its complement, lead to the empty one
pub closes : (formula : Cnf) (split : List ℕ) (s now : State) (ids : List ℕ) (one other : ℕ)
    → AreApart formula.vars split → 0 + 1 ≤ length split → Reaches formula split 1 2 s ids
    → slice_get ids 0 ≡ Some one → slice_get ids 1 ≡ Some other → Adds s now [] (pos one ∷ pos other ∷ [])
    → AreRefuting formula now.steps
closes formula split s now ids one other d room r e f adds =
    refutes_add formula s now r.held [] (pos one ∷ pos other ∷ []) r.stands adds
    (pair_joins formula split 0 d room r.held s.top s.top ids 0 one other r.blocks (omega arith) e f) refl
    (pair_short formula split 0 d room r.held s.top ids 0 1 one other r.blocks r.stands.most e f)
