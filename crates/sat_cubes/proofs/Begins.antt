-- Where the lifted steps begin: the clauses that a cube leaves, over those of the formula. And what the steps of one
-- cube come to.
use Rattle.std.proofs.Common.{◌≡◌, ℕ, zero, suc, ◌+◌, ◌<◌, ◌≤◌, ◌^◌, Bool, true, false, cond, eqb, List, [], ◌∷◌, ◌++◌}
use Rattle.std.proofs.Common.{ℤ, pos, map, length, Option, Some, None, refl, ap, sym, subst, ◌∙◌, inl, inr, arith}
use Rattle.std.proofs.Common.{append_assoc, length-append}
use Rattle.std.specs.Prelude.{unsigned_abs, slice_get}
use Rattle.std.specs.List.{AllByRecursion}
use Rattle.std.proofs.lemmas.Bool.{cases_Bool, cases_eq}
use Rattle.std.proofs.lemmas.Option.{slice_get_within}
use Rattle.cnf_form.specs.Cnf.{Cnf, AreLiterals, AreClauses}
use Rattle.lrat_check.specs.declared.step.Step.{Step}
use Rattle.lrat_check.specs.declared.step.Step.TheVariants.{Add, Delete}
use Rattle.lrat_check.specs.Sets.{negs, AreLits}
use Rattle.lrat_check.specs.Steps.{Held, numbered, judged, verdict, with_clause, is_empty, AreSteps, Refutes}
use Rattle.lrat_check.specs.Texts.{IsShortLiteral, AreShort}
use Rattle.lrat_check.proofs.Sound.{verdict_adds, verdict_empty}
use Rattle.sat_search.specs.Added.{AreAdded}
use Rattle.sat_search.proofs.Dropping.{clause_at}
use Rattle.sat_search.proofs.Literals.{lits_of}
use Rattle.sat_search.proofs.Short.{literals_short}
use Rattle.sat_cubes.specs.Cubes.{IsCube, NoneTwice, open_vars, old_literal, renumbered, reduced, is_satisfied, restricted}
use Rattle.sat_cubes.specs.Cubes.{ids_from}
use Rattle.sat_cubes.specs.Lifting.{Ids, first_ids, with_id, lifted, lifted_hints}
use Rattle.sat_cubes.specs.Lifting as lifting
use Rattle.sat_cubes.specs.Splits.{AddsClause}
use Rattle.sat_cubes.specs.Joined.{State, Lifts, Stands, AreRefuting}
use Rattle.sat_cubes.proofs.Renumbers.{many, old, old_within}
use Rattle.sat_cubes.proofs.Mirrors.{Mirrors, left_mirrors}
use Rattle.sat_cubes.proofs.Walks.{Carried, Carries, none_some}
use Rattle.sat_cubes.proofs.Lifts.{Lifted, lifts, with_at, with_other}
use Rattle.sat_cubes.proofs.Standing.{append_steps, append_short, negs_within, adds_last}

-- ---- the clauses that are left, by their places

-- where a clause that is left comes from; start is the id of the first clause
record Origin (q : List ℤ) (start p : ℕ) (cs : List (List ℤ)) (c : List ℤ) : Type 0 where
  pub place : ℕ
  pub clause : List ℤ
  pub id : slice_get (ids_from q start cs) p ≡ Some (start + place)
  pub at : slice_get cs place ≡ Some clause
  pub free : is_satisfied q clause ≡ false
  pub is : c ≡ map (renumbered q) (reduced q clause)

module _ (q : List ℤ) where
  later : (start p : ℕ) (d : List ℤ) (ds : List (List ℤ)) (c : List ℤ) (more : ℕ)
      → Origin q (start + 1) p ds c → slice_get (ids_from q start (d ∷ ds)) more ≡ slice_get (ids_from q (start + 1) ds) p
      → Origin q start more (d ∷ ds) c
  later start p d ds c more o e =
      let same : start + 1 + o.place ≡ start + suc o.place = omega arith in
      record {
        place = suc o.place;
        clause = o.clause;
        id = e ∙ o.id ∙ ap Some same;
        at = o.at;
        free = o.free;
        is = o.is;
      }

  some_is : {X : Type 0} (x y : X) → Some x ≡ Some y → x ≡ y
  some_is x y e = cc

  here : (start : ℕ) (d : List ℤ) (ds : List (List ℤ)) (c : List ℤ) → is_satisfied q d ≡ false
      → map (renumbered q) (reduced q d) ≡ c → Origin q start 0 (d ∷ ds) c
  here start d ds c f e =
      let same : start ≡ start + 0 = omega arith in
      record {
        place = 0;
        clause = d;
        id = ap (λ b. slice_get (cond b (ids_from q (start + 1) ds) (start ∷ ids_from q (start + 1) ds)) 0) f
            ∙ ap Some same;
        at = refl;
        free = f;
        is = sym e;
      }

  kept : (start p : ℕ) (d : List ℤ) (ds : List (List ℤ)) (c : List ℤ) → is_satisfied q d ≡ false
      → slice_get (map (renumbered q) (reduced q d) ∷ restricted q ds) p ≡ Some c
      → ((p : ℕ) → slice_get (restricted q ds) p ≡ Some c → Origin q (start + 1) p ds c)
      → Origin q start p (d ∷ ds) c
  kept start zero d ds c f e rest = here start d ds c f (some_is (map (renumbered q) (reduced q d)) c e)
  kept start (suc p) d ds c f e rest =
      later start p d ds c (suc p) (rest p e)
      (ap (λ b. slice_get (cond b (ids_from q (start + 1) ds) (start ∷ ids_from q (start + 1) ds)) (suc p)) f)

  origin : (cs : List (List ℤ)) (start p : ℕ) (c : List ℤ) → slice_get (restricted q cs) p ≡ Some c
      → Origin q start p cs c
  origin [] start p c e = absurd (none_some c e)
  origin (d ∷ ds) start p c e = elim (cases_Bool (is_satisfied q d)) [
    | inl t ↦ later start p d ds c p
        (origin ds (start + 1) p c
        (sym (ap (λ b. slice_get (cond b (restricted q ds)
        (map (renumbered q) (reduced q d) ∷ restricted q ds)) p) t) ∙ e))
        (ap (λ b. slice_get (cond b (ids_from q (start + 1) ds) (start ∷ ids_from q (start + 1) ds)) p) t)
    | inr f ↦ kept start p d ds c f
        (sym (ap (λ b. slice_get (cond b (restricted q ds)
        (map (renumbered q) (reduced q d) ∷ restricted q ds)) p) f) ∙ e)
        (λ k g. origin ds (start + 1) k c g)
  ]

  -- the ids are those of clauses
  ids_within : (cs : List (List ℤ)) (start p id : ℕ) → slice_get (ids_from q start cs) p ≡ Some id
      → (start ≤ id) × (id < start + length cs)
  ids_within [] start p id e = absurd (none_some id e)
  ids_within (d ∷ ds) start p id e =
      at (is_satisfied q d) p e (λ k f. ids_within ds (start + 1) k id f) where
        more : (start + 1 ≤ id) × (id < start + 1 + length ds) → (start ≤ id) × (id < start + suc (length ds))
        more h = (omega (arith, h.0), omega (arith, h.1))

        at : (b : Bool) (p : ℕ)
            → slice_get (cond b (ids_from q (start + 1) ds) (start ∷ ids_from q (start + 1) ds)) p ≡ Some id
            → ((p : ℕ) → slice_get (ids_from q (start + 1) ds) p ≡ Some id
            → (start + 1 ≤ id) × (id < start + 1 + length ds))
            → (start ≤ id) × (id < start + suc (length ds))
        at true p f rest = more (rest p f)
        at false zero f rest =
            let g : start ≡ id = some_is start id f in (omega (arith, g), omega (arith, g))
        at false (suc p) f rest = more (rest p f)

-- each id is one of those so far
abbrev Bounded : Ids → ℕ → Type 0
Bounded ids top = (i id : ℕ) → ids i ≡ Some id → (0 < id) × (id ≤ top)

first_bounded : (q : List ℤ) (cs : List (List ℤ)) (top : ℕ) → length cs ≤ top
    → Bounded (first_ids (ids_from q 1 cs)) top
first_bounded q cs top h zero id e = absurd (none_some id e)
first_bounded q cs top h (suc p) id e =
    let w = ids_within q cs 1 p id e in (omega (arith, w.0), omega (arith, w.1, h))

-- the clauses that are left are carried over
first_carries : (q : List ℤ) (vars : ℕ) (cs : List (List ℤ)) (held : Held) (top : ℕ) → AreClauses vars cs
    → length cs ≤ top → ((id : ℕ) → id ≤ length cs → held id ≡ numbered cs id)
    → Carries q vars (first_ids (ids_from q 1 cs)) (numbered (restricted q cs)) held top
first_carries q vars cs held top a h keeps zero c e = absurd (none_some c e)
first_carries q vars cs held top a h keeps (suc p) c e =
    let o = origin q cs 1 p c e in
    let below = slice_get_within cs o.place o.clause o.at in
    let next : 1 + o.place ≡ suc o.place = omega arith in
    record {
      to = 1 + o.place;
      is = o.id;
      some = omega arith;
      up = omega (arith, below, h);
      clause = o.clause;
      held = keeps (1 + o.place) (omega (arith, below)) ∙ ap (numbered cs) next ∙ o.at;
      mirrors = subst (Mirrors q vars o.clause) (sym o.is)
          (left_mirrors q vars o.clause (clause_at vars cs o.place o.clause a o.at) o.free);
    }

-- ---- the lifted steps are steps, of short numbers

with_bounded : (ids : Ids) (top id : ℕ) → Bounded ids top → Bounded (with_id ids id (top + 1)) (top + 1)
with_bounded ids top id b i to e = at (eqb id i) e where
  one : Some (top + 1) ≡ Some to → (0 < to) × (to ≤ top + 1)
  one f = (let g : top + 1 ≡ to = cc in (omega (arith, g), omega (arith, g)))

  at : (t : Bool) → cond t (Some (top + 1)) (ids i) ≡ Some to → (0 < to) × (to ≤ top + 1)
  at true f = one f
  at false f = let w = b i to f in (w.0, omega (arith, w.1))

hints_short : (ids : Ids) (top : ℕ) (hints : List ℤ) → Bounded ids top → top < 10 ^ 18
    → AllByRecursion IsShortLiteral (lifted_hints ids hints)
hints_short ids top [] b m = tt
hints_short ids top (h ∷ hs) b m = at (ids (unsigned_abs h)) refl (hints_short ids top hs b m) where
  at : (o : Option ℕ) → ids (unsigned_abs h) ≡ o → AllByRecursion IsShortLiteral (lifted_hints ids hs)
      → AllByRecursion IsShortLiteral (lifting.with_hint o (lifted_hints ids hs))
  at None e r = r
  at (Some id) e r = let w = b (unsigned_abs h) id e in ((w.0, omega (arith, w.1, m)), r)

module _ (q : List ℤ) (vars : ℕ) (a : AreLiterals vars q) where
  clause_within : (lits : List ℤ) → AreLiterals (many q vars) lits
      → AreLiterals vars (map (old q vars) lits ++ negs q)
  clause_within [] h = negs_within vars q a
  clause_within (l ∷ ls) h = (old_within q vars l h.0, clause_within ls h.1)

  abbrev all : Ids → ℕ → List Step → List Step
  all ids top steps = lifted (old q vars) (negs q) ids top steps

  steps_at : (b : Bool) (xs : List Step) → AreSteps xs → AreSteps (cond b [] xs)
  steps_at true xs h = tt
  steps_at false xs h = h

  are_steps : (steps : List Step) (ids : Ids) (top : ℕ) → vars < 2 ^ 63 → AreAdded (many q vars) steps
      → AreSteps (all ids top steps)
  are_steps [] ids top v h = tt
  are_steps (Add id lits hints ∷ steps) ids top v h = (
    lits_of vars (map (old q vars) lits ++ negs q) v (clause_within lits h.0),
    steps_at (is_empty lits) (all (with_id ids id (top + 1)) (top + 1) steps)
        (are_steps steps (with_id ids id (top + 1)) (top + 1) v h.2),
  )
  are_steps (Delete id gone ∷ steps) ids top v h = are_steps steps ids top v h

  short_at : (b : Bool) (xs : List Step) (top : ℕ) → top + suc (length (cond b [] xs)) < 10 ^ 18
      → (top + 1 + length xs < 10 ^ 18 → AreShort xs) → AreShort (cond b [] xs)
  short_at true xs top m h = tt
  short_at false xs top m h = h (omega (arith, m))

  are_short : (steps : List Step) (ids : Ids) (top : ℕ) → vars < 10 ^ 18 → Bounded ids top
      → AreAdded (many q vars) steps → top + length (all ids top steps) < 10 ^ 18 → AreShort (all ids top steps)
  are_short [] ids top v b h m = tt
  are_short (Add id lits hints ∷ steps) ids top v b h m = (
    (
      omega (arith, m),
      literals_short vars (map (old q vars) lits ++ negs q) v (clause_within lits h.0),
      hints_short ids top hints b (omega (arith, m)),
    ),
    short_at (is_empty lits) (all (with_id ids id (top + 1)) (top + 1) steps) top m
        (λ k. are_short steps (with_id ids id (top + 1)) (top + 1) v (with_bounded ids top id b) h.2 k),
  )
  are_short (Delete id gone ∷ steps) ids top v b h m = are_short steps ids top v b h m

-- ---- the steps of one cube

module _ (formula : Cnf) (q : List ℤ) (steps : List Step) (id : ℕ) (s now : State) (held : Held)
    (cube : IsCube formula.vars q) (small : formula.vars < 2 ^ 63) (names : AreClauses formula.vars formula.clauses)
    (refutes : Refutes (restricted q formula.clauses) steps id) (added : AreAdded (many q formula.vars) steps)
    (stands : Stands formula s held)
    (lifts_to : Lifts s now (lifted (old q formula.vars) (negs q) (first_ids (ids_from q 1 formula.clauses)) s.top
    steps)) where
  abbrev ids : Ids
  ids = first_ids (ids_from q 1 formula.clauses)

  abbrev lifted_steps : List Step
  lifted_steps = lifted (old q formula.vars) (negs q) ids s.top steps

  pub leads_to : Lifted q formula.vars cube.0 cube.1 held s.top lifted_steps
  leads_to = lifts q formula.vars cube.0 cube.1 steps (record { id = id }) added ids
      (numbered (restricted q formula.clauses)) held (length (restricted q formula.clauses)) s.top
      (first_carries q formula.vars formula.clauses held s.top names stands.first stands.keeps) refutes

  abbrev front : List Step
  front = s.steps ++ leads_to.before

  abbrev last_step : Step
  last_step = Add (leads_to.end + 1) (negs q) leads_to.hints

  now_steps : now.steps ≡ front ++ last_step ∷ []
  now_steps = lifts_to.steps_are ∙ ap (λ x. s.steps ++ x) leads_to.is
      ∙ sym (append_assoc s.steps leads_to.before (last_step ∷ []))

  now_top : now.top ≡ leads_to.end + 1
  now_top = lifts_to.top_is ∙ sym leads_to.tops

  goes : (more : List Step) → judged formula.clauses (now.steps ++ more)
      ≡ verdict leads_to.last leads_to.end (last_step ∷ more)
  goes more =
      ap (λ x. judged formula.clauses (x ++ more)) now_steps
      ∙ ap (judged formula.clauses) (append_assoc front (last_step ∷ []) more
      ∙ append_assoc s.steps leads_to.before (last_step ∷ more))
      ∙ stands.leads (leads_to.before ++ last_step ∷ more) ∙ leads_to.leads (last_step ∷ more)

  most : now.top < 10 ^ 18
  most = lifts_to.most stands.most

  now_are_steps : AreSteps now.steps
  now_are_steps = subst AreSteps (sym lifts_to.steps_are)
      (append_steps s.steps lifted_steps stands.are_steps
      (are_steps q formula.vars cube.0 steps ids s.top small added))

  now_short : formula.vars < 10 ^ 18 → AreShort now.steps
  now_short v =
      let top = lifts_to.top_is in
      let m = most in
      subst AreShort (sym lifts_to.steps_are)
      (append_short s.steps lifted_steps (stands.short v)
      (are_short q formula.vars cube.0 steps ids s.top v
      (first_bounded q formula.clauses s.top stands.first) added (omega (arith, top, m))))

  -- the cube's clause is among those that are added
  pub tells : AddsClause now.steps (negs q)
  tells = adds_last front now.steps (leads_to.end + 1) (negs q) leads_to.hints now_steps

  abbrev pub after : Held
  after = with_clause leads_to.last (leads_to.end + 1) (negs q)

  pub after_keeps : (i : ℕ) → i ≤ s.top → after i ≡ held i
  after_keeps i h =
      let up = leads_to.up in
      with_other leads_to.last (leads_to.end + 1) i (negs q) (λ e. omega (arith, e, h, up)) ∙ leads_to.keeps i h

  pub after_at : after now.top ≡ Some (negs q)
  after_at = ap after now_top ∙ with_at leads_to.last (leads_to.end + 1) (negs q)

  pub goes_up : s.top < now.top
  goes_up = let up = leads_to.up in let e = now_top in omega (arith, up, e)

  -- further steps go on from there
  pub stands_after : is_empty (negs q) ≡ false → Stands formula now after
  stands_after e = record {
    leads = λ more. goes more
        ∙ verdict_adds leads_to.last leads_to.end (leads_to.end + 1) (negs q) leads_to.hints more leads_to.accepted e
        ∙ ap (λ t. verdict after t more) (sym now_top);
    first = (let up = goes_up in let f = stands.first in omega (arith, up, f));
    keeps = λ i h. (let f = stands.first in after_keeps i (omega (arith, h, f))) ∙ stands.keeps i h;
    most = most;
    are_steps = now_are_steps;
    short = now_short;
  }

  -- without a split variable they refute the formula
  pub refutes_alone : negs q ≡ [] → AreRefuting formula now.steps
  refutes_alone e = record {
    id = leads_to.end + 1;
    refutes = ap (judged formula.clauses) (sym (append_nothing now.steps)) ∙ goes []
        ∙ verdict_empty leads_to.last leads_to.end (leads_to.end + 1) (negs q) leads_to.hints [] leads_to.accepted
        (ap is_empty e);
    ends = (front, leads_to.hints, now_steps ∙ ap (λ c. front ++ Add (leads_to.end + 1) c leads_to.hints ∷ []) e);
    are_steps = now_are_steps;
    short = now_short;
  } where
    append_nothing : (xs : List Step) → xs ++ [] ≡ xs
    append_nothing [] = refl
    append_nothing (x ∷ xs) = ap (λ ys. x ∷ ys) (append_nothing xs)
