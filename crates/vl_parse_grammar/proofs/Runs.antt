-- What holds of every grammar that is given as a machine: where its runs stop, and that what it accepts is made of
-- parts.
use Rattle.std.proofs.Common.{◌≡◌, ℕ, zero, suc, ◌≤◌, Bool, true, false, List, [], ◌∷◌, ◌++◌, length, Option, Some}
use Rattle.std.proofs.Common.{None, refl, sym, ap, ◌∙◌, arith}
use Rattle.std.specs.Prelude.{Result, Ok, Err}
use Rattle.vl_parse_grammar.specs.Machine.{Row, Move, take, pop, bad, Fault, syntax, deep, Stepped, stuck, emptied}
use Rattle.vl_parse_grammar.specs.Machine.{over}
use Rattle.vl_parse_grammar.specs.Machine.{goes, fits, placed, taken, step, all_end, run, symbols, free_step}
use Rattle.vl_parse_grammar.specs.Machine.{free_after}
use Rattle.vl_parse_grammar.specs.Machine.{all_may_end, accepts, IsStuck}

-- rules in turn, each from some tokens up to others
abbrev pub InTurn : {S T : Type 0} → (S → List T → List T → Type 0) → List S → List T → List T → Type 0
InTurn One [] ts rest = ts ≡ rest
InTurn {T = T} One (x ∷ row) ts rest = (middle : List T) × One x ts middle × InTurn One row middle rest

abbrev pub Moved : {S T : Type 0} → (S → List T → List T → Type 0) → T → List T → List T → Move S → Type 0
Moved One t ts rest (take opened row) = InTurn One (symbols row) ts rest
Moved One t ts rest pop = rest ≡ t ∷ ts
Moved One t ts rest bad = ⊥

module _ {S T : Type 0} (expand : S → T → Move S) (ends : S → Bool) where
  -- the rule is read from the tokens, up to the rest; no deeper than the number
  abbrev pub Derives : ℕ → S → List T → List T → Type 0
  Derives zero x ts rest = ⊥
  Derives (suc d) x [] rest = (ends x ≡ true) × (rest ≡ [])
  Derives (suc d) x (t ∷ ts) rest = Moved (λ y us vs. Derives d y us vs) t ts rest (expand x t)

  -- what a step leaves, without the rooms
  abbrev pub Like : Stepped S → Option (List S) → Type 0
  Like stuck k = k ≡ None
  Like emptied k = k ≡ None
  Like over k = (j : List S) × (k ≡ Some j)
  Like (goes k) j = j ≡ Some (symbols k)

  placed_symbols : (room : ℕ) (row k : Row S) → symbols (placed room row k) ≡ symbols row ++ symbols k
  placed_symbols room [] k = refl
  placed_symbols room (x ∷ row) k = ap (λ r. x.0 ∷ r) (placed_symbols room row k)

  taken_like : (b : Bool) (room : ℕ) (row k : Row S)
      → Like (taken b (placed room row k)) (Some (symbols row ++ symbols k))
  taken_like true room row k = ap Some (sym (placed_symbols room row k))
  taken_like false room row k = (symbols row ++ symbols k, refl)

  by_move : (x : S × ℕ) (k : Row S) (t : T) (m : Move S) → Like (step expand k t) (free_step expand (symbols k) t)
      → Like (elim m [
        | take opened row ↦ taken (fits opened x.1)
            (placed x.1 row k)
        | pop ↦ step expand k t
        | bad ↦ stuck
      ])
      (elim m [ take opened row ↦ Some (symbols row ++ symbols k) | pop ↦ free_step expand (symbols k) t | bad ↦ None ])
  by_move x k t (take opened row) h = taken_like (fits opened x.1) x.1 row k
  by_move x k t pop h = h
  by_move x k t bad h = refl

  pub step_like : (k : Row S) (t : T) → Like (step expand k t) (free_step expand (symbols k) t)
  step_like [] t = refl
  step_like (x ∷ k) t = by_move x k t (expand x.0 t) (step_like k t)

  -- where a run stops for a wrong token
  pub record Stops (k : List S) (ts : List T) (left : ℕ) : Type 0 where
    pub before : List T
    pub behind : List T
    pub state : List S
    pub same : ts ≡ before ++ behind
    pub long : length behind ≡ left
    pub here : free_after expand k before ≡ Some state
    pub wrong : IsStuck expand ends state behind

  -- where it stops for a construct too many: the token itself is right
  pub record TooDeep (k : List S) (ts : List T) (left : ℕ) : Type 0 where
    pub before : List T
    pub token : T
    pub behind : List T
    pub state : List S
    pub next : List S
    pub same : ts ≡ before ++ token ∷ behind
    pub long : suc (length behind) ≡ left
    pub here : free_after expand k before ≡ Some state
    pub goes_on : free_step expand state token ≡ Some next

  abbrev pub At : List S → List T → Result (Unit {0}) Fault → Type 0
  At k ts (Ok u) = accepts expand ends k ts ≡ true
  At k ts (Err (syntax l)) = Stops k ts l
  At k ts (Err (deep l)) = TooDeep k ts l

  all_end_same : (k : Row S) → all_end ends k ≡ all_may_end ends (symbols k)
  all_end_same [] = refl
  all_end_same (x ∷ k) = ap (λ r. elim (ends x.0) [ true ↦ r | false ↦ false ]) (all_end_same k)

  at_end : (k : List S) (b : Bool) → all_may_end ends k ≡ b → At k [] (elim b [ true ↦ Ok tt | false ↦ Err (syntax 0) ])
  at_end k true e = e
  at_end k false e = record { before = []; behind = []; state = k; same = refl; long = refl; here = refl; wrong = e }

  accepts_step : (k j : List S) (t : T) (ts : List T) → free_step expand k t ≡ Some j
      → accepts expand ends k (t ∷ ts) ≡ accepts expand ends j ts
  accepts_step k j t ts e = ap (λ o. elim o [ None ↦ false | Some i ↦ accepts expand ends i ts ]) e

  after_step : (k j : List S) (t : T) (ts : List T) → free_step expand k t ≡ Some j
      → free_after expand k (t ∷ ts) ≡ free_after expand j ts
  after_step k j t ts e = ap (λ o. elim o [ None ↦ None | Some i ↦ free_after expand i ts ]) e

  -- one token further
  later : (k j : List S) (t : T) (ts : List T) (o : Result (Unit {0}) Fault) → free_step expand k t ≡ Some j → At j ts o
      → At k (t ∷ ts) o
  later k j t ts (Ok u) e h = accepts_step k j t ts e ∙ h
  later k j t ts (Err (syntax l)) e h = record {
    before = t ∷ h.before;
    behind = h.behind;
    state = h.state;
    same = ap (λ us. t ∷ us) h.same;
    long = h.long;
    here = after_step k j t h.before e ∙ h.here;
    wrong = h.wrong;
  }
  later k j t ts (Err (deep l)) e h = record {
    before = t ∷ h.before;
    token = h.token;
    behind = h.behind;
    state = h.state;
    next = h.next;
    same = ap (λ us. t ∷ us) h.same;
    long = h.long;
    here = after_step k j t h.before e ∙ h.here;
    goes_on = h.goes_on;
  }

  by_step : (k : List S) (t : T) (ts : List T) (found : Stepped S) → Like found (free_step expand k t)
      → ((j : Row S) → At (symbols j) ts (run expand ends j ts))
      → At k (t ∷ ts) (elim found [
        | stuck ↦ Err (syntax (suc (length ts)))
        | emptied ↦ Err (syntax (suc (length ts)))
        | over ↦ Err (deep (suc (length ts)))
        | goes j ↦ run expand ends j ts
      ])
  by_step k t ts stuck h next =
      record { before = []; behind = t ∷ ts; state = k; same = refl; long = refl; here = refl; wrong = h }
  by_step k t ts emptied h next =
      record { before = []; behind = t ∷ ts; state = k; same = refl; long = refl; here = refl; wrong = h }
  by_step k t ts over h next = record {
    before = [];
    token = t;
    behind = ts;
    state = k;
    next = h.0;
    same = refl;
    long = refl;
    here = refl;
    goes_on = h.1;
  }
  by_step k t ts (goes j) h next = later k (symbols j) t ts (run expand ends j ts) h (next j)

  -- what each answer of a run means
  pub run_at : (k : Row S) (ts : List T) → At (symbols k) ts (run expand ends k ts)
  run_at k [] = at_end (symbols k) (all_end ends k) (sym (all_end_same k))
  run_at k (t ∷ ts) = by_step (symbols k) t ts (step expand k t) (step_like k t) (λ j. run_at j ts)

  -- behind a reached state the text is what the state accepts
  pub reached : (k j : List S) (before ts : List T) → free_after expand k before ≡ Some j
      → accepts expand ends k (before ++ ts) ≡ accepts expand ends j ts
  reached k j [] ts h = (let e : Some k ≡ Some j = h in let f : k ≡ j = cc in ap (λ i. accepts expand ends i ts) f)
  reached k j (u ∷ us) ts h = by_first (free_step expand k u) h (λ i. reached i j us ts)
    where
      by_first : (o : Option (List S)) → elim o [ None ↦ None | Some i ↦ free_after expand i us ] ≡ Some j
          → ((i : List S) → free_after expand i us ≡ Some j
          → accepts expand ends i (us ++ ts) ≡ accepts expand ends j ts)
          → elim o [ None ↦ false | Some i ↦ accepts expand ends i (us ++ ts) ] ≡ accepts expand ends j ts
      by_first None h next = (let e : None ≡ Some j = h in cc)
      by_first (Some i) h next = next i h

  -- no text goes on with a wrong token
  pub dead : (k j : List S) (before : List T) (t : T) (behind other : List T) → free_after expand k before ≡ Some j
      → IsStuck expand ends j (t ∷ behind) → accepts expand ends k (before ++ t ∷ other) ≡ false
  dead k j before t behind other h w =
      reached k j before (t ∷ other) h ∙ ap (λ o. elim o [ None ↦ false | Some i ↦ accepts expand ends i other ]) w

  -- what is accepted is read rule by rule
  abbrev pub Read : ℕ → S → List S → List T → Type 0
  Read d x k ts =
      (rest : List T) × Derives d x ts rest × (accepts expand ends k rest ≡ true) × (length rest ≤ length ts)

  abbrev ReadAll : ℕ → List S → List S → List T → Type 0
  ReadAll d row k ts =
      (rest : List T)
      × InTurn (λ y us vs. Derives d y us vs) row ts rest
      × (accepts expand ends k rest ≡ true) × (length rest ≤ length ts)

  in_turn : (m : ℕ)
      → ((x : S) (k : List S) (ts : List T) → length ts ≤ m → accepts expand ends (x ∷ k) ts ≡ true
      → Read (suc m) x k ts)
      → (row k : List S) (ts : List T) → length ts ≤ m → accepts expand ends (row ++ k) ts ≡ true
      → ReadAll (suc m) row k ts
  in_turn m one [] k ts short h = (ts, refl, h, omega arith)
  in_turn m one (x ∷ row) k ts short h =
      let (middle, first, on, less) = one x (row ++ k) ts short h in
      let (rest, others, end, lesser) = in_turn m one row k middle (omega (arith, short, less)) on in
      (rest, (middle, first, others), end, omega (arith, less, lesser))

  end_both : (b c : Bool) → elim b [ true ↦ c | false ↦ false ] ≡ true → (b ≡ true) × (c ≡ true)
  end_both true c h = (refl, h)
  end_both false c h = cc

  read_move : (m : ℕ) (x : S) (k : List S) (t : T) (ts : List T) (v : Move S)
      → ((row : List S) → accepts expand ends (row ++ k) ts ≡ true → ReadAll (suc m) row k ts)
      → elim (elim v as (λ _. Option (List S))
      [ take opened row ↦ Some (symbols row ++ k) | pop ↦ free_step expand k t | bad ↦ None ])
      [ None ↦ false | Some i ↦ accepts expand ends i ts ] ≡ true
      → (rest : List T)
      × Moved (λ y us vs. Derives (suc m) y us vs) t ts rest v
      × (accepts expand ends k rest ≡ true) × (length rest ≤ suc (length ts))
  read_move m x k t ts (take opened row) all h =
      (let (rest, parts, end, less) = all (symbols row) h in (rest, parts, end, omega (arith, less)))
  read_move m x k t ts pop all h = (t ∷ ts, refl, h, omega arith)
  read_move m x k t ts bad all h = cc

  pub read : (m : ℕ) (x : S) (k : List S) (ts : List T) → length ts ≤ m → accepts expand ends (x ∷ k) ts ≡ true
      → Read (suc m) x k ts
  read m x k [] short h =
      (let (e, f) = end_both (ends x) (all_may_end ends k) h in ([], (e, refl), f, omega arith))
  read zero x k (t ∷ ts) short h = absurd (omega (arith, short))
  read (suc m) x k (t ∷ ts) short h =
      read_move m x k t ts (expand x t) (λ row. in_turn m (λ y j us. read m y j us) row k ts (omega (arith, short))) h
