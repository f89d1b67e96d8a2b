-- The faulty token, said of trees alone.
use Rattle.std.proofs.Common.{◌≡◌, ℕ, suc, Bool, true, false, List, [], ◌∷◌, ◌++◌, length, Option, Some, None, refl}
use Rattle.std.proofs.Common.{sym, ap, ◌∙◌, subst}
use Rattle.std.specs.Prelude.{Result, Ok, Err, map}
use Rattle.fv_text.specs.declared.kind.Kind.{Kind}
use Rattle.fv_text.specs.declared.token.Token.{Token}
use Rattle.vl_tree.specs.Phrase.{kinds, kinds_of}
use Rattle.vl_tree.specs.ItemSpelling.{spell_source}
use Rattle.vl_parse_grammar.specs.Machine as machine
use Rattle.vl_parse_grammar.specs.Machine.{Row, Move, take, pop, bad, Fault, syntax, deep, Stepped, stuck, emptied}
use Rattle.vl_parse_grammar.specs.Machine.{over}
use Rattle.vl_parse_grammar.specs.Machine.{goes, fits, placed, taken, symbols, step, free_step, IsStuck}
use Rattle.vl_parse_grammar.specs.Grammar as grammar
use Rattle.vl_parse_grammar.specs.Grammar.{Rule, Moves, expand, ends, modules, start}
use Rattle.vl_parse_grammar.specs.Text.{IsText, IsFaulty}
use Rattle.vl_parse_grammar.proofs.Named.{Named, on, plain, accepts, plain_both, step_plain, accepts_plain}
use Rattle.vl_parse_grammar.proofs.Onto.{onto_kinds, all_of}
use Rattle.vl_parse_grammar.proofs.RowsFit.{goes_on}
use Rattle.vl_parse_grammar.proofs.Runs as runs
use Rattle.vl_parse_grammar.proofs.SourceReads.{source_reads}
use Rattle.vl_parse_grammar.proofs.SourceTrees.{source_tree}
use Rattle.vl_parse_grammar.proofs.Viable as viable
use Rattle.vl_parse_grammar.proofs.Words.{word, left_out, follow, sound}

-- The token with so many tokens from it on is right: some text begins with the tokens up to it.
pub record IsRight (ks : List Kind) (left : ℕ) : Type 0 where
  pub before : List Kind
  pub token : Kind
  pub behind : List Kind
  pub same : ks ≡ before ++ token ∷ behind
  pub long : length (token ∷ behind) ≡ left
  pub rest : List Kind
  pub goes_on : IsText (before ++ token ∷ rest)

-- tokens without their places
abbrev pub named : List Token → List Named
named ts = map (λ t. (t.kind, t.named)) ts

pub named_kinds : (ts : List Token) → plain (named ts) ≡ kinds_of ts
named_kinds [] = refl
named_kinds (t ∷ ts) = ap (λ r. t.kind ∷ r) (named_kinds ts)

length_plain : (ts : List Named) → length (plain ts) ≡ length ts
length_plain [] = refl
length_plain (t ∷ ts) = ap suc (length_plain ts)

-- a run looks at the kinds alone
steps_same : (xs : Row Rule) (t : Named) → step on xs t ≡ step expand xs t.0
steps_same [] t = refl
steps_same (x ∷ xs) t = by_move (expand x.0 t.0) (steps_same xs t)
  where
    by_move : (m : Moves) → step on xs t ≡ step expand xs t.0
        → elim m as (λ _. Stepped Rule)
        [ take opened row ↦ taken (fits opened x.1) (placed x.1 row xs) | pop ↦ step on xs t | bad ↦ stuck ]
        ≡ elim m as (λ _. Stepped Rule)
        [ take opened row ↦ taken (fits opened x.1) (placed x.1 row xs) | pop ↦ step expand xs t.0 | bad ↦ stuck ]
    by_move (take opened row) h = refl
    by_move pop h = h
    by_move bad h = refl

abbrev ran : (Row Rule → Result (Unit {0}) Fault) → ℕ → Stepped Rule → Result (Unit {0}) Fault
ran next n found = elim found as (λ _. Result (Unit {0}) Fault)
    [ stuck ↦ Err (syntax n) | emptied ↦ Err (syntax n) | over ↦ Err (deep n) | goes j ↦ next j ]

pub run_plain : (xs : Row Rule) (ts : List Named) → machine.run on ends xs ts ≡ machine.run expand ends xs (plain ts)
run_plain xs [] = refl
run_plain xs (t ∷ ts) =
    ap (ran (λ j. machine.run on ends j ts) (suc (length ts))) (steps_same xs t)
    ∙ by_step (step expand xs t.0) (λ j. run_plain j ts)
    ∙ ap (λ n. ran (λ j. machine.run expand ends j (plain ts)) (suc n) (step expand xs t.0)) (sym (length_plain ts))
  where
    by_step : (found : Stepped Rule) → ((j : Row Rule)
        → machine.run on ends j ts ≡ machine.run expand ends j (plain ts))
        → ran (λ j. machine.run on ends j ts) (suc (length ts)) found
        ≡ ran (λ j. machine.run expand ends j (plain ts)) (suc (length ts)) found
    by_step stuck h = refl
    by_step emptied h = refl
    by_step over h = refl
    by_step (goes j) h = h j

pub after_plain : (xs : List Rule) (ts : List Named)
    → machine.free_after on xs ts ≡ machine.free_after expand xs (plain ts)
after_plain xs [] = refl
after_plain xs (t ∷ ts) =
    ap (λ o. elim o as (λ _. Option (List Rule)) [ None ↦ None | Some j ↦ machine.free_after on j ts ])
    (step_plain xs t)
    ∙ by_step (free_step expand xs t.0) (λ j. after_plain j ts)
  where
    by_step : (o : Option (List Rule)) → ((j : List Rule)
        → machine.free_after on j ts ≡ machine.free_after expand j (plain ts))
        → elim o as (λ _. Option (List Rule)) [ None ↦ None | Some j ↦ machine.free_after on j ts ]
        ≡ elim o as (λ _. Option (List Rule)) [ None ↦ None | Some j ↦ machine.free_after expand j (plain ts) ]
    by_step None h = refl
    by_step (Some j) h = h j

stuck_plain : (xs : List Rule) (ts : List Named) → IsStuck on ends xs ts → IsStuck expand ends xs (plain ts)
stuck_plain xs [] h = h
stuck_plain xs (t ∷ ts) h = sym (step_plain xs t) ∙ h

-- a text is accepted
pub text_accepted : (ks : List Kind) → IsText ks → grammar.accepts (modules ∷ []) ks ≡ true
text_accepted ks x =
    ap (grammar.accepts (modules ∷ []))
    (sym x.spelled ∙ sym (onto_kinds (spell_source x.tree) [] ∙ all_of (kinds (spell_source x.tree))))
    ∙ source_reads x.tree x.formed

-- and what is accepted is a text
pub accepted_text : (ts : List Named) → accepts (modules ∷ []) ts ≡ true → IsText (plain ts)
accepted_text ts h =
    let x = source_tree ts h in
    record {
      tree = x.tree;
      formed = x.formed;
      spelled = sym (onto_kinds (spell_source x.tree) [] ∙ all_of (kinds (spell_source x.tree))) ∙ x.same;
    }

-- each reached state is the beginning of a text
goes_somewhere : (before : List Named) (j : List Rule) → machine.free_after on (modules ∷ []) before ≡ Some j
    → IsText (plain before ++ plain (viable.finish on ends word follow left_out sound j))
goes_somewhere before j h =
    subst IsText (plain_both before (viable.finish on ends word follow left_out sound j))
    (accepted_text (before ++ viable.finish on ends word follow left_out sound j)
    (runs.reached on ends (modules ∷ []) j before (viable.finish on ends word follow left_out sound j) h
    ∙ goes_on before j h))

none_true : {A : Type 0} → true ≡ false → A
none_true h = absurd (no h)
  where
    no : true ≡ false → ⊥
    no h = cc

abbrev stack : List Rule
stack = modules ∷ []

-- where the machine stops for a wrong token, the token is faulty
at_stop : (ts : List Named) (l : ℕ) → runs.Stops on ends stack ts l → IsFaulty (plain ts) l
at_stop ts l w =
    let here : machine.free_after expand stack (plain w.before) ≡ Some w.state = sym (after_plain stack w.before)
    ∙ w.here in
    record {
      before = plain w.before;
      behind = plain w.behind;
      same = ap plain w.same ∙ plain_both w.before w.behind;
      long = length_plain w.behind ∙ w.long;
      no_token = λ kind rest other e x.
          none_true (sym (text_accepted (plain w.before ++ kind ∷ other) x)
          ∙ runs.dead expand ends stack w.state (plain w.before) kind rest other here
          (subst (λ b. IsStuck expand ends w.state b) e (stuck_plain w.state w.behind w.wrong)));
      no_end = λ e x.
          none_true (sym (text_accepted (plain w.before) x) ∙ ap (grammar.accepts stack) (sym (all_of (plain w.before)))
          ∙ runs.reached expand ends stack w.state (plain w.before) [] here
          ∙ subst (λ b. IsStuck expand ends w.state b) e (stuck_plain w.state w.behind w.wrong));
      rest = plain (viable.finish on ends word follow left_out sound w.state);
      goes_on = goes_somewhere w.before w.state w.here;
    }

after_both : (xs : List Rule) (before ts : List Named) (j : List Rule) → machine.free_after on xs before ≡ Some j
    → machine.free_after on xs (before ++ ts) ≡ machine.free_after on j ts
after_both xs [] ts j h =
    (let e : Some xs ≡ Some j = h in let f : xs ≡ j = cc in ap (λ i. machine.free_after on i ts) f)
after_both xs (u ∷ us) ts j h = by_first (free_step on xs u) h (λ i. after_both i us ts j)
  where
    by_first : (o : Option (List Rule)) → elim o [ None ↦ None | Some i ↦ machine.free_after on i us ] ≡ Some j
        → ((i : List Rule) → machine.free_after on i us ≡ Some j
        → machine.free_after on i (us ++ ts) ≡ machine.free_after on j ts)
        → elim o as (λ _. Option (List Rule)) [ None ↦ None | Some i ↦ machine.free_after on i (us ++ ts) ]
        ≡ machine.free_after on j ts
    by_first None h next = (let e : None ≡ Some j = h in cc)
    by_first (Some i) h next = next i h

-- where it stops for a construct too many, the token is right
at_deep : (ts : List Named) (l : ℕ) → runs.TooDeep on ends stack ts l → IsRight (plain ts) l
at_deep ts l w =
    let here : machine.free_after on stack (w.before ++ w.token ∷ []) ≡ Some w.next =
    after_both stack w.before (w.token ∷ []) w.state w.here
    ∙ ap (λ o. elim o as (λ _. Option (List Rule)) [ None ↦ None | Some i ↦ Some i ]) w.goes_on in
    record {
      before = plain w.before;
      token = w.token.0;
      behind = plain w.behind;
      same = ap plain w.same ∙ plain_both w.before (w.token ∷ w.behind);
      long = ap suc (length_plain w.behind) ∙ w.long;
      rest = plain (viable.finish on ends word follow left_out sound w.next);
      goes_on = subst IsText
          (ap (λ r. r ++ plain (viable.finish on ends word follow left_out sound w.next))
          (plain_both w.before (w.token ∷ []))
          ∙ assoc (plain w.before) w.token.0 (plain (viable.finish on ends word follow left_out sound w.next)))
          (goes_somewhere (w.before ++ w.token ∷ []) w.next here);
    }
  where
    assoc : (xs : List Kind) (x : Kind) (ys : List Kind) → (xs ++ x ∷ []) ++ ys ≡ xs ++ x ∷ ys
    assoc [] x ys = refl
    assoc (z ∷ xs) x ys = ap (λ r. z ∷ r) (assoc xs x ys)

run_named : (ts : List Token) → machine.run on ends start (named ts) ≡ grammar.run (kinds_of ts)
run_named ts = run_plain start (named ts) ∙ ap grammar.run (named_kinds ts)

pub faulty : (ts : List Token) (l : ℕ) → grammar.run (kinds_of ts) ≡ Err (syntax l) → IsFaulty (kinds_of ts) l
faulty ts l h =
    subst (λ ks. IsFaulty ks l) (named_kinds ts)
    (at_stop (named ts) l (subst (λ o. runs.At on ends stack (named ts) o) (run_named ts ∙ h)
    (runs.run_at on ends start (named ts))))

pub right : (ts : List Token) (l : ℕ) → grammar.run (kinds_of ts) ≡ Err (deep l) → IsRight (kinds_of ts) l
right ts l h =
    subst (λ ks. IsRight ks l) (named_kinds ts)
    (at_deep (named ts) l (subst (λ o. runs.At on ends stack (named ts) o) (run_named ts ∙ h)
    (runs.run_at on ends start (named ts))))

pub whole : (ts : List Token) → grammar.run (kinds_of ts) ≡ Ok tt → IsText (kinds_of ts)
whole ts h =
    subst IsText (named_kinds ts)
    (accepted_text (named ts) (subst (λ o. runs.At on ends stack (named ts) o) (run_named ts ∙ h)
    (runs.run_at on ends start (named ts))))

-- a text is refused for a construct too many alone
pub never_faulty : (ks : List Kind) (l : ℕ) → IsText ks → grammar.run ks ≡ Err (syntax l) → ⊥
never_faulty ks l x h =
    by_stop (subst (λ o. runs.At expand ends stack ks o) h (runs.run_at expand ends start ks))
  where
    by_end : (state : List Rule) (behind : List Kind) → IsStuck expand ends state behind
        → machine.accepts expand ends state behind ≡ false
    by_end state [] w = w
    by_end state (t ∷ us) w =
        ap (λ o. elim o as (λ _. Bool) [ None ↦ false | Some i ↦ machine.accepts expand ends i us ]) w

    by_stop : runs.Stops expand ends stack ks l → ⊥
    by_stop w =
        none_true (sym (text_accepted ks x) ∙ ap (grammar.accepts stack) w.same
        ∙ runs.reached expand ends stack w.state w.before w.behind w.here ∙ by_end w.state w.behind w.wrong)

pub spelled_text : (ts : List Token) → grammar.accepts (modules ∷ []) (kinds_of ts) ≡ true → IsText (kinds_of ts)
spelled_text ts h =
    subst IsText (named_kinds ts)
    (accepted_text (named ts) (accepts_plain (modules ∷ []) (named ts)
    ∙ ap (grammar.accepts (modules ∷ [])) (named_kinds ts) ∙ h))
