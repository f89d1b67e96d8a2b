-- What names mean in the value of a parameter.
use Rattle.std.specs.Prelude.{◌≡◌, refl, ℕ, List, [], ◌∷◌, ◌++◌, map, Bool, true, false, ◌&&◌, ◌||◌, not, bytes_eq}
use Rattle.std.specs.Prelude.{if◌then◌else◌}
use Rattle.std.proofs.Common.{ap, sym, ◌∙◌, true≢false}
use Rattle.std.proofs.lemmas.Slice.Eq.{bytes_eq-Decides}
use Rattle.vl_mean.specs.Cells.{contains_name}
use Rattle.vl_mean.specs.Scopes.{Scope}
use Rattle.vl_mean.specs.declared.const_number.Const.{Const}
use Rattle.vl_mean.specs.Walk.{Contents, Place, turn_place}
use Rattle.vl_elab_spec.specs.Meanings.{Meaning, undeclared, constant, loop_variable, object, faulty, shapeless, later}
use Rattle.vl_elab_spec.specs.Meanings.{Names, is_undeclared, meaning_of, meaning_in, not_reached, reached}
use Rattle.vl_elab_spec.specs.Meanings.{all_meanings, meanings_at, meanings_before, scope_meanings, scope_parameters}
use Rattle.vl_elab_scope.specs.Seen.{IsNamed, AreNamed, AllNamed}
use Rattle.vl_elab_scope.specs.Alike.{Alike}
use Rattle.vl_elab_params.proofs.Listed.{inner_or, inner_assoc}
use Rattle.vl_elab_params.specs.Reached.{AreReached, innermost_parameters, parameters_at, is_parameter_of, Says}
use Rattle.vl_elab_params.specs.Reached.{is_parameter_around, reached_around, AreAround, AreBefore}
use Rattle.vl_elab_params.proofs.Listing.{is_parameter, parameter_found}

there_named : (text : List ℕ) (m : Meaning) → IsNamed (text, m) → is_undeclared m ≡ false
there_named text undeclared h = absurd h
there_named text (constant c selected) h = refl
there_named text loop_variable h = refl
there_named text (object d role scalar) h = refl
there_named text faulty h = refl
there_named text shapeless h = refl
there_named text later h = refl

-- a name that is declared, where it isn't reached or is
abbrev reached_or : Bool → Meaning → Meaning
reached_or t m = if is_undeclared m then m else (if t then later else m)

module _ (parameters earlier : List (List ℕ)) where
  abbrev left : List ℕ → Bool
  left text = contains_name parameters text && not (contains_name earlier text)

  named_reached : (ns : Names) → AreNamed ns → AreNamed (map (not_reached parameters earlier) ns)
  named_reached [] h = tt
  named_reached (n ∷ ns) h = (by (left n.0), named_reached ns h.1)
    where
      by : (b : Bool) → IsNamed (if b then (n.0, later) else n)
      by true = tt
      by false = h.0

  meaning_reached : (ns : Names) → AreNamed ns → (text : List ℕ)
      → meaning_of (map (not_reached parameters earlier) ns) text ≡ reached_or (left text) (meaning_of ns text)
  meaning_reached [] h text = refl
  meaning_reached (n ∷ ns) h text =
      by (left n.0) (bytes_eq text n.0) refl refl (meaning_reached ns h.1 text)
    where
      rest : Names
      rest = map (not_reached parameters earlier) ns

      here : (t : Bool) → (if t then later else n.1) ≡ reached_or t n.1
      here t = sym (ap (λ u. if u then n.1 else (if t then later else n.1)) (there_named n.0 n.1 h.0))

      by : (b e : Bool) → left n.0 ≡ b → bytes_eq text n.0 ≡ e
          → meaning_of rest text ≡ reached_or (left text) (meaning_of ns text)
          → meaning_of ((if b then (n.0, later) else n) ∷ rest) text
          ≡ reached_or (left text) (if e then n.1 else meaning_of ns text)
      by true true k q f =
          ap (λ e. if e then later else meaning_of rest text) q ∙ here true
          ∙ ap (λ t. reached_or t n.1) (sym (ap left ((bytes_eq-Decides text n.0).0 q) ∙ k))
      by false true k q f =
          ap (λ e. if e then n.1 else meaning_of rest text) q ∙ here false
          ∙ ap (λ t. reached_or t n.1) (sym (ap left ((bytes_eq-Decides text n.0).0 q) ∙ k))
      by true false k q f = ap (λ e. if e then later else meaning_of rest text) q ∙ f
      by false false k q f = ap (λ e. if e then n.1 else meaning_of rest text) q ∙ f

-- ---- several scopes

pub all_named_reached : (cs : List Contents) (earlier : List (List ℕ)) (ns : List Names) → AllNamed ns
    → AllNamed (reached cs earlier ns)
all_named_reached [] earlier ns h = h
all_named_reached (c ∷ cs) earlier [] h = h
all_named_reached (c ∷ cs) earlier (n ∷ ns) h =
    (named_reached (scope_parameters c) earlier n h.0, all_named_reached cs c.earlier ns h.1)

same_either : (b : Bool) (m : Meaning) → (if b then m else m) ≡ m
same_either true m = refl
same_either false m = refl

-- what is no parameter stays
none_left : (p e : Bool) (m : Meaning) → p ≡ false → reached_or (p && not e) m ≡ m
none_left false e m h = same_either (is_undeclared m) m
none_left true e m h = cc

first_false : (a b : Bool) → (a || b) ≡ false → a ≡ false
first_false false b h = refl
first_false true b h = cc

second_false : (a b : Bool) → (a || b) ≡ false → b ≡ false
second_false false b h = h
second_false true b h = cc

pub reached_else : (ss : List Scope) (cs : List Contents) (earlier : List (List ℕ)) → AllNamed (all_meanings ss cs)
    → (text : List ℕ) → is_parameter_of ss cs text ≡ false
    → meaning_in (reached cs earlier (all_meanings ss cs)) text ≡ meaning_in (all_meanings ss cs) text
reached_else [] [] earlier h text e = refl
reached_else [] (c ∷ cs) earlier h text e = refl
reached_else (s ∷ ss) [] earlier h text e = refl
reached_else (s ∷ ss) (c ∷ cs) earlier h text e =
    let ps = scope_parameters c in
    let outer = all_meanings ss cs in
    let all = scope_meanings s (reached cs c.earlier outer) outer c in
    (λ i. inner_or (meaning_reached ps earlier all h.0 text i)
    (reached_else ss cs c.earlier h.1 text (second_false (contains_name ps text) (is_parameter_of ss cs text) e) i))
    ∙ ap (λ m. inner_or m (meaning_in outer text))
    (none_left (contains_name ps text) (contains_name earlier text) (meaning_of all text)
    (first_false (contains_name ps text) (is_parameter_of ss cs text) e))

-- ---- what is said of a name: by whether it is a parameter of the innermost scope, whether it stands before, what it
-- means there, around, and around as far as that is reached, and what is said of it around

abbrev said_of : Bool → Bool → Meaning → Meaning → Meaning → Meaning
said_of p e m out x =
    inner_or (if p && e then inner_or m out else undeclared) (inner_or (if p then later else undeclared) x)

true-not-false : true ≡ false → ⊥
true-not-false e = absurd (true≢false e)

said_right : (p e : Bool) (m out rout x : Meaning) → (p ≡ true → is_undeclared m ≡ false)
    → (is_undeclared x ≡ false → x ≡ inner_or m rout) → is_undeclared (said_of p e m out x) ≡ false
    → said_of p e m out x ≡ inner_or (reached_or (p && not e) m) rout
said_right false e m out rout x h k d = k d ∙ ap (λ n. inner_or n rout) (sym (same_either (is_undeclared m) m))
said_right true true undeclared out rout x h k d = absurd (true-not-false (h refl))
said_right true true (constant c selected) out rout x h k d = refl
said_right true true loop_variable out rout x h k d = refl
said_right true true (object o role scalar) out rout x h k d = refl
said_right true true faulty out rout x h k d = refl
said_right true true shapeless out rout x h k d = refl
said_right true true later out rout x h k d = refl
said_right true false undeclared out rout x h k d = absurd (true-not-false (h refl))
said_right true false (constant c selected) out rout x h k d = refl
said_right true false loop_variable out rout x h k d = refl
said_right true false (object o role scalar) out rout x h k d = refl
said_right true false faulty out rout x h k d = refl
said_right true false shapeless out rout x h k d = refl
said_right true false later out rout x h k d = refl

said_all : (p e q : Bool) (m out x : Meaning) → (p ≡ true → is_undeclared m ≡ false)
    → (q ≡ true → is_undeclared x ≡ false) → (p || q) ≡ true → is_undeclared (said_of p e m out x) ≡ false
said_all false e q m out x h k d = k d
said_all true true q undeclared out x h k d = absurd (true-not-false (h refl))
said_all true true q (constant c selected) out x h k d = refl
said_all true true q loop_variable out x h k d = refl
said_all true true q (object o role scalar) out x h k d = refl
said_all true true q faulty out x h k d = refl
said_all true true q shapeless out x h k d = refl
said_all true true q later out x h k d = refl
said_all true false q m out x h k d = refl

is_there : (m : Meaning) → is_parameter m ≡ true → is_undeclared m ≡ false
is_there undeclared h = cc
is_there (constant c selected) h = refl
is_there loop_variable h = refl
is_there (object d role scalar) h = refl
is_there faulty h = refl
is_there shapeless h = refl
is_there later h = refl

-- ---- what is kept of a scope before what is said around

module _ (before behind : Names) (around : List Names) (earlier : List (List ℕ)) where
  module _ (s : Scope) (ss : List Scope) (c : Contents) (cs : List Contents) where
    abbrev outer : List Names
    outer = all_meanings ss cs

    abbrev beyond : List Names
    beyond = reached cs c.earlier outer

    abbrev here : Names
    here = scope_meanings s beyond outer c

    abbrev parameters : List (List ℕ)
    parameters = scope_parameters c

    module _ (r : AreReached before behind (here ∷ outer) parameters earlier) (named : AllNamed (here ∷ outer))
        (a : Says around (is_parameter_of ss cs) (here ∷ beyond)) (text : List ℕ) where
      there : contains_name parameters text ≡ true → is_undeclared (meaning_of here text) ≡ false
      there e = is_there (meaning_of here text) (parameter_found s beyond outer c text e)

      kept : meaning_in (before ∷ behind ∷ around) text
          ≡ said_of (contains_name parameters text) (contains_name earlier text) (meaning_of here text)
          (meaning_in outer text) (meaning_in around text)
      kept = λ i. inner_or (r.before_mean text i) (inner_or (r.behind_mean text i) (meaning_in around text))

      all_in_scope : is_parameter_of (s ∷ ss) (c ∷ cs) text ≡ true
          → is_undeclared (meaning_in (before ∷ behind ∷ around) text) ≡ false
      all_in_scope e =
          ap is_undeclared kept
          ∙ said_all (contains_name parameters text) (contains_name earlier text) (is_parameter_of ss cs text)
          (meaning_of here text) (meaning_in outer text) (meaning_in around text) there (a.all text) e

      right_in_scope : is_undeclared (meaning_in (before ∷ behind ∷ around) text) ≡ false
          → meaning_in (before ∷ behind ∷ around) text
          ≡ meaning_in (map (not_reached parameters earlier) here ∷ beyond) text
      right_in_scope d =
          kept
          ∙ said_right (contains_name parameters text) (contains_name earlier text) (meaning_of here text)
          (meaning_in outer text) (meaning_in beyond text) (meaning_in around text) there (a.right text)
          (sym (ap is_undeclared kept) ∙ d)
          ∙ ap (λ m. inner_or m (meaning_in beyond text)) (sym (meaning_reached parameters earlier here named.0 text))

  -- without a scope
  nothing_reached : (cs : List Contents) (text : List ℕ) → meaning_in (reached cs earlier []) text ≡ undeclared
  nothing_reached [] text = refl
  nothing_reached (c ∷ cs) text = refl

  nothing_around : (cs : List Contents) (text : List ℕ) → meaning_in (reached_around cs []) text ≡ undeclared
  nothing_around [] text = refl
  nothing_around (c ∷ cs) text = refl

  never : (b : Bool) → false ≡ true → b ≡ false
  never b e = cc

  in_none : (cs : List Contents) → AreReached before behind [] [] earlier
      → Says around (λ text. false) (reached_around cs [])
      → Says (before ∷ behind ∷ around) (λ text. false) (reached cs earlier [])
  in_none cs r a = record {
    named = (r.before_named, (r.behind_named, a.named));
    all = λ text e. never (is_undeclared (meaning_in (before ∷ behind ∷ around) text)) e;
    right = λ text d.
        let kept : meaning_in (before ∷ behind ∷ around) text ≡ meaning_in around text =
        λ i. inner_or (r.before_mean text i) (inner_or (r.behind_mean text i) (meaning_in around text)) in
        kept ∙ a.right text (sym (ap is_undeclared kept) ∙ d) ∙ nothing_around cs text ∙ sym (nothing_reached cs text);
  }

  in_scopes : (ss : List Scope) (cs : List Contents)
      → AreReached before behind (all_meanings ss cs) (innermost_parameters ss cs) earlier
      → AllNamed (all_meanings ss cs)
      → Says around (is_parameter_around ss cs) (reached_around cs (all_meanings ss cs))
      → Says (before ∷ behind ∷ around) (is_parameter_of ss cs) (reached cs earlier (all_meanings ss cs))
  in_scopes [] cs r named a = in_none cs r a
  in_scopes (s ∷ ss) [] r named a = in_none [] r a
  in_scopes (s ∷ ss) (c ∷ cs) r named a = record {
    named = (r.before_named, (r.behind_named, a.named));
    all = all_in_scope s ss c cs r named a;
    right = right_in_scope s ss c cs r named a;
  }

  pub handed_over : (at : Place) → AreReached before behind (meanings_at at) (parameters_at at) earlier
      → AllNamed (meanings_at at) → AreAround around at → AreBefore (before ∷ behind ∷ around) at earlier
  handed_over at r named a = in_scopes at.scopes at.contents r named a

-- ---- laid over what names mean

pub meaning_laid : (kept ns : List Names) (text : List ℕ)
    → meaning_in (kept ++ ns) text ≡ inner_or (meaning_in kept text) (meaning_in ns text)
meaning_laid [] ns text = refl
meaning_laid (k ∷ kept) ns text =
    ap (inner_or (meaning_of k text)) (meaning_laid kept ns text)
    ∙ inner_assoc (meaning_of k text) (meaning_in kept text) (meaning_in ns text)

pub all_named_laid : (kept ns : List Names) → AllNamed kept → AllNamed ns → AllNamed (kept ++ ns)
all_named_laid [] ns h k = k
all_named_laid (n ∷ kept) ns h k = (h.0, all_named_laid kept ns h.1 k)

module _ (at : Place) (earlier : List (List ℕ)) (kept names : List Names) (b : AreBefore kept at earlier)
    (h : Alike names (meanings_at at)) where
  not_said : (text : List ℕ) (q : Bool) → is_parameter_of at.scopes at.contents text ≡ q
      → is_undeclared (meaning_in kept text) ≡ true → is_parameter_of at.scopes at.contents text ≡ false
  not_said text false e d = e
  not_said text true e d = absurd (true≢false (sym d ∙ b.all text e))

  laid : (text : List ℕ) (u : Bool) → is_undeclared (meaning_in kept text) ≡ u
      → meaning_in (kept ++ names) text ≡ meaning_in (meanings_before at earlier) text
  laid text true d =
      meaning_laid kept names text
      ∙ ap (λ t. if t then meaning_in names text else meaning_in kept text) d ∙ h.meaning text
      ∙ sym (reached_else at.scopes at.contents earlier h.also_named text
      (not_said text (is_parameter_of at.scopes at.contents text) refl d))
  laid text false d =
      meaning_laid kept names text ∙ ap (λ t. if t then meaning_in names text else meaning_in kept text) d
      ∙ b.right text d

  pub laid_alike : Alike (kept ++ names) (meanings_before at earlier)
  laid_alike = record {
    named = all_named_laid kept names b.named h.named;
    also_named = all_named_reached at.contents earlier (meanings_at at) h.also_named;
    meaning = λ text. laid text (is_undeclared (meaning_in kept text)) refl;
  }

-- ---- a turn, and a module

module _ (at : Place) (kept : List Names) (b : AreBefore kept at at.earlier) (text : List ℕ) (c : Const) where
  abbrev variable : Names
  variable = (text, constant c true) ∷ []

  still_said : (t : Bool) (m : Meaning) → is_undeclared m ≡ false
      → is_undeclared (inner_or (if t then constant c true else undeclared) m) ≡ false
  still_said true m h = refl
  still_said false m h = h

  in_turn_right : (t : Bool) (m n : Meaning) → (is_undeclared m ≡ false → m ≡ n)
      → is_undeclared (inner_or (if t then constant c true else undeclared) m) ≡ false
      → inner_or (if t then constant c true else undeclared) m ≡ inner_or (if t then constant c true else undeclared) n
  in_turn_right true m n h d = refl
  in_turn_right false m n h d = h d

  pub turn_before : AreBefore (variable ∷ kept) (turn_place at text c) at.earlier
  turn_before = record {
    named = ((tt, tt), b.named);
    all = λ other e. still_said (bytes_eq other text) (meaning_in kept other) (b.all other e);
    right = λ other d.
        in_turn_right (bytes_eq other text) (meaning_in kept other)
        (meaning_in (meanings_before at at.earlier) other) (b.right other) d;
  }

nothing_said : {A : Type 0} → true ≡ false → A
nothing_said e = absurd (true≢false e)

pub none_around : (s : Scope) (c : Contents) (known : List Names)
    → Says [] (is_parameter_around (s ∷ []) (c ∷ [])) known
none_around s c known = record {
  named = tt;
  all = λ text e. nothing_said (sym e);
  right = λ text d. nothing_said d;
}
